-- Lines that go on from some regions: the condition of none fails, and at each tick names lead to few numbers.
use Rattle.std.specs.List.{AllByRecursion as Each}
use Rattle.std.proofs.Common.{◌≡◌, ℕ, zero, suc, ◌+◌, ◌<◌, ◌≤◌, true, false, List, [], ◌∷◌, ◌++◌, length, take, slice_get, Option, Some, None, sym, ap, ◌∙◌, subst, arith, ⊎_elim, true≢false}
use Rattle.pcp_base.specs.Time.{Moment}
use Rattle.pcp_base.specs.declared.result.Item.{Item}
use Rattle.fetch_answers.specs.Names.{names_of}
use Rattle.logging_session.specs.Events.{items_by}
use Rattle.run_script.specs.declared.script.Line.{Line}
use Rattle.run_script.specs.declared.script.Line.TheVariants as lines
use Rattle.run_script.specs.declared.script.Script.{Script}
use Rattle.run_script.specs.Generated.{with_line_numbers}
use Rattle.run_script.proofs.Numbered.{as_many}
use Rattle.script_runs.specs.declared.ending.Ending.TheVariants as ends
use Rattle.script_runs.specs.declared.ending.LimitKind.TheVariants as kinds
use Rattle.script_runs.specs.Regions.{ScriptRegion}
use Rattle.script_runs.specs.Groups.{Plan, shots_of}
use Rattle.script_runs.specs.Steps.{Regions, RunState, GoesOn, Fails, PassGoes, Ticks, asking_at, flushing, names_in, pass_step, plans_at, pmids_at}
use Rattle.script_runs.specs.Runs.{AsksTooMany, EndsLine, Goes, Halts, Next, RanAll, RanFirst, are_idle, line_behind, run_start}
use Rattle.made_runs.proofs.Asked.{AreKnown, HaveAsked, Numbers, all_asking, few_asked, none_asked}

-- no pass is at work
abbrev pub AreIdle : List ScriptRegion → Type 0
AreIdle regions = are_idle regions ≡ true

-- the regions behind a step meet a condition, and it goes on
abbrev pub After : Option Regions → (List ScriptRegion → Type 0) → Type 0
After None P = ⊥
After (Some found) P = P found.0

-- what a tick finds
abbrev pub Served : List ScriptRegion → Line → Type 0
Served regions (lines.Tick now) = AreKnown (names_of (shots_of regions))
Served regions line = Unit {0}

-- each line goes on, ticks find few metrics, and behind the last a condition is met
abbrev pub Safe : Script → List Line → (List ScriptRegion → Type 0) → List ScriptRegion → Type 0
Safe script [] Q regions = Q regions
Safe script (line ∷ more) Q regions = Served regions line × After (pass_step script regions line) (Safe script more Q)

-- a weaker condition is met too
pub after_weaken : (found : Option Regions) (P Q : List ScriptRegion → Type 0) → ((rs : List ScriptRegion) → P rs → Q rs) → After found P → After found Q
after_weaken None P Q f h = h
after_weaken (Some found) P Q f h = f found.0 h

pub safe_weaken : (script : Script) (made : List Line) (P Q : List ScriptRegion → Type 0) → ((rs : List ScriptRegion) → P rs → Q rs) → (rs : List ScriptRegion) → Safe script made P rs → Safe script made Q rs
safe_weaken script [] P Q f rs h = f rs h
safe_weaken script (line ∷ more) P Q f rs h = (h.0, after_weaken (pass_step script rs line) (Safe script more P) (Safe script more Q) (safe_weaken script more P Q f) h.1)

-- lines behind lines
pub safe_append : (script : Script) (made more : List Line) (Q : List ScriptRegion → Type 0) (rs : List ScriptRegion) → Safe script made (Safe script more Q) rs → Safe script (made ++ more) Q rs
safe_append script [] more Q rs h = h
safe_append script (line ∷ made) more Q rs h =
    (h.0, after_weaken (pass_step script rs line) (Safe script made (Safe script more Q)) (Safe script (made ++ more) Q) (safe_append script made more Q) h.1)

-- States

-- what groups have asked for is of few metrics
abbrev pub PlansAsked : Option (List Plan) → Type 0
PlansAsked None = Unit {0}
PlansAsked (Some plans) = HaveAsked plans

-- lines go on from a state
abbrev pub GoFrom : Script → List Line → (List ScriptRegion → Type 0) → RunState → Type 0
GoFrom script made Q s = Safe script made Q s.regions × PlansAsked s.plans

-- before a tick, and at it
asked_before : (script : Script) (plans : Option (List Plan)) (now : Moment) → PlansAsked plans → HaveAsked (plans_at script.config.groups plans now)
asked_before script None now h = none_asked script.config.groups now
asked_before script (Some plans) now h = h

asked_now : (script : Script) (s : RunState) (now : Moment) → AreKnown (names_in s) → PlansAsked s.plans → HaveAsked (asking_at script s now)
asked_now script s now known h = all_asking (names_in s) now (plans_at script.config.groups s.plans now) known (asked_before script s.plans now h)

-- the step of a line has that line
line_is : (a b : Line) (n m : ℕ) → ◌≡◌ {A = Option (ℕ × Line)} (Some (n, a)) (Some (m, b)) → a ≡ b
line_is a b n m e = ap line_of e
  where
    line_of : Option (ℕ × Line) → Line
    line_of None = a
    line_of (Some step) = step.1

module _ (script : Script) (Q : List ScriptRegion → Type 0) where
  pass_goes : (line : Line) (more : List Line) (s t : RunState) → After (pass_step script s.regions line) (Safe script more Q) → PlansAsked s.plans → PassGoes script s line t → GoFrom script more Q t
  pass_goes line more s t safe asked goes =
      subst (GoFrom script more Q) (sym goes.after) (subst (λ (found : Option Regions). After found (Safe script more Q)) goes.is safe, asked)

  -- a flush leaves regions and groups
  flush_goes : (more : List Line) (s : RunState) (items : List Item) → GoFrom script more Q s → GoFrom script more Q (flushing items s)
  flush_goes more s [] h = h
  flush_goes more s (item ∷ items) h = h

  -- a tick leaves regions, and asks for few metrics
  tick_goes : (now : Moment) (more : List Line) (s t : RunState) → GoFrom script (lines.Tick now ∷ more) Q s → Ticks script s now t → GoFrom script more Q t
  tick_goes now more s t h ticks =
      subst (GoFrom script more Q) (sym ticks.after) (h.0.1, subst (Each Numbers) (sym ticks.passed.asked) (asked_now script s now h.0.0 h.1))

  -- a line that is run
  goes_on : (line : Line) (more : List Line) (s t : RunState) → GoFrom script (line ∷ more) Q s → GoesOn script s line t → GoFrom script more Q t
  goes_on (lines.Attach r k) more s t h goes = pass_goes (lines.Attach r k) more s t h.0.1 h.1 goes
  goes_on (lines.Detach r k) more s t h goes = pass_goes (lines.Detach r k) more s t h.0.1 h.1 goes
  goes_on (lines.Swap r k item instance value) more s t h goes = pass_goes (lines.Swap r k item instance value) more s t h.0.1 h.1 goes
  goes_on (lines.Add r k item instance number) more s t h goes = pass_goes (lines.Add r k item instance number) more s t h.0.1 h.1 goes
  goes_on (lines.Begin r k image moment) more s t h goes = pass_goes (lines.Begin r k image moment) more s t h.0.1 h.1 goes
  goes_on (lines.Step r k) more s t h goes = pass_goes (lines.Step r k) more s t h.0.1 h.1 goes
  goes_on (lines.Finish r k) more s t h goes = pass_goes (lines.Finish r k) more s t h.0.1 h.1 goes
  goes_on (lines.Load r k) more s t h goes = pass_goes (lines.Load r k) more s t h.0.1 h.1 goes
  goes_on (lines.Word r k index) more s t h goes = pass_goes (lines.Word r k index) more s t h.0.1 h.1 goes
  goes_on (lines.Done r k) more s t h goes = pass_goes (lines.Done r k) more s t h.0.1 h.1 goes
  goes_on (lines.Tick now) more s t h goes = tick_goes now more s t h goes
  goes_on lines.Flush more s t h goes = subst (GoFrom script more Q) (sym goes) (flush_goes more s (items_by s.events) (h.0.1, h.1))

  -- the next line goes on too, or the last was run
  record Goes_ahead (made : List Line) (from count : ℕ) (t : RunState) : Type 0 where
    next : (number : ℕ) (line : Line) → slice_get (with_line_numbers from made) count ≡ Some (number, line) → (more : List Line) × GoFrom script (line ∷ more) Q t
    last : length made ≤ count → Q t.regions

  -- so it is behind any first lines
  ahead : (made : List Line) (from count : ℕ) (s t : RunState) → GoFrom script made Q s → Goes script (take count (with_line_numbers from made)) s t → Goes_ahead made from count t
  unfolding with_line_numbers
  ahead [] from zero s t h goes = record { next = λ number line is. absurd (cc); last = λ all. subst (λ (u : RunState). Q u.regions) (sym goes) h.0 }
  ahead [] from (suc count) s t h goes = record { next = λ number line is. absurd (cc); last = λ all. subst (λ (u : RunState). Q u.regions) (sym goes) h.0 }
  ahead (line ∷ made) from zero s t h goes = record {
    next = λ number found is. (made, subst (λ (l : Line). GoFrom script (l ∷ made) Q t) (line_is line found from number is) (subst (GoFrom script (line ∷ made) Q) (sym goes) h));
    last = λ all. absurd (omega arith);
  }
  ahead (line ∷ made) from (suc count) s t h goes =
      let rest : Goes_ahead made (from + 1) count t = ahead made (from + 1) count goes.0 t (goes_on line made s goes.0 h goes.1) goes.2 in record {
        next = rest.next;
        last = λ all. rest.last (omega arith);
      }

-- The end

module _ (script : Script) (made : List Line) (from : ℕ) (is : script.steps ≡ with_line_numbers from made) (safe : Safe script made AreIdle (run_start script).regions) where
  -- behind the first lines of a script whose lines are safe
  there : (count : ℕ) (s : RunState) → RanFirst script count s → Goes_ahead script AreIdle made from count s
  there count s ran = ahead script AreIdle made from count (run_start script) s (safe, tt) (subst (λ (steps : List (ℕ × Line)). Goes script (take count steps) (run_start script) s) is ran.goes)

  next_goes : (count : ℕ) (s : RunState) → RanFirst script count s → (number : ℕ) (line : Line) → slice_get script.steps count ≡ Some (number, line) → (more : List Line) × GoFrom script (line ∷ more) AreIdle s
  next_goes count s ran number line at = let g : Goes_ahead script AreIdle made from count s = there count s ran in g.next number line (subst (λ (steps : List (ℕ × Line)). slice_get steps count ≡ Some (number, line)) is at)

  -- no condition fails
  no_failure : (count : ℕ) (s : RunState) → RanFirst script count s → (number : ℕ) (line : Line) → slice_get script.steps count ≡ Some (number, line) → Fails script s line → ⊥
  no_failure count s ran number line at fails =
      let next = next_goes count s ran number line at in
      subst (λ (found : Option Regions). After found (Safe script next.0 AreIdle)) fails next.1.0.1

  -- no pass is left at work
  all_idle : (count : ℕ) (s : RunState) → RanFirst script count s → RanAll script count s false → ⊥
  all_idle count s ran all =
      let g : Goes_ahead script AreIdle made from count s = there count s ran in
      let long : length script.steps ≡ length made = ap length is ∙ as_many from made in
      let count_is : count ≡ length script.steps = all.all in
      let idle : are_idle s.regions ≡ true = g.last (omega arith) in
      absurd (true≢false (sym idle ∙ all.idle_is))

  -- no tick asks for too many metrics
  few_metrics : (count : ℕ) (s : RunState) → RanFirst script count s → (number : ℕ) (line : Line) (n : ℕ) → slice_get script.steps count ≡ Some (number, line) → AsksTooMany script s line n → ⊥
  few_metrics count s ran number line n at asks =
      let next = next_goes count s ran number line at in
      let tick : GoFrom script (lines.Tick asks.now ∷ next.0) AreIdle s = subst (λ (l : Line). GoFrom script (l ∷ next.0) AreIdle s) asks.is next.1 in
      let few : length (pmids_at script s asks.now) ≤ 42 = few_asked asks.now (asking_at script s asks.now) (asked_now script s asks.now tick.0.0 tick.1) in
      let many : 1024 < length (pmids_at script s asks.now) = asks.many in
      absurd (omega arith)

  -- so no run of it ends for one of these
  pub ends_well : (count : ℕ) (s : RunState) → RanFirst script count s → ((at : ℕ) → Halts script count s (ends.Condition at) → ⊥) × ((n : ℕ) → Halts script count s (ends.Limit kinds.Sets n) → ⊥)
  ends_well count s ran = (
    λ at. ⊎_elim (λ (x : Next script count (λ number line. EndsLine script s number line (ends.Condition at))). no_failure count s ran x.0 x.1 x.2 x.3.1) (λ (y : RanAll script count s false × (at ≡ line_behind script.steps)). all_idle count s ran y.0),
    λ n x. few_metrics count s ran x.0 x.1 n x.2 x.3,
  )
