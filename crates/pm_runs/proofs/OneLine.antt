-- A line of a script goes on in one way, and is behind no line that ends the run.
use Rattle.std.proofs.Common.{◌≡◌, ℕ, zero, suc, ◌<◌, ◌≤◌, List, [], ◌∷◌, ◌++◌, append_assoc, append-nil, length, map, take, slice_get, Option, None, Some, refl, sym, ap, ap₂, ◌∙◌, subst, arith}
use Rattle.std.specs.Prelude.{codes, slice_index_or}
use Rattle.std.proofs.lemmas.Option.{none-some, same_Some}
use Rattle.pcp_base.specs.Time.{Moment}
use Rattle.pcp_base.specs.declared.result.Item.{Item}
use Rattle.log_schedule.specs.declared.config.Group.{Group}
use Rattle.log_schedule.specs.Instants.{EachPasses, Follows, Passes, Timetable}
use Rattle.logging_session.specs.Events.{Event, closing, flushed_behind, items_by, opening, with_report}
use Rattle.logging_session.proofs.OneReason.{one_moment}
use Rattle.run_script.specs.declared.script.Line.{Line}
use Rattle.run_script.specs.declared.script.Line.TheVariants as lines
use Rattle.run_script.specs.declared.script.Script.{Script}
use Rattle.script_runs.specs.Archives.{report_of}
use Rattle.script_runs.specs.Groups.{Plan}
use Rattle.script_runs.specs.Runs.{AsksTooMany, Goes, Shows, shown}
use Rattle.script_runs.specs.Steps.{Fails, GoesOn, PassGoes, PassesForEach, Regions, RunState, Ticks, asking_at, fetched_at, flushing, pass_step, pmids_at, with_shown}
use Rattle.text_lines.specs.Spelling.{one_number}

-- ---- a moment passes for groups in one way

same_list : {X : Type 0} (a b : List X) → length a ≡ length b → ((k : ℕ) (d : X) → k < length a → slice_index_or a k d ≡ slice_index_or b k d) → a ≡ b
same_list [] [] l f = refl
same_list [] (y ∷ b) l f = absurd (omega (arith, l))
same_list (x ∷ a) [] l f = absurd (omega (arith, l))
same_list (x ∷ a) (y ∷ b) l f = ap₂ (λ u v. u ∷ v) (f 0 x (omega arith)) (same_list a b (omega (arith, l)) (λ k d low. f (suc k) d (omega (arith, low))))

one_next : (t : Timetable) (now : Moment) (before : Option Moment) (a b : Option Moment) → Follows t now before a → Follows t now before b → a ≡ b
one_next t now None a b x y = x ∙ sym y
one_next t now (Some before) None None x y = refl
one_next t now (Some before) None (Some n) x y = absurd (x n y.comes)
one_next t now (Some before) (Some m) None x y = absurd (y m x.comes)
one_next t now (Some before) (Some m) (Some n) x y =
    ap (λ (k : Moment). Some k) (one_moment m n x.comes.instant.0 y.comes.instant.0 (omega (arith, x.least n y.comes, y.least m x.comes)))

abbrev timetable : Moment → Option ℕ → Option Moment → Timetable
timetable start interval next = record { start = start; interval = interval; next = next }

one_pass : (now : Moment) (old a b : Timetable) → Passes now old a → Passes now old b → a ≡ b
one_pass now old a b x y =
    ap (λ (s : Moment). timetable s a.interval a.next) (x.start ∙ sym y.start)
    ∙ ap (λ (i : Option ℕ). timetable b.start i a.next) (x.interval ∙ sym y.interval)
    ∙ ap (λ (n : Option Moment). timetable b.start b.interval n) (one_next old now old.next a.next b.next x.next y.next)

one_passing : (now : Moment) (old a b : List Timetable) → EachPasses now old a → EachPasses now old b → a ≡ b
one_passing now old a b x y =
    same_list a b (x.same_length ∙ sym y.same_length)
    (λ k d low. let there : k < length old = omega (arith, low, x.same_length) in one_pass now (slice_index_or old k d) (slice_index_or a k d) (slice_index_or b k d) (x.each k d there) (y.each k d there))

same_plan : (a b : Plan) → a.group ≡ b.group → a.timetable ≡ b.timetable → a.asked ≡ b.asked → a ≡ b
same_plan a b group table asked =
    ap (λ (g : Group). record a { group = g }) group ∙ ap (λ (t : Timetable). record a { group = b.group; timetable = t }) table ∙ ap (λ (l : List ℕ). record b { asked = l }) asked

same_plans : (a b : List Plan) → map (λ (plan : Plan). plan.group) a ≡ map (λ (plan : Plan). plan.group) b → map (λ (plan : Plan). plan.timetable) a ≡ map (λ (plan : Plan). plan.timetable) b
    → map (λ (plan : Plan). plan.asked) a ≡ map (λ (plan : Plan). plan.asked) b → a ≡ b
same_plans [] [] groups tables asked = refl
same_plans [] (q ∷ b) groups tables asked = absurd (omega (arith, ap length groups))
same_plans (p ∷ a) [] groups tables asked = absurd (omega (arith, ap length groups))
same_plans (p ∷ a) (q ∷ b) groups tables asked =
    ap₂ (λ u v. u ∷ v) (same_plan p q (let e : p.group ≡ q.group = cc in e) (let e : p.timetable ≡ q.timetable = cc in e) (let e : p.asked ≡ q.asked = cc in e))
    (same_plans a b (let e : map (λ (plan : Plan). plan.group) a ≡ map (λ (plan : Plan). plan.group) b = cc in e) (let e : map (λ (plan : Plan). plan.timetable) a ≡ map (λ (plan : Plan). plan.timetable) b = cc in e)
    (let e : map (λ (plan : Plan). plan.asked) a ≡ map (λ (plan : Plan). plan.asked) b = cc in e))

one_passed : (now : Moment) (old a b : List Plan) → PassesForEach now old a → PassesForEach now old b → a ≡ b
one_passed now old a b x y =
    same_plans a b (x.groups ∙ sym y.groups)
    (one_passing now (map (λ (plan : Plan). plan.timetable) old) (map (λ (plan : Plan). plan.timetable) a) (map (λ (plan : Plan). plan.timetable) b) x.timetables y.timetables) (x.asked ∙ sym y.asked)

-- ---- one line

-- the state behind a tick, with these groups
abbrev ticked : Script → RunState → Moment → List Plan → RunState
ticked script s now plans = record {
  regions = s.regions;
  plans = Some plans;
  events = with_shown s now (pmids_at script s now);
  output = s.output ++ one_number (codes "tick") (length (pmids_at script s now));
}

module _ (script : Script) (s : RunState) where
  one_ticks : (now : Moment) (t u : RunState) → Ticks script s now t → Ticks script s now u → t ≡ u
  one_ticks now t u x y = x.after ∙ ap (ticked script s now) (one_passed now (asking_at script s now) x.later y.later x.passed y.passed) ∙ sym y.after

  one_pass_goes : (line : Line) (t u : RunState) → PassGoes script s line t → PassGoes script s line u → t ≡ u
  one_pass_goes line t u x y =
      x.after ∙ ap (λ (found : Regions). record s { regions = found.0; output = s.output ++ found.1 }) (same_Some x.found y.found (sym x.is ∙ y.is)) ∙ sym y.after

  pass_apart : (line : Line) (t : RunState) → PassGoes script s line t → pass_step script s.regions line ≡ None → ⊥
  pass_apart line t x none = none-some x.found (sym none ∙ x.is)

  one_goes : (line : Line) (t u : RunState) → GoesOn script s line t → GoesOn script s line u → t ≡ u
  one_goes (lines.Tick now) t u x y = one_ticks now t u x y
  one_goes lines.Flush t u x y = x ∙ sym y
  one_goes (lines.Attach at k) t u x y = one_pass_goes (lines.Attach at k) t u x y
  one_goes (lines.Detach at k) t u x y = one_pass_goes (lines.Detach at k) t u x y
  one_goes (lines.Swap at k item instance value) t u x y = one_pass_goes (lines.Swap at k item instance value) t u x y
  one_goes (lines.Add at k item instance number) t u x y = one_pass_goes (lines.Add at k item instance number) t u x y
  one_goes (lines.Begin at k image moment) t u x y = one_pass_goes (lines.Begin at k image moment) t u x y
  one_goes (lines.Step at k) t u x y = one_pass_goes (lines.Step at k) t u x y
  one_goes (lines.Finish at k) t u x y = one_pass_goes (lines.Finish at k) t u x y
  one_goes (lines.Load at k) t u x y = one_pass_goes (lines.Load at k) t u x y
  one_goes (lines.Word at k index) t u x y = one_pass_goes (lines.Word at k index) t u x y
  one_goes (lines.Done at k) t u x y = one_pass_goes (lines.Done at k) t u x y

  -- a condition that fails
  pub goes_not_failing : (line : Line) (t : RunState) → GoesOn script s line t → Fails script s line → ⊥
  goes_not_failing (lines.Tick now) t x none = none-some (s.regions, []) (sym none)
  goes_not_failing lines.Flush t x none = none-some (s.regions, []) (sym none)
  goes_not_failing (lines.Attach at k) t x none = pass_apart (lines.Attach at k) t x none
  goes_not_failing (lines.Detach at k) t x none = pass_apart (lines.Detach at k) t x none
  goes_not_failing (lines.Swap at k item instance value) t x none = pass_apart (lines.Swap at k item instance value) t x none
  goes_not_failing (lines.Add at k item instance number) t x none = pass_apart (lines.Add at k item instance number) t x none
  goes_not_failing (lines.Begin at k image moment) t x none = pass_apart (lines.Begin at k image moment) t x none
  goes_not_failing (lines.Step at k) t x none = pass_apart (lines.Step at k) t x none
  goes_not_failing (lines.Finish at k) t x none = pass_apart (lines.Finish at k) t x none
  goes_not_failing (lines.Load at k) t x none = pass_apart (lines.Load at k) t x none
  goes_not_failing (lines.Word at k index) t x none = pass_apart (lines.Word at k index) t x none
  goes_not_failing (lines.Done at k) t x none = pass_apart (lines.Done at k) t x none

  -- a tick has none
  pub tick_fails_not : (line : Line) (now : Moment) → line ≡ lines.Tick now → Fails script s line → ⊥
  tick_fails_not line now is none = none-some (s.regions, []) (sym (subst (λ (l : Line). pass_step script s.regions l ≡ None) is none))

  -- a tick that asks for too many
  pub goes_not_asking : (line : Line) (number : ℕ) (t : RunState) → GoesOn script s line t → AsksTooMany script s line number → ⊥
  goes_not_asking line number t x asks =
      let ticks : Ticks script s asks.now t = subst (λ (l : Line). GoesOn script s l t) asks.is x in
      omega (arith, ticks.few, asks.many)

-- ---- events grow

abbrev pub Grows : List Event → List Event → Type 0
Grows a b = (rest : List Event) × (b ≡ a ++ rest)

pub grows_not : (a b : List Event) → b ≡ a → Grows a b
grows_not a b is = ([], is ∙ sym (append-nil a))

pub grows_on : (a b c : List Event) → Grows a b → Grows b c → Grows a c
grows_on a b c (x, is) (y, also) = (x ++ y, also ∙ ap (λ (l : List Event). l ++ y) is ∙ append_assoc a x y)

pub opening_grows : (stamp : Moment) (events : List Event) → Grows events (opening stamp events)
opening_grows stamp [] = (Event.opened stamp ∷ [], refl)
opening_grows stamp (e ∷ events) = grows_not (e ∷ events) (e ∷ events) refl

flushed_grows : (items : List Item) (events : List Event) → Grows events (flushed_behind items events)
flushed_grows [] events = grows_not events events refl
flushed_grows (x ∷ items) events = (Event.flushed ∷ [], refl)

pub closing_grows : (events : List Event) → Grows events (closing events)
closing_grows events = flushed_grows (items_by events) events

module _ (s : RunState) where
  shown_grows : (now : Moment) (pmids : List ℕ) → Grows s.events (with_shown s now pmids)
  shown_grows now [] = grows_not s.events s.events refl
  shown_grows now (p ∷ ps) =
      let r = report_of (fetched_at s (p ∷ ps) now) in
      grows_on s.events (opening r.result.stamp s.events) (with_report s.events r) (opening_grows r.result.stamp s.events) (Event.logged r ∷ [], refl)

  flushing_grows : (items : List Item) → Grows s.events (flushing items s).events
  flushing_grows [] = grows_not s.events s.events refl
  flushing_grows (x ∷ items) = (Event.flushed ∷ [], refl)

  -- a tick that asks for some metrics logs what they show
  some_shown : (now : Moment) (pmids : List ℕ) → 0 < length pmids → with_shown s now pmids ≡ with_report s.events (report_of (fetched_at s pmids now))
  some_shown now [] some = absurd (omega (arith, some))
  some_shown now (p ∷ ps) some = refl

module _ (script : Script) (s : RunState) where
  tick_grows : (now : Moment) (t : RunState) → Ticks script s now t → Grows s.events t.events
  tick_grows now t x = subst (Grows s.events) (sym (ap (λ (r : RunState). r.events) x.after)) (shown_grows s now (pmids_at script s now))

  pass_grows : (line : Line) (t : RunState) → PassGoes script s line t → Grows s.events t.events
  pass_grows line t x = grows_not s.events t.events (ap (λ (r : RunState). r.events) x.after)

  line_grows : (line : Line) (t : RunState) → GoesOn script s line t → Grows s.events t.events
  line_grows (lines.Tick now) t x = tick_grows now t x
  line_grows lines.Flush t x = subst (Grows s.events) (sym (ap (λ (r : RunState). r.events) x)) (flushing_grows s (items_by s.events))
  line_grows (lines.Attach at k) t x = pass_grows (lines.Attach at k) t x
  line_grows (lines.Detach at k) t x = pass_grows (lines.Detach at k) t x
  line_grows (lines.Swap at k item instance value) t x = pass_grows (lines.Swap at k item instance value) t x
  line_grows (lines.Add at k item instance number) t x = pass_grows (lines.Add at k item instance number) t x
  line_grows (lines.Begin at k image moment) t x = pass_grows (lines.Begin at k image moment) t x
  line_grows (lines.Step at k) t x = pass_grows (lines.Step at k) t x
  line_grows (lines.Finish at k) t x = pass_grows (lines.Finish at k) t x
  line_grows (lines.Load at k) t x = pass_grows (lines.Load at k) t x
  line_grows (lines.Word at k index) t x = pass_grows (lines.Word at k index) t x
  line_grows (lines.Done at k) t x = pass_grows (lines.Done at k) t x

  -- where a tick shows something and goes on, it has logged that
  pub shows_on : (line : Line) (t : RunState) (x : Shows script s line) → GoesOn script s line t → t.events ≡ with_report s.events (report_of (shown x))
  shows_on line t x goes =
      let ticks : Ticks script s x.now t = subst (λ (l : Line). GoesOn script s l t) x.is goes in
      ap (λ (r : RunState). r.events) ticks.after ∙ some_shown s x.now (pmids_at script s x.now) x.some

-- ---- all lines

module _ (script : Script) where
  pub one_state : (steps : List (ℕ × Line)) (s t u : RunState) → Goes script steps s t → Goes script steps s u → t ≡ u
  one_state [] s t u x y = x ∙ sym y
  one_state (step ∷ steps) s t u (n, goes, x) (m, also, y) =
      one_state steps n t u x (subst (λ (r : RunState). Goes script steps r u) (sym (one_goes script s step.1 n m goes also)) y)

  pub lines_grow : (steps : List (ℕ × Line)) (s t : RunState) → Goes script steps s t → Grows s.events t.events
  lines_grow [] s t x = grows_not s.events t.events (ap (λ (r : RunState). r.events) x)
  lines_grow (step ∷ steps) s t (n, goes, x) = grows_on s.events n.events t.events (line_grows script s step.1 n goes) (lines_grow steps n t x)

  -- Behind the state behind some lines others were run.
  pub record WentPast (steps : List (ℕ × Line)) (count : ℕ) (s t : RunState) : Type 0 where
    pub number : ℕ
    pub line : Line
    pub is : slice_get steps count ≡ Some (number, line)
    pub next : RunState
    pub goes : GoesOn script s line next
    pub rest : List (ℕ × Line)
    pub on : Goes script rest next t

  pub went_past : (steps : List (ℕ × Line)) (m n : ℕ) (s t u : RunState) → m < n → n ≤ length steps → Goes script (take m steps) s t → Goes script (take n steps) s u → WentPast steps m t u
  went_past [] m n s t u low within x y = absurd (omega (arith, low, within))
  went_past (step ∷ steps) m zero s t u low within x y = absurd (omega (arith, low))
  went_past (step ∷ steps) zero (suc n) s t u low within x (k, goes, y) = record {
    number = step.0;
    line = step.1;
    is = refl;
    next = k;
    goes = subst (λ (r : RunState). GoesOn script r step.1 k) (sym x) goes;
    rest = take n steps;
    on = y;
  }
  went_past (step ∷ steps) (suc m) (suc n) s t u low within (k, goes, x) (j, also, y) =
      let past = went_past steps m n k t u (omega (arith, low)) (omega (arith, within)) x (subst (λ (r : RunState). Goes script (take n steps) r u) (sym (one_goes script s step.1 k j goes also)) y) in record {
        number = past.number;
        line = past.line;
        is = past.is;
        next = past.next;
        goes = past.goes;
        rest = past.rest;
        on = past.on;
      }
