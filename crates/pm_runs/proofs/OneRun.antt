-- A script runs to one end of its own: each line goes on in one way, or ends the run for one reason.
use Rattle.std.proofs.Common.{◌≡◌, ◌≢◌, ◌⊎◌, inl, inr, ⊎_elim, ℕ, ◌<◌, ◌≤◌, Bool, List, [], ◌∷◌, ◌++◌, append_assoc, length, take, slice_get, Option, Some, refl, sym, ap, ◌∙◌, subst, arith}
use Rattle.std.specs.Prelude.{if◌then◌else◌}
use Rattle.std.proofs.lemmas.Bool.{cases_lt}
use Rattle.std.proofs.lemmas.Option.{same_Some, slice_get_within}
use Rattle.pcp_base.specs.Time.{Moment}
use Rattle.pcp_model.specs.Disk.{Files}
use Rattle.logging_session.specs.Course.{LeadsTo}
use Rattle.logging_session.specs.Events.{Event, closing, opening}
use Rattle.logging_session.proofs.OneReason.{recovered_once}
use Rattle.logging_run.proofs.OneArchive.{one_led}
use Rattle.run_script.specs.declared.script.Line.{Line}
use Rattle.run_script.specs.declared.script.Line.TheVariants.{Tick}
use Rattle.run_script.specs.declared.script.Script.{Script}
use Rattle.script_runs.specs.declared.ending.Ending.{Ending}
use Rattle.script_runs.specs.declared.ending.Ending.TheVariants as ends
use Rattle.script_runs.specs.declared.ending.LimitKind.TheVariants as kinds
use Rattle.script_runs.specs.Archives.{IsTurnedAway, report_of, run_label}
use Rattle.script_runs.specs.Closing.{closed_regions}
use Rattle.script_runs.specs.Regions.{ScriptRegion}
use Rattle.script_runs.specs.Runs.{AsksTooMany, Does, Goes, Halts, RanTo, RunDoes, RunsTo, Shows, TurnsAway, are_idle, line_behind, run_start, shown, with_end}
use Rattle.script_runs.specs.Steps.{Fails, GoesOn, RunState, fetched_at, pmids_at}
use Rattle.pm_runs.specs.Scripts.{IsOne, IsOwn}
use Rattle.pm_runs.proofs.OneArchive.{away_ends, one_away}
use Rattle.pm_runs.proofs.OneLine.{Grows, closing_grows, goes_not_asking, goes_not_failing, grows_not, grows_on, lines_grow, one_state, opening_grows, shows_on, tick_fails_not, went_past}

same_step : (m n : ℕ) (a b : Line) → ◌≡◌ {A = Option (ℕ × Line)} (Some (m, a)) (Some (n, b)) → (m ≡ n) × (a ≡ b)
same_step m n a b e = (ap (λ (step : ℕ × Line). step.0) (same_Some (m, a) (n, b) e), ap (λ (step : ℕ × Line). step.1) (same_Some (m, a) (n, b) e))

same_tick : (a b : Moment) → Tick a ≡ Tick b → a ≡ b
same_tick a b e = cc

module _ (script : Script) (limit : ℕ) (left : Files) where
  -- ---- why a run came to an end of its own

  -- the end of all lines
  abbrev end_of : List ScriptRegion → Ending
  end_of regions = if are_idle regions then ends.Done else ends.Condition (line_behind script.steps)

  record AtEnd (count : ℕ) (s : RunState) (ending : Ending) (events : List Event) : Type 0 where
    all : count ≡ length script.steps
    ending_is : ending ≡ end_of s.regions
    nothing : events ≡ s.events

  -- a condition fails, a tick asks for too many, or what it shows is turned away
  abbrev EndsBy : ℕ → Line → RunState → Ending → List Event → Type 0
  EndsBy number line s ending events =
      (Fails script s line × (ending ≡ ends.Condition number) × (events ≡ s.events))
      ⊎ (((many : ℕ) × AsksTooMany script s line many × (ending ≡ ends.Limit kinds.Sets many) × (events ≡ s.events)) ⊎ TurnsAway script limit left s line ending events [])

  record AtLine (count : ℕ) (s : RunState) (ending : Ending) (events : List Event) : Type 0 where
    number : ℕ
    line : Line
    is : slice_get script.steps count ≡ Some (number, line)
    by : EndsBy number line s ending events

  abbrev Why : ℕ → RunState → Ending → List Event → Type 0
  Why count s ending events = AtEnd count s ending events ⊎ AtLine count s ending events

  why : (ending : Ending) → IsOwn ending → (count : ℕ) (s : RunState) (lines : ℕ) (t : RunState) (events : List Event) → Halts script count s ending → Does script limit left count s lines t ending events [] → Why count s ending events
  why ends.Done own count s lines t events h d = inl (record {
    all = h.all;
    ending_is = sym (ap (λ (b : Bool). if b then ends.Done else ends.Condition (line_behind script.steps)) h.idle_is);
    nothing = d.0;
  })
  why (ends.Condition at) own count s lines t events (inl (number, line, is, fails)) d = inr (record { number = number; line = line; is = is; by = inl (fails.1, ap (λ (n : ℕ). ends.Condition n) fails.0, d.0) })
  why (ends.Condition at) own count s lines t events (inr (h, behind)) d = inl (record {
    all = h.all;
    ending_is = ap (λ (n : ℕ). ends.Condition n) behind ∙ sym (ap (λ (b : Bool). if b then ends.Done else ends.Condition (line_behind script.steps)) h.idle_is);
    nothing = d.0;
  })
  why (ends.Limit kinds.Sets many) own count s lines t events (number, line, is, asks) (at, other, there, nothing) = inr (record { number = number; line = line; is = is; by = inr (inl (many, asks, refl, nothing.0)) })
  why (ends.Limit kinds.Record bytes) own count s lines t events h (number, line, is, away) = inr (record { number = number; line = line; is = is; by = inr (inr away) })
  why (ends.Limit kinds.Meta bytes) own count s lines t events h (number, line, is, away) = inr (record { number = number; line = line; is = is; by = inr (inr away) })
  why (ends.Limit kinds.Index bytes) own count s lines t events h (number, line, is, away) = inr (record { number = number; line = line; is = is; by = inr (inr away) })
  why (ends.Limit kinds.Volume bytes) own count s lines t events h (number, line, is, away) = inr (record { number = number; line = line; is = is; by = inr (inr away) })
  why (ends.NotLater last) own count s lines t events h (number, line, is, away) = inr (record { number = number; line = line; is = is; by = inr (inr away) })
  why (ends.Changed pmid) own count s lines t events h (number, line, is, away) = inr (record { number = number; line = line; is = is; by = inr (inr away) })
  why ends.DiskFault own count s lines t events h d = absurd own
  why ends.NoMemory own count s lines t events h d = absurd own
  why (ends.NotArchive file at) own count s lines t events h d = absurd own
  why (ends.Compressed file) own count s lines t events h d = absurd own
  why (ends.ClockEnd samples) own count s lines t events h d = absurd own
  why (ends.ClockFault samples) own count s lines t events h d = absurd own

  -- its events are those of its lines, and perhaps one more
  by_grows : (number : ℕ) (line : Line) (s : RunState) (ending : Ending) (events : List Event) → EndsBy number line s ending events → Grows s.events events
  by_grows number line s ending events (inl x) = grows_not s.events events x.2
  by_grows number line s ending events (inr (inl x)) = grows_not s.events events x.3
  by_grows number line s ending events (inr (inr (x, away, is, none))) = subst (Grows s.events) (sym is) (opening_grows x.now s.events)

  why_grows : (count : ℕ) (s : RunState) (ending : Ending) (events : List Event) → Why count s ending events → Grows s.events events
  why_grows count s ending events (inl x) = grows_not s.events events x.nothing
  why_grows count s ending events (inr x) = by_grows x.number x.line s ending events x.by

  -- ---- no run goes past the end of another

  -- events that lead to files, behind those that the result would have been logged behind
  led_past : (s next : RunState) (line : Line) (ending : Ending) (x : Shows script s line) → IsTurnedAway limit left s.events (shown x) ending → GoesOn script s line next → (events : List Event) (files : Files) → Grows next.events events → LeadsTo run_label limit left events files → ⊥
  led_past s next line ending x away goes events files (rest, is) led =
      let r = report_of (shown x) in
      let behind : events ≡ opening r.result.stamp s.events ++ Event.logged r ∷ rest =
      is ∙ ap (λ (l : List Event). l ++ rest) (shows_on script s line next x goes) ∙ append_assoc (opening r.result.stamp s.events) (Event.logged r ∷ []) rest in
      away_ends limit left s.events (shown x) ending rest files away (subst (λ (l : List Event). LeadsTo run_label limit left l files) behind led)

  by_not_past : (number : ℕ) (line : Line) (s next : RunState) (ending : Ending) (events : List Event) → EndsBy number line s ending events → GoesOn script s line next → (all : List Event) (files : Files) → Grows next.events all → LeadsTo run_label limit left all files → ⊥
  by_not_past number line s next ending events (inl x) goes all files grows led = goes_not_failing script s line next goes x.0
  by_not_past number line s next ending events (inr (inl x)) goes all files grows led = goes_not_asking script s line x.0 next goes x.1
  by_not_past number line s next ending events (inr (inr x)) goes all files grows led = led_past s next line ending x.0 x.1 goes all files grows led

  not_past : (m n : ℕ) (s t : RunState) (a b : Ending) (d e : List Event) (files : Files) → m < n → n ≤ length script.steps → Goes script (take m script.steps) (run_start script) s → Goes script (take n script.steps) (run_start script) t
      → Why m s a d → Why n t b e → LeadsTo run_label limit left (closing e) files → ⊥
  not_past m n s t a b d e files low within x y (inl w) v led = omega (arith, low, within, w.all)
  not_past m n s t a b d e files low within x y (inr w) v led =
      let past = went_past script script.steps m n (run_start script) s t low within x y in
      let same : w.line ≡ past.line = (same_step w.number past.number w.line past.line (sym w.is ∙ past.is)).1 in
      let grows : Grows past.next.events (closing e) =
      grows_on past.next.events t.events (closing e) (lines_grow script past.rest past.next t past.on) (grows_on t.events e (closing e) (why_grows n t b e v) (closing_grows e)) in
      by_not_past w.number w.line s past.next a d w.by (subst (λ (l : Line). GoesOn script s l past.next) (sym same) past.goes) (closing e) files grows led

  -- ---- in one state it ends for one reason

  turned_once : (line : Line) (s : RunState) (a b : Ending) (d e : List Event) → TurnsAway script limit left s line a d [] → TurnsAway script limit left s line b e [] → (a ≡ b) × (d ≡ e)
  turned_once line s a b d e (x, away, is, none) (y, other, also, nothing) =
      let now : x.now ≡ y.now = same_tick x.now y.now (sym x.is ∙ y.is) in (
        one_away limit left s.events (shown x) a b away (subst (λ (t : Moment). IsTurnedAway limit left s.events (fetched_at s (pmids_at script s t) t) b) (sym now) other),
        is ∙ ap (λ (t : Moment). opening t s.events) now ∙ sym also,
      )

  asked_once : (line : Line) (s : RunState) (m n : ℕ) → AsksTooMany script s line m → AsksTooMany script s line n → m ≡ n
  asked_once line s m n x y = x.are ∙ ap (λ (t : Moment). length (pmids_at script s t)) (same_tick x.now y.now (sym x.is ∙ y.is)) ∙ sym y.are

  -- a tick asks for few or for too many
  asks_or_shows : (line : Line) (s : RunState) (m : ℕ) → AsksTooMany script s line m → Shows script s line → ⊥
  asks_or_shows line s m x y =
      let few : length (pmids_at script s x.now) ≤ 1024 = subst (λ (t : Moment). length (pmids_at script s t) ≤ 1024) (same_tick y.now x.now (sym y.is ∙ x.is)) y.few in
      omega (arith, few, x.many)

  by_once : (number : ℕ) (line : Line) (s : RunState) (a b : Ending) (d e : List Event) → EndsBy number line s a d → EndsBy number line s b e → (a ≡ b) × (d ≡ e)
  by_once number line s a b d e (inl x) (inl y) = (x.1 ∙ sym y.1, x.2 ∙ sym y.2)
  by_once number line s a b d e (inl x) (inr (inl y)) = absurd (tick_fails_not script s line y.1.now y.1.is x.0)
  by_once number line s a b d e (inl x) (inr (inr y)) = absurd (tick_fails_not script s line y.0.now y.0.is x.0)
  by_once number line s a b d e (inr (inl x)) (inl y) = absurd (tick_fails_not script s line x.1.now x.1.is y.0)
  by_once number line s a b d e (inr (inl x)) (inr (inl y)) = (x.2 ∙ ap (λ (n : ℕ). ends.Limit kinds.Sets n) (asked_once line s x.0 y.0 x.1 y.1) ∙ sym y.2, x.3 ∙ sym y.3)
  by_once number line s a b d e (inr (inl x)) (inr (inr y)) = absurd (asks_or_shows line s x.0 x.1 y.0)
  by_once number line s a b d e (inr (inr x)) (inl y) = absurd (tick_fails_not script s line x.0.now x.0.is y.0)
  by_once number line s a b d e (inr (inr x)) (inr (inl y)) = absurd (asks_or_shows line s y.0 y.1 x.0)
  by_once number line s a b d e (inr (inr x)) (inr (inr y)) = turned_once line s a b d e x y

  end_or_line : (count : ℕ) (s t : RunState) (a b : Ending) (d e : List Event) → AtEnd count s a d → AtLine count t b e → ⊥
  end_or_line count s t a b d e x y = omega (arith, x.all, slice_get_within script.steps count (y.number, y.line) y.is)

  why_once : (count : ℕ) (s : RunState) (a b : Ending) (d e : List Event) → Why count s a d → Why count s b e → (a ≡ b) × (d ≡ e)
  why_once count s a b d e (inl x) (inl y) = (x.ending_is ∙ sym y.ending_is, x.nothing ∙ sym y.nothing)
  why_once count s a b d e (inl x) (inr y) = absurd (end_or_line count s s a b d e x y)
  why_once count s a b d e (inr x) (inl y) = absurd (end_or_line count s s b a e d y x)
  why_once count s a b d e (inr x) (inr y) =
      let same = same_step y.number x.number y.line x.line (sym y.is ∙ x.is) in
      by_once x.number x.line s a b d e x.by (subst (λ (l : Line). EndsBy x.number l s b e) same.1 (subst (λ (n : ℕ). EndsBy n y.line s b e) same.0 y.by))

-- ---- whole runs

own_not_disk : (ending : Ending) → IsOwn ending → ending ≢ ends.DiskFault
own_not_disk ending own failed = subst IsOwn failed own

-- unless the disk failed the regions are closed behind the lines at which it ended
closed_at : {script : Script} (ending : Ending) → IsOwn ending → (output : List ℕ) (regions : List ScriptRegion) (x : RanTo script ending output regions) → regions ≡ closed_regions x.last.regions
closed_at ending own output regions x = x.closed ∙ ap (λ (t : RunState). closed_regions t.regions) (x.further.same (own_not_disk ending own)).1

module _ (script : Script) (limit : ℕ) (left : Files) (a b : Ending) (own : IsOwn a) (also : IsOwn b) (o p : List ℕ) (d e : List Event) (r s : List ScriptRegion) (f g : Files) (x : RanTo script a o r) (y : RanTo script b p s)
    (does : RunDoes limit left x d []) (other : RunDoes limit left y e []) (led : LeadsTo run_label limit left (closing d) f) (again : LeadsTo run_label limit left (closing e) g) where
  why_x : Why script limit left x.count x.last a d
  why_x = why script limit left a own x.count x.last x.further.lines x.further.state d x.halts does

  why_y : Why script limit left y.count y.last b e
  why_y = why script limit left b also y.count y.last y.further.lines y.further.state e y.halts other

  not_before : x.count < y.count → ⊥
  not_before low = not_past script limit left x.count y.count x.last y.last a b d e g low y.ran.within x.ran.goes y.ran.goes why_x why_y again

  not_behind : y.count < x.count → ⊥
  not_behind low = not_past script limit left y.count x.count y.last x.last b a e d f low x.ran.within y.ran.goes x.ran.goes why_y why_x led

  same_count : y.count ≡ x.count
  same_count = ⊎_elim (λ low. absurd (not_before low)) (λ up. ⊎_elim (λ low. absurd (not_behind low)) (λ down. omega (arith, up, down)) (cases_lt y.count x.count)) (cases_lt x.count y.count)

  same_last : y.last ≡ x.last
  same_last = one_state script (take x.count script.steps) (run_start script) y.last x.last (subst (λ (n : ℕ). Goes script (take n script.steps) (run_start script) y.last) same_count y.ran.goes) x.ran.goes

  same_why : (a ≡ b) × (d ≡ e)
  same_why =
      why_once script limit left x.count x.last a b d e why_x
      (subst (λ (t : RunState). Why script limit left x.count t b e) same_last (subst (λ (n : ℕ). Why script limit left n y.last b e) same_count why_y))

  one_over : IsOne a b o p d e r s f g
  one_over = record {
    ending = same_why.0;
    output = x.output_is ∙ ap (λ (c : Ending). with_end c x.last) same_why.0 ∙ ap (λ (t : RunState). with_end b t) (sym same_last) ∙ sym y.output_is;
    events = same_why.1;
    regions = closed_at a own o r x ∙ ap (λ (t : RunState). closed_regions t.regions) (sym same_last) ∙ sym (closed_at b also p s y);
    files = one_led run_label limit left (closing d) f g led (subst (λ (l : List Event). LeadsTo run_label limit left (closing l) g) (sym same_why.1) again);
  }

pub one_run : (script : Script) (limit : ℕ) (start : Files) (a b : Ending) → IsOwn a → IsOwn b → (o p : List ℕ) (d e : List Event) (r s : List ScriptRegion) (f g : Files) → RunsTo script limit start a o d r f → RunsTo script limit start b p e s g
    → IsOne a b o p d e r s f g
one_run script limit start a b own also o p d e r s f g x y =
    let same : y.left ≡ x.left = recovered_once start x.left y.left x.recovered.reading y.recovered.reading x.recovered.was y.recovered.was x.recovered.recovered y.recovered.recovered in
    one_over script limit x.left a b own also o p d e r s f g x.ran y.ran x.does (subst (λ (left : Files). RunDoes limit left y.ran e []) same y.does) x.files
    (subst (λ (left : Files). LeadsTo run_label limit left (closing e) g) same y.files)

pub one_ending : (script : Script) (limit : ℕ) (start : Files) (a b : Ending) → IsOwn a → IsOwn b → (o p : List ℕ) (d e : List Event) (r s : List ScriptRegion) (f g : Files) → RunsTo script limit start a o d r f → RunsTo script limit start b p e s g
    → a ≡ b
one_ending script limit start a b own also o p d e r s f g x y = (one_run script limit start a b own also o p d e r s f g x y).ending
