-- Lines that are run one after another, and the results that they log.
use Rattle.std.proofs.Common.{◌≡◌, ℕ, ◌+◌, ◌<◌, ◌≤◌, List, [], ◌∷◌, ◌++◌, length, length-append, append-nil, take, slice_get, Some, refl, sym, ap, ◌∙◌, subst, arith}
use Rattle.std.proofs.Math.Numerals.{add-one}
use Rattle.std.proofs.Math.Seq.{take-suc}
use Rattle.std.proofs.lemmas.List.{length-take-le}
use Rattle.std.proofs.lemmas.Option.{slice_get_within, get_or_from_slice_get}
use Rattle.pcp_base.specs.Time.{Moment}
use Rattle.pcp_base.specs.declared.result.Item.{Item}
use Rattle.pcp_base.specs.declared.result.Item.TheVariants.{Sample}
use Rattle.logging_session.specs.Events.{Event, items_by, opening, with_report}
use Rattle.logging_session.specs.Written.{Report}
use Rattle.logging_session.proofs.Events.{items_more, opening_items}
use Rattle.run_script.specs.declared.script.Line.{Line}
use Rattle.run_script.specs.declared.script.Line.TheVariants as lines
use Rattle.run_script.specs.declared.script.Script.{Script}
use Rattle.script_runs.specs.Archives.{report_of}
use Rattle.script_runs.specs.Runs.{Goes, RanFirst, run_start}
use Rattle.script_runs.specs.Steps.{GoesOn, PassGoes, RunState, Ticks, fetched_at, flushing, pmids_at, with_shown}

-- ---- lines

pub goes_append : (script : Script) (steps more : List (ℕ × Line)) (s t u : RunState) → Goes script steps s t → Goes script more t u → Goes script (steps ++ more) s u
goes_append script [] more s t u is goes = subst (λ (x : RunState). Goes script more x u) is goes
goes_append script (step ∷ steps) more s t u first goes = (first.0, first.1, goes_append script steps more first.0 t u first.2 goes)

-- before the first line
pub ran_none : (script : Script) → RanFirst script 0 (run_start script)
ran_none script = record { within = omega arith; goes = refl }

-- the line behind the first ones
next_taken : (steps : List (ℕ × Line)) (count : ℕ) (step : ℕ × Line) → slice_get steps count ≡ Some step → take (count + 1) steps ≡ take count steps ++ step ∷ []
next_taken steps count step is =
    ap (λ (n : ℕ). take n steps) (add-one count)
    ∙ (take-suc steps count step (slice_get_within steps count step is)
    ∙ ap (λ (x : ℕ × Line). take count steps ++ x ∷ []) (get_or_from_slice_get steps count step step is))

pub goes_next : (script : Script) (count : ℕ) (step : ℕ × Line) (s t : RunState) → RanFirst script count s → slice_get script.steps count ≡ Some step → GoesOn script s step.1 t → RanFirst script (count + 1) t
goes_next script count step s t ran is goes =
    let there : count < length script.steps = slice_get_within script.steps count step is in
    record {
      within = omega (arith, there);
      goes = subst (λ (steps : List (ℕ × Line)). Goes script steps (run_start script) t) (sym (next_taken script.steps count step is))
          (goes_append script (take count script.steps) (step ∷ []) (run_start script) s t ran.goes (t, goes, refl));
    }

-- ---- results

pub with_report_items : (events : List Event) (r : Report) → items_by (with_report events r) ≡ items_by events ++ Sample r.result ∷ []
with_report_items events r =
    items_more (opening r.result.stamp events) (Event.logged r)
    ∙ ap (λ (items : List Item). items ++ Sample r.result ∷ []) (opening_items r.result.stamp events)

-- a tick logs one where it asks for metrics
shown_few : (s : RunState) (now : Moment) (pmids : List ℕ) → length (items_by (with_shown s now pmids)) ≤ length (items_by s.events) + 1
shown_few s now [] = omega arith
shown_few s now (pmid ∷ pmids) =
    let r : Report = report_of (fetched_at s (pmid ∷ pmids) now) in
    let is : items_by (with_report s.events r) ≡ items_by s.events ++ Sample r.result ∷ [] = with_report_items s.events r in
    let long : length (items_by (with_report s.events r)) ≡ length (items_by s.events) + 1 = ap length is ∙ length-append (items_by s.events) (Sample r.result ∷ []) in
    omega (arith, long)

-- a flush logs none
pub flushing_items : (items : List Item) (s : RunState) → items_by (flushing items s).events ≡ items_by s.events
flushing_items [] s = refl
flushing_items (x ∷ items) s = items_more s.events Event.flushed ∙ append-nil (items_by s.events)

-- nor does a pass
pub pass_events : (script : Script) (s : RunState) (line : Line) (t : RunState) → PassGoes script s line t → t.events ≡ s.events
pass_events script s line t goes = ap (λ (x : RunState). x.events) goes.after

pass_few : (script : Script) (s : RunState) (line : Line) (t : RunState) → PassGoes script s line t → length (items_by t.events) ≤ length (items_by s.events) + 1
pass_few script s line t goes =
    let same : length (items_by t.events) ≡ length (items_by s.events) = ap (λ (events : List Event). length (items_by events)) (pass_events script s line t goes) in
    omega (arith, same)

tick_few : (script : Script) (s : RunState) (now : Moment) (t : RunState) → Ticks script s now t → length (items_by t.events) ≤ length (items_by s.events) + 1
tick_few script s now t ticks =
    let few = shown_few s now (pmids_at script s now) in
    let same : length (items_by t.events) ≡ length (items_by (with_shown s now (pmids_at script s now))) = ap (λ (x : RunState). length (items_by x.events)) ticks.after in
    omega (arith, few, same)

flush_few : (s t : RunState) → t ≡ flushing (items_by s.events) s → length (items_by t.events) ≤ length (items_by s.events) + 1
flush_few s t is =
    let same : length (items_by t.events) ≡ length (items_by s.events) = ap (λ (x : RunState). length (items_by x.events)) is ∙ ap length (flushing_items (items_by s.events) s) in
    omega (arith, same)

-- a line logs one at most
pub line_few : (script : Script) (s : RunState) (line : Line) (t : RunState) → GoesOn script s line t → length (items_by t.events) ≤ length (items_by s.events) + 1
line_few script s (lines.Tick now) t goes = tick_few script s now t goes
line_few script s lines.Flush t goes = flush_few s t goes
line_few script s (lines.Attach at k) t goes = pass_few script s (lines.Attach at k) t goes
line_few script s (lines.Detach at k) t goes = pass_few script s (lines.Detach at k) t goes
line_few script s (lines.Swap at k item instance value) t goes = pass_few script s (lines.Swap at k item instance value) t goes
line_few script s (lines.Add at k item instance number) t goes = pass_few script s (lines.Add at k item instance number) t goes
line_few script s (lines.Begin at k image moment) t goes = pass_few script s (lines.Begin at k image moment) t goes
line_few script s (lines.Step at k) t goes = pass_few script s (lines.Step at k) t goes
line_few script s (lines.Finish at k) t goes = pass_few script s (lines.Finish at k) t goes
line_few script s (lines.Load at k) t goes = pass_few script s (lines.Load at k) t goes
line_few script s (lines.Word at k index) t goes = pass_few script s (lines.Word at k index) t goes
line_few script s (lines.Done at k) t goes = pass_few script s (lines.Done at k) t goes

goes_few : (script : Script) (steps : List (ℕ × Line)) (s t : RunState) → Goes script steps s t → length (items_by t.events) ≤ length (items_by s.events) + length steps
goes_few script [] s t is =
    let same : length (items_by t.events) ≡ length (items_by s.events) = ap (λ (x : RunState). length (items_by x.events)) is in
    omega (arith, same)
goes_few script (step ∷ steps) s t goes =
    let first = line_few script s step.1 goes.0 goes.1 in
    let more = goes_few script steps goes.0 t goes.2 in
    omega (arith, first, more)

-- so of so many lines there are at most so many
pub items_few : (script : Script) (count : ℕ) (s : RunState) → RanFirst script count s → length (items_by s.events) ≤ count
items_few script count s ran =
    let few = goes_few script (take count script.steps) (run_start script) s ran.goes in
    let long : length (take count script.steps) ≡ count = length-take-le count script.steps ran.within in
    omega (arith, few, long)
