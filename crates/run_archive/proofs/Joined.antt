-- What is sampled and logged one behind another is sampled and logged so as a whole.
use Rattle.std.proofs.Common.{◌≡◌, List, [], ◌∷◌, ◌++◌, Option, None, Some, refl, sym, ap, ◌∙◌, subst}
use Rattle.region_rule.specs.Seats.{Token}
use Rattle.fetch_answers.specs.declared.fetch.Fetched.{Fetched}
use Rattle.fetch_engine.specs.declared.server.Mounted.{Mounted}
use Rattle.log_schedule.specs.declared.config.Group.{Group}
use Rattle.logging_session.specs.Events.{Event, with_report}
use Rattle.script_runs.specs.Archives.{report_of}
use Rattle.script_runs.specs.Groups.{Plan}
use Rattle.run_archive.specs.Samples.{AreTaken, SampleTaken}
use Rattle.run_archive.specs.Shown.{AreShown, shown_by, with_result, with_sure_results}

pub taken_joined : (server : List Mounted) (xs ys : List SampleTaken) (first middle last : List Token) → AreTaken server first xs middle → AreTaken server middle ys last → AreTaken server first (xs ++ ys) last
taken_joined server [] ys first middle last one two = subst (λ (t : List Token). AreTaken server t ys last) one two
taken_joined server (x ∷ xs) ys first middle last one two = (one.0, one.1, taken_joined server xs ys x.after middle last one.2 two)

with_front : (o : Option Fetched) (fs gs : List Fetched) → with_result o fs ++ gs ≡ with_result o (fs ++ gs)
with_front None fs gs = refl
with_front (Some f) fs gs = refl

pub shown_joined : (groups : List Group) (xs ys : List SampleTaken) (first middle last : Option (List Plan)) (fs gs : List Fetched) → AreShown groups first xs fs middle → AreShown groups middle ys gs last → AreShown groups first (xs ++ ys) (fs ++ gs) last
shown_joined groups [] ys first middle last fs gs one two =
    subst (λ (rs : List Fetched). AreShown groups first ys (rs ++ gs) last) (sym one.0) (subst (λ (p : Option (List Plan)). AreShown groups p ys gs last) one.1 two)
shown_joined groups (x ∷ xs) ys first middle last fs gs (next, rest, few, passed, are, later) two = (
  next,
  rest ++ gs,
  few,
  passed,
  ap (λ (rs : List Fetched). rs ++ gs) are ∙ with_front (shown_by groups first x) rest gs,
  shown_joined groups xs ys (Some next) middle last rest gs later two,
)

-- results behind results
pub results_joined : (events : List Event) (fs gs : List Fetched) → with_sure_results (with_sure_results events fs) gs ≡ with_sure_results events (fs ++ gs)
results_joined events [] gs = refl
results_joined events (f ∷ fs) gs = results_joined (with_report events (report_of f) ++ Event.synced ∷ []) fs gs
