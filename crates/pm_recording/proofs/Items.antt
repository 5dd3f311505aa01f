-- The items of what a recording logged are those of its results.
use Rattle.std.proofs.Common.{◌≡◌, List, [], ◌∷◌, ◌++◌, sym, ap, ◌∙◌, append_assoc}
use Rattle.std.proofs.lemmas.List.{append-nil}
use Rattle.pcp_base.specs.Time.{Moment}
use Rattle.pcp_base.specs.declared.result.Item.{Item}
use Rattle.pcp_base.specs.declared.result.Item.TheVariants.{Sample}
use Rattle.fetch_answers.specs.declared.fetch.Fetched.{Fetched}
use Rattle.logging_session.specs.Events.{Event, items_by, opening, with_report}
use Rattle.logging_session.proofs.Events.{items_more, opening_items}
use Rattle.run_archive.specs.Shown.{events_of, items_of_results, with_sure_results}
use Rattle.script_runs.specs.Archives.{report_of}

report_items : (events : List Event) (f : Fetched) → items_by (with_report events (report_of f)) ≡ items_by events ++ Sample f.result ∷ []
report_items events f = items_more (opening f.result.stamp events) (Event.logged (report_of f)) ∙ ap (λ (items : List Item). items ++ Sample f.result ∷ []) (opening_items f.result.stamp events)

-- a sync logs nothing
synced_items : (events : List Event) (f : Fetched) → items_by (with_report events (report_of f) ++ Event.synced ∷ []) ≡ items_by events ++ Sample f.result ∷ []
synced_items events f = items_more (with_report events (report_of f)) Event.synced ∙ append-nil (items_by (with_report events (report_of f))) ∙ report_items events f

items_with : (events : List Event) (results : List Fetched) → items_by (with_sure_results events results) ≡ items_by events ++ items_of_results results
items_with events [] = sym (append-nil (items_by events))
items_with events (f ∷ results) =
    items_with (with_report events (report_of f) ++ Event.synced ∷ []) results ∙ ap (λ (items : List Item). items ++ items_of_results results) (synced_items events f) ∙ append_assoc (items_by events) (Sample f.result ∷ []) (items_of_results results)

pub items_are : (results : List Fetched) → items_by (events_of results) ≡ items_of_results results
items_are results = items_with [] results

-- with nothing on its way
pub of_results : (results : List Fetched) (events : List Event) (more : List Item) → events ≡ events_of results → more ≡ [] → items_by events ++ more ≡ items_of_results results
of_results results events more are none = ap (λ (rest : List Item). items_by events ++ rest) none ∙ append-nil (items_by events) ∙ ap items_by are ∙ items_are results

-- also where the archive was opened for one that isn't logged
pub of_opened : (results : List Fetched) (stamp : Moment) (events : List Event) (more : List Item) → events ≡ opening stamp (events_of results) → more ≡ [] → items_by events ++ more ≡ items_of_results results
of_opened results stamp events more are none = ap (λ (rest : List Item). items_by events ++ rest) none ∙ append-nil (items_by events) ∙ ap items_by are ∙ opening_items stamp (events_of results) ∙ items_are results
