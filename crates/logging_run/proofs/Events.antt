-- What is handed to a run, with one more behind it.
use Rattle.std.proofs.Common.{◌≡◌, ◌+◌, List, [], ◌∷◌, ◌++◌, map, length, refl, sym, ap, ◌∙◌, append-nil, append_assoc, length-append}
use Rattle.pcp_base.specs.declared.result.Item.{Item}
use Rattle.pcp_base.specs.declared.result.Item.TheVariants.{Sample}
use Rattle.logging_session.specs.Events.{Event, behind, closing, flushed_behind, items_by, opening, with_report}
use Rattle.logging_session.specs.Written.{Report}
use Rattle.logging_session.proofs.Events.{items_more, opening_items}
use Rattle.logging_run.specs.Handing.{AreSure, Handed, each_held, each_sure, events_behind, events_of, items_of_run, reports_of, with_handed}

-- ---- one more

behind_grow : (events : List Event) (handed : List Handed) (h : Handed) → events_behind events (handed ++ h ∷ []) ≡ with_handed (events_behind events handed) h
behind_grow events [] h = refl
behind_grow events (x ∷ handed) h = behind_grow (with_handed events x) handed h

pub grows : (handed : List Handed) (h : Handed) → events_of (handed ++ h ∷ []) ≡ with_handed (events_of handed) h
grows handed h = behind_grow [] handed h

pub reports_grow : (handed : List Handed) (h : Handed) → reports_of (handed ++ h ∷ []) ≡ reports_of handed ++ reports_of (h ∷ [])
reports_grow [] h = refl
reports_grow (Handed.sure r ∷ handed) h = ap (λ (rs : List Report). r ∷ rs) (reports_grow handed h)
reports_grow (Handed.held r ∷ handed) h = ap (λ (rs : List Report). r ∷ rs) (reports_grow handed h)
reports_grow (Handed.refused r ∷ handed) h = reports_grow handed h

pub many_grow : (handed : List Handed) (h : Handed) → length (reports_of (handed ++ h ∷ [])) ≡ length (reports_of handed) + length (reports_of (h ∷ []))
many_grow handed h = ap (λ (rs : List Report). length rs) (reports_grow handed h) ∙ length-append (reports_of handed) (reports_of (h ∷ []))

-- what is logged is there to be made sure
pub behind_report : (events : List Event) (r : Report) (e : Event) → behind (with_report events r) e ≡ with_report events r ++ e ∷ []
behind_report [] r e = refl
behind_report (x ∷ events) r e = refl

-- ---- items

abbrev items_for : List Report → List Item
items_for reports = map (λ (r : Report). Sample r.result) reports

report_items : (events : List Event) (r : Report) → items_by (with_report events r) ≡ items_by events ++ Sample r.result ∷ []
report_items events r = items_more (opening r.result.stamp events) (Event.logged r) ∙ ap (λ (items : List Item). items ++ Sample r.result ∷ []) (opening_items r.result.stamp events)

synced_items : (events : List Event) → items_by (events ++ Event.synced ∷ []) ≡ items_by events
synced_items events = items_more events Event.synced ∙ append-nil (items_by events)

handed_items : (events : List Event) (h : Handed) → items_by (with_handed events h) ≡ items_by events ++ items_for (reports_of (h ∷ []))
handed_items events (Handed.sure r) = synced_items (with_report events r) ∙ report_items events r
handed_items events (Handed.held r) = report_items events r
handed_items events (Handed.refused r) = opening_items r.result.stamp events ∙ sym (append-nil (items_by events))

one_then : (h : Handed) (handed : List Handed) → items_for (reports_of (h ∷ handed)) ≡ items_for (reports_of (h ∷ [])) ++ items_for (reports_of handed)
one_then (Handed.sure r) handed = refl
one_then (Handed.held r) handed = refl
one_then (Handed.refused r) handed = refl

behind_items : (events : List Event) (handed : List Handed) → items_by (events_behind events handed) ≡ items_by events ++ items_for (reports_of handed)
behind_items events [] = sym (append-nil (items_by events))
behind_items events (h ∷ handed) =
    behind_items (with_handed events h) handed
    ∙ ap (λ (items : List Item). items ++ items_for (reports_of handed)) (handed_items events h)
    ∙ append_assoc (items_by events) (items_for (reports_of (h ∷ []))) (items_for (reports_of handed))
    ∙ ap (λ (items : List Item). items_by events ++ items) (sym (one_then h handed))

pub run_items : (handed : List Handed) → items_of_run handed ≡ items_for (reports_of handed)
run_items handed = behind_items [] handed

-- ---- the end

flushed_items : (items : List Item) (events : List Event) → items_by (flushed_behind items events) ≡ items_by events
flushed_items [] events = refl
flushed_items (x ∷ items) events = items_more events Event.flushed ∙ append-nil (items_by events)

-- it logs nothing
pub closing_items : (events : List Event) → items_by (closing events) ≡ items_by events
closing_items events = flushed_items (items_by events) events

-- ---- lists that are handed in alike

pub sure_grows : (reports : List Report) (r : Report) → each_sure (reports ++ r ∷ []) ≡ each_sure reports ++ Handed.sure r ∷ []
sure_grows [] r = refl
sure_grows (x ∷ reports) r = ap (λ (handed : List Handed). Handed.sure x ∷ handed) (sure_grows reports r)

pub held_grows : (reports : List Report) (r : Report) → each_held (reports ++ r ∷ []) ≡ each_held reports ++ Handed.held r ∷ []
held_grows [] r = refl
held_grows (x ∷ reports) r = ap (λ (handed : List Handed). Handed.held x ∷ handed) (held_grows reports r)

pub sure_are : (reports : List Report) → AreSure (each_sure reports)
sure_are [] = tt
sure_are (r ∷ reports) = sure_are reports

pub sure_reports : (reports : List Report) → reports_of (each_sure reports) ≡ reports
sure_reports [] = refl
sure_reports (r ∷ reports) = ap (λ (rs : List Report). r ∷ rs) (sure_reports reports)

pub held_reports : (reports : List Report) → reports_of (each_held reports) ≡ reports
held_reports [] = refl
held_reports (r ∷ reports) = ap (λ (rs : List Report). r ∷ rs) (held_reports reports)
