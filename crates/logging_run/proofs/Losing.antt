-- A crash loses at most one of the results that a run has logged by then, whose results are each made sure.
use Rattle.std.proofs.Common.{◌≡◌, List, [], ◌∷◌, ◌++◌, length, map, refl, sym, ap, ◌∙◌, subst, arith}
use Rattle.pcp_base.specs.declared.result.Item.{Item}
use Rattle.pcp_base.specs.declared.result.Item.TheVariants.{Sample}
use Rattle.logging_session.specs.Crashes.{LosesAtMostOne}
use Rattle.logging_session.specs.Events.{Event, acknowledged_by, closing, items_by, opening, with_report}
use Rattle.logging_session.specs.Written.{Report}
use Rattle.logging_session.proofs.Losing.{AllSure, all_synced, loses_flushed, loses_none, loses_opening, loses_report, loses_synced, sure_opening}
use Rattle.logging_run.specs.Handing.{AreSure, Handed, events_behind, events_of, reports_of}
use Rattle.logging_run.proofs.Events.{grows, run_items}

loses_each : (events : List Event) (handed : List Handed) → AreSure handed → LosesAtMostOne events → AllSure events → LosesAtMostOne (events_behind events handed) × AllSure (events_behind events handed)
loses_each events [] are before sure = (before, sure)
loses_each events (Handed.sure r ∷ handed) are before sure =
    let reported : List Event = with_report events r in
    loses_each (reported ++ Event.synced ∷ []) handed are (loses_synced reported (loses_report events r before sure)) (all_synced reported)
loses_each events (Handed.held r ∷ handed) are before sure = absurd are
loses_each events (Handed.refused r ∷ handed) are before sure = loses_each (opening r.result.stamp events) handed are (loses_opening r.result.stamp events before) (sure_opening r.result.stamp events sure)

abbrev pub LosesOne : List Handed → Type 0
LosesOne handed = LosesAtMostOne (events_of handed) × LosesAtMostOne (closing (events_of handed)) × ((r : Report) → LosesAtMostOne (events_of (handed ++ Handed.held r ∷ [])))

pub loses_one : (handed : List Handed) → AreSure handed → LosesOne handed
loses_one handed are =
    let both : LosesAtMostOne (events_of handed) × AllSure (events_of handed) = loses_each [] handed are loses_none refl in
    (both.0, loses_flushed (items_by (events_of handed)) (events_of handed) both.0, λ r. subst LosesAtMostOne (sym (grows handed (Handed.held r))) (loses_report (events_of handed) r both.0 both.1))

many_for : (reports : List Report) → length (map (λ (r : Report). Sample r.result) reports) ≡ length reports
many_for [] = refl
many_for (r ∷ reports) = let rest = many_for reports in omega (arith, rest)

pub acknowledges : (handed : List Handed) → AreSure handed → acknowledged_by (events_of handed) ≡ length (reports_of handed)
acknowledges handed are =
    let both : LosesAtMostOne (events_of handed) × AllSure (events_of handed) = loses_each [] handed are loses_none refl in
    both.1 ∙ ap (λ (items : List Item). length items) (run_items handed) ∙ many_for (reports_of handed)

-- behind a sync so is all
pub report_sure : (handed : List Handed) (r : Report) → AllSure (events_of (handed ++ Handed.sure r ∷ []))
report_sure handed r = subst AllSure (sym (grows handed (Handed.sure r))) (all_synced (with_report (events_of handed) r))
