-- A crash loses at most one of the results that a session has logged by then, where each is made sure before the next one.
use Rattle.std.proofs.Common.{◌≡◌, ◌⊎◌, ⊎_elim, ℕ, ◌+◌, ◌≤◌, List, [], ◌∷◌, ◌++◌, length, refl, sym, ap, ◌∙◌, subst, arith, length-append}
use Rattle.pcp_base.specs.Time.{Moment}
use Rattle.pcp_base.specs.declared.result.Item.{Item}
use Rattle.logging_session.specs.Crashes.{LosesAtMostOne}
use Rattle.logging_session.specs.Events.{Event, acknowledged_by, closing, flushed_behind, items_by, opening, sure_after, with_report}
use Rattle.logging_session.specs.Written.{Report}
use Rattle.logging_session.proofs.Course.{IsFront, front_more, front_sure, none_front}
use Rattle.logging_session.proofs.Events.{items_more, sure_flushed, sure_synced}

-- ---- one event more

-- all that was logged is acknowledged
abbrev pub AllSure : List Event → Type 0
AllSure events = acknowledged_by events ≡ length (items_by events)

abbrev LosesOneAt : List Event → Type 0
LosesOneAt events = length (items_by events) ≤ acknowledged_by events + 1

pub loses_none : LosesAtMostOne []
loses_none = λ front rest is. subst LosesOneAt (sym (none_front front rest is)) (omega arith)

loses_more : (events : List Event) (e : Event) → LosesAtMostOne events → LosesOneAt (events ++ e ∷ []) → LosesAtMostOne (events ++ e ∷ [])
loses_more events e before now = λ front rest is. ⊎_elim (λ (h : IsFront front events). before front h.0 h.1) (λ (all : front ≡ events ++ e ∷ []). subst LosesOneAt (sym all) now) (front_more events e front rest is)

one_item : (e : Event) → length (items_by (e ∷ [])) ≤ 1
one_item (Event.opened t) = omega arith
one_item (Event.logged r) = omega arith
one_item Event.flushed = omega arith
one_item Event.synced = omega arith

many_more : (events : List Event) (e : Event) → length (items_by (events ++ e ∷ [])) ≡ length (items_by events) + length (items_by (e ∷ []))
many_more events e = ap (λ (items : List Item). length items) (items_more events e) ∙ length-append (items_by events) (items_by (e ∷ []))

-- whatever comes behind what is acknowledged
loses_behind : (events : List Event) (e : Event) → LosesAtMostOne events → AllSure events → LosesAtMostOne (events ++ e ∷ [])
loses_behind events e before sure = loses_more events e before (omega (arith, sure, many_more events e, one_item e, front_sure (events ++ e ∷ []) events (e ∷ []) refl))

-- a sync and a flush acknowledge all
pub all_synced : (events : List Event) → AllSure (events ++ Event.synced ∷ [])
all_synced events = omega (arith, sure_synced events, many_more events Event.synced)

pub loses_synced : (events : List Event) → LosesAtMostOne events → LosesAtMostOne (events ++ Event.synced ∷ [])
loses_synced events before = loses_more events Event.synced before (omega (arith, all_synced events))

pub loses_flushed : (items : List Item) (events : List Event) → LosesAtMostOne events → LosesAtMostOne (flushed_behind items events)
loses_flushed [] events before = before
loses_flushed (x ∷ items) events before = loses_more events Event.flushed before (omega (arith, sure_flushed events, many_more events Event.flushed))

-- ---- results

pub loses_opening : (stamp : Moment) (events : List Event) → LosesAtMostOne events → LosesAtMostOne (opening stamp events)
loses_opening stamp [] before = loses_behind [] (Event.opened stamp) before refl
loses_opening stamp (e ∷ events) before = before

pub sure_opening : (stamp : Moment) (events : List Event) → AllSure events → AllSure (opening stamp events)
sure_opening stamp [] sure = refl
sure_opening stamp (e ∷ events) sure = sure

pub loses_report : (events : List Event) (r : Report) → LosesAtMostOne events → AllSure events → LosesAtMostOne (with_report events r)
loses_report events r before sure = loses_behind (opening r.result.stamp events) (Event.logged r) (loses_opening r.result.stamp events before) (sure_opening r.result.stamp events sure)

-- ---- a flush at the end acknowledges all

-- no more than were logged
pub sure_bounded : (events : List Event) (all sure : ℕ) → sure ≤ all → sure_after all sure events ≤ all + length (items_by events)
sure_bounded [] all sure le = omega (arith, le)
sure_bounded (Event.opened t ∷ events) all sure le = sure_bounded events all sure le
sure_bounded (Event.logged r ∷ events) all sure le = omega (arith, sure_bounded events (all + 1) sure (omega (arith, le)))
sure_bounded (Event.flushed ∷ events) all sure le = sure_bounded events all all (omega arith)
sure_bounded (Event.synced ∷ events) all sure le = sure_bounded events all all (omega arith)

flushed_sure : (items : List Item) (events : List Event) → items_by events ≡ items → acknowledged_by (flushed_behind items events) ≡ length (items_by events)
flushed_sure [] events none = let many : length (items_by events) ≡ 0 = ap (λ (xs : List Item). length xs) none in omega (arith, many, sure_bounded events 0 0 (omega arith))
flushed_sure (x ∷ items) events some = sure_flushed events

pub closing_sure : (events : List Event) → acknowledged_by (closing events) ≡ length (items_by events)
closing_sure events = flushed_sure (items_by events) events refl
