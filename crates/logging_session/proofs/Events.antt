-- Lists of events, with one more behind them.
use Rattle.std.proofs.Common.{◌≡◌, ℕ, ◌+◌, List, [], ◌∷◌, ◌++◌, length, refl, ap, ◌∙◌, subst, arith}
use Rattle.pcp_base.specs.Time.{Moment}
use Rattle.pcp_base.specs.declared.result.Item.{Item}
use Rattle.pcp_base.specs.declared.result.Item.TheVariants.{Sample}
use Rattle.pcp_model.specs.Disk.{Files}
use Rattle.pcp_model.specs.LabelFields.{LabelFields}
use Rattle.logging_session.specs.Events.{Event, Lead, LeadFrom, Steps, acknowledged_by, behind, closing, flushed_behind, items_by, opening, sure_after}
use Rattle.logging_session.specs.Written.{Report, Stand, Written}

pub lead_more : (l : LabelFields) (limit : ℕ) (first : Stand) (events : List Event) (middle : Stand) (e : Event) (last : Stand) → Lead l limit first events middle → Steps l limit middle e last → Lead l limit first (events ++ e ∷ []) last
lead_more l limit first [] middle e last is step = (last, subst (λ (s : Stand). Steps l limit s e last) is step, refl)
lead_more l limit first (x ∷ xs) middle e last lead step = (lead.0, lead.1, lead_more l limit lead.0 xs middle e last lead.2 step)

pub items_more : (events : List Event) (e : Event) → items_by (events ++ e ∷ []) ≡ items_by events ++ items_by (e ∷ [])
items_more [] e = refl
items_more (Event.opened t ∷ events) e = items_more events e
items_more (Event.logged r ∷ events) e = ap (λ (xs : List Item). Sample r.result ∷ xs) (items_more events e)
items_more (Event.flushed ∷ events) e = items_more events e
items_more (Event.synced ∷ events) e = items_more events e

sure_more : (events : List Event) (e : Event) (all sure : ℕ) → sure_after all sure (events ++ e ∷ []) ≡ sure_after (all + length (items_by events)) (sure_after all sure events) (e ∷ [])
sure_more [] e all sure = ap (λ (n : ℕ). sure_after n sure (e ∷ [])) (let same : all ≡ all + 0 = omega arith in same)
sure_more (Event.opened t ∷ events) e all sure = sure_more events e all sure
sure_more (Event.logged r ∷ events) e all sure =
    let same : all + 1 + length (items_by events) ≡ all + length (Sample r.result ∷ items_by events) = omega arith in
    sure_more events e (all + 1) sure ∙ ap (λ (n : ℕ). sure_after n (sure_after (all + 1) sure events) (e ∷ [])) same
sure_more (Event.flushed ∷ events) e all sure = sure_more events e all all
sure_more (Event.synced ∷ events) e all sure = sure_more events e all all

-- a result that is logged isn't acknowledged, and a flush or a sync acknowledges all
pub sure_logged : (events : List Event) (r : Report) → acknowledged_by (events ++ Event.logged r ∷ []) ≡ acknowledged_by events
sure_logged events r = sure_more events (Event.logged r) 0 0

pub sure_flushed : (events : List Event) → acknowledged_by (events ++ Event.flushed ∷ []) ≡ length (items_by events)
sure_flushed events = let is : acknowledged_by (events ++ Event.flushed ∷ []) ≡ 0 + length (items_by events) = sure_more events Event.flushed 0 0 in omega (arith, is)

pub sure_synced : (events : List Event) → acknowledged_by (events ++ Event.synced ∷ []) ≡ length (items_by events)
sure_synced events = let is : acknowledged_by (events ++ Event.synced ∷ []) ≡ 0 + length (items_by events) = sure_more events Event.synced 0 0 in omega (arith, is)

-- ---- once it is open there are events

not_led : {A : Type 0} (left : Files) (w : Written) → Stand.opened w ≡ Stand.found left → A
not_led left w is = absurd cc

pub opening_is : (l : LabelFields) (limit : ℕ) (left : Files) (events : List Event) (w : Written) (stamp : Moment) → LeadFrom l limit left events (Stand.opened w) → opening stamp events ≡ events
opening_is l limit left [] w stamp lead = not_led left w lead
opening_is l limit left (e ∷ events) w stamp lead = refl

pub behind_is : (l : LabelFields) (limit : ℕ) (left : Files) (events : List Event) (w : Written) (e : Event) → LeadFrom l limit left events (Stand.opened w) → behind events e ≡ events ++ e ∷ []
behind_is l limit left [] w e lead = not_led left w lead
behind_is l limit left (x ∷ events) w e lead = refl

-- opening it logs nothing, and acknowledges nothing
pub opening_items : (stamp : Moment) (events : List Event) → items_by (opening stamp events) ≡ items_by events
opening_items stamp [] = refl
opening_items stamp (e ∷ events) = refl

-- ---- the end of a session

pub closing_none : (events : List Event) → items_by events ≡ [] → closing events ≡ events
closing_none events none = ap (λ (items : List Item). flushed_behind items events) none

flushed_some : (items : List Item) (events : List Event) → (length items ≡ 0 → ⊥) → flushed_behind items events ≡ events ++ Event.flushed ∷ []
flushed_some [] events some = absurd (some refl)
flushed_some (x ∷ items) events some = refl

pub closing_some : (events : List Event) → (length (items_by events) ≡ 0 → ⊥) → closing events ≡ behind events Event.flushed
closing_some [] some = absurd (some refl)
closing_some (e ∷ events) some = flushed_some (items_by (e ∷ events)) (e ∷ events) some
