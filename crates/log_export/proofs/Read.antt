-- The items that were read so far.
use Rattle.std.proofs.Common.{◌≡◌, ℕ, ◌+◌, List, [], ◌∷◌, ◌++◌, length, refl, subst, arith, length-append}
use Rattle.pcp_base.specs.declared.result.Item.{Item}
use Rattle.pcp_model.specs.Disk.{Files}
use Rattle.archive_reader.specs.declared.places.Place.{Place}
use Rattle.archive_reader.specs.Walks.{Leads, StepsOver, volumes_from}

pub leads_on : (files : Files) (vs : List (ℕ × ℕ)) (at : ℕ) (items : List Item) (ws : List (ℕ × ℕ)) (to : ℕ) (x : Item) (us : List (ℕ × ℕ)) (next : ℕ) → Leads files vs at items ws to → StepsOver files ws to x us next → Leads files vs at (items ++ x ∷ []) us next
leads_on files vs at [] ws to x us next here step =
    (us, next, subst (λ (v : List (ℕ × ℕ)). StepsOver files v at x us next) here.0 (subst (λ n. StepsOver files ws n x us next) here.1 step), (refl, refl))
leads_on files vs at (y ∷ items) ws to x us next (vs_next, n, first, more) step = (vs_next, n, first, leads_on files vs_next n items ws to x us next more step)

pub record IsSoFar (files : Files) (volumes : List (ℕ × ℕ)) (p : Place) (count : ℕ) : Type 0 where
  pub items : List Item
  pub leads : Leads files volumes 132 items (volumes_from p.volume volumes) p.offset
  pub counted : count ≡ length items

pub begins : (files : Files) (volumes : List (ℕ × ℕ)) (p : Place) → volumes_from p.volume volumes ≡ volumes → p.offset ≡ 132 → IsSoFar files volumes p 0
begins files volumes p from label = record { items = []; leads = (from, label); counted = refl }

pub one_more : (files : Files) (volumes : List (ℕ × ℕ)) (p q : Place) (count : ℕ) (x : Item) → IsSoFar files volumes p count → StepsOver files (volumes_from p.volume volumes) p.offset x (volumes_from q.volume volumes) q.offset → IsSoFar files volumes q (count + 1)
one_more files volumes p q count x so step = record {
  items = so.items ++ x ∷ [];
  leads = leads_on files volumes 132 so.items (volumes_from p.volume volumes) p.offset x (volumes_from q.volume volumes) q.offset so.leads step;
  counted = omega (arith, so.counted, length-append so.items (x ∷ []));
}
