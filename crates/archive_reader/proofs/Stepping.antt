-- Steps over records, over the ends of volumes.
use Rattle.std.proofs.Common.{zero, suc, ◌≡◌, ◌≢◌, inl, inr, ℕ, ◌+◌, ◌<◌, ◌≤◌, Bool, true, false, List, [], ◌∷◌, length, drop, refl, sym, ap, ◌∙◌, subst, arith, eqb-true, eq-eqb, Result, Ok, Err}
use Rattle.std.proofs.lemmas.Bool.{lt-ltb, le-ltb}
use Rattle.std.proofs.lemmas.List.{drop_all, length-drop}
use Rattle.std.specs.List.{AllByRecursion}
use Rattle.std.specs.List.Sorted.{IsNonDecreasingBy}
use Rattle.std.specs.Prelude.{if◌then◌else◌, nat_eq, get_or, IfOk}
use Rattle.pcp_base.specs.declared.file.FileId.TheVariants.{Volume}
use Rattle.pcp_base.specs.declared.result.Item.{Item}
use Rattle.pcp_model.specs.Disk.{Files}
use Rattle.pcp_model.specs.Frame.{IsTorn}
use Rattle.archive_frame.proofs.Records.{Ends, stood}
use Rattle.archive_loading.specs.Standing.{ItemStands, NoItemStands}
use Rattle.archive_reader.specs.declared.walking.Step.{Step}
use Rattle.archive_reader.specs.declared.walking.Step.TheVariants.{End as StepEnd, Bad as StepBad, Item as StepItem}
use Rattle.archive_reader.specs.Steps.{IsStood, IsWalked}
use Rattle.archive_loading.specs.Loaded.{Rises}
use Rattle.archive_reader.specs.Walks.{volumes_from, next_volumes, next_offset, StandsNext, EndsThere, IsBadThere}

-- ---- the volumes from a number on

pub from_skips : (n : ℕ) (v : ℕ × ℕ) (vs : List (ℕ × ℕ)) → v.0 < n → volumes_from n (v ∷ vs) ≡ volumes_from n vs
from_skips n v vs lt = ap (λ (b : Bool). if b then volumes_from n vs else v ∷ vs) (lt-ltb v.0 n lt)

pub from_stops : (n : ℕ) (v : ℕ × ℕ) (vs : List (ℕ × ℕ)) → n ≤ v.0 → volumes_from n (v ∷ vs) ≡ v ∷ vs
from_stops n v vs le = ap (λ (b : Bool). if b then volumes_from n vs else v ∷ vs) (le-ltb v.0 n le)

under : (n : ℕ) (vs : List (ℕ × ℕ)) (i : ℕ) (d : ℕ × ℕ) → AllByRecursion (λ (w : ℕ × ℕ). n < w.0) vs → i < length vs → n < (get_or vs i d).0
under n [] i d all few = absurd (omega arith)
under n (v ∷ vs) zero d all few = all.0
under n (v ∷ vs) (suc i) d all few = under n vs i d all.1 (omega arith)

-- of rising volumes those from one's number on begin with it
pub from_own : (volumes : List (ℕ × ℕ)) (i : ℕ) → Rises volumes → i < length volumes → volumes_from (get_or volumes i (0, 0)).0 volumes ≡ drop i volumes
from_own [] i rises few = absurd (omega arith)
from_own (v ∷ vs) zero rises few = from_stops v.0 v vs (omega arith)
from_own (v ∷ vs) (suc i) rises few = from_skips (get_or vs i (0, 0)).0 v vs (under v.0 vs i (0, 0) rises.0 (omega arith)) ∙ from_own vs i rises.1 (omega arith)

-- a number parts rising volumes
pub rising : (volumes : List (ℕ × ℕ)) → Rises volumes → IsNonDecreasingBy (λ (v : ℕ × ℕ). v.0) volumes
rising [] rises i j d le few = absurd (omega (arith, few))
rising (v ∷ vs) rises zero zero d le few = omega arith
rising (v ∷ vs) rises zero (suc j) d le few = let above : v.0 < (get_or vs j d).0 = under v.0 vs j d rises.0 (omega (arith, few)) in omega (arith, above)
rising (v ∷ vs) rises (suc i) zero d le few = absurd (omega (arith, le))
rising (v ∷ vs) rises (suc i) (suc j) d le few = rising vs rises.1 i j d (omega (arith, le)) (omega (arith, few))

pub from_parted : (n : ℕ) (volumes : List (ℕ × ℕ)) (i : ℕ) → i ≤ length volumes → ((k : ℕ) (d : ℕ × ℕ) → k < i → (get_or volumes k d).0 < n) → ((k : ℕ) (d : ℕ × ℕ) → i ≤ k → k < length volumes → n ≤ (get_or volumes k d).0)
    → drop i volumes ≡ volumes_from n volumes
from_parted n [] i few below above = drop_all i [] (omega arith)
from_parted n (v ∷ vs) zero few below above = sym (from_stops n v vs (above 0 v (omega arith) (omega arith)))
from_parted n (v ∷ vs) (suc i) few below above =
    from_parted n vs i (omega (arith, few)) (λ k d lt. below (suc k) d (omega (arith, lt))) (λ k d le lt. above (suc k) d (omega (arith, le)) (omega (arith, lt))) ∙ sym (from_skips n v vs (below 0 v (omega arith)))

-- ---- over the ends of volumes

pub next_over : (v w : ℕ × ℕ) (vs : List (ℕ × ℕ)) (at : ℕ) → at ≡ v.1 → (next_volumes (v ∷ w ∷ vs) at ≡ next_volumes (w ∷ vs) 132) × (next_offset (v ∷ w ∷ vs) at ≡ next_offset (w ∷ vs) 132)
next_over v w vs at is = (
  ap (λ (b : Bool). if b then next_volumes (w ∷ vs) 132 else v ∷ w ∷ vs) (eq-eqb at v.1 is),
  ap (λ (b : Bool). if b then next_offset (w ∷ vs) 132 else at) (eq-eqb at v.1 is),
)

pub next_here : (v w : ℕ × ℕ) (vs : List (ℕ × ℕ)) (at : ℕ) → at ≢ v.1 → (next_volumes (v ∷ w ∷ vs) at ≡ v ∷ w ∷ vs) × (next_offset (v ∷ w ∷ vs) at ≡ at)
next_here v w vs at ne = go (nat_eq at v.1) refl
  where
    go : (b : Bool) → nat_eq at v.1 ≡ b → (next_volumes (v ∷ w ∷ vs) at ≡ v ∷ w ∷ vs) × (next_offset (v ∷ w ∷ vs) at ≡ at)
    go true e = absurd (ne (eqb-true at v.1 e))
    go false e = (
      ap (λ (b : Bool). if b then next_volumes (w ∷ vs) 132 else v ∷ w ∷ vs) e,
      ap (λ (b : Bool). if b then next_offset (w ∷ vs) 132 else at) e,
    )

pub next_last : (vs : List (ℕ × ℕ)) (at : ℕ) → length vs ≤ 1 → (next_volumes vs at ≡ vs) × (next_offset vs at ≡ at)
next_last [] at few = (refl, refl)
next_last (v ∷ []) at few = (refl, refl)
next_last (v ∷ w ∷ vs) at few = absurd (omega (arith, few))

-- ---- what stands behind the ends of volumes

-- a record that wasn't written whole is no item's
pub torn_no_item : (bytes : List ℕ) (at : ℕ) → IsTorn (drop at bytes) → NoItemStands bytes at
torn_no_item bytes at (inl few) next x s =
    let e : Ends bytes s.payload at next = stood bytes s.payload at next s.stands in omega (arith, few, length-drop at bytes, e.size, e.within)
torn_no_item bytes at (inr torn) next x s =
    let e : Ends bytes s.payload at next = stood bytes s.payload at next s.stands in omega (arith, torn.2, length-drop at bytes, e.size, e.within, e.head)

no_end : (files : Files) (v : ℕ × ℕ) (rest : List (ℕ × ℕ)) (at : ℕ) → (IsTorn (drop at (files (Volume v.0))) → ⊥) → EndsThere files (v ∷ rest) at → ⊥
no_end files v [] at whole end = whole end
no_end files v (w ∷ rest) at whole end = end

not_last : (files : Files) (v : ℕ × ℕ) (rest : List (ℕ × ℕ)) (at : ℕ) → 0 < length rest → EndsThere files (v ∷ rest) at → ⊥
not_last files v [] at some end = omega arith
not_last files v (w ∷ rest) at some end = end

last : (files : Files) (v : ℕ × ℕ) (rest : List (ℕ × ℕ)) (at : ℕ) → length rest ≡ 0 → IsTorn (drop at (files (Volume v.0))) → EndsThere files (v ∷ rest) at
last files v [] at none torn = torn
last files v (w ∷ rest) at none torn = absurd (omega (arith, none))

module _ (files : Files) (volumes : List (ℕ × ℕ)) (index at number end : ℕ) (here : drop index volumes ≡ (number, end) ∷ drop (index + 1) volumes) where
  pub stood_item : (x : Item) (next : ℕ) → ItemStands (files (Volume number)) at next x → IsStood files volumes (drop index volumes) at (StepItem x index next)
  stood_item x next s = (refl, subst (λ ws. StandsNext files ws at x next) (sym here) s)

  pub stood_bad : NoItemStands (files (Volume number)) at → (IsTorn (drop at (files (Volume number))) → ⊥) → IsStood files volumes (drop index volumes) at (StepBad number at)
  stood_bad none whole = subst (λ ws. IsBadThere files ws at (Volume number) at) (sym here) (refl, refl, none, no_end files (number, end) (drop (index + 1) volumes) at whole)

  pub stood_torn : IsTorn (drop at (files (Volume number))) → index + 1 < length volumes → IsStood files volumes (drop index volumes) at (StepBad number at)
  stood_torn torn more = subst (λ ws. IsBadThere files ws at (Volume number) at) (sym here)
      (refl, refl, torn_no_item (files (Volume number)) at torn, not_last files (number, end) (drop (index + 1) volumes) at (omega (arith, more, length-drop (index + 1) volumes)))

  pub stood_end : IsTorn (drop at (files (Volume number))) → length volumes ≤ index + 1 → IsStood files volumes (drop index volumes) at StepEnd
  stood_end torn all = subst (λ ws. EndsThere files ws at) (sym here) (last files (number, end) (drop (index + 1) volumes) at (omega (arith, all, length-drop (index + 1) volumes)) torn)

pub stood_none : (files : Files) (volumes : List (ℕ × ℕ)) (index at : ℕ) → length volumes ≤ index → IsStood files volumes (drop index volumes) at StepEnd
stood_none files volumes index at all = subst (λ ws. EndsThere files ws at) (sym (drop_all index volumes all)) tt

-- what stands there is the next step
pub walked : {E : Type 0} (files : Files) (volumes : List (ℕ × ℕ)) (index at behind offset : ℕ) (result : Result Step E) → drop behind volumes ≡ next_volumes (drop index volumes) at → offset ≡ next_offset (drop index volumes) at
    → IfOk result (IsStood files volumes (drop behind volumes) offset) → IfOk result (IsWalked files volumes index at)
walked files volumes index at behind offset (Ok StepEnd) one two stood =
    subst (λ ws. EndsThere files ws (next_offset (drop index volumes) at)) one (subst (EndsThere files (drop behind volumes)) two stood)
walked files volumes index at behind next (Ok (StepBad number offset)) one two stood =
    subst (λ ws. IsBadThere files ws (next_offset (drop index volumes) at) (Volume number) offset) one (subst (λ o. IsBadThere files (drop behind volumes) o (Volume number) offset) two stood)
walked files volumes index at behind offset (Ok (StepItem x b next)) one two stood = record {
  volumes = stood.0 ∙ one;
  stands = subst (λ ws. StandsNext files ws (next_offset (drop index volumes) at) x next) (sym stood.0) (subst (λ o. StandsNext files (drop behind volumes) o x next) two stood.1);
}
walked files volumes index at behind offset (Err e) one two stood = tt
