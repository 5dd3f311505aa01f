-- The boundaries around an offset, and the first stamp after a moment.
use Rattle.std.proofs.Common.{◌≡◌, inl, inr, ⊎_elim, ℕ, ◌<◌, ◌≤◌, Bool, true, false, List, [], ◌∷◌, ◌++◌, length, drop, map, refl, sym, ap, ◌∙◌, subst, arith, length-append, Option, Some, None}
use Rattle.std.specs.Prelude.{option_to_list, nat_lt, if◌then◌else◌}
use Rattle.std.proofs.lemmas.Bool.{cases_lt}
use Rattle.std.proofs.lemmas.List.{map-append}
use Rattle.pcp_base.specs.Time.{Moment, microseconds}
use Rattle.pcp_base.specs.declared.file.FileId.{FileId}
use Rattle.pcp_base.specs.declared.file.FileId.TheVariants.{Volume}
use Rattle.pcp_base.specs.declared.result.Item.{Item}
use Rattle.pcp_model.specs.Archive.{items_of}
use Rattle.pcp_model.specs.Disk.{Files}
use Rattle.pcp_model.specs.Payload.{stamp_of}
use Rattle.pcp_model.specs.Sound.{IsBoundary}
use Rattle.pcp_model.proofs.Sound.{label_boundary}
use Rattle.archive_check.specs.Breaches.{AtBoundary, IsBetween, first_after}
use Rattle.archive_check.specs.Sought.{LiesBetween, IsFirstAfter, IsFirstItemAfter}
use Rattle.archive_check.specs.Stamped.{Holds, IsAt, all_of}
use Rattle.archive_check.specs.Walked.{stamped, HoldItems}
use Rattle.archive_check.proofs.Places.{order, counted, begins}
use Rattle.archive_check.proofs.Tallied.{all_append, all_push}

-- ---- boundaries

pub in_label : (file : FileId) (bytes : List ℕ) (offset : ℕ) → offset < 132 → LiesBetween file bytes offset (0, 132)
in_label file bytes offset lt records holds none = record {
  none = none;
  below_is = inl (lt, refl);
  above_is = inl ((0, label_boundary bytes), omega (arith, lt), λ other (k, b) behind. omega (arith, b.is));
}

-- a place before an offset that is no boundary
pub record Before (file : FileId) (bytes : List ℕ) (records : List (List Moment)) (offset at : ℕ) : Type 0 where
  pub front : List (List Moment)
  pub place : IsAt file bytes records at front
  pub lt : at < offset

abbrev pub BeforeSoFar : FileId → List ℕ → ℕ → ℕ → Type 0
BeforeSoFar file bytes offset at = (records : List (List Moment)) → Holds file (drop 132 bytes) records → (AtBoundary bytes offset → ⊥) → Before file bytes records offset at

apart_lt : (a b : ℕ) → a ≤ b → (a ≡ b → ⊥) → a < b
apart_lt a b le apart = ⊎_elim (λ (lt : a < b). lt) (λ (ge : b ≤ a). absurd (apart (omega (arith, le, ge)))) (cases_lt a b)

pub before_begins : (file : FileId) (bytes : List ℕ) (offset : ℕ) → 132 ≤ offset → BeforeSoFar file bytes offset 132
before_begins file bytes offset le records holds none = record {
  front = [];
  place = begins file bytes records holds;
  lt = apart_lt 132 offset le (λ same. none (0, subst (λ n. IsBoundary bytes n 0) same (label_boundary bytes)));
}

module _ (file : FileId) (bytes : List ℕ) (records : List (List Moment)) (offset at : ℕ) (none : AtBoundary bytes offset → ⊥) (w : Before file bytes records offset at) where
  pub before_on : (next : ℕ) (v : List Moment) → IsAt file bytes records next (w.front ++ v ∷ []) → next ≤ offset → Before file bytes records offset next
  before_on next v place le = record {
    front = w.front ++ v ∷ [];
    place = place;
    lt = apart_lt next offset le (λ same. none (length (w.front ++ v ∷ []), subst (λ n. IsBoundary bytes n (length (w.front ++ v ∷ []))) same place.boundary));
  }

  beyond : Holds file (drop 132 bytes) records → records ≡ w.front → (other : ℕ) → AtBoundary bytes other → at < other → ⊥
  beyond holds all other (k, b) lt =
      let more : length w.front < k = order bytes at other (length w.front) k w.place.boundary b lt in
      omega (arith, more, counted file bytes records other k holds b, ap length all)

  pub before_ends : Holds file (drop 132 bytes) records → records ≡ w.front → IsBetween bytes offset at offset
  before_ends holds all = record {
    none = none;
    below_is = inr ((length w.front, w.place.boundary), w.lt, λ other there low. ⊎_elim (λ (lt : at < other). absurd (beyond holds all other there lt)) (λ (le : other ≤ at). le) (cases_lt at other));
    above_is = inr (λ other there behind. beyond holds all other there (omega (arith, behind, w.lt)), refl);
  }

  within : (next : ℕ) (v : List Moment) → IsAt file bytes records next (w.front ++ v ∷ []) → (other : ℕ) → AtBoundary bytes other → at < other → other < next → ⊥
  within next v place other (k, b) lt low =
      let more : length w.front < k = order bytes at other (length w.front) k w.place.boundary b lt in
      let less : k < length (w.front ++ v ∷ []) = order bytes other next k (length (w.front ++ v ∷ [])) b place.boundary low in
      omega (arith, more, less, length-append w.front (v ∷ []))

  pub before_passes : (next : ℕ) (v : List Moment) → IsAt file bytes records next (w.front ++ v ∷ []) → offset < next → IsBetween bytes offset at next
  before_passes next v place lt = record {
    none = none;
    below_is = inr ((length w.front, w.place.boundary), w.lt, λ other there low. ⊎_elim (λ (more : at < other). absurd (within next v place other there more (omega (arith, low, lt)))) (λ (le : other ≤ at). le) (cases_lt at other));
    above_is = inl ((length (w.front ++ v ∷ []), place.boundary), lt, λ other there behind. ⊎_elim (λ (less : other < next). absurd (within next v place other there (omega (arith, behind, w.lt)) less)) (λ (le : next ≤ other). le) (cases_lt other next));
  }

-- ---- stamps

pub first_append : (t : Moment) (xs ys : List Moment) → first_after t xs ≡ None → first_after t (xs ++ ys) ≡ first_after t ys
first_append t [] ys none = refl
first_append t (x ∷ xs) ys none = go (nat_lt (microseconds t) (microseconds x)) none (first_append t xs ys)
  where
    go : (b : Bool) → (if b then Some x else first_after t xs) ≡ None → (first_after t xs ≡ None → first_after t (xs ++ ys) ≡ first_after t ys) → (if b then Some x else first_after t (xs ++ ys)) ≡ first_after t ys
    go true e more = absurd (let both : Some x ≡ None = e in cc)
    go false e more = more e

pub first_front : (t s : Moment) (xs ys : List Moment) → first_after t xs ≡ Some s → first_after t (xs ++ ys) ≡ Some s
first_front t s [] ys some = absurd (let both : None ≡ Some s = some in cc)
first_front t s (x ∷ xs) ys some = go (nat_lt (microseconds t) (microseconds x)) some (first_front t s xs ys)
  where
    go : (b : Bool) → (if b then Some x else first_after t xs) ≡ Some s → (first_after t xs ≡ Some s → first_after t (xs ++ ys) ≡ Some s) → (if b then Some x else first_after t (xs ++ ys)) ≡ Some s
    go true e more = e
    go false e more = more e

-- up to a place no stamp is after the moment
pub record NoneSoFar (file : FileId) (bytes : List ℕ) (records : List (List Moment)) (t : Moment) (at : ℕ) : Type 0 where
  pub front : List (List Moment)
  pub place : IsAt file bytes records at front
  pub none : first_after t (all_of front) ≡ None

abbrev pub AfterSoFar : FileId → List ℕ → Moment → ℕ → Type 0
AfterSoFar file bytes t at = (records : List (List Moment)) → Holds file (drop 132 bytes) records → NoneSoFar file bytes records t at

pub after_begins : (file : FileId) (bytes : List ℕ) (t : Moment) → AfterSoFar file bytes t 132
after_begins file bytes t records holds = record { front = []; place = begins file bytes records holds; none = refl }

module _ (file : FileId) (bytes : List ℕ) (records : List (List Moment)) (t : Moment) (at : ℕ) (w : NoneSoFar file bytes records t at) where
  first_is : (stamp : Option Moment) → first_after t (all_of (w.front ++ option_to_list stamp ∷ [])) ≡ first_after t (option_to_list stamp)
  first_is stamp = ap (first_after t) (all_push w.front (option_to_list stamp)) ∙ first_append t (all_of w.front) (option_to_list stamp) w.none

  pub after_on : (next : ℕ) (stamp : Option Moment) → IsAt file bytes records next (w.front ++ option_to_list stamp ∷ []) → first_after t (option_to_list stamp) ≡ None → NoneSoFar file bytes records t next
  after_on next stamp place e = record { front = w.front ++ option_to_list stamp ∷ []; place = place; none = first_is stamp ∙ e }

  pub after_none : records ≡ w.front → None ≡ first_after t (all_of records)
  after_none all = sym (ap (λ l. first_after t (all_of l)) all ∙ w.none)

  pub after_found : (next : ℕ) (stamp : Option Moment) (s : Moment) → IsAt file bytes records next (w.front ++ option_to_list stamp ∷ []) → first_after t (option_to_list stamp) ≡ Some s → Some s ≡ first_after t (all_of records)
  after_found next stamp s place e =
      let here : first_after t (all_of (w.front ++ option_to_list stamp ∷ [])) ≡ Some s = first_is stamp ∙ e in
      let whole : all_of records ≡ all_of (w.front ++ option_to_list stamp ∷ []) ++ all_of place.behind = ap all_of place.are ∙ all_append (w.front ++ option_to_list stamp ∷ []) place.behind in
      sym (ap (first_after t) whole ∙ first_front t s (all_of (w.front ++ option_to_list stamp ∷ [])) (all_of place.behind) here)

-- ---- of volumes

pub all_stamped : (items : List Item) → all_of (stamped items) ≡ map stamp_of items
all_stamped [] = refl
all_stamped (x ∷ items) = ap (λ l. stamp_of x ∷ l) (all_stamped items)

pub record RestHas (files : Files) (vs : List (ℕ × ℕ)) (t : Moment) (cs : List (ℕ × List Item)) : Type 0 where
  pub rest : List (ℕ × List Item)
  pub hold : HoldItems files vs rest
  pub same : first_after t (map stamp_of (items_of cs)) ≡ first_after t (map stamp_of (items_of rest))

abbrev pub RestSoFar : Files → List (ℕ × ℕ) → Moment → List (ℕ × ℕ) → Type 0
RestSoFar files all t vs = (cs : List (ℕ × List Item)) → HoldItems files all cs → RestHas files vs t cs

pub rest_begins : (files : Files) (all : List (ℕ × ℕ)) (t : Moment) → RestSoFar files all t all
rest_begins files all t cs hold = record { rest = cs; hold = hold; same = refl }

pub rest_ends : (files : Files) (all vs : List (ℕ × ℕ)) (t : Moment) → vs ≡ [] → RestSoFar files all t vs → IsFirstItemAfter files all t None
rest_ends files all vs t none so_far cs hold =
    let r : RestHas files vs t cs = so_far cs hold in
    go r.rest (subst (λ l. HoldItems files l r.rest) none r.hold) r.same
  where
    go : (rest : List (ℕ × List Item)) → HoldItems files [] rest → first_after t (map stamp_of (items_of cs)) ≡ first_after t (map stamp_of (items_of rest)) → None ≡ first_after t (map stamp_of (items_of cs))
    go [] hold same = sym same
    go (c ∷ rest) hold same = absurd hold

module _ (files : Files) (all : List (ℕ × ℕ)) (v : ℕ × ℕ) (vs : List (ℕ × ℕ)) (t : Moment) (found : Option Moment) (so_far : RestSoFar files all t (v ∷ vs)) (is : IsFirstAfter (Volume v.0) (files (Volume v.0)) t found) where
  first_in : (c : ℕ × List Item) (rest : List (ℕ × List Item)) → HoldItems files (v ∷ vs) (c ∷ rest) → found ≡ first_after t (map stamp_of c.1)
  first_in c rest hold = is (stamped c.1) hold.1 ∙ ap (first_after t) (all_stamped c.1)

  pub rest_on : found ≡ None → RestSoFar files all t vs
  rest_on none cs hold =
      let r : RestHas files (v ∷ vs) t cs = so_far cs hold in
      go r.rest r.hold r.same
    where
      go : (rest : List (ℕ × List Item)) → HoldItems files (v ∷ vs) rest → first_after t (map stamp_of (items_of cs)) ≡ first_after t (map stamp_of (items_of rest)) → RestHas files vs t cs
      go [] hold same = absurd hold
      go (c ∷ rest) hold same = record {
        rest = rest;
        hold = hold.2;
        same = same ∙ ap (first_after t) (map-append stamp_of c.1 (items_of rest)) ∙ first_append t (map stamp_of c.1) (map stamp_of (items_of rest)) (sym (first_in c rest hold) ∙ none);
      }

  pub rest_found : (s : Moment) → found ≡ Some s → IsFirstItemAfter files all t (Some s)
  rest_found s some cs hold =
      let r : RestHas files (v ∷ vs) t cs = so_far cs hold in
      go r.rest r.hold r.same
    where
      go : (rest : List (ℕ × List Item)) → HoldItems files (v ∷ vs) rest → first_after t (map stamp_of (items_of cs)) ≡ first_after t (map stamp_of (items_of rest)) → Some s ≡ first_after t (map stamp_of (items_of cs))
      go [] hold same = absurd hold
      go (c ∷ rest) hold same =
          sym (same ∙ ap (first_after t) (map-append stamp_of c.1 (items_of rest)) ∙ first_front t s (map stamp_of c.1) (map stamp_of (items_of rest)) (sym (first_in c rest hold) ∙ some))
