-- One step of a walk through the results of two sources.
use Rattle.std.proofs.Common.{◌≡◌, Bool, true, false, cond, nat_lt, List, [], ◌∷◌, refl, subst, arith, Option, Some, None}
use Rattle.std.proofs.lemmas.Bool.{ltb-true, ltb-false}
use Rattle.pcp_base.specs.Time.{Moment, microseconds}
use Rattle.pcp_base.specs.declared.result.PmResult.{PmResult}
use Rattle.pcp_base.specs.declared.result.ValueSet.{ValueSet}
use Rattle.pcp_model.proofs.Lists.{each-map}
use Rattle.archive_merge.specs.Merging.{at_each, sets_at}
use Rattle.archive_merge.specs.Order.{AllBehind, Behind, NoneBefore, NotBefore, Rises, after}
use Rattle.archive_merge.proofs.Steps.{first_comes, second_comes}
use Rattle.log_extract.specs.Cursors.{earliest, next_stamp}

-- this is the first of these results, or there is none
abbrev pub IsHead : Option PmResult → List PmResult → Type 0
IsHead None results = results ≡ []
IsHead (Some r) results = (rest : List PmResult) × (results ≡ r ∷ rest)

-- the stamp comes first of two lists, and what is made of it first of all
pub record Comes {X : Type 0} (make : Moment → List ValueSet → List ValueSet → X) (t : Moment) (xs ys : List PmResult) : Type 0 where
  pub first_low : NoneBefore t xs
  pub second_low : NoneBefore t ys
  pub step : at_each make xs ys ≡ make t (sets_at t xs) (sets_at t ys) ∷ at_each make (after t xs) (after t ys)

module _ {X : Type 0} (make : Moment → List ValueSet → List ValueSet → X) where
  -- the first list's, where the second's first isn't earlier
  first_is : (r : PmResult) (xs ys : List PmResult) → NoneBefore r.stamp xs → NoneBefore r.stamp ys → Comes make r.stamp (r ∷ xs) ys
  first_is r xs ys low other = record { first_low = (omega arith, low); second_low = other; step = first_comes make r xs ys low other }

  second_is : (r : PmResult) (xs ys : List PmResult) → AllBehind r.stamp xs → NoneBefore r.stamp ys → Comes make r.stamp xs (r ∷ ys)
  second_is r xs ys behind low = record {
    first_low = each-map (λ q. Behind r.stamp q.stamp) (λ q. NotBefore r.stamp q.stamp) (λ q h. omega (arith, h)) xs behind;
    second_low = (omega arith, low);
    step = second_comes make r xs ys behind low;
  }

  abbrev At : Option Moment → List PmResult → List PmResult → Type 0
  At None xs ys = Unit {0}
  At (Some t) xs ys = Comes make t xs ys

  two : (a b : PmResult) (xs ys : List PmResult) → NoneBefore a.stamp xs → NoneBefore b.stamp ys → At (earliest (Some a.stamp) (Some b.stamp)) (a ∷ xs) (b ∷ ys)
  two a b xs ys low other = by (nat_lt (microseconds b.stamp) (microseconds a.stamp)) refl
    where
      by : (c : Bool) → nat_lt (microseconds b.stamp) (microseconds a.stamp) ≡ c → At (cond c (Some b.stamp) (Some a.stamp)) (a ∷ xs) (b ∷ ys)
      by true e =
          let less = ltb-true (microseconds b.stamp) (microseconds a.stamp) e in
          second_is b (a ∷ xs) ys (less, each-map (λ q. NotBefore a.stamp q.stamp) (λ q. Behind b.stamp q.stamp) (λ q h. omega (arith, h, less)) xs low) other
      by false e =
          let more = ltb-false (microseconds b.stamp) (microseconds a.stamp) e in
          first_is a xs (b ∷ ys) low (more, each-map (λ q. NotBefore b.stamp q.stamp) (λ q. NotBefore a.stamp q.stamp) (λ q h. omega (arith, h, more)) ys other)

  earliest_at : (a b : Option PmResult) (xs ys : List PmResult) → IsHead a xs → IsHead b ys → Rises xs → Rises ys → At (earliest (next_stamp a) (next_stamp b)) xs ys
  earliest_at None None xs ys first second rises others = tt
  earliest_at None (Some b) xs [] first (rest, is) rises others = absurd (cc)
  earliest_at None (Some b) [] (y ∷ ys) first (rest, is) rises others =
      let same : y ≡ b = cc in
      subst (λ (r : PmResult). Comes make r.stamp [] (y ∷ ys)) same (second_is y [] ys tt others.0)
  earliest_at None (Some b) (x ∷ xs) (y ∷ ys) first second rises others = absurd (cc)
  earliest_at (Some a) b [] ys (rest, is) second rises others = absurd (cc)
  earliest_at (Some a) None (x ∷ xs) [] (rest, is) second rises others =
      let same : x ≡ a = cc in
      subst (λ (r : PmResult). Comes make r.stamp (x ∷ xs) []) same (first_is x xs [] rises.0 tt)
  earliest_at (Some a) None (x ∷ xs) (y ∷ ys) first second rises others = absurd (cc)
  earliest_at (Some a) (Some b) (x ∷ xs) [] first (rest, is) rises others = absurd (cc)
  earliest_at (Some a) (Some b) (x ∷ xs) (y ∷ ys) (rest, is) (more, are) rises others =
      let first : x ≡ a = cc in
      let second : y ≡ b = cc in
      subst (λ (r : PmResult). At (earliest (Some r.stamp) (Some b.stamp)) (x ∷ xs) (y ∷ ys)) first
      (subst (λ (r : PmResult). At (earliest (Some x.stamp) (Some r.stamp)) (x ∷ xs) (y ∷ ys)) second (two x y xs ys rises.0 others.0))

  pub comes_first : (a b : Option PmResult) (xs ys : List PmResult) (t : Moment) → IsHead a xs → IsHead b ys → Rises xs → Rises ys → earliest (next_stamp a) (next_stamp b) ≡ Some t → Comes make t xs ys
  comes_first a b xs ys t first second rises others is = subst (λ (o : Option Moment). At o xs ys) is (earliest_at a b xs ys first second rises others)

-- none comes where none is left
pub none_comes : (a b : Option PmResult) (xs ys : List PmResult) → IsHead a xs → IsHead b ys → earliest (next_stamp a) (next_stamp b) ≡ None → (xs ≡ []) × (ys ≡ [])
none_comes None None xs ys first second none = (first, second)
none_comes None (Some b) xs ys first second none = absurd (cc)
none_comes (Some a) None xs ys first second none = absurd (cc)
none_comes (Some a) (Some b) xs ys first second none = by (nat_lt (microseconds b.stamp) (microseconds a.stamp)) none
  where
    by : (c : Bool) → cond c (Some b.stamp) (Some a.stamp) ≡ None → (xs ≡ []) × (ys ≡ [])
    by true e = absurd (cc)
    by false e = absurd (cc)
