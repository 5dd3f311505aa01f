-- The records of domains in their order.
use Rattle.std.proofs.Common.{zero, suc, ◌≡◌, ◌⊎◌, inl, inr, ℕ, ℤ, ◌+◌, ◌<◌, ◌≤◌, Bool, true, false, cond, nat_eq, List, [], ◌∷◌, ◌++◌, length, take, drop, Option, Some, None, refl, sym, ap, ◌∙◌, subst, arith, length-append}
use Rattle.std.specs.Prelude.{◌&&◌, slice_get, MatchOption}
use Rattle.std.specs.declared.cmp.Ordering.{Ordering}
use Rattle.std.specs.declared.cmp.Ordering.TheVariants.{Less, Equal, Greater}
use Rattle.std.specs.Ordering.{nat_cmp, ordering_then, is_eq, is_lt, is_gt, MatchOrdering}
use Rattle.std.specs.Cmp.{unsigned_ties}
use Rattle.std.specs.BTreeSet.{BTreeSet, contains}
use Rattle.std.proofs.lemmas.Cmp.{ranked}
use Rattle.archive_meta.specs.Said.{pairs_of}
use Rattle.std.proofs.lemmas.Bool.{cases_lt, eqb-true, eqb-false, eq-eqb}
use Rattle.pcp_base.specs.Time.{Moment, microseconds}
use Rattle.pcp_model.specs.declared.records.MetaRecord.{MetaRecord}
use Rattle.pcp_model.specs.declared.records.MetaRecord.TheVariants.{Description, Domain, Other}
use Rattle.pcp_model.specs.Described.{EachStamp, HoldsAt}
use Rattle.archive_meta.specs.Order.{moment_order}
use Rattle.archive_meta.specs.declared.moments.Listing.{Listing}
use Rattle.archive_meta.specs.Kept.{listing, is_stamped, stamped_at, HasMoments, IsLastEntry, HasNoEntry}

-- ---- the order

-- a is not behind b
abbrev pub Before : Listing → Listing → Type 0
Before a b = (a.indom < b.indom) ⊎ ((a.indom ≡ b.indom) × ((a.from < b.from) ⊎ ((a.from ≡ b.from) × (a.at ≤ b.at))))

rank : (x y : ℕ) → MatchOrdering (nat_cmp x y) (x < y) (x ≡ y) (y < x)
rank x y = ranked x y (nat_cmp x y) refl

not_greater : (x y : ℕ) (o rest : Ordering) → MatchOrdering o (x < y) (x ≡ y) (y < x) → is_gt (ordering_then o rest) ≡ false → (x < y) ⊎ ((x ≡ y) × (is_gt rest ≡ false))
not_greater x y Less rest r h = inl r
not_greater x y Equal rest r h = inr (r, h)
not_greater x y Greater rest r h = absurd cc

not_less : (x y : ℕ) (o rest : Ordering) → MatchOrdering o (x < y) (x ≡ y) (y < x) → is_lt (ordering_then o rest) ≡ false → (y < x) ⊎ ((x ≡ y) × (is_lt rest ≡ false))
not_less x y Less rest r h = absurd cc
not_less x y Equal rest r h = inr (r, h)
not_less x y Greater rest r h = inl r

at_most : (x y : ℕ) (o : Ordering) → MatchOrdering o (x < y) (x ≡ y) (y < x) → is_gt o ≡ false → x ≤ y
at_most x y Less r h = omega arith
at_most x y Equal r h = omega arith
at_most x y Greater r h = absurd cc

at_least : (x y : ℕ) (o : Ordering) → MatchOrdering o (x < y) (x ≡ y) (y < x) → is_lt o ≡ false → y ≤ x
at_least x y Less r h = absurd cc
at_least x y Equal r h = omega arith
at_least x y Greater r h = omega arith

regroup : (o p q : Ordering) → ordering_then (ordering_then o p) q ≡ ordering_then o (ordering_then p q)
regroup Less p q = refl
regroup Equal p q = refl
regroup Greater p q = refl

-- the parts of the order, the first in front
parts : (a b : Listing) → moment_order a b ≡ ordering_then (nat_cmp a.indom b.indom) (ordering_then (nat_cmp a.from b.from) (nat_cmp a.at b.at))
parts a b = regroup (nat_cmp a.indom b.indom) (nat_cmp a.from b.from) (nat_cmp a.at b.at)

-- what the order's answers say
pub before_from : (a b : Listing) → is_gt (moment_order a b) ≡ false → Before a b
before_from a b h =
    elim (not_greater a.indom b.indom (nat_cmp a.indom b.indom) (ordering_then (nat_cmp a.from b.from) (nat_cmp a.at b.at)) (rank a.indom b.indom) (ap is_gt (sym (parts a b)) ∙ h)) [
      | inl lt ↦ inl lt
      | inr p ↦ inr (
        p.0,
        elim (not_greater a.from b.from (nat_cmp a.from b.from) (nat_cmp a.at b.at) (rank a.from b.from) p.1) [
          | inl lt ↦ inl lt
          | inr q ↦ inr (q.0, at_most a.at b.at (nat_cmp a.at b.at) (rank a.at b.at) q.1)
        ],
      )
    ]

pub behind_from : (a b : Listing) → is_lt (moment_order a b) ≡ false → Before b a
behind_from a b h =
    elim (not_less a.indom b.indom (nat_cmp a.indom b.indom) (ordering_then (nat_cmp a.from b.from) (nat_cmp a.at b.at)) (rank a.indom b.indom) (ap is_lt (sym (parts a b)) ∙ h)) [
      | inl lt ↦ inl lt
      | inr p ↦ inr (
        sym p.0,
        elim (not_less a.from b.from (nat_cmp a.from b.from) (nat_cmp a.at b.at) (rank a.from b.from) p.1) [
          | inl lt ↦ inl lt
          | inr q ↦ inr (sym q.0, at_least a.at b.at (nat_cmp a.at b.at) (rank a.at b.at) q.1)
        ],
      )
    ]

-- an order that is at most equal
low : (x y : ℕ) (o : Ordering) → MatchOrdering o (x < y) (x ≡ y) (y < x) → x ≤ y → is_gt o ≡ false
low x y Less r h = refl
low x y Equal r h = refl
low x y Greater r h = absurd (omega arith)

low_then : (x y : ℕ) (o rest : Ordering) → MatchOrdering o (x < y) (x ≡ y) (y < x) → x ≤ y → is_gt rest ≡ false → is_gt (ordering_then o rest) ≡ false
low_then x y Less rest r h more = refl
low_then x y Equal rest r h more = more
low_then x y Greater rest r h more = absurd (omega arith)

-- within one domain, what is no later and stands no further behind is no greater
pub not_greater_at : (indom : ℕ) (s t i k : ℕ) → s ≤ t → i ≤ k → is_gt (moment_order (listing indom s i) (listing indom t k)) ≡ false
not_greater_at indom s t i k a b =
    ap is_gt (parts (listing indom s i) (listing indom t k)) ∙ low_then indom indom (nat_cmp indom indom) (ordering_then (nat_cmp s t) (nat_cmp i k)) (rank indom indom) (omega arith)
    (low_then s t (nat_cmp s t) (nat_cmp i k) (rank s t) a (low i k (nat_cmp i k) (rank i k) b))

tied : (a b : ℕ) → is_eq (nat_cmp a b) ≡ nat_eq a b
tied a b = sym (unsigned_ties a b)

eq_then : (o rest : Ordering) → is_eq (ordering_then o rest) ≡ (is_eq o && is_eq rest)
eq_then Less rest = refl
eq_then Equal rest = refl
eq_then Greater rest = refl

pub same_entry : (a b : Listing) → is_eq (moment_order a b) ≡ (nat_eq a.indom b.indom && (nat_eq a.from b.from && nat_eq a.at b.at))
same_entry a b =
    ap is_eq (parts a b) ∙ eq_then (nat_cmp a.indom b.indom) (ordering_then (nat_cmp a.from b.from) (nat_cmp a.at b.at)) ∙ ap (λ x. x && is_eq (ordering_then (nat_cmp a.from b.from) (nat_cmp a.at b.at))) (tied a.indom b.indom)
    ∙ ap (λ x. nat_eq a.indom b.indom && x) (eq_then (nat_cmp a.from b.from) (nat_cmp a.at b.at) ∙ ap (λ x. x && is_eq (nat_cmp a.at b.at)) (tied a.from b.from) ∙ ap (λ x. nat_eq a.from b.from && x) (tied a.at b.at))

-- ---- one record more or less

get_front : (records : List MetaRecord) (r : MetaRecord) (k : ℕ) → k < length records → slice_get (records ++ r ∷ []) k ≡ slice_get records k
get_front [] r k h = absurd (omega arith)
get_front (x ∷ records) r zero h = refl
get_front (x ∷ records) r (suc k) h = get_front records r k (omega arith)

get_end : (records : List MetaRecord) (r : MetaRecord) → slice_get (records ++ r ∷ []) (length records) ≡ Some r
get_end [] r = refl
get_end (x ∷ records) r = get_end records r

pub get_past : (records : List MetaRecord) (k : ℕ) → length records ≤ k → slice_get records k ≡ None
get_past [] k h = refl
get_past (x ∷ records) zero h = absurd (omega arith)
get_past (x ∷ records) (suc k) h = get_past records k (omega arith)

stamped_push : (records : List MetaRecord) (r : MetaRecord) (indom time k : ℕ) (b : Bool) → nat_eq (length records) k ≡ b
    → stamped_at indom time (slice_get (records ++ r ∷ []) k) ≡ cond b (is_stamped indom time r) (stamped_at indom time (slice_get records k))
stamped_push records r indom time k true e = ap (λ n. stamped_at indom time (slice_get (records ++ r ∷ []) n)) (sym (eqb-true (length records) k e)) ∙ ap (stamped_at indom time) (get_end records r)
stamped_push records r indom time k false e =
    elim (cases_lt k (length records)) [
      | inl lt ↦ ap (stamped_at indom time) (get_front records r k lt)
      | inr le ↦ let ne : length records ≡ k → ⊥ = eqb-false (length records) k e in
          ap (stamped_at indom time) (get_past (records ++ r ∷ []) k (omega (arith, length-append records (r ∷ [])))) ∙ sym (ap (stamped_at indom time) (get_past records k le))
    ]

-- a record that isn't a domain's
pub moments_other : (old new : BTreeSet Listing) (records : List MetaRecord) (r : MetaRecord) → new.keys ≡ old.keys → ((indom time : ℕ) → is_stamped indom time r ≡ false) → HasMoments old records → HasMoments new (records ++ r ∷ [])
moments_other old new records r same never h indom time at =
    ap (λ ks. contains moment_order (record { keys = ks }) (listing indom time at)) same ∙ h indom time at ∙ by (nat_eq (length records) at) refl
  where
    by : (b : Bool) → nat_eq (length records) at ≡ b → stamped_at indom time (slice_get records at) ≡ stamped_at indom time (slice_get (records ++ r ∷ []) at)
    by true e = ap (stamped_at indom time) (get_past records at (let s : length records ≡ at = eqb-true (length records) at e in omega arith)) ∙ sym (stamped_push records r indom time at true e ∙ never indom time)
    by false e = sym (stamped_push records r indom time at false e)

pub moments_other_less : (old new : BTreeSet Listing) (records : List MetaRecord) (r : MetaRecord) → new.keys ≡ old.keys → ((indom time : ℕ) → is_stamped indom time r ≡ false) → HasMoments old (records ++ r ∷ []) → HasMoments new records
moments_other_less old new records r same never h indom time at =
    ap (λ ks. contains moment_order (record { keys = ks }) (listing indom time at)) same ∙ h indom time at ∙ by (nat_eq (length records) at) refl
  where
    by : (b : Bool) → nat_eq (length records) at ≡ b → stamped_at indom time (slice_get (records ++ r ∷ []) at) ≡ stamped_at indom time (slice_get records at)
    by true e = stamped_push records r indom time at true e ∙ never indom time ∙ sym (ap (stamped_at indom time) (get_past records at (let s : length records ≡ at = eqb-true (length records) at e in omega arith)))
    by false e = stamped_push records r indom time at false e

all_of : (x y : Bool) → cond (x && (y && true)) true false ≡ (x && y)
all_of true true = refl
all_of true false = refl
all_of false y = refl

not_all : {A : Type 0} (x y : Bool) (a b : A) → cond (x && (y && false)) a b ≡ b
not_all true true a b = refl
not_all true false a b = refl
not_all false y a b = refl

taken : (x y : Bool) → cond (x && (y && true)) false (x && y) ≡ false
taken true true = refl
taken true false = refl
taken false y = refl

module _ (old new : BTreeSet Listing) (records : List MetaRecord) (t : Moment) (indom : ℕ) (pairs : List (ℤ × List ℕ)) (at : ℕ) (here : length records ≡ at) where
  none_here : (i time k : ℕ) → nat_eq (length records) k ≡ true → stamped_at i time (slice_get records k) ≡ false
  none_here i time k e = ap (stamped_at i time) (get_past records k (let s : length records ≡ k = eqb-true (length records) k e in omega arith))

  test : (i time k : ℕ) → is_eq (moment_order (listing indom (microseconds t) at) (listing i time k)) ≡ (nat_eq indom i && (nat_eq (microseconds t) time && nat_eq (length records) k))
  test i time k = same_entry (listing indom (microseconds t) at) (listing i time k) ∙ ap (λ n. nat_eq indom i && (nat_eq (microseconds t) time && nat_eq n k)) (sym here)

  pub moments_more : ((q : Listing) → contains moment_order new q ≡ cond (is_eq (moment_order (listing indom (microseconds t) at) q)) true (contains moment_order old q)) → HasMoments old records → HasMoments new (records ++ Domain t indom pairs ∷ [])
  moments_more added h i time k = added (listing i time k) ∙ ap (λ b. cond b true (contains moment_order old (listing i time k))) (test i time k) ∙ by (nat_eq (length records) k) refl
    where
      by : (b : Bool) → nat_eq (length records) k ≡ b → cond (nat_eq indom i && (nat_eq (microseconds t) time && b)) true (contains moment_order old (listing i time k)) ≡ stamped_at i time (slice_get (records ++ Domain t indom pairs ∷ []) k)
      by true e = ap (cond (nat_eq indom i && (nat_eq (microseconds t) time && true)) true) (h i time k ∙ none_here i time k e) ∙ all_of (nat_eq indom i) (nat_eq (microseconds t) time)
          ∙ sym (stamped_push records (Domain t indom pairs) i time k true e)
      by false e = not_all (nat_eq indom i) (nat_eq (microseconds t) time) true (contains moment_order old (listing i time k)) ∙ h i time k ∙ sym (stamped_push records (Domain t indom pairs) i time k false e)

  pub moments_less : ((q : Listing) → contains moment_order new q ≡ cond (is_eq (moment_order (listing indom (microseconds t) at) q)) false (contains moment_order old q)) → HasMoments old (records ++ Domain t indom pairs ∷ []) → HasMoments new records
  moments_less removed h i time k = removed (listing i time k) ∙ ap (λ b. cond b false (contains moment_order old (listing i time k))) (test i time k) ∙ by (nat_eq (length records) k) refl
    where
      by : (b : Bool) → nat_eq (length records) k ≡ b → cond (nat_eq indom i && (nat_eq (microseconds t) time && b)) false (contains moment_order old (listing i time k)) ≡ stamped_at i time (slice_get records k)
      by true e = ap (cond (nat_eq indom i && (nat_eq (microseconds t) time && true)) false) (h i time k ∙ stamped_push records (Domain t indom pairs) i time k true e) ∙ taken (nat_eq indom i) (nat_eq (microseconds t) time)
          ∙ sym (none_here i time k e)
      by false e = not_all (nat_eq indom i) (nat_eq (microseconds t) time) false (contains moment_order old (listing i time k)) ∙ h i time k ∙ stamped_push records (Domain t indom pairs) i time k false e

-- ---- the last entry

abbrev greatest_position : ℕ
greatest_position = 4294967295

module _ (moments : BTreeSet Listing) (indom time : ℕ) where
  in_bound : (other position : ℕ) → other ≤ time → position < 4294967296 → is_gt (moment_order (listing indom other position) (listing indom time greatest_position)) ≡ false
  in_bound other position le few = not_greater_at indom other time position greatest_position le (omega arith)

  module _ (key : Listing) (low_enough : is_gt (moment_order key (listing indom time greatest_position)) ≡ false)
      (greatest : (q : Listing) → is_gt (moment_order q (listing indom time greatest_position)) ≡ false → contains moment_order moments q ≡ true → is_lt (moment_order key q) ≡ false) where
    pub is_last : contains moment_order moments key ≡ true → key.indom ≡ indom → IsLastEntry moments indom time key.at
    is_last there same = record {
      from = key.from;
      there = subst (λ i. contains moment_order moments (listing i key.from key.at) ≡ true) same there;
      not_after = elim (before_from key (listing indom time greatest_position) low_enough) [ inl lt ↦ absurd (omega arith) | inr p ↦ elim p.1 [ inl lt ↦ omega arith | inr q ↦ omega arith ] ];
      last = λ other position is le few. elim (behind_from key (listing indom other position) (greatest (listing indom other position) (in_bound other position le few) is)) [ inl lt ↦ absurd (omega arith) | inr p ↦ p.1 ];
    }

    pub is_none : (key.indom ≡ indom → ⊥) → HasNoEntry moments indom time
    is_none other_domain other position is le few =
        elim (behind_from key (listing indom other position) (greatest (listing indom other position) (in_bound other position le few) is)) [
          | inl lt ↦ elim (before_from key (listing indom time greatest_position) low_enough) [ inl less ↦ omega arith | inr p ↦ other_domain p.0 ]
          | inr p ↦ other_domain (sym p.0)
        ]

  pub nothing_there : ((q : Listing) → is_gt (moment_order q (listing indom time greatest_position)) ≡ false → contains moment_order moments q ≡ false) → HasNoEntry moments indom time
  nothing_there none other position is le few = let both : true ≡ false = sym is ∙ none (listing indom other position) (in_bound other position le few) in cc

-- ---- what holds at a moment

record Stamped (records : List MetaRecord) (indom time at : ℕ) : Type 0 where
  from : Moment
  pairs : List (ℤ × List ℕ)
  is : slice_get records at ≡ Some (Domain from indom pairs)
  stamp : microseconds from ≡ time

both_true : (x y : Bool) → (x && y) ≡ true → (x ≡ true) × (y ≡ true)
both_true true y e = (refl, e)
both_true false y e = absurd cc

stamped : (records : List MetaRecord) (indom time at : ℕ) → stamped_at indom time (slice_get records at) ≡ true → Stamped records indom time at
stamped records indom time at h = by (slice_get records at) refl h
  where
    by : (o : Option MetaRecord) → slice_get records at ≡ o → stamped_at indom time o ≡ true → Stamped records indom time at
    by None e f = absurd cc
    by (Some (Description d names)) e f = absurd cc
    by (Some (Domain t i pairs)) e f =
        let p = both_true (nat_eq i indom) (nat_eq (microseconds t) time) f in
        record {
          from = t;
          pairs = pairs;
          is = e ∙ ap (λ n. Some (Domain t n pairs)) (eqb-true i indom p.0);
          stamp = eqb-true (microseconds t) time p.1;
        }
    by (Some Other) e f = absurd cc

each_from : (indom : ℕ) (P : Moment → Type 0) (records : List MetaRecord) → ((k : ℕ) (t : Moment) (pairs : List (ℤ × List ℕ)) → slice_get records k ≡ Some (Domain t indom pairs) → P t) → EachStamp indom P records
each_from indom P [] h = tt
each_from indom P (Description d names ∷ records) h = each_from indom P records (λ k t pairs e. h (suc k) t pairs e)
each_from indom P (Domain t i pairs ∷ records) h = (λ same. h 0 t pairs (ap (λ n. Some (Domain t n pairs)) same), each_from indom P records (λ k u ps e. h (suc k) u ps e))
each_from indom P (Other ∷ records) h = each_from indom P records (λ k t pairs e. h (suc k) t pairs e)

split_at : (records : List MetaRecord) (k : ℕ) (r : MetaRecord) → slice_get records k ≡ Some r → records ≡ take k records ++ r ∷ drop (suc k) records
split_at [] k r e = absurd cc
split_at (x ∷ records) zero r e = ap (λ y. y ∷ records) (let same : x ≡ r = cc in same)
split_at (x ∷ records) (suc k) r e = ap (λ l. x ∷ l) (split_at records k r e)

within : (records : List MetaRecord) (k : ℕ) (r : MetaRecord) → slice_get records k ≡ Some r → k < length records
within [] k r e = absurd cc
within (x ∷ records) zero r e = omega arith
within (x ∷ records) (suc k) r e = let less : k < length records = within records k r e in omega arith

get_take : (records : List MetaRecord) (k j : ℕ) (r : MetaRecord) → slice_get (take k records) j ≡ Some r → slice_get records j ≡ Some r
get_take records zero j r e = absurd cc
get_take [] (suc k) j r e = absurd cc
get_take (x ∷ records) (suc k) zero r e = e
get_take (x ∷ records) (suc k) (suc j) r e = get_take records k j r e

get_drop : (records : List MetaRecord) (n j m : ℕ) (r : MetaRecord) → m ≡ n + j → slice_get (drop n records) j ≡ Some r → slice_get records m ≡ Some r
get_drop records zero j m r same e = subst (λ i. slice_get records i ≡ Some r) (let s : j ≡ m = omega arith in s) e
get_drop [] (suc n) j m r same e = absurd cc
get_drop (x ∷ records) (suc n) j zero r same e = absurd (omega arith)
get_drop (x ∷ records) (suc n) j (suc m) r same e = get_drop records n j m r (omega arith) e

middle : (xs ys : List MetaRecord) (r : MetaRecord) → slice_get (xs ++ r ∷ ys) (length xs) ≡ Some r
middle [] ys r = refl
middle (x ∷ xs) ys r = middle xs ys r

module _ (records : List MetaRecord) (moments : BTreeSet Listing) (indom : ℕ) (t : Moment) (has : HasMoments moments records) (few : length records < 4294967296) where
  entry_of : (k : ℕ) (s : Moment) (pairs : List (ℤ × List ℕ)) → slice_get records k ≡ Some (Domain s indom pairs) → contains moment_order moments (listing indom (microseconds s) k) ≡ true
  entry_of k s pairs e = has indom (microseconds s) k ∙ ap (stamped_at indom (microseconds s)) e
      ∙ ap (λ b. b && nat_eq (microseconds s) (microseconds s)) (eq-eqb indom indom refl) ∙ eq-eqb (microseconds s) (microseconds s) refl

  holds : (k : ℕ) → (e : IsLastEntry moments indom (microseconds t) k) → (s : Stamped records indom e.from k) → HoldsAt records indom t s.pairs
  holds k e s =
      let stamp : microseconds s.from ≡ e.from = s.stamp in
      let le : e.from ≤ microseconds t = e.not_after in
      record {
        stamp = s.from;
        not_after = omega arith;
        before = take k records;
        behind = drop (suc k) records;
        is = split_at records k (Domain s.from indom s.pairs) s.is;
        greatest = each_from indom (λ u. microseconds u ≤ microseconds t → microseconds u ≤ microseconds s.from) (take k records)
            (λ j u pairs f le. let there : slice_get records j ≡ Some (Domain u indom pairs) = get_take records k j (Domain u indom pairs) f in
            let low : j < length records = within records j (Domain u indom pairs) there in
            elim (e.last (microseconds u) j (entry_of j u pairs there) le (omega arith)) [ inl less ↦ omega arith | inr p ↦ omega arith ]);
        last = each_from indom (λ u. microseconds u ≤ microseconds t → microseconds u < microseconds s.from) (drop (suc k) records)
            (λ j u pairs f le. let there : slice_get records (suc k + j) ≡ Some (Domain u indom pairs) = get_drop records (suc k) j (suc k + j) (Domain u indom pairs) refl f in
            let low : suc k + j < length records = within records (suc k + j) (Domain u indom pairs) there in
            elim (e.last (microseconds u) (suc k + j) (entry_of (suc k + j) u pairs there) le (omega arith)) [ inl less ↦ omega arith | inr p ↦ absurd (omega arith) ]);
      }

  -- what stands in the last entry's place holds
  pub last_holds : (k : ℕ) (result : Option (List (ℤ × List ℕ))) → IsLastEntry moments indom (microseconds t) k → result ≡ pairs_of (slice_get records k)
      → MatchOption result ((pairs : List (ℤ × List ℕ)) → HoldsAt records indom t pairs → ⊥) (HoldsAt records indom t)
  last_holds k result e is =
      let s : Stamped records indom e.from k = stamped records indom e.from k (sym (has indom e.from k) ∙ e.there) in
      subst (λ o. MatchOption o ((pairs : List (ℤ × List ℕ)) → HoldsAt records indom t pairs → ⊥) (HoldsAt records indom t)) (sym (is ∙ ap pairs_of s.is)) (holds k e s)

  -- and where there is none, none holds
  pub none_holds : HasNoEntry moments indom (microseconds t) → (pairs : List (ℤ × List ℕ)) → HoldsAt records indom t pairs → ⊥
  none_holds none pairs h =
      let there : slice_get records (length h.before) ≡ Some (Domain h.stamp indom pairs) = ap (λ l. slice_get l (length h.before)) h.is ∙ middle h.before h.behind (Domain h.stamp indom pairs) in
      let low : length h.before < length records = within records (length h.before) (Domain h.stamp indom pairs) there in
      none (microseconds h.stamp) (length h.before) (entry_of (length h.before) h.stamp pairs there) h.not_after (omega arith)
