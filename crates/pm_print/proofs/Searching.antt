-- Where an instance stands among those whose numbers rise.
use Rattle.std.proofs.Common.{◌≡◌, ℕ, zero, suc, ◌+◌, w32, to_z, of_z, ℤ, pos, ◌-ℤ◌, Bool, true, false, cond, List, [], ◌∷◌, drop, refl, sym, ap, ◌∙◌, arith, Option, Some, None, slice_get, option_map}
use Rattle.std.specs.Prelude.{int_lt, int_le}
use Rattle.std.specs.Ordering.{int_eq}
use Rattle.std.proofs.Math.Seq.{drop-cons}
use Rattle.std.proofs.lemmas.Option.{slice_get_within, get_or_from_slice_get}
use Rattle.std.proofs.lemmas.Int.{ints}
use Rattle.pm_print.specs.Holding.{Pairs}
use Rattle.pm_print.specs.Rising.{rises, rises_above}
use Rattle.pm_print.specs.Sets.{position_in}

-- the order

lt_lt : (a b c : ℤ) → int_lt a b ≡ true → int_lt b c ≡ true → int_lt a c ≡ true
lt_lt a b c h k = grind (arith, ints)

lt_apart : (a b : ℤ) → int_lt a b ≡ true → int_eq a b ≡ false
lt_apart a b h = grind (arith, ints)

gt_apart : (a b : ℤ) → int_lt b a ≡ true → int_eq a b ≡ false
gt_apart a b h = grind (arith, ints)

eq_same : (a : ℤ) → int_eq a a ≡ true
eq_same a = grind (arith, ints)

-- the first of them and the others
risen : (b : ℤ) (p : ℤ × List ℕ) (pairs : Pairs) → rises_above b (p ∷ pairs) ≡ true → (int_lt b p.0 ≡ true) × (rises_above p.0 pairs ≡ true)
risen b p pairs h = by (int_lt b p.0) refl h
  where
    by : (c : Bool) → int_lt b p.0 ≡ c → cond c (rises_above p.0 pairs) false ≡ true → (int_lt b p.0 ≡ true) × (rises_above p.0 pairs ≡ true)
    by true e f = (e, f)
    by false e f = absurd cc

-- each of them is above the bound
above : (b : ℤ) (pairs : Pairs) (k : ℕ) (p : ℤ × List ℕ) → rises_above b pairs ≡ true → slice_get pairs k ≡ Some p → int_lt b p.0 ≡ true
above b [] k p h e = absurd cc
above b (q ∷ pairs) zero p h e = let same : q ≡ p = cc in ap (λ (x : ℤ × List ℕ). int_lt b x.0) (sym same) ∙ (risen b q pairs h).0
above b (q ∷ pairs) (suc k) p h e = lt_lt b q.0 p.0 (risen b q pairs h).0 (above q.0 pairs k p (risen b q pairs h).1 e)

-- one of another number is passed over
passed_one : (q : ℤ × List ℕ) (pairs : Pairs) (n : ℤ) (base : ℕ) → int_eq q.0 n ≡ false → position_in base (q ∷ pairs) n ≡ position_in (suc base) pairs n
passed_one q pairs n base e = ap (λ (c : Bool). cond c (Some base) (position_in (suc base) pairs n)) e

-- what has the number is the first that has it
here_above : (b : ℤ) (pairs : Pairs) (k : ℕ) (p : ℤ × List ℕ) (base : ℕ) → rises_above b pairs ≡ true → slice_get pairs k ≡ Some p → position_in base pairs p.0 ≡ Some (base + k)
here_above b [] k p base h e = absurd cc
here_above b (q ∷ pairs) zero p base h e =
    let same : q ≡ p = cc in
    ap (λ (x : ℤ × List ℕ). cond (int_eq q.0 x.0) (Some base) (position_in (suc base) pairs x.0)) (sym same) ∙ ap (λ (c : Bool). cond c (Some base) (position_in (suc base) pairs q.0)) (eq_same q.0) ∙ ap (λ k. Some k) (omega arith)
here_above b (q ∷ pairs) (suc k) p base h e =
    passed_one q pairs p.0 base (lt_apart q.0 p.0 (above q.0 pairs k p (risen b q pairs h).1 e))
    ∙ here_above q.0 pairs k p (suc base) (risen b q pairs h).1 e ∙ ap (λ k. Some k) (omega arith)

-- none of those that rise from a number on has it
none_from : (b n : ℤ) (pairs : Pairs) (base : ℕ) → rises_above b pairs ≡ true → int_le n b ≡ true → position_in base pairs n ≡ None
none_from b n [] base h le = refl
none_from b n (q ∷ pairs) base h le =
    passed_one q pairs n base (later b n q.0 le (risen b q pairs h).0) ∙ none_from q.0 n pairs (suc base) (risen b q pairs h).1 (weak b n q.0 le (risen b q pairs h).0)
  where
    later : (b n q : ℤ) → int_le n b ≡ true → int_lt b q ≡ true → int_eq q n ≡ false
    later b n q le lt = grind (arith, ints)

    weak : (b n q : ℤ) → int_le n b ≡ true → int_lt b q ≡ true → int_le n q ≡ true
    weak b n q le lt = grind (arith, ints)

-- the number is behind one that is below it
behind_above : (b n : ℤ) (pairs : Pairs) (k : ℕ) (p : ℤ × List ℕ) (base : ℕ) → rises_above b pairs ≡ true → slice_get pairs k ≡ Some p → int_lt p.0 n ≡ true → position_in base pairs n ≡ position_in (base + suc k) (drop (suc k) pairs) n
behind_above b n [] k p base h e lt = absurd cc
behind_above b n (q ∷ pairs) zero p base h e lt =
    let same : q ≡ p = cc in
    passed_one q pairs n base (lt_apart q.0 n (ap (λ (x : ℤ × List ℕ). int_lt x.0 n) same ∙ lt)) ∙ ap (λ k. position_in k pairs n) (omega arith)
behind_above b n (q ∷ pairs) (suc k) p base h e lt =
    passed_one q pairs n base (lt_apart q.0 n (lt_lt q.0 p.0 n (above q.0 pairs k p (risen b q pairs h).1 e) lt))
    ∙ behind_above q.0 n pairs k p (suc base) (risen b q pairs h).1 e lt ∙ ap (λ m. position_in m (drop (suc k) pairs) n) (omega arith)

-- and not behind one that is above it
before_above : (b n : ℤ) (pairs : Pairs) (k : ℕ) (p : ℤ × List ℕ) (base : ℕ) → rises_above b pairs ≡ true → slice_get pairs k ≡ Some p → int_lt n p.0 ≡ true → position_in base (drop k pairs) n ≡ None
before_above b n [] k p base h e lt = absurd cc
before_above b n (q ∷ pairs) zero p base h e lt =
    let same : q ≡ p = cc in
    let first : int_lt n q.0 ≡ true = ap (λ (x : ℤ × List ℕ). int_lt n x.0) same ∙ lt in
    passed_one q pairs n base (gt_apart q.0 n first) ∙ none_from q.0 n pairs (suc base) (risen b q pairs h).1 (weak n q.0 first)
  where
    weak : (a b : ℤ) → int_lt a b ≡ true → int_le a b ≡ true
    weak a b h = grind (arith, ints)
before_above b n (q ∷ pairs) (suc k) p base h e lt = before_above q.0 n pairs k p base (risen b q pairs h).1 e lt

-- a list that rises does so above a number
bounded : (pairs : Pairs) → rises pairs ≡ true → (b : ℤ) × (rises_above b pairs ≡ true)
bounded [] h = (pos 0, refl)
bounded (p ∷ pairs) h = (p.0 -ℤ pos 1, ap (λ (c : Bool). cond c (rises_above p.0 pairs) false) (less p.0) ∙ h)
  where
    less : (n : ℤ) → int_lt (n -ℤ pos 1) n ≡ true
    less n = grind (arith, ints)

-- the instance of which a number is told
told : (pairs : Pairs) (k : ℕ) (m : ℤ) → Some m ≡ option_map (λ p. p.0) (slice_get pairs k) → (p : ℤ × List ℕ) × (slice_get pairs k ≡ Some p) × (p.0 ≡ m)
told pairs k m e = by (slice_get pairs k) refl e
  where
    by : (x : Option (ℤ × List ℕ)) → slice_get pairs k ≡ x → Some m ≡ option_map (λ p. p.0) x → (p : ℤ × List ℕ) × (slice_get pairs k ≡ Some p) × (p.0 ≡ m)
    by None is f = absurd cc
    by (Some p) is f = (p, is, cc)

pub is_here : (pairs : Pairs) (k : ℕ) (m n : ℤ) → rises pairs ≡ true → Some m ≡ option_map (λ p. p.0) (slice_get pairs k) → m ≡ n → position_in 0 pairs n ≡ Some k
is_here pairs k m n h e same =
    let (b, above_it) = bounded pairs h in
    let (p, is, number) = told pairs k m e in
    ap (position_in 0 pairs) (sym same ∙ sym number) ∙ here_above b pairs k p 0 above_it is ∙ ap (λ i. Some i) (omega arith)

pub is_behind : (pairs : Pairs) (k : ℕ) (m n : ℤ) → rises pairs ≡ true → Some m ≡ option_map (λ p. p.0) (slice_get pairs k) → int_lt m n ≡ true → position_in 0 pairs n ≡ position_in (suc k) (drop (suc k) pairs) n
is_behind pairs k m n h e less =
    let (b, above_it) = bounded pairs h in
    let (p, is, number) = told pairs k m e in
    behind_above b n pairs k p 0 above_it is (ap (λ i. int_lt i n) number ∙ less) ∙ ap (λ i. position_in i (drop (suc k) pairs) n) (omega arith)

pub is_before : (pairs : Pairs) (k : ℕ) (m n : ℤ) → rises pairs ≡ true → Some m ≡ option_map (λ p. p.0) (slice_get pairs k) → int_lt m n ≡ false → (m ≡ n → ⊥) → position_in k (drop k pairs) n ≡ None
is_before pairs k m n h e less apart =
    let (b, above_it) = bounded pairs h in
    let (p, is, number) = told pairs k m e in
    before_above b n pairs k p k above_it is (ap (int_lt n) number ∙ tested m n less apart)
  where
    tested : (m n : ℤ) → int_lt m n ≡ false → (m ≡ n → ⊥) → int_lt n m ≡ true
    tested m n less apart = grind (arith, ints)

-- the numbers rise as far as they were looked at: one more, and the end
pub one_more : (pairs : Pairs) (k : ℕ) (b m : ℤ) → Some m ≡ option_map (λ p. p.0) (slice_get pairs k) → rises_above b (drop k pairs) ≡ cond (int_lt b m) (rises_above m (drop (suc k) pairs)) false
one_more pairs k b m e =
    let (p, is, number) = told pairs k m e in
    let front : drop k pairs ≡ p ∷ drop (suc k) pairs =
    drop-cons pairs k p (slice_get_within pairs k p is) ∙ ap (λ q. q ∷ drop (suc k) pairs) (get_or_from_slice_get pairs k p p is) in
    ap (rises_above b) front ∙ ap (λ i. cond (int_lt b i) (rises_above i (drop (suc k) pairs)) false) number

pub at_first : (pairs : Pairs) (m : ℤ) → Some m ≡ option_map (λ p. p.0) (slice_get pairs 0) → rises pairs ≡ rises_above m (drop 1 pairs)
at_first [] m e = absurd cc
at_first (p ∷ pairs) m e = let number : p.0 ≡ m = cc in ap (λ i. rises_above i pairs) number

pub at_none : (pairs : Pairs) → None ≡ option_map (λ (p : ℤ × List ℕ). p.0) (slice_get pairs 0) → rises pairs ≡ true
at_none [] e = refl
at_none (p ∷ pairs) e = absurd cc

-- numbers of 32 bits that have the same bits
pub same_bits : (m n : ℤ) → to_z w32 (of_z w32 m) ≡ m → to_z w32 (of_z w32 n) ≡ n → of_z w32 m ≡ of_z w32 n → m ≡ n
same_bits m n e f same = sym e ∙ ap (to_z w32) same ∙ f
