-- Maps that keep the first of each key.
use Rattle.std.proofs.Common.{◌≡◌, ℕ, ℤ, ◌+◌, ◌<◌, Bool, true, false, cond, List, [], ◌∷◌, ◌++◌, length, take, get_or, ap, sym, subst, ◌∙◌, refl, arith, nat_eq, Option, Some, None, is_some}
use Rattle.std.specs.List.{list_any, position}
use Rattle.std.specs.Cmp.{unsigned_ties}
use Rattle.std.specs.Ordering.{nat_cmp, int_cmp, int_eq, is_eq}
use Rattle.std.specs.BTreeMap.{BTreeMap, get}
use Rattle.std.proofs.lemmas.Bool.{eqb-true}
use Rattle.std.proofs.lemmas.Bool.Decides.{Decides-int_eq}
use Rattle.std.proofs.lemmas.List.{take_more, length-take-le}
use Rattle.mmv_writer.specs.Tables.{kept_or}
use Rattle.mmv_writer.proofs.Firsts.{position_snoc, position_some}

module _ {K X : Type 0} (same : K → K → Bool) (sound : (a b : K) → same a b ≡ true → a ≡ b) where
  -- a key of which something is kept
  there : (old : K → Option X) (key : K) (y : X) → is_some (old key) ≡ true → (q : K) → old q ≡ kept_or (old q) (same key q) y
  there old key y some q = here (old q) (same key q) refl refl
    where
      here : (o : Option X) (b : Bool) → old q ≡ o → same key q ≡ b → o ≡ kept_or o b y
      here (Some x) b e f = refl
      here None false e f = refl
      here None true e f = let gone : is_some (old key) ≡ false = ap (λ k. is_some (old k)) (sound key q f) ∙ ap is_some e in cc

  -- a key of which nothing is kept
  new : (old later : K → Option X) (key : K) (y : X) → is_some (old key) ≡ false → ((q : K) → later q ≡ cond (same key q) (Some y) (old q)) → (q : K) → later q ≡ kept_or (old q) (same key q) y
  new old later key y none put q = put q ∙ here (old q) (same key q) refl refl
    where
      here : (o : Option X) (b : Bool) → old q ≡ o → same key q ≡ b → cond b (Some y) o ≡ kept_or o b y
      here None b e f = refl
      here (Some x) false e f = refl
      here (Some x) true e f = let some : is_some (old key) ≡ true = ap (λ k. is_some (old k)) (sound key q f) ∙ ap is_some e in cc

pub key_there : {X : Type 0} (m : BTreeMap ℕ X) (key : ℕ) (y : X) → is_some (get nat_cmp m key) ≡ true → (q : ℕ) → get nat_cmp m q ≡ kept_or (get nat_cmp m q) (nat_eq key q) y
key_there m key y some q = there nat_eq eqb-true (get nat_cmp m) key y some q

pub key_new : {X : Type 0} (m n : BTreeMap ℕ X) (key : ℕ) (y : X) → is_some (get nat_cmp m key) ≡ false → ((q : ℕ) → get nat_cmp n q ≡ cond (is_eq (nat_cmp key q)) (Some y) (get nat_cmp m q)) → (q : ℕ) → get nat_cmp n q ≡ kept_or (get nat_cmp m q) (nat_eq key q) y
key_new m n key y none put q = new nat_eq eqb-true (get nat_cmp m) (get nat_cmp n) key y none (λ p. put p ∙ ap (λ b. cond b (Some y) (get nat_cmp m p)) (sym (unsigned_ties key p))) q

pub number_there : {X : Type 0} (m : BTreeMap ℤ X) (key : ℤ) (y : X) → is_some (get int_cmp m key) ≡ true → (q : ℤ) → get int_cmp m q ≡ kept_or (get int_cmp m q) (int_eq key q) y
number_there m key y some q = there int_eq (λ a b. (Decides-int_eq a b).0) (get int_cmp m) key y some q

pub number_new : {X : Type 0} (m n : BTreeMap ℤ X) (key : ℤ) (y : X) → is_some (get int_cmp m key) ≡ false → ((q : ℤ) → get int_cmp n q ≡ cond (is_eq (int_cmp key q)) (Some y) (get int_cmp m q)) → (q : ℤ) → get int_cmp n q ≡ kept_or (get int_cmp m q) (int_eq key q) y
number_new m n key y none put q = new int_eq (λ a b. (Decides-int_eq a b).0) (get int_cmp m) (get int_cmp n) key y none put q

-- The first of the rows that a loop has passed, and of one more.

module _ {T X : Type 0} (R : Option X → Option ℕ → Type 0) (test : T → Bool) where
  pub first_more : (rows : List T) (i : ℕ) (x : T) (y : X) (old later : Option X) → i < length rows → x ≡ get_or rows i x → ((n : ℕ) → R None (Some n) → ⊥) → ((z : X) → R (Some z) None → ⊥) → R None None → R (Some y) (Some i)
      → R old (position test (take i rows)) → later ≡ kept_or old (test x) y → R later (position test (take (i + 1) rows))
  first_more rows i x y old later below is one two none put was e =
      let grown : position test (take (i + 1) rows) ≡ cond (list_any test (take i rows)) (position test (take i rows)) (cond (test x) (Some i) None) =
      ap (position test) (take_more rows i x below) ∙ ap (λ z. position test (take i rows ++ z ∷ [])) (sym is) ∙ position_snoc test (take i rows) x
      ∙ ap (λ n. cond (list_any test (take i rows)) (position test (take i rows)) (cond (test x) (Some n) None)) (length-take-le i rows (omega arith)) in
      subst (R later) (sym grown) (subst (λ o. R o (cond (list_any test (take i rows)) (position test (take i rows)) (cond (test x) (Some i) None))) (sym e)
      (here old (position test (take i rows)) (list_any test (take i rows)) (test x) (sym (position_some test (take i rows))) was))
    where
      here : (o : Option X) (p : Option ℕ) (a b : Bool) → a ≡ is_some p → R o p → R (kept_or o b y) (cond a p (cond b (Some i) None))
      here None None true b h r = cc
      here None None false true h r = put
      here None None false false h r = none
      here None (Some n) a b h r = absurd (one n r)
      here (Some z) None a b h r = absurd (two z r)
      here (Some z) (Some n) true b h r = r
      here (Some z) (Some n) false b h r = cc
