-- What was taken, by what it was taken of.
use Rattle.std.proofs.Common.{◌≡◌, ◌≢◌, ℕ, ◌+◌, one-add, ◌==◌, cond, Bool, true, false, List, [], ◌∷◌, take, drop, refl, sym, ap, ◌∙◌, subst, Option, Some, None, All}
use mathlib.Core.Logic.{◌⊎◌, inl, inr}
use Rattle.std.proofs.lemmas.Bool.{cond_both, eqb-false}
use Rattle.std.proofs.lemmas.List.Elements.{All-nil, All-cons, All-drop, All-take}
use Rattle.text_lines.specs.Laws.{IsLineByte, TakesOnly}
use Rattle.text_lines.specs.Numbers.{◌>>=◌}
use Rattle.text_lines.specs.Words.{word_length, first_word, behind_word, take_space, take_word, take_as}
use Rattle.text_lines.proofs.Splitting.{IsWord}

-- two steps, of which both gave something
pub both_steps : {A B : Type 0} (found : Option A) (next : A → Option B) (y : B) → found >>= next ≡ Some y → (x : A) × (found ≡ Some x) × (next x ≡ Some y)
both_steps None next y e = cc
both_steps (Some x) next y e = (x, refl, e)

-- a test that passed
pub passed : {A : Type 0} (test : Bool) (x y : A) → cond test (Some x) None ≡ Some y → (test ≡ true) × (x ≡ y)
passed true x y e = (refl, cc)
passed false x y e = cc

pub passed_to : {A : Type 0} (test : Bool) (x : Option A) (y : A) → cond test x None ≡ Some y → (test ≡ true) × (x ≡ Some y)
passed_to true x y e = (refl, e)
passed_to false x y e = cc

-- one of two ways
pub either : {A : Type 0} (test : Bool) (x y z : A) → cond test x y ≡ z → ((test ≡ true) × (x ≡ z)) ⊎ ((test ≡ false) × (y ≡ z))
either true x y z e = inl (refl, e)
either false x y z e = inr (refl, e)

pub none_some : {A : Type 0} (x : A) → None ≡ Some x → ⊥
none_some x e = cc

pub same_some : {A : Type 0} (x y : A) → Some x ≡ Some y → x ≡ y
same_some x y e = cc

pub same_pair : {A B : Type 0} (a x : A) (b y : B) → ◌≡◌ {A = Option (A × B)} (Some (a, b)) (Some (x, y)) → (a ≡ x) × (b ≡ y)
same_pair {A} {B} a x b y e = let same : ◌≡◌ {A = A × B} (a, b) (x, y) = same_some (a, b) (x, y) e in (ap (λ (p : A × B). p.0) same, ap (λ (p : A × B). p.1) same)

-- what holds of a pair's parts holds of the same pair's
pub moved : {A B : Type 0} (P : A → Type 0) (Q : B → Type 0) (a x : A) (b y : B) → ◌≡◌ {A = Option (A × B)} (Some (a, b)) (Some (x, y)) → P a → Q b → P x × Q y
moved P Q a x b y e p q = let same = same_pair a x b y e in (subst P same.0 p, subst Q same.1 q)

word_is : (bytes : List ℕ) → IsWord (take (word_length bytes) bytes)
word_is [] = All-nil (λ b. b ≢ 32)
word_is (b ∷ bs) =
    cond_both (b == 32) 0 (1 + word_length bs) (λ n. IsWord (take n (b ∷ bs))) (λ _. All-nil (λ c. c ≢ 32))
    (λ e. subst (λ n. IsWord (take n (b ∷ bs))) (sym (one-add (word_length bs))) (All-cons (λ c. c ≢ 32) b (take (word_length bs) bs) (eqb-false b 32 e) (word_is bs)))

-- a space was taken
pub space_taken : (bytes left : List ℕ) (u : Unit {0}) → take_space bytes ≡ Some (u, left) → left ≡ drop 1 bytes
space_taken [] left u e = cc
space_taken (b ∷ bs) left u e = let t = passed (b == 32) (tt, bs) (u, left) e in sym (same_pair tt u bs left (ap Some t.1)).1

-- a word was read, and what stands behind it is left
pub record WasWord {X : Type 0} (read : List ℕ → Option X) (bytes left : List ℕ) (x : X) : Type 0 where
  pub word : List ℕ
  pub reads : read word ≡ Some x
  pub spaceless : IsWord word
  pub count : ℕ
  pub is : take count (drop 1 bytes) ≡ word
  pub behind : drop count (drop 1 bytes) ≡ left

pub word_taken : {X : Type 0} (read : List ℕ → Option X) (bytes left : List ℕ) (x : X) → take_as read bytes ≡ Some (x, left) → WasWord read bytes left x
unfolding take_as take_word first_word behind_word
word_taken read bytes left x e =
    let (w, worded, next) = both_steps (take_word bytes) (λ w. read w.0 >>= (λ y. Some (y, w.1))) (x, left) e in
    let (s, spaced, split) = both_steps (take_space bytes) (λ s. Some (first_word s.1, behind_word s.1)) w worded in
    let (y, reads, last) = both_steps (read w.0) (λ y. Some (y, w.1)) (x, left) next in
    let word = same_pair (first_word s.1) w.0 (behind_word s.1) w.1 split in
    let same = same_pair y x w.1 left last in
    let space : s.1 ≡ drop 1 bytes = space_taken bytes s.1 s.0 spaced in
    record {
      word = w.0;
      reads = reads ∙ ap Some same.0;
      spaceless = subst IsWord word.0 (word_is s.1);
      count = word_length s.1;
      is = ap (λ bs. take (word_length s.1) bs) (sym space) ∙ word.0;
      behind = ap (λ bs. drop (word_length s.1) bs) (sym space) ∙ word.1 ∙ same.1;
    }

-- the word's bytes are of those before
pub word_inside : {X : Type 0} (read : List ℕ → Option X) (bytes left : List ℕ) (x : X) (was : WasWord read bytes left x) (P : ℕ → Type 0) → All P bytes → All P was.word
word_inside read bytes left x was P h = subst (All P) was.is (All-take P was.count (drop 1 bytes) (All-drop P 1 bytes h))

-- a word that reads only what is of a kind
pub takes_as : {X : Type 0} (P : X → Type 0) (read : List ℕ → Option X) → ((word : List ℕ) (x : X) → read word ≡ Some x → P x) → TakesOnly P (take_as read)
takes_as P read p bytes left x h e =
    let was : WasWord read bytes left x = word_taken read bytes left x e in
    (p was.word x was.reads, subst (All IsLineByte) was.behind (All-drop IsLineByte was.count (drop 1 bytes) (All-drop IsLineByte 1 bytes h)))
