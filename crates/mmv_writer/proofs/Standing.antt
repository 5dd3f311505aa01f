-- Words that stand from a word on in an image, and the numbers and texts that are read there.
use Rattle.std.proofs.Common.{◌≡◌, ◌≢◌, ℕ, zero, suc, ◌+◌, ◌*◌, ◌/◌, ◌%◌, ◌^◌, ◌<◌, ◌≤◌, true, false, List, [], ◌∷◌, ◌++◌, length, take, drop, slice_index, ap, ap₂, sym, subst, ◌∙◌, refl, arith, add-zero, cond, nat_eq, length-append, Some, sum_by}
use Rattle.std.specs.List.{slice_get, flat_map}
use Rattle.std.specs.Int.{w64, from_le_bytes}
use Rattle.std.proofs.lemmas.Bool.{eq-eqb}
use Rattle.std.proofs.lemmas.Bool.Decides.{nat_tests}
use Rattle.std.proofs.lemmas.List.{get_or-take, get_or-drop}
use Rattle.std.proofs.lemmas.List.Sums.{sum_by-cons}
use Rattle.mmv_layout.specs.Fields.{number32, number64, byte_at, text_at, has_zero, first_words}
use Rattle.mmv_layout.proofs.Below.{some_holds}
use Rattle.mmv_layout.proofs.Bytes.{byte_of, word_at}
use Rattle.mmv_writer.specs.Draft.{IsStored}
use Rattle.mmv_writer.specs.Spelling.{halves}

-- from word n on
pub record Stands (words : List ℕ) (n : ℕ) (part : List ℕ) : Type 0 where
  pub at : (k : ℕ) → k < length part → slice_index words (n + k) ≡ slice_index part k

first_of : (a b : List ℕ) (k : ℕ) → k < length a → slice_index (a ++ b) k ≡ slice_index a k
first_of [] b k h = absurd (omega arith)
first_of (x ∷ a) b zero h = refl
first_of (x ∷ a) b (suc k) h = first_of a b k (omega arith)

behind : (a b : List ℕ) (k : ℕ) → slice_index (a ++ b) (length a + k) ≡ slice_index b k
behind [] b k = ap (slice_index b) (omega arith)
behind (x ∷ a) b k = ap (slice_index (x ∷ (a ++ b))) (next (length a) k) ∙ behind a b k
  where
    next : (n k : ℕ) → suc n + k ≡ suc (n + k)
    next n k = omega arith

pub stands_whole : (words : List ℕ) → Stands words 0 words
stands_whole words = record { at = λ k h. ap (slice_index words) (omega arith) }

pub stands_left : (words : List ℕ) (n : ℕ) (a b : List ℕ) → Stands words n (a ++ b) → Stands words n a
stands_left words n a b s = record {
  at = λ k h. let long : length (a ++ b) ≡ length a + length b = length-append a b in s.at k (omega arith) ∙ first_of a b k h;
}

pub stands_right : (words : List ℕ) (n m : ℕ) (a b : List ℕ) → m ≡ n + length a → Stands words n (a ++ b) → Stands words m b
stands_right words n m a b e s = record {
  at = λ k h.
      let long : length (a ++ b) ≡ length a + length b = length-append a b in
      let offset : m + k ≡ n + (length a + k) = omega arith in
      ap (slice_index words) offset ∙ s.at (length a + k) (omega arith) ∙ behind a b k;
}

-- an entry of a list of entries of one size
pub stands_entry : {T : Type 0} (words : List ℕ) (f : T → List ℕ) (size : ℕ) → ((x : T) → length (f x) ≡ size) → (xs : List T) (n m i : ℕ) (x : T) → Stands words n (flat_map f xs) → slice_get xs i ≡ Some x → m ≡ n + size * i → Stands words m (f x)
stands_entry words f size one [] n m i x s h e = cc
stands_entry words f size one (y ∷ xs) n m zero x s h e =
    let same : y ≡ x = cc in
    let offset : n ≡ m = omega arith in
    subst (λ z. Stands words m (f z)) same (subst (λ p. Stands words p (f y)) offset (stands_left words n (f y) (flat_map f xs) s))
stands_entry words f size one (y ∷ xs) n m (suc i) x s h e =
    stands_entry words f size one xs (n + size) m i x (stands_right words n (n + size) (f y) (flat_map f xs) (ap (λ l. n + l) (sym (one y))) s) h (e ∙ next n size i)
  where
    next : (n s i : ℕ) → n + s * suc i ≡ n + s + s * i
    next n s i = grind arith

-- a group of entries of one size
pub stands_group : {T : Type 0} (words : List ℕ) (f : T → List ℕ) (g : T → ℕ) (size : ℕ) → ((x : T) → length (f x) ≡ size * g x) → (xs : List T) (n m i : ℕ) (x : T) → Stands words n (flat_map f xs) → slice_get xs i ≡ Some x → m ≡ n + size * sum_by g (take i xs) → Stands words m (f x)
stands_group words f g size one [] n m i x s h e = cc
stands_group words f g size one (y ∷ xs) n m zero x s h e =
    let same : y ≡ x = cc in
    let offset : n ≡ m = omega arith in
    subst (λ z. Stands words m (f z)) same (subst (λ p. Stands words p (f y)) offset (stands_left words n (f y) (flat_map f xs) s))
stands_group words f g size one (y ∷ xs) n m (suc i) x s h e =
    stands_group words f g size one xs (n + size * g y) m i x (stands_right words n (n + size * g y) (f y) (flat_map f xs) (ap (λ l. n + l) (sym (one y))) s) h
    (e ∙ ap (λ t. n + size * t) (sum_by-cons g y (take i xs)) ∙ next n size (g y) (sum_by g (take i xs)))
  where
    next : (n s a b : ℕ) → n + s * (a + b) ≡ n + s * a + s * b
    next n s a b = grind arith

-- Numbers

pub word_read : (words : List ℕ) (n j at : ℕ) (part : List ℕ) → Stands words n part → j < length part → at ≡ 8 * (n + j) → number64 words at ≡ slice_index part j
unfolding number64
word_read words n j at part s h e = let offset : at / 8 ≡ n + j = omega arith in ap (slice_index words) offset ∙ s.at j h

low_of : (w low high : ℕ) → w ≡ low + 4294967296 * high → low < 4294967296 → w / 2 ^ 0 % 4294967296 ≡ low
low_of w low high e l = omega arith

high_of : (w low high : ℕ) → w ≡ low + 4294967296 * high → low < 4294967296 → high < 4294967296 → w / 2 ^ 32 % 4294967296 ≡ high
high_of w low high e l h = omega arith

pub low_read : (words : List ℕ) (n j at : ℕ) (part : List ℕ) (low high : ℕ) → Stands words n part → j < length part → at ≡ 8 * (n + j) → slice_index part j ≡ halves low high → low < 4294967296 → number32 words at ≡ low
unfolding number32
low_read words n j at part low high s h e is l =
    let whole : at % 8 ≡ 0 = omega arith in
    ap (λ r. number64 words at / 2 ^ (8 * r) % 4294967296) whole ∙ low_of (number64 words at) low high (word_read words n j at part s h e ∙ is) l

pub high_read : (words : List ℕ) (n j at : ℕ) (part : List ℕ) (low high : ℕ) → Stands words n part → j < length part → at ≡ 8 * (n + j) + 4 → slice_index part j ≡ halves low high → low < 4294967296 → high < 4294967296 → number32 words at ≡ high
unfolding number32 number64
high_read words n j at part low high s h e is l g =
    let half : at % 8 ≡ 4 = omega arith in
    let offset : at / 8 ≡ n + j = omega arith in
    ap (λ r. slice_index words (at / 8) / 2 ^ (8 * r) % 4294967296) half ∙ high_of (slice_index words (at / 8)) low high (ap (slice_index words) offset ∙ s.at j h ∙ is) l g

-- Texts

pub length_text : (n : ℕ) (bytes : List ℕ) → length (first_words n bytes) ≡ n
unfolding first_words
length_text zero bytes = refl
length_text (suc n) bytes = let rest : length (first_words n (drop 8 bytes)) ≡ n = length_text n (drop 8 bytes) in omega arith

-- the bytes of a text that fills words
pub byte_read : (words : List ℕ) (n c at k : ℕ) (text : List ℕ) → Stands words n (first_words c text) → ((j : ℕ) → slice_index text j < 256) → at ≡ 8 * n → k < 8 * c → byte_at words (at + k) ≡ slice_index text k
unfolding byte_at number64
byte_read words n c at k text s bytes e below =
    let q : ℕ = k / 8 in
    let offset : (at + k) / 8 ≡ n + k / 8 = omega arith in
    let within : (at + k) % 8 ≡ k % 8 = omega arith in
    let long : length (first_words c text) ≡ c = length_text c text in
    let group : List ℕ = take 8 (drop (8 * (k / 8)) text) in
    let one : (j : ℕ) → j < 8 → slice_index group j ≡ slice_index text (8 * (k / 8) + j) = λ j l. get_or-take 8 (drop (8 * (k / 8)) text) j 0 l ∙ get_or-drop (8 * (k / 8)) text j 0 in
    let parts : 8 * (k / 8) + k % 8 ≡ k = omega arith in
    ap₂ (λ q r. slice_index words q / 2 ^ (8 * r) % 256) offset within
    ∙ ap (λ w. w / 2 ^ (8 * (k % 8)) % 256) (s.at (k / 8) (omega arith) ∙ word_at c (k / 8) text (omega arith))
    ∙ byte_of group (λ j l. subst (λ b. b < 256) (sym (one j l)) (bytes (8 * (k / 8) + j))) (k % 8) (omega arith)
    ∙ one (k % 8) (omega arith) ∙ ap (slice_index text) parts

past_end : (text : List ℕ) (k : ℕ) → length text ≤ k → slice_index text k ≡ 0
past_end [] k h = refl
past_end (b ∷ text) zero h = absurd (omega arith)
past_end (b ∷ text) (suc k) h = past_end text k (omega arith)

-- a field of bytes that spells a text is read as the text
spelt_so : (words text : List ℕ) (at n : ℕ) → ((k : ℕ) → k < n → byte_at words (at + k) ≡ slice_index text k) → ((k : ℕ) → k < length text → slice_index text k ≢ 0) → length text < n → text_at words at n ≡ text
unfolding text_at
spelt_so words [] at zero reads nonzero h = refl
spelt_so words [] at (suc n) reads nonzero h = ap (λ t. cond t [] (byte_at words at ∷ text_at words (at + 1) n)) (eq-eqb (byte_at words at) 0 (ap (byte_at words) (sym (add-zero at)) ∙ reads 0 (omega arith)))
spelt_so words (b ∷ text) at zero reads nonzero h = absurd (omega arith)
spelt_so words (b ∷ text) at (suc n) reads nonzero h =
    let first : byte_at words at ≡ b = ap (byte_at words) (sym (add-zero at)) ∙ reads 0 (omega arith) in
    ap (λ t. cond t [] (byte_at words at ∷ text_at words (at + 1) n)) (isnt (byte_at words at) b first (nonzero 0 (omega arith)))
    ∙ ap₂ (λ x xs. x ∷ xs) first (spelt_so words text (at + 1) n (λ k l. ap (byte_at words) (next at k) ∙ reads (suc k) (omega arith)) (λ k l. nonzero (suc k) (omega arith)) (omega arith))
  where
    isnt : (a b : ℕ) → a ≡ b → b ≢ 0 → nat_eq a 0 ≡ false
    isnt a b e n = grind (arith, nat_tests)

    next : (at k : ℕ) → (at + 1) + k ≡ at + suc k
    next at k = omega arith

pub text_read : (words : List ℕ) (n c at : ℕ) (text : List ℕ) → Stands words n (first_words c text) → IsStored text → at ≡ 8 * n → length text < 8 * c → text_at words at (8 * c) ≡ text
text_read words n c at text s stored e short =
    spelt_so words text at (8 * c) (λ k h. byte_read words n c at k text s stored.bytes e h) (λ k h. stored.nonzero k 0 h) short

-- a field that holds a shorter text has a zero byte
pub zero_read : (words : List ℕ) (n c at : ℕ) (text : List ℕ) → Stands words n (first_words c text) → IsStored text → at ≡ 8 * n → length text < 8 * c → has_zero words at (8 * c) ≡ true
unfolding has_zero
zero_read words n c at text s stored e short =
    some_holds (8 * c) (length text) (λ k. nat_eq (byte_at words (at + k)) 0) short
    (eq-eqb (byte_at words (at + length text)) 0 (byte_read words n c at (length text) text s stored.bytes e short ∙ past_end text (length text) (omega arith)))
