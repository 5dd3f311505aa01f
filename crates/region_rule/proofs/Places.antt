-- The words that a change stores one after the other: which is next, which are left, and what they make.
use Rattle.std.proofs.Common.{◌≡◌, ◌≢◌, ℕ, zero, suc, ◌+◌, ◌-◌, ◌<◌, ◌≤◌, ◌⊎◌, inl, inr, ⊎_elim, Bool, cond, eqb, ne_eqb, add-one, List, [], ◌∷◌, ◌++◌, All, length, set, drop, slice_index, length-set, length-append, length-drop, get_or-set_same, get_or-set_other, ext_get_or, sym, refl, ap, ◌∙◌, subst, lit<, arith}
use Rattle.std.proofs.lemmas.List.{drop_all, get_or_append_left, get_or-append-add, get_or-drop}
use Rattle.std.proofs.lemmas.List.Elements.{All-nil, All-cons}
use mathlib.Core.Logic.{dite}
use native.Mathlib.Decide.{ℕ_discrete, dec_le}
use Rattle.region_core.specs.declared.act.Act.{Act}
use Rattle.region_core.specs.declared.act.Act.TheVariants.{Put}
use Rattle.region_core.specs.Shape.{IsWord, with_generation}
use Rattle.region_core.proofs.Lists.{at_or, drop_at}
use Rattle.region_rule.specs.Changes.{next_after, left_from, puts_at, puts_left}

pub suc_is : (k a b : ℕ) → cond (eqb (suc k) 0) a b ≡ b
suc_is k a b = ap (λ (t : Bool). cond t a b) (ne_eqb (suc k) 0 (λ (e : suc k ≡ 0). omega arith))

pub left_suc : (k : ℕ) (image : List ℕ) → left_from (suc k) image ≡ length image - suc k
left_suc k image = suc_is k (length image - 2) (length image - suc k)

pub puts_suc : (k : ℕ) (image : List ℕ) → puts_left (suc k) image ≡ puts_at (suc k) (drop (suc k) image)
puts_suc k image = ap (λ (t : Bool). cond t (Put 0 (slice_index image 0) ∷ puts_at 3 (drop 3 image)) (puts_at (suc k) (drop (suc k) image))) (ne_eqb (suc k) 0 (λ (e : suc k ≡ 0). omega arith))

-- the first of the stores that are left, and those after it
pub puts_next : (next : ℕ) (image : List ℕ) → 0 < left_from next image → puts_left next image ≡ Put next (slice_index image next) ∷ puts_left (next_after next) image
puts_next zero image h = refl
puts_next (suc k) image h =
    let left = left_suc k image in
    let below : suc k < length image = omega arith in
    let after : next_after (suc k) ≡ suc (suc k) = suc_is k 3 (suc k + 1) ∙ add-one (suc k) in
    puts_suc k image ∙ ap (λ (xs : List ℕ). puts_at (suc k) xs) (drop_at image (suc k) (slice_index image (suc k)) (at_or image (suc k) 0 below))
    ∙ ap (λ (rest : List Act). Put (suc k) (slice_index image (suc k)) ∷ rest) (sym (puts_suc (suc k) image) ∙ ap (λ (j : ℕ). puts_left j image) (sym after))

-- at the image's end none is left
pub puts_none : (next : ℕ) (image : List ℕ) → 2 < length image → next ≡ length image → puts_left next image ≡ []
puts_none zero image wide e = absurd (omega arith)
puts_none (suc k) image wide e = puts_suc k image ∙ ap (λ (xs : List ℕ). puts_at (suc k) xs) (drop_all (suc k) image (omega arith))

-- where no word is left, the next one is the image's end; and where some are, it is before it
pub all_stored : (next : ℕ) (image : List ℕ) → 2 < length image → next ≤ length image → left_from next image ≡ 0 → next ≡ length image
all_stored zero image wide most none = omega arith
all_stored (suc k) image wide most none = let e = left_suc k image in omega arith

pub some_left : (next : ℕ) (image : List ℕ) → 2 < length image → 0 < left_from next image → next < length image
some_left zero image wide h = omega arith
some_left (suc k) image wide h = let e = left_suc k image in omega arith

-- which word is stored after this one
pub next_suc : (k : ℕ) → next_after (suc k) ≡ suc k + 1
next_suc k = suc_is k 3 (suc k + 1)

pub next_least : (next : ℕ) → (next ≡ 0) ⊎ (3 ≤ next) → 3 ≤ next_after next
next_least zero p = omega arith
next_least (suc k) p = let e = next_suc k in ⊎_elim (λ (e : suc k ≡ 0). absurd (omega arith)) (λ (q : 3 ≤ suc k). omega arith) p

pub next_below : (next i : ℕ) → i < next_after next → i ≢ 1 → i ≢ 2 → (i ≡ next) ⊎ (i < next)
next_below zero i h one two = inl (omega arith)
next_below (suc k) i h one two = let e = next_suc k in dite (ℕ_discrete i (suc k)) (λ (e : i ≡ suc k). inl e) (λ (ne : i ≢ suc k). inr (omega arith))

pub next_most : (next : ℕ) (image : List ℕ) → next < length image → 2 < length image → next_after next ≤ length image
next_most zero image h wide = omega arith
next_most (suc k) image h wide = let e = next_suc k in omega arith

pub apart : (next i : ℕ) → (next ≡ 0) ⊎ (3 ≤ next) → 0 < i → i < 3 → i ≢ next
apart next i p some few = ⊎_elim (λ (e : next ≡ 0). λ (q : i ≡ next). omega arith) (λ (e : 3 ≤ next). λ (q : i ≡ next). omega arith) p

-- an image, and what lies behind it in other words
abbrev pub over : List ℕ → List ℕ → List ℕ
over image ws = image ++ drop (length image) ws

-- an image whose words are all stored, with what lies behind it, but for the second generation
pub renewed : (image ws : List ℕ) (n : ℕ) → 2 < length image → length image ≤ length ws → slice_index ws 1 ≡ n → ((i : ℕ) → i < length image → i ≢ 1 → i ≢ 2 → slice_index ws i ≡ slice_index image i)
    → with_generation (image ++ drop (length image) ws) n ≡ set ws 2 n
renewed image ws n wide room first written =
    ext_get_or 0 (with_generation (over image ws) n) (set ws 2 n) lengths (λ i below. at i (dite (ℕ_discrete i 2) (λ e. inl e) (λ m. inr m)))
  where
    long : length (over image ws) ≡ length ws
    long = let a = length-append image (drop (length image) ws) in let b = length-drop (length image) ws in omega arith

    front : length (set (over image ws) 1 n) ≡ length (over image ws)
    front = length-set (over image ws) 1 n

    lengths : length (with_generation (over image ws) n) ≡ length (set ws 2 n)
    lengths = let a = length-set (set (over image ws) 1 n) 2 n in let b = length-set ws 2 n in let c = front in let d = long in omega arith

    behind : (i : ℕ) → i ≢ 1 → i ≢ 2 → slice_index (over image ws) i ≡ slice_index ws i
    behind i one two = dite (dec_le (suc i) (length image))
        (λ (h : suc i ≤ length image). get_or_append_left image (drop (length image) ws) 0 i (omega arith) ∙ sym (written i (omega arith) one two))
        (λ (h : ¬ (suc i ≤ length image)).
        let k : ℕ = i - length image in
        let e : i ≡ length image + k = omega arith in
        ap (λ (j : ℕ). slice_index (over image ws) j) e ∙ get_or-append-add image (drop (length image) ws) k 0 ∙ get_or-drop (length image) ws k 0 ∙ ap (λ (j : ℕ). slice_index ws j) (sym e))

    others : (i : ℕ) → i ≢ 2 → slice_index (set (over image ws) 1 n) i ≡ slice_index ws i
    others i two = dite (ℕ_discrete i 1)
        (λ (e : i ≡ 1). let d = long in subst (λ (j : ℕ). slice_index (set (over image ws) 1 n) j ≡ slice_index ws j) (sym e) (get_or-set_same (over image ws) 1 n 0 (omega arith) ∙ sym first))
        (λ (one : i ≢ 1). get_or-set_other (over image ws) 1 i n 0 one ∙ behind i one two)

    at : (i : ℕ) → (i ≡ 2) ⊎ (i ≢ 2) → slice_index (with_generation (over image ws) n) i ≡ slice_index (set ws 2 n) i
    at i = ⊎_elim
        (λ (e : i ≡ 2). let c = front in let d = long in
        subst (λ (j : ℕ). slice_index (with_generation (over image ws) n) j ≡ slice_index (set ws 2 n) j) (sym e) (get_or-set_same (set (over image ws) 1 n) 2 n 0 (omega arith) ∙ sym (get_or-set_same ws 2 n 0 (omega arith))))
        (λ (two : i ≢ 2). get_or-set_other (set (over image ws) 1 n) 2 i n 0 two ∙ others i two ∙ sym (get_or-set_other ws 2 i n 0 two))

-- the words of a list of words are words, and so is the 0 past its end
pub word_of : (ws : List ℕ) (i : ℕ) → All IsWord ws → IsWord (slice_index ws i)
word_of [] i all = lit< tt
word_of (x ∷ xs) zero all = all 0 0 (omega arith)
word_of (x ∷ xs) (suc i) all = word_of xs i (λ k d h. all (suc k) d (omega arith))

-- and where all are, it is a list of words
pub all_words : (ws : List ℕ) → ((u : ℕ) → IsWord (slice_index ws u)) → All IsWord ws
all_words [] h = All-nil IsWord
all_words (x ∷ xs) h = All-cons IsWord x xs (h 0) (all_words xs (λ u. h (suc u)))
