-- A word that is written behind a space is taken again.
use Rattle.std.proofs.Common.{not, true, ◌==◌, ◌≡◌, ◌≢◌, ℕ, ◌+◌, one-add, cond, List, [], ◌∷◌, ◌++◌, length, take, drop, refl, ap, ◌∙◌, eq-eqb, ne_eqb, Option, Some, All}
use Rattle.std.specs.List.{list_all}
use Rattle.std.proofs.lemmas.Bool.{and_parts, not-true, eqb-false}
use Rattle.std.proofs.Math.Seq.{take-append_seam, drop-append_seam}
use Rattle.std.proofs.lemmas.List.Elements.{All-nil, All-cons, All-head, All-tail}
use Rattle.text_lines.specs.Laws.{EndsWord}
use Rattle.text_lines.specs.Numbers.{◌>>=◌}
use Rattle.text_lines.specs.Words.{word_length, first_word, behind_word, take_word, take_as}

-- no byte is a space
abbrev pub IsWord : List ℕ → Type 0
IsWord word = All (λ b. b ≢ 32) word

-- which a written word shows by computing
pub plain_word : (word : List ℕ) → list_all (λ b. not (b == 32)) word ≡ true → IsWord word
plain_word [] h = All-nil (λ b. b ≢ 32)
plain_word (b ∷ word) h =
    let tests = and_parts (not (b == 32)) (list_all (λ c. not (c == 32)) word) h in
    All-cons (λ c. c ≢ 32) b word (eqb-false b 32 (not-true (b == 32) tests.0)) (plain_word word tests.1)

-- the word ends where it was written to
word_length_of : (word more : List ℕ) → IsWord word → EndsWord more → word_length (word ++ more) ≡ length word
word_length_of [] [] h e = refl
word_length_of [] (b ∷ bs) h e = ap (λ q. cond q 0 (1 + word_length bs)) (eq-eqb b 32 e)
word_length_of (b ∷ word) more h e =
    ap (λ q. cond q 0 (1 + word_length (word ++ more))) (ne_eqb b 32 (All-head (λ c. c ≢ 32) b word h))
    ∙ ap (λ n. 1 + n) (word_length_of word more (All-tail (λ c. c ≢ 32) b word h) e) ∙ one-add (length word)

pub first_word_of : (word more : List ℕ) → IsWord word → EndsWord more → first_word (word ++ more) ≡ word
unfolding first_word
first_word_of word more h e = ap (λ n. take n (word ++ more)) (word_length_of word more h e) ∙ take-append_seam word more

pub behind_word_of : (word more : List ℕ) → IsWord word → EndsWord more → behind_word (word ++ more) ≡ more
unfolding behind_word
behind_word_of word more h e = ap (λ n. drop n (word ++ more)) (word_length_of word more h e) ∙ drop-append_seam word more

-- what a word reads, with what stands behind it
pub take_as_of : {X : Type 0} (read : List ℕ → Option X) (word more : List ℕ) (x : X) → IsWord word → EndsWord more → read word ≡ Some x → take_as read (32 ∷ (word ++ more)) ≡ Some (x, more)
unfolding take_as take_word
take_as_of read word more x h e r =
    ap (λ w. read w >>= (λ y. Some (y, behind_word (word ++ more)))) (first_word_of word more h e)
    ∙ ap (λ f. f >>= (λ y. Some (y, behind_word (word ++ more)))) r
    ∙ ap (λ bs. Some (x, bs)) (behind_word_of word more h e)
