-- The names that the words of a call ask for are few and short.
use Rattle.std.proofs.Common.{◌≡◌, ℕ, ◌+◌, ◌≤◌, Bool, true, false, cond, List, [], ◌∷◌, length, refl, ap, subst, arith}
use Rattle.std.specs.Prelude.{All, Result, Ok, Err, ◌&&◌, ◌==◌, bytes_eq, codes, min, nat_le}
use Rattle.std.specs.List.{prefix_len}
use Rattle.std.proofs.lemmas.Bool.{eqb-true, leb-true}
use Rattle.std.proofs.lemmas.List.Elements.{All-cons, All-nil}
use Rattle.pcp_base.specs.Names.{spells}
use Rattle.pm_words.specs.declared.words.Command.{Command}
use Rattle.pm_words.specs.declared.words.Command.TheVariants.{Pull}
use Rattle.pm_words.specs.declared.words.PullWords.{PullWords}
use Rattle.pm_words.specs.CommandLine.{◌>>=◌, is_asked_name, names_then, pull_of, ticks_of, volume_of, word_then}
use Rattle.pm_pulling.specs.Ends.{Orders}
use Rattle.peer_sessions.specs.Laws.{AreShort}

no_answer : {X : Type 0} (at : ℕ) (x : X) → ◌≡◌ {A = Result X ℕ} (Err at) (Ok x) → ⊥
no_answer at x e = absurd cc

ok_is : {X : Type 0} (x y : X) → ◌≡◌ {A = Result X ℕ} (Ok x) (Ok y) → x ≡ y
ok_is x y e = cc

-- a step that answered
answered : {A B : Type 0} (r : Result A ℕ) (f : A → Result B ℕ) (y : B) → (r >>= f) ≡ Ok y → (x : A) × (r ≡ Ok x) × (f x ≡ Ok y)
answered (Ok x) f y e = (x, refl, e)
answered (Err at) f y e = absurd (no_answer at y e)

both_true : (a b : Bool) → (a && b) ≡ true → (a ≡ true) × (b ≡ true)
both_true true b e = (refl, e)
both_true false b e = absurd (let no : false ≡ true = e in cc)

-- where all words in front are all words, each is such a one
each_passes : (test : List ℕ → Bool) (words : List (List ℕ)) → prefix_len test words ≡ length words → All (λ word. test word ≡ true) words
each_passes test [] e = All-nil (λ word. test word ≡ true)
each_passes test (word ∷ words) e = by_test (test word) refl e (λ same. each_passes test words same)
  where
    by_test : (b : Bool) → test word ≡ b → cond b (1 + prefix_len test words) 0 ≡ length (word ∷ words) → (prefix_len test words ≡ length words → All (λ x. test x ≡ true) words) → All (λ x. test x ≡ true) (word ∷ words)
    by_test true is same more = All-cons (λ x. test x ≡ true) word words is (more (omega arith))
    by_test false is same more = absurd (omega arith)

name_short : (name : List ℕ) → is_asked_name name ≡ true → length name ≤ 400
name_short name e = leb-true (length name) 400 (both_true (nat_le (length name) 400) (spells true name) e).0

all_short : (words : List (List ℕ)) → All (λ word. is_asked_name word ≡ true) words → All (λ name. length name ≤ 400) words
all_short words all = λ k d below. name_short _ (all k d below)

short_front : (at : ℕ) (words names : List (List ℕ)) (b : Bool) → (nat_le 1 (prefix_len is_asked_name words) && nat_le (prefix_len is_asked_name words) 64 && (prefix_len is_asked_name words == length words)) ≡ b
    → cond b (Ok words) (Err at) ≡ Ok names → AreShort names
short_front at words names false is e = absurd (no_answer at names e)
short_front at words names true is e =
    let n : ℕ = prefix_len is_asked_name words in
    let one = both_true (nat_le 1 n && nat_le n 64) (n == length words) is in
    let two = both_true (nat_le 1 n) (nat_le n 64) one.0 in
    let few : n ≤ 64 = leb-true n 64 two.1 in
    let same : n ≡ length words = eqb-true n (length words) one.1 in
    subst AreShort (ok_is words names e) (record { few = omega arith; short = all_short words (each_passes is_asked_name words same) })

short_then : (at : ℕ) (words names : List (List ℕ)) → names_then at words ≡ Ok names → AreShort names
short_then at words names e =
    let n : ℕ = prefix_len is_asked_name words in
    short_front (at + min n 64) words names (nat_le 1 n && nat_le n 64 && (n == length words)) refl e

names_of : (a b : PullWords) → Pull a ≡ Pull b → a.names ≡ b.names
names_of a b e = ap (λ (x : PullWords). x.names) (same a b e)
  where
    same : (x y : PullWords) → Pull x ≡ Pull y → x ≡ y
    same x y h = cc

-- what follows the number of samples, and the limit of volumes
abbrev after_volume : ℕ → ℕ × List (List ℕ) → Result Command ℕ
after_volume samples volume = names_then 3 volume.1 >>= λ names. Ok (Pull (record { samples = samples; volume = volume.0; names = names }))

abbrev after_samples : ℕ × List (List ℕ) → Result Command ℕ
after_samples samples = word_then volume_of 2 samples.1 >>= after_volume samples.0

short_pull : (words : List (List ℕ)) (asked : PullWords) → pull_of words ≡ Ok (Pull asked) → AreShort asked.names
unfolding pull_of
short_pull words asked e =
    let one = answered (word_then ticks_of 1 words) after_samples (Pull asked) e in
    let two = answered (word_then volume_of 2 one.0.1) (after_volume one.0.0) (Pull asked) one.2 in
    let three = answered (names_then 3 two.0.1) (λ names. Ok (Pull (record { samples = one.0.0; volume = two.0.0; names = names }))) (Pull asked) two.2 in
    let made : PullWords = record { samples = one.0.0; volume = two.0.0; names = three.0 } in
    subst AreShort (names_of made asked (ok_is (Pull made) (Pull asked) three.2)) (short_then 3 two.0.1 three.0 three.1)

pub asked_short : (words : List (List ℕ)) (asked : PullWords) → Orders words asked → AreShort asked.names
asked_short [] asked e = absurd (no_answer 0 (Pull asked) e)
asked_short (word ∷ words) asked e = by_word (bytes_eq word (codes "pull")) e
  where
    by_word : (b : Bool) → cond b (pull_of words) (Err 0) ≡ Ok (Pull asked) → AreShort asked.names
    by_word true h = short_pull words asked h
    by_word false h = absurd (no_answer 0 (Pull asked) h)
