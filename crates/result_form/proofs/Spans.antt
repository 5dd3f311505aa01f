-- A text that stands in the payload, and what words say of it.
use Rattle.std.proofs.Common.{◌≡◌, ℕ, ℤ, ◌+◌, ◌-◌, ◌<◌, ◌≤◌, Bool, true, false, cond, ltb, List, [], ◌++◌, length, take, drop, Some, None, Result, Ok, Err, refl, sym, ap, ◌∙◌, subst, append_assoc, arith, inl, inr}
use Rattle.std.specs.Prelude.{FitsSigned, ◌⊎◌, ◌||◌, ◌≤ℤ◌, pos}
use Rattle.std.specs.Int.{w32, from_be_bytes, to_be_bytes, cast_signed, cast_unsigned}
use Rattle.std.proofs.lemmas.Bool.{ltb-false, le-ltb}
use Rattle.std.proofs.lemmas.Int.{ints, of_z-to_z, to_z-of_z}
use Rattle.std.proofs.lemmas.List.{take_at, drop_at, drop-drop, take-append-drop, length-append, length-take, length-drop}
use Rattle.std.proofs.lemmas.Nat.{be_bytes_4, from_be_bytes-to_be_bytes_4}
use Rattle.pcp_base.proofs.Bytes.{IsBytes, IsBytes-drop, IsBytes-take}
use Rattle.pcp_model.specs.Words.{word, signed_word}
use Rattle.result_form.specs.declared.fault.FormFault.{FormFault}
use Rattle.result_form.specs.Decoding.{◌>>=◌, or_short, word_at, pair_at}

-- the value of a step that did not fail
pub bind_ok : {A B : Type 0} (r : Result A FormFault) (f : A → Result B FormFault) (y : B) → (r >>= f) ≡ Ok y → (x : A) × (r ≡ Ok x) × (f x ≡ Ok y)
bind_ok (Ok x) f y e = (x, refl, e)
bind_ok (Err d) f y e = absurd cc

-- a test that did not fail
pub guard_ok : {A : Type 0} (b : Bool) (d : FormFault) (x y : A) → cond b (Err d) (Ok x) ≡ Ok y → (b ≡ false) × (x ≡ y)
guard_ok true d x y e = absurd cc
guard_ok false d x y e = (refl, cc)

-- and one that has to hold
pub only_ok : {A : Type 0} (b : Bool) (d : FormFault) (x y : A) → cond b (Ok x) (Err d) ≡ Ok y → (b ≡ true) × (x ≡ y)
only_ok true d x y e = (refl, cc)
only_ok false d x y e = absurd cc

abbrev done : {A : Type 0} → A → Result A FormFault
done x = Ok x

pub ok_is : {A : Type 0} (x y : A) → done x ≡ done y → x ≡ y
ok_is x y e = cc

pub neither : (a b : Bool) → (a || b) ≡ false → (a ≡ false) × (b ≡ false)
neither true b e = absurd cc
neither false b e = (refl, e)

-- A text stands from one byte of the payload up to another.
pub record Spans (bytes : List ℕ) (at : ℕ) (text : List ℕ) (next : ℕ) : Type 0 where
  pub cut : drop at bytes ≡ text ++ drop next bytes
  pub size : next ≡ at + length text
  pub within : next ≤ length bytes

pub nothing : (bytes : List ℕ) (at next : ℕ) → next ≡ at → at ≤ length bytes → Spans bytes at [] next
nothing bytes at next e h = record { cut = ap (λ n. drop n bytes) (sym e); size = omega arith; within = omega arith }

pub joined : (bytes : List ℕ) (a b c : ℕ) (x y : List ℕ) → Spans bytes a x b → Spans bytes b y c → Spans bytes a (x ++ y) c
joined bytes a b c x y p q = record {
  cut = p.cut ∙ ap (λ t. x ++ t) q.cut ∙ sym (append_assoc x y (drop c bytes));
  size = omega (arith, p.size, q.size, length-append x y);
  within = q.within;
}

-- ---- words

short_ok : (b : Bool) (at m n : ℕ) → or_short at (cond b None (Some m)) ≡ Ok n → (b ≡ false) × (m ≡ n)
short_ok true at m n e = absurd cc
short_ok false at m n e = (refl, cc)

short_again : (b : Bool) (at m n : ℕ) → b ≡ false → m ≡ n → or_short at (cond b None (Some m)) ≡ Ok n
short_again true at m n e h = absurd cc
short_again false at m n e h = ap Ok h

be_below : (bytes : List ℕ) → IsBytes bytes → from_be_bytes w32 bytes < 4294967296
be_below bytes fits = omega (arith, fits 0, fits 1, fits 2, fits 3)

pub word_takes : (bytes : List ℕ) (at next n : ℕ) → IsBytes bytes → next ≡ at + 4 → word_at bytes at ≡ Ok n → Spans bytes at (word n) next × (n < 4294967296)
unfolding word
word_takes bytes at next n fits step e =
    let g = short_ok (ltb (length bytes) (at + 4)) at (from_be_bytes w32 (take 4 (drop at bytes))) n e in
    let long : at + 4 ≤ length bytes = ltb-false _ _ g.0 in
    let four : length (take 4 (drop at bytes)) ≡ 4 = omega (arith, length-take 4 (drop at bytes), length-drop at bytes) in
    let small : IsBytes (take 4 (drop at bytes)) = IsBytes-take 4 (drop at bytes) (IsBytes-drop at bytes fits) in
    let front : to_be_bytes w32 n ≡ take 4 (drop at bytes) = be_bytes_4 (take 4 (drop at bytes)) n four small (sym g.1) in
    let behind : drop 4 (drop at bytes) ≡ drop next bytes = drop-drop 4 at bytes ∙ ap (λ k. drop k bytes) (sym step) in (
      record {
        cut = sym (take-append-drop 4 (drop at bytes)) ∙ ap (λ t. t ++ drop 4 (drop at bytes)) (sym front) ∙ ap (λ t. to_be_bytes w32 n ++ t) behind;
        size = step;
        within = omega arith;
      },
      subst (λ k. k < 4294967296) g.1 (be_below (take 4 (drop at bytes)) small),
    )

pub word_again : (bytes : List ℕ) (at n : ℕ) (rest : List ℕ) → n < 4294967296 → drop at bytes ≡ word n ++ rest → word_at bytes at ≡ Ok n
unfolding word
word_again bytes at n rest lt e =
    let size : length (to_be_bytes w32 n ++ rest) ≡ length bytes - at = ap length (sym e) ∙ length-drop at bytes in
    let long : ltb (length bytes) (at + 4) ≡ false = le-ltb _ _ (omega (arith, size)) in
    let front : take 4 (drop at bytes) ≡ to_be_bytes w32 n = ap (take 4) e ∙ take_at (to_be_bytes w32 n) rest 4 refl in
    short_again (ltb (length bytes) (at + 4)) at (from_be_bytes w32 (take 4 (drop at bytes))) n long (ap (from_be_bytes w32) front ∙ from_be_bytes-to_be_bytes_4 n lt)

pub behind_text : (bytes : List ℕ) (at next : ℕ) (text rest : List ℕ) → next ≡ at + length text → drop at bytes ≡ text ++ rest → drop next bytes ≡ rest
behind_text bytes at next text rest step e =
    ap (λ k. drop k bytes) step ∙ sym (drop-drop (length text) at bytes) ∙ ap (drop (length text)) e ∙ drop_at text rest (length text) refl

pub behind_word : (bytes : List ℕ) (at next n : ℕ) (rest : List ℕ) → next ≡ at + 4 → drop at bytes ≡ word n ++ rest → drop next bytes ≡ rest
unfolding word
behind_word bytes at next n rest step e = behind_text bytes at next (to_be_bytes w32 n) rest step e

-- a word as a number with its sign
pub signed_is : (n : ℕ) → n < 4294967296 → signed_word (cast_signed w32 n) ≡ word n
unfolding word signed_word
signed_is n lt = ap (to_be_bytes w32) (of_z-to_z w32 n lt)

pub signed_fits : (n : ℕ) → n < 4294967296 → FitsSigned w32 (cast_signed w32 n)
signed_fits n lt = omega (arith, ints)

pub unsigned_fits : (z : ℤ) → FitsSigned w32 z → cast_unsigned w32 z < 4294967296
unsigned_fits z fits = omega (arith, ints)

pub signed_back : (z : ℤ) → FitsSigned w32 z → cast_signed w32 (cast_unsigned w32 z) ≡ z
signed_back z fits = to_z-of_z w32 z fits

pub word_of_signed : (z : ℤ) → signed_word z ≡ word (cast_unsigned w32 z)
unfolding word signed_word
word_of_signed z = refl

-- a status is 0 or below
pub status_low : (n : ℕ) → n < 4294967296 → (n ≡ 0) ⊎ (2147483648 ≤ n) → cast_signed w32 n ≤ℤ pos 0
status_low n lt (inl e) = grind (arith, ints)
status_low n lt (inr h) = grind (arith, ints)

pub status_word : (z : ℤ) → FitsSigned w32 z → z ≤ℤ pos 0 → (cast_unsigned w32 z ≡ 0) ⊎ (2147483648 ≤ cast_unsigned w32 z)
status_word z fits low = grind (arith, ints)

-- ---- pairs

pub record PairSpans (bytes : List ℕ) (at : ℕ) (p : ℤ × ℕ) : Type 0 where
  pub first : Spans bytes at (signed_word p.0) (at + 4)
  pub second : Spans bytes (at + 4) (word p.1) (at + 8)
  pub signed : FitsSigned w32 p.0
  pub fits : p.1 < 4294967296

pub pair_takes : (bytes : List ℕ) (at : ℕ) (p : ℤ × ℕ) → IsBytes bytes → pair_at bytes at ≡ Ok p → PairSpans bytes at p
unfolding pair_at
pair_takes bytes at p fits e =
    let a = bind_ok (word_at bytes at) (λ i. word_at bytes (at + 4) >>= λ v. Ok (cast_signed w32 i, v)) p e in
    let b = bind_ok (word_at bytes (at + 4)) (λ v. Ok (cast_signed w32 a.0, v)) p a.2 in
    let one = word_takes bytes at (at + 4) a.0 fits refl a.1 in
    let two = word_takes bytes (at + 4) (at + 8) b.0 fits (omega arith) b.1 in
    subst (PairSpans bytes at) (ok_is (cast_signed w32 a.0, b.0) p b.2)
    (record { first = rw (signed_is a.0 one.1) one.0; second = two.0; signed = signed_fits a.0 one.1; fits = two.1 })

pub pair_again : (bytes : List ℕ) (at : ℕ) (p : ℤ × ℕ) (rest : List ℕ) → FitsSigned w32 p.0 → p.1 < 4294967296 → drop at bytes ≡ signed_word p.0 ++ (word p.1 ++ rest) → (pair_at bytes at ≡ Ok p) × (drop (at + 8) bytes ≡ rest)
unfolding pair_at
pair_again bytes at p rest signed fits e =
    let i : ℕ = cast_unsigned w32 p.0 in
    let e1 : drop at bytes ≡ word i ++ (word p.1 ++ rest) = e ∙ ap (λ t. t ++ (word p.1 ++ rest)) (word_of_signed p.0) in
    let e2 : drop (at + 4) bytes ≡ word p.1 ++ rest = behind_word bytes at (at + 4) i (word p.1 ++ rest) refl e1 in
    let one : word_at bytes at ≡ Ok i = word_again bytes at i (word p.1 ++ rest) (unsigned_fits p.0 signed) e1 in
    let two : word_at bytes (at + 4) ≡ Ok p.1 = word_again bytes (at + 4) p.1 rest fits e2 in
    (rw (one, two) (ap (λ z. Ok (z, p.1)) (signed_back p.0 signed)), behind_word bytes (at + 4) (at + 8) p.1 rest (omega arith) e2)
