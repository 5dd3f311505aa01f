-- The words of a payload, from left to right.
use Rattle.std.proofs.Common.{◌≡◌, ℕ, ℤ, ◌+◌, ◌-◌, ◌<◌, ◌≤◌, false, cond, ltb, List, ◌++◌, length, take, drop, Some, None, refl, sym, ap, ◌∙◌, subst, arith}
use Rattle.std.specs.Prelude.{FitsSigned}
use Rattle.std.specs.Int.{w32, from_be_bytes, to_be_bytes, cast_signed, cast_unsigned}
use Rattle.std.proofs.lemmas.Bool.{ltb-false, le-ltb}
use Rattle.std.proofs.lemmas.Int.{ints, of_z-to_z, to_z-of_z}
use Rattle.std.proofs.lemmas.List.{take_at, drop_at, drop-drop, take-append-drop, length-take, length-drop}
use Rattle.std.proofs.lemmas.Nat.{be_bytes_4, from_be_bytes-to_be_bytes_4}
use Rattle.pcp_base.specs.Fields.{be_field}
use Rattle.pcp_base.proofs.Bytes.{IsBytes, IsBytes-drop, IsBytes-take}
use Rattle.pcp_model.specs.Words.{word, signed_word}
use Rattle.pcp_model.proofs.ZeroBytes.{past, some_is}

be_below : (bytes : List ℕ) → IsBytes bytes → from_be_bytes w32 bytes < 4294967296
be_below bytes fits = omega (arith, fits 0, fits 1, fits 2, fits 3)

-- what stands at a byte is a word and what follows it
pub record WordStands (bytes : List ℕ) (at next n : ℕ) : Type 0 where
  pub is : drop at bytes ≡ word n ++ drop next bytes
  pub within : next ≤ length bytes
  pub fits : n < 4294967296

pub field_takes : (bytes : List ℕ) (at next n : ℕ) → IsBytes bytes → next ≡ at + 4 → be_field w32 at bytes ≡ Some n → WordStands bytes at next n
unfolding word
field_takes bytes at next n fits step e =
    let g = past (ltb (length bytes) (at + 4)) (Some (from_be_bytes w32 (take 4 (drop at bytes)))) n e in
    let says : from_be_bytes w32 (take 4 (drop at bytes)) ≡ n = some_is _ _ g.1 in
    let long : at + 4 ≤ length bytes = ltb-false _ _ g.0 in
    let four : length (take 4 (drop at bytes)) ≡ 4 = omega (arith, length-take 4 (drop at bytes), length-drop at bytes) in
    let small : IsBytes (take 4 (drop at bytes)) = IsBytes-take 4 (drop at bytes) (IsBytes-drop at bytes fits) in
    let front : to_be_bytes w32 n ≡ take 4 (drop at bytes) = be_bytes_4 (take 4 (drop at bytes)) n four small (sym says) in
    let behind : drop 4 (drop at bytes) ≡ drop next bytes = drop-drop 4 at bytes ∙ ap (λ k. drop k bytes) (sym step) in
    record {
      is = sym (take-append-drop 4 (drop at bytes)) ∙ ap (λ t. t ++ drop 4 (drop at bytes)) (sym front) ∙ ap (λ t. to_be_bytes w32 n ++ t) behind;
      within = omega arith;
      fits = subst (λ k. k < 4294967296) says (be_below (take 4 (drop at bytes)) small);
    }

-- a word that stands at a byte is read, and what follows it stands behind
pub field_again : (bytes : List ℕ) (at n : ℕ) (rest : List ℕ) → n < 4294967296 → drop at bytes ≡ word n ++ rest → be_field w32 at bytes ≡ Some n
unfolding word
field_again bytes at n rest lt e =
    let size : length (to_be_bytes w32 n ++ rest) ≡ length bytes - at = ap length (sym e) ∙ length-drop at bytes in
    let long : ltb (length bytes) (at + 4) ≡ false = le-ltb _ _ (omega (arith, size)) in
    let front : take 4 (drop at bytes) ≡ to_be_bytes w32 n = ap (take 4) e ∙ take_at (to_be_bytes w32 n) rest 4 refl in
    ap (λ b. cond b None (Some (from_be_bytes w32 (take 4 (drop at bytes))))) long ∙ ap (λ m. Some m) (ap (from_be_bytes w32) front ∙ from_be_bytes-to_be_bytes_4 n lt)

pub behind_word : (bytes : List ℕ) (at next n : ℕ) (rest : List ℕ) → next ≡ at + 4 → drop at bytes ≡ word n ++ rest → drop next bytes ≡ rest
unfolding word
behind_word bytes at next n rest step e =
    ap (λ k. drop k bytes) step ∙ sym (drop-drop 4 at bytes) ∙ ap (drop 4) e ∙ drop_at (to_be_bytes w32 n) rest 4 refl

-- numbers with their sign
pub signed_is : (n : ℕ) → n < 4294967296 → signed_word (cast_signed w32 n) ≡ word n
unfolding word signed_word
signed_is n lt = ap (to_be_bytes w32) (of_z-to_z w32 n lt)

pub signed_fits : (n : ℕ) → n < 4294967296 → FitsSigned w32 (cast_signed w32 n)
signed_fits n lt = omega (arith, ints)

pub unsigned_fits : (z : ℤ) → FitsSigned w32 z → cast_unsigned w32 z < 4294967296
unsigned_fits z fits = omega (arith, ints)

pub signed_back : (z : ℤ) → FitsSigned w32 z → cast_signed w32 (cast_unsigned w32 z) ≡ z
signed_back z fits = to_z-of_z w32 z fits

pub word_of_signed : (z : ℤ) → signed_word z ≡ word (cast_unsigned w32 z)
unfolding word signed_word
word_of_signed z = refl
