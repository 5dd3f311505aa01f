-- The first misfit of a file's number.
use Rattle.std.proofs.Common.{zero, suc, ◌≡◌, ◌⊎◌, inl, inr, ℕ, ℤ, ◌+◌, ◌<◌, ◌≤◌, List, [], ◌∷◌, ◌++◌, length, get_or, take, drop, refl, sym, ap, ◌∙◌, subst, arith}
use Rattle.std.specs.Prelude.{negsuc, ◌≤ℤ◌, FitsSigned}
use Rattle.std.specs.Int.{w32, cast_signed, cast_unsigned}
use Rattle.std.proofs.lemmas.Bool.{cases_lt}
use Rattle.std.proofs.lemmas.Int.{ints, of_z-to_z}
use Rattle.std.proofs.lemmas.List.{take_all, take-take, take-append-le, take-append-drop, length-take, length-drop, length-take-le, get_or-take, get_or-drop, get_or_append_left, drop_more, drop_all}
use Rattle.pcp_model.specs.Words.{word, length-word}
use Rattle.archive_frame.specs.declared.fault.FrameFault.{FrameFault}
use Rattle.archive_frame.specs.declared.fault.FrameFault.TheVariants.{Torn, Size, Lengths, Label, NoMemory}
use Rattle.archive_frame.specs.Misfits.{BeginsOne, IsFirstMisfit}
use Rattle.archive_frame.specs.declared.parts.Wanted.{Wanted}
use Rattle.archive_frame.specs.declared.parts.Wanted.TheVariants.{Any as WantedAny, Meta as WantedMeta}
use Rattle.archive_frame.specs.Labels.{IsWanted, IsFileNumber, IsMetaNumber, IsNumberField, IsNumberOf, IsUpTo, IsFieldFault}
use Rattle.archive_frame.proofs.Misfits.{HasWidth, none_so_long, same_misfit}

pub number_wide : (Such : ℤ → Type 0) → HasWidth (IsNumberField Such) 4
number_wide Such t h = ap length h.3 ∙ length-word h.0

-- ---- words by their bytes

low_word : (n : ℕ) → n < 4294967296 → get_or (word n) 0 0 < 128 → n ≤ 2147483647
unfolding word
low_word n few low = omega arith

unsigned_high : (z : ℤ) → FitsSigned w32 z → negsuc 1 ≤ℤ z → 2147483648 ≤ cast_unsigned w32 z → 4294967294 ≤ cast_unsigned w32 z
unsigned_high z fits least high = omega (arith, ints)

signed_fits : (n : ℕ) → n < 4294967296 → FitsSigned w32 (cast_signed w32 n)
signed_fits n low = omega (arith, ints)

high_word : (n : ℕ) → n < 4294967296 → IsFileNumber (cast_signed w32 n) → 128 ≤ get_or (word n) 0 0 → (n ≡ 4294967294) ⊎ (n ≡ 4294967295)
unfolding word
high_word n few such high =
    let back : cast_unsigned w32 (cast_signed w32 n) ≡ n = of_z-to_z w32 n few in
    let some : 2147483648 ≤ n = omega arith in
    let most : 4294967294 ≤ n =
    subst (λ m. 4294967294 ≤ m) back (unsigned_high (cast_signed w32 n) (signed_fits n few) such (subst (λ m. 2147483648 ≤ m) (sym back) some)) in
    elim (cases_lt n 4294967295) [
      | inl lt ↦ inl (omega arith)
      | inr le ↦ inr (omega arith)
    ]

abbrev pub ones : List ℕ
ones = 255 ∷ 255 ∷ 255 ∷ []

abbrev pub all_ones : List ℕ
all_ones = 255 ∷ 255 ∷ 255 ∷ 255 ∷ []

word_all_ones : word 4294967295 ≡ all_ones
unfolding word
word_all_ones = refl

word_but_one : word 4294967294 ≡ 255 ∷ 255 ∷ 255 ∷ 254 ∷ []
unfolding word
word_but_one = refl

-- ---- Meta's number

to_ones : (t : List ℕ) → IsNumberField IsMetaNumber t → t ≡ all_ones
to_ones t h =
    let few : h.0 < 4294967296 = h.1 in
    let minus : cast_signed w32 h.0 ≡ negsuc 0 = h.2 in
    let n : h.0 ≡ 4294967295 = sym (of_z-to_z w32 h.0 few) ∙ ap (cast_unsigned w32) minus in
    h.3 ∙ ap word n ∙ word_all_ones

from_ones : (t : List ℕ) → t ≡ all_ones → IsNumberField IsMetaNumber t
from_ones t e = (4294967295, omega arith, refl, e ∙ sym word_all_ones)

pub meta_fault : (bytes : List ℕ) (fault : FrameFault) → IsFieldFault (λ t. t ≡ all_ones) 4 bytes 20 fault → IsFieldFault (IsNumberField IsMetaNumber) 4 bytes 20 fault
meta_fault bytes (Torn at) h = h
meta_fault bytes (Size at found) h = h
meta_fault bytes (Lengths at head tail) h = h
meta_fault bytes (Label at) h = (h.0, h.1, same_misfit (λ t. t ≡ all_ones) (IsNumberField IsMetaNumber) (take 4 (drop 20 bytes)) h.0 from_ones to_ones h.2)
meta_fault bytes NoMemory h = h

pub meta_there : (bytes : List ℕ) → 24 ≤ length bytes → take 4 (drop 20 bytes) ≡ all_ones → IsNumberOf IsMetaNumber bytes 4294967295
meta_there bytes long is = (long, omega arith, refl, is ∙ sym word_all_ones)

-- ---- the number of any file

-- there is one
pub some_wanted : (wanted : Wanted) → (n : ℕ) × (n < 4294967296) × IsWanted wanted (cast_signed w32 n)
some_wanted WantedAny = (0, omega arith, omega (arith, ints))
some_wanted WantedMeta = (4294967295, omega arith, refl)

abbrev Any : List ℕ → Type 0
Any = IsNumberField IsFileNumber

-- a byte at which no number goes on, or the bytes end
misfit_at : (f : List ℕ) (k : ℕ) → k < 4 → k ≤ length f → BeginsOne Any (take k f) → ((length f ≤ k) ⊎ ((t : List ℕ) → Any t → take (k + 1) t ≡ take (k + 1) f → ⊥)) → IsFirstMisfit Any f k
misfit_at f k few within begins stops =
    let longest : (n : ℕ) → n ≤ length f → BeginsOne Any (take n f) → n ≤ k = λ n h b.
    elim (cases_lt k n) [
      | inl lt ↦
          elim stops [
            | inl short ↦ omega arith
            | inr none ↦ let long : k + 1 ≤ length (take n f) = omega (arith, length-take n f) in
                absurd (none (take n f ++ b.0) b.1 (take-append-le (k + 1) (take n f) b.0 long ∙ take-take (k + 1) n f (let le : k + 1 ≤ n = omega arith in le)))
          ]
      | inr le ↦ le
    ] in
    record { none = none_so_long Any 4 f k (number_wide IsFileNumber) few longest; within = within; begins = begins; longest = longest }

-- the same first bytes
first_byte : (k : ℕ) (t f : List ℕ) → take (k + 1) t ≡ take (k + 1) f → get_or t 0 0 ≡ get_or f 0 0
first_byte k t f e = sym (get_or-take (k + 1) t 0 0 (omega arith)) ∙ ap (λ x. get_or x 0 0) e ∙ get_or-take (k + 1) f 0 0 (omega arith)

-- a number whose first byte is high is -1 or -2
high_field : (t : List ℕ) → Any t → 128 ≤ get_or t 0 0 → (t ≡ all_ones) ⊎ (t ≡ 255 ∷ 255 ∷ 255 ∷ 254 ∷ [])
high_field t h high =
    elim (high_word h.0 h.1 h.2 (subst (λ x. 128 ≤ get_or x 0 0) h.3 high)) [
      | inl e ↦ inr (h.3 ∙ ap word e ∙ word_but_one)
      | inr e ↦ inl (h.3 ∙ ap word e ∙ word_all_ones)
    ]

three_ones : (t : List ℕ) → Any t → 128 ≤ get_or t 0 0 → take 3 t ≡ ones
three_ones t h high =
    elim (high_field t h high) [
      | inl e ↦ ap (take 3) e
      | inr e ↦ ap (take 3) e
    ]

module _ (bytes : List ℕ) where
  abbrev field : List ℕ
  field = take 4 (drop 20 bytes)

  digit : (i : ℕ) → i < 4 → get_or field i 0 ≡ get_or bytes (20 + i) 0
  digit i lt = get_or-take 4 (drop 20 bytes) i 0 lt ∙ get_or-drop 20 bytes i 0

  -- a volume's number: the first byte is low, or missing
  low_longest : (length bytes ≤ 20) ⊎ (get_or bytes 20 0 < 128) → (k : ℕ) → IsFirstMisfit (IsUpTo 2147483647) field k → (n : ℕ) → n ≤ length field → BeginsOne Any (take n field) → n ≤ k
  low_longest (inl short) k m n h b = omega (arith, length-take 4 (drop 20 bytes), length-drop 20 bytes)
  low_longest (inr low) k m zero h b = omega arith
  low_longest (inr low) k m (suc n) h b =
      let t : List ℕ = take (suc n) field ++ b.0 in
      let some : 0 < length (take (suc n) field) = omega (arith, length-take (suc n) field) in
      let first : get_or t 0 0 ≡ get_or bytes 20 0 = get_or_append_left (take (suc n) field) b.0 0 0 some ∙ get_or-take (suc n) field 0 0 (omega arith) ∙ digit 0 (omega arith) in
      let small : get_or (word b.1.0) 0 0 < 128 = subst (λ x. get_or x 0 0 < 128) b.1.3 (omega (arith, first)) in
      m.longest (suc n) h (b.0, (b.1.0, low_word b.1.0 b.1.1 small, b.1.3))

  low_none : (length bytes ≤ 20) ⊎ (get_or bytes 20 0 < 128) → (IsUpTo 2147483647 field → ⊥) → Any field → ⊥
  low_none (inl short) none h = let long : length field ≡ 4 = number_wide IsFileNumber field h in omega (arith, length-take 4 (drop 20 bytes), length-drop 20 bytes)
  low_none (inr low) none h =
      let small : get_or (word h.0) 0 0 < 128 = subst (λ x. get_or x 0 0 < 128) h.3 (omega (arith, digit 0 (omega arith))) in
      none (h.0, low_word h.0 h.1 small, h.3)

  volume_number : (n : ℕ) → n ≤ 2147483647 → IsFileNumber (cast_signed w32 n)
  volume_number n le = omega (arith, ints)

  pub low_fault : (length bytes ≤ 20) ⊎ (get_or bytes 20 0 < 128) → (fault : FrameFault) → IsFieldFault (IsUpTo 2147483647) 4 bytes 20 fault → IsFieldFault Any 4 bytes 20 fault
  low_fault low (Torn at) h = h
  low_fault low (Size at found) h = h
  low_fault low (Lengths at head tail) h = h
  low_fault low (Label at) h = (
    h.0,
    h.1,
    record {
      none = low_none low h.2.none;
      within = h.2.within;
      begins = (h.2.begins.0, (h.2.begins.1.0, (let le : h.2.begins.1.0 ≤ 2147483647 = h.2.begins.1.1 in omega arith), volume_number h.2.begins.1.0 h.2.begins.1.1, h.2.begins.1.2));
      longest = low_longest low h.0 h.2;
    },
  )
  low_fault low NoMemory h = h

  pub low_there : (n : ℕ) → 24 ≤ length bytes → n ≤ 2147483647 → field ≡ word n → IsNumberOf IsFileNumber bytes n
  low_there n long le is = (long, omega arith, volume_number n le, is)

  -- a negative number: its first byte is high
  begins_ones : (k : ℕ) → k ≤ 3 → take k field ≡ take k ones → BeginsOne Any (take k field)
  begins_ones k le e = (
    drop k all_ones,
    (
      4294967295,
      omega arith,
      omega (arith, ints),
      ap (λ t. t ++ drop k all_ones) (e ∙ front k le) ∙ take-append-drop k all_ones ∙ sym word_all_ones,
    ),
  )
    where
      front : (k : ℕ) → k ≤ 3 → take k ones ≡ take k all_ones
      front k le = take-take k 3 all_ones le

  three : (k : ℕ) → k ≤ 3 → take k (take 3 (drop 20 bytes)) ≡ take k field
  three k le = take-take k 3 (drop 20 bytes) le ∙ sym (take-take k 4 (drop 20 bytes) (omega arith))

  pub high_fault : 20 < length bytes → 128 ≤ get_or bytes 20 0 → (fault : FrameFault) → IsFieldFault (λ t. t ≡ ones) 3 bytes 20 fault → IsFieldFault Any 4 bytes 20 fault
  high_fault some high (Torn at) h = h
  high_fault some high (Size at found) h = h
  high_fault some high (Lengths at head tail) h = h
  high_fault some high (Label at) h =
      let k : ℕ = h.0 in
      let m : IsFirstMisfit (λ t. t ≡ ones) (take 3 (drop 20 bytes)) k = h.2 in
      let within : k ≤ length (take 3 (drop 20 bytes)) = m.within in
      let room : length (take 3 (drop 20 bytes)) ≤ 3 = omega (arith, length-take 3 (drop 20 bytes)) in
      let more : List ℕ = m.begins.0 in
      let is : take k (take 3 (drop 20 bytes)) ++ more ≡ ones = m.begins.1 in
      let here : length (take k (take 3 (drop 20 bytes))) ≡ k = length-take-le k (take 3 (drop 20 bytes)) within in
      let front : take k (take 3 (drop 20 bytes)) ≡ take k ones =
      sym (take_all k (take k (take 3 (drop 20 bytes))) (omega (arith, here))) ∙ sym (take-append-le k (take k (take 3 (drop 20 bytes))) more (omega (arith, here))) ∙ ap (take k) is in
      let few : k < 3 = elim (cases_lt k 3) [
        | inl lt ↦ lt
        | inr le ↦ let e : k ≡ 3 = omega arith in
            absurd (m.none (sym (take_all k (take 3 (drop 20 bytes)) (omega arith)) ∙ front ∙ ap (λ n. take n ones) e))
      ] in (
        k,
        h.1,
        misfit_at field k (omega arith) (omega (arith, length-take 3 (drop 20 bytes), length-take 4 (drop 20 bytes)))
            (begins_ones k (omega arith) (sym (three k (omega arith)) ∙ front))
            (elim (cases_lt k (length field)) [
              | inr short ↦ inl short
              | inl longer ↦ inr (λ t such e.
                  let first : get_or t 0 0 ≡ get_or bytes 20 0 = first_byte k t field e ∙ digit 0 (omega arith) in
                  let next : k + 1 ≤ 3 = omega arith in
                  let same : take (k + 1) (take 3 (drop 20 bytes)) ≡ take (k + 1) ones =
                  three (k + 1) next ∙ sym e ∙ sym (take-take (k + 1) 3 t next) ∙ ap (take (k + 1)) (three_ones t such (omega (arith, first))) in
                  let le : k + 1 ≤ k = m.longest (k + 1) (omega (arith, length-take 3 (drop 20 bytes), length-take 4 (drop 20 bytes))) (drop (k + 1) ones, ap (λ x. x ++ drop (k + 1) ones) same ∙ take-append-drop (k + 1) ones) in
                  omega arith)
            ]),
      )
  high_fault some high NoMemory h = h

  pub last_fault : 23 ≤ length bytes → take 3 (drop 20 bytes) ≡ ones → (length bytes ≤ 23) ⊎ (get_or bytes 23 0 < 254) → IsFieldFault Any 4 bytes 20 (Label 23)
  last_fault long is stops =
      let front : take 3 field ≡ ones = sym (three 3 (omega arith)) ∙ take-take 3 3 (drop 20 bytes) (omega arith) ∙ is in (
        3,
        refl,
        misfit_at field 3 (omega arith) (omega (arith, length-take 4 (drop 20 bytes), length-drop 20 bytes)) (begins_ones 3 (omega arith) front)
            (elim stops [
              | inl short ↦ inl (omega (arith, length-take 4 (drop 20 bytes), length-drop 20 bytes))
              | inr low ↦ inr (λ t such e.
                  let first : get_or t 0 0 ≡ 255 = first_byte 3 t field e ∙ sym (get_or-take 3 field 0 0 (omega arith)) ∙ ap (λ x. get_or x 0 0) front in
                  let last : get_or t 3 0 ≡ get_or bytes 23 0 = sym (get_or-take 4 t 3 0 (omega arith)) ∙ ap (λ x. get_or x 3 0) e ∙ get_or-take 4 field 3 0 (omega arith) ∙ digit 3 (omega arith) in
                  elim (high_field t such (omega (arith, first))) [
                    | inl same ↦ omega (arith, last, ap (λ x. get_or x 3 0) same)
                    | inr same ↦ omega (arith, last, ap (λ x. get_or x 3 0) same)
                  ])
            ]),
      )

  -- the number -1 or -2
  pub high_there : (b : ℕ) → 24 ≤ length bytes → take 3 (drop 20 bytes) ≡ ones → get_or bytes 23 0 ≡ b → 254 ≤ b → b < 256 → IsNumberOf IsFileNumber bytes (4294967040 + b)
  high_there b long is last high low =
      let size : length field ≡ 4 = omega (arith, length-take 4 (drop 20 bytes), length-drop 20 bytes) in
      let front : take 3 field ≡ ones = sym (three 3 (omega arith)) ∙ take-take 3 3 (drop 20 bytes) (omega arith) ∙ is in
      let end : drop 3 field ≡ b ∷ [] =
      drop_more field 3 0 (omega arith) ∙ ap (λ x. x ∷ drop 4 field) (digit 3 (omega arith) ∙ last) ∙ ap (λ t. b ∷ t) (drop_all 4 field (omega arith)) in
      let all : field ≡ ones ++ b ∷ [] = sym (take-append-drop 3 field) ∙ ap (λ t. t ++ drop 3 field) front ∙ ap (λ t. ones ++ t) end in
      elim (cases_lt b 255) [
        | inl lt ↦ let e : b ≡ 254 = omega arith in
            subst (λ n. IsNumberOf IsFileNumber bytes (4294967040 + n)) (sym e) (long, omega arith, omega (arith, ints), all ∙ ap (λ x. ones ++ x ∷ []) e ∙ sym word_but_one)
        | inr ge ↦ let e : b ≡ 255 = omega arith in
            subst (λ n. IsNumberOf IsFileNumber bytes (4294967040 + n)) (sym e) (long, omega arith, omega (arith, ints), all ∙ ap (λ x. ones ++ x ∷ []) e ∙ sym word_all_ones)
      ]
