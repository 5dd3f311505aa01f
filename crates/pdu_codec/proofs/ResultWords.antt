-- The words of bytes that begin as another text does: read between two numbers, each is that text's word, or reading has
-- come to where the two may differ.
use Rattle.std.proofs.Common.{◌≡◌, ℕ, ◌+◌, ◌*◌, ◌/◌, ◌%◌, ◌<◌, ◌≤◌, Bool, true, false, cond, ltb, leb, List, ◌++◌, length, get_or, drop, Result, Ok, Err, refl, sym, ap, ◌∙◌, arith, inl, inr}
use Rattle.std.specs.Prelude.{◌⊎◌, ◌&&◌}
use Rattle.std.specs.Int.{w32, to_be_bytes}
use Rattle.std.proofs.lemmas.Bool.{cases_lt, ltb-true, ltb-false, leb-false}
use Rattle.std.proofs.lemmas.List.{get_or-drop}
use Rattle.pcp_model.specs.Words.{word}
use Rattle.pdu_codec.specs.ResultMisfit.{◌>>=◌, byte_between, word_between, any_word, most_values, count_word}

-- what a step gives, or it stops at this byte or behind it
abbrev pub Fate : {X : Type 0} → ℕ → (X → Type 0) → Result X ℕ → Type 0
Fate n P (Ok x) = P x
Fate n P (Err k) = n ≤ k

pub and_on : {X Y : Type 0} (n : ℕ) (P : X → Type 0) (Q : Y → Type 0) (r : Result X ℕ) (f : X → Result Y ℕ) → Fate n P r → ((x : X) → P x → Fate n Q (f x)) → Fate n Q (r >>= f)
and_on n P Q (Ok x) f h g = g x h
and_on n P Q (Err k) f h g = h

pub also : {X : Type 0} (n : ℕ) (P Q : X → Type 0) (r : Result X ℕ) → Fate n P r → ((x : X) → P x → Q x) → Fate n Q r
also n P Q (Ok x) h g = g x h
also n P Q (Err k) h g = h

-- so many bytes are the same
pub record Agrees (bytes t : List ℕ) (n : ℕ) : Type 0 where
  pub within : n ≤ length bytes
  pub long : n ≤ length t
  pub same : (i : ℕ) → i < n → get_or bytes i 0 ≡ get_or t i 0

-- a word stands at a byte
pub record WordAt (t : List ℕ) (at w : ℕ) : Type 0 where
  pub first : get_or t at 0 ≡ w / 16777216 % 256
  pub second : get_or t (at + 1) 0 ≡ w / 65536 % 256
  pub third : get_or t (at + 2) 0 ≡ w / 256 % 256
  pub fourth : get_or t (at + 3) 0 ≡ w % 256
  pub low : w < 4294967296

byte_at : (t front : List ℕ) (at i : ℕ) → drop at t ≡ front → get_or t (at + i) 0 ≡ get_or front i 0
byte_at t front at i e = sym (get_or-drop at t i 0) ∙ ap (λ x. get_or x i 0) e

pub stands : (t rest : List ℕ) (at w : ℕ) → w < 4294967296 → drop at t ≡ word w ++ rest → WordAt t at w
unfolding word
stands t rest at w lt e = record {
  first = ap (λ i. get_or t i 0) (let h : at ≡ at + 0 = omega arith in h) ∙ byte_at t (to_be_bytes w32 w ++ rest) at 0 e ∙ (let h : get_or (to_be_bytes w32 w ++ rest) 0 0 ≡ w / 16777216 % 256 = refl in h);
  second = byte_at t (to_be_bytes w32 w ++ rest) at 1 e;
  third = byte_at t (to_be_bytes w32 w ++ rest) at 2 e;
  fourth = byte_at t (to_be_bytes w32 w ++ rest) at 3 e;
  low = lt;
}

byte_cases : (n : ℕ) (P : ℕ → Type 0) (b c d : Bool) (x at long : ℕ) → n ≤ long → (c ≡ true → n ≤ at) → (d ≡ true → n ≤ at) → (c ≡ false → P x) → Fate n P (cond b (cond c (Err at) (cond d (Err at) (Ok x))) (Err long))
byte_cases n P true true d x at long h f g k = f refl
byte_cases n P true false true x at long h f g k = g refl
byte_cases n P true false false x at long h f g k = k refl
byte_cases n P false c d x at long h f g k = h

-- read at or behind the byte: anything from the least number on
byte_past : (bytes : List ℕ) (n at before least most : ℕ) → n ≤ length bytes → n ≤ at → Fate n (λ x. least ≤ x) (byte_between bytes at before least most)
byte_past bytes n at before least most within h =
    let x : ℕ = before * 256 + get_or bytes at 0 in
    byte_cases n (λ v. least ≤ v) (ltb at (length bytes)) (ltb x least) (ltb most x) x at (length bytes) within (λ e. h) (λ e. h) (λ e. ltb-false x least e)

pub word_past : (bytes : List ℕ) (n at least most : ℕ) → n ≤ length bytes → n ≤ at → Fate n (λ x. least ≤ x) (word_between bytes at least most)
unfolding word_between
word_past bytes n at least most within h =
    and_on n (λ x. least / 16777216 ≤ x) (λ x. least ≤ x) (byte_between bytes at 0 (least / 16777216) (most / 16777216)) _ (byte_past bytes n at 0 (least / 16777216) (most / 16777216) within h) (λ first p.
    and_on n (λ x. least / 65536 ≤ x) (λ x. least ≤ x) (byte_between bytes (at + 1) first (least / 65536) (most / 65536)) _ (byte_past bytes n (at + 1) first (least / 65536) (most / 65536) within (omega arith)) (λ second q.
    and_on n (λ x. least / 256 ≤ x) (λ x. least ≤ x) (byte_between bytes (at + 2) second (least / 256) (most / 256)) _ (byte_past bytes n (at + 2) second (least / 256) (most / 256) within (omega arith)) (λ third r.
    byte_past bytes n (at + 3) third least most within (omega arith))))

module _ (bytes t : List ℕ) (n : ℕ) (a : Agrees bytes t n) where
  -- from a number so far: the one that the text has, or whatever stands where they may differ
  byte_goes : (at before least most v : ℕ) → (before ≡ v / 256) ⊎ (n ≤ at) → get_or t at 0 ≡ v % 256 → least ≤ v → v ≤ most → Fate n (λ x. (least ≤ x) × ((x ≡ v) ⊎ (n ≤ at + 1))) (byte_between bytes at before least most)
  byte_goes at before least most v so_far byte low high =
      let x : ℕ = before * 256 + get_or bytes at 0 in
      let found : (x ≡ v) ⊎ (n ≤ at) = found_of at before v so_far byte (cases_lt at n) in
      byte_cases n (λ y. (least ≤ y) × ((y ≡ v) ⊎ (n ≤ at + 1))) (ltb at (length bytes)) (ltb x least) (ltb most x) x at (length bytes) a.within
      (λ e. let less : x < least = ltb-true x least e in behind at x v found (λ (s : x ≡ v). omega arith))
      (λ e. let more : most < x = ltb-true most x e in behind at x v found (λ (s : x ≡ v). omega arith))
      (λ e. (ltb-false x least e, elim found [ inl s ↦ inl s | inr s ↦ inr (omega arith) ]))
    where
      behind : (at x v : ℕ) → (x ≡ v) ⊎ (n ≤ at) → (x ≡ v → ⊥) → n ≤ at
      behind at x v (inl s) no_way = absurd (no_way s)
      behind at x v (inr s) no_way = s

      found_of : (at before v : ℕ) → (before ≡ v / 256) ⊎ (n ≤ at) → get_or t at 0 ≡ v % 256 → (at < n) ⊎ (n ≤ at) → (before * 256 + get_or bytes at 0 ≡ v) ⊎ (n ≤ at)
      found_of at before v (inl s) byte (inl lt) = let one : get_or bytes at 0 ≡ get_or t at 0 = a.same at lt in inl (omega (arith, s, one, byte))
      found_of at before v (inl s) byte (inr le) = inr le
      found_of at before v (inr s) byte q = inr s

  pub word_goes : (at least most w : ℕ) → WordAt t at w → least ≤ w → w ≤ most → Fate n (λ x. (least ≤ x) × ((x ≡ w) ⊎ (n ≤ at + 4))) (word_between bytes at least most)
  unfolding word_between
  word_goes at least most w s low high =
      let fits : w < 4294967296 = s.low in
      and_on n (λ x. (least / 16777216 ≤ x) × ((x ≡ w / 16777216) ⊎ (n ≤ at + 1))) (λ x. (least ≤ x) × ((x ≡ w) ⊎ (n ≤ at + 4))) (byte_between bytes at 0 (least / 16777216) (most / 16777216)) _
      (byte_goes at 0 (least / 16777216) (most / 16777216) (w / 16777216) (inl (omega arith)) s.first (omega arith) (omega arith)) (λ first p.
      and_on n (λ x. (least / 65536 ≤ x) × ((x ≡ w / 65536) ⊎ (n ≤ at + 1 + 1))) (λ x. (least ≤ x) × ((x ≡ w) ⊎ (n ≤ at + 4))) (byte_between bytes (at + 1) first (least / 65536) (most / 65536)) _
      (byte_goes (at + 1) first (least / 65536) (most / 65536) (w / 65536) (elim p.1 [ inl e ↦ inl (omega (arith, e)) | inr e ↦ inr e ]) s.second (omega arith) (omega arith)) (λ second q.
      and_on n (λ x. (least / 256 ≤ x) × ((x ≡ w / 256) ⊎ (n ≤ at + 2 + 1))) (λ x. (least ≤ x) × ((x ≡ w) ⊎ (n ≤ at + 4))) (byte_between bytes (at + 2) second (least / 256) (most / 256)) _
      (byte_goes (at + 2) second (least / 256) (most / 256) (w / 256) (elim q.1 [ inl e ↦ inl (omega (arith, e)) | inr e ↦ inr (omega (arith, e)) ]) s.third (omega arith) (omega arith)) (λ third r.
      also n (λ x. (least ≤ x) × ((x ≡ w) ⊎ (n ≤ at + 3 + 1))) (λ x. (least ≤ x) × ((x ≡ w) ⊎ (n ≤ at + 4))) (byte_between bytes (at + 3) third least most)
      (byte_goes (at + 3) third least most w (elim r.1 [ inl e ↦ inl (omega (arith, e)) | inr e ↦ inr (omega (arith, e)) ]) s.fourth low high)
      (λ x h. (h.0, elim h.1 [ inl e ↦ inl e | inr e ↦ inr (omega (arith, e)) ])))))

  count_cases : (b : Bool) (P : ℕ → Type 0) (x y : Result ℕ ℕ) → Fate n P x → (b ≡ false → Fate n P y) → Fate n P (cond b x y)
  count_cases true P x y h g = h
  count_cases false P x y h g = g refl

  and_false : (b c : Bool) → (b && c) ≡ false → (b ≡ false) ⊎ (c ≡ false)
  and_false true c e = inr e
  and_false false c e = inl refl

  -- a number of values, or a status
  pub count_goes : (at others limit w : ℕ) → WordAt t (at + 4) w → (at + 4 < n → (w ≤ most_values at others limit) ⊎ (2147483648 ≤ w)) → Fate n (λ x. (x ≡ w) ⊎ (n ≤ at + 8)) (count_word bytes at others limit)
  count_goes at others limit w s kind =
      let fits : w < 4294967296 = s.low in
      let any : Fate n (λ x. (x ≡ w) ⊎ (n ≤ at + 8)) (any_word bytes (at + 4)) = counted 4294967295 (word_goes (at + 4) 0 4294967295 w s (omega arith) (omega arith)) in
      count_cases (ltb (at + 4) (length bytes) && leb 128 (get_or bytes (at + 4) 0)) (λ x. (x ≡ w) ⊎ (n ≤ at + 8)) (any_word bytes (at + 4)) (word_between bytes (at + 4) 0 (most_values at others limit)) any
      (λ e. reads_on e (cases_lt (at + 4) n))
    where
      counted : (most : ℕ) → Fate n (λ x. (0 ≤ x) × ((x ≡ w) ⊎ (n ≤ at + 4 + 4))) (word_between bytes (at + 4) 0 most) → Fate n (λ x. (x ≡ w) ⊎ (n ≤ at + 8)) (word_between bytes (at + 4) 0 most)
      counted most h = also n (λ x. (0 ≤ x) × ((x ≡ w) ⊎ (n ≤ at + 4 + 4))) (λ x. (x ≡ w) ⊎ (n ≤ at + 8)) (word_between bytes (at + 4) 0 most) h (λ x p. elim p.1 [ inl e ↦ inl e | inr e ↦ inr (omega (arith, e)) ])

      low_goes : (ltb (at + 4) (length bytes) && leb 128 (get_or bytes (at + 4) 0)) ≡ false → (w ≤ most_values at others limit) ⊎ (2147483648 ≤ w) → at + 4 < n → Fate n (λ x. (x ≡ w) ⊎ (n ≤ at + 8)) (word_between bytes (at + 4) 0 (most_values at others limit))
      low_goes e (inl few) lt = counted (most_values at others limit) (word_goes (at + 4) 0 (most_values at others limit) w s (omega arith) few)
      low_goes e (inr high) lt = elim (and_false (ltb (at + 4) (length bytes)) (leb 128 (get_or bytes (at + 4) 0)) e) [
        | inl f ↦ let le : length bytes ≤ at + 4 = ltb-false (at + 4) (length bytes) f in let in_it : n ≤ length bytes = a.within in absurd (omega arith)
        | inr f ↦ let small : get_or bytes (at + 4) 0 < 128 = leb-false 128 (get_or bytes (at + 4) 0) f in
            let one : get_or bytes (at + 4) 0 ≡ get_or t (at + 4) 0 = a.same (at + 4) lt in
            let byte : get_or t (at + 4) 0 ≡ w / 16777216 % 256 = s.first in
            let fits : w < 4294967296 = s.low in
            absurd (omega arith)
      ]

      reads_on : (ltb (at + 4) (length bytes) && leb 128 (get_or bytes (at + 4) 0)) ≡ false → (at + 4 < n) ⊎ (n ≤ at + 4) → Fate n (λ x. (x ≡ w) ⊎ (n ≤ at + 8)) (word_between bytes (at + 4) 0 (most_values at others limit))
      reads_on e (inl lt) = low_goes e (kind lt) lt
      reads_on e (inr le) = also n (λ x. 0 ≤ x) (λ x. (x ≡ w) ⊎ (n ≤ at + 8)) (word_between bytes (at + 4) 0 (most_values at others limit)) (word_past bytes n (at + 4) 0 (most_values at others limit) a.within le) (λ x h. inr (omega arith))
