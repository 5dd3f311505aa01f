-- Words of bytes that stop, filled up from there: with zeros a word stays low enough, and with the highest bytes high enough.
use Rattle.std.proofs.Common.{◌≡◌, ℕ, ◌+◌, ◌*◌, ◌/◌, ◌<◌, ◌≤◌, Bool, true, false, cond, ltb, leb, List, length, get_or, Result, Ok, Err, refl, sym, ap, subst, arith, inl, inr}
use Rattle.std.specs.Prelude.{◌⊎◌, ◌&&◌}
use Rattle.std.proofs.lemmas.Bool.{lt-ltb, le-ltb, ltb-true, ltb-false, leb-true}
use Rattle.pcp_base.specs.Fields.{number_at}
use Rattle.pcp_base.proofs.Bytes.{IsBytes}
use Rattle.pdu_codec.specs.ResultMisfit.{◌>>=◌, byte_between, word_between, any_word, most_values, count_word}
use Rattle.pdu_codec.proofs.ResultHere.{four}

-- what a step gives, or what holds of the byte at which it stops
abbrev pub Ends : {X : Type 0} → (X → Type 0) → (ℕ → Type 0) → Result X ℕ → Type 0
Ends P Q (Ok x) = P x
Ends P Q (Err k) = Q k

pub ends_on : {X Y : Type 0} (P : X → Type 0) (R : Y → Type 0) (S Q : ℕ → Type 0) (r : Result X ℕ) (f : X → Result Y ℕ) → Ends P S r → ((k : ℕ) → S k → Q k) → ((x : X) → P x → Ends R Q (f x)) → Ends R Q (r >>= f)
ends_on P R S Q (Ok x) f h stop go = go x h
ends_on P R S Q (Err k) f h stop go = stop k h

pub ends_or : {X : Type 0} (P R : X → Type 0) (S Q : ℕ → Type 0) (r : Result X ℕ) → Ends P S r → ((k : ℕ) → S k → Q k) → ((x : X) → P x → R x) → Ends R Q r
ends_or P R S Q (Ok x) h stop go = go x h
ends_or P R S Q (Err k) h stop go = stop k h

-- ---- bytes with no end

-- the word at a byte
abbrev pub word_of : (ℕ → ℕ) → ℕ → ℕ
word_of g p = g p * 16777216 + g (p + 1) * 65536 + g (p + 2) * 256 + g (p + 3)

-- these bytes up to one of them, and from there on always the same
abbrev pub filled : List ℕ → ℕ → ℕ → ℕ → ℕ
filled bytes k c i = cond (ltb i k) (get_or bytes i 0) c

pub kept : (bytes : List ℕ) (k c i : ℕ) → i < k → filled bytes k c i ≡ get_or bytes i 0
kept bytes k c i h = ap (λ b. cond b (get_or bytes i 0) c) (lt-ltb i k h)

pub put : (bytes : List ℕ) (k c i : ℕ) → k ≤ i → filled bytes k c i ≡ c
put bytes k c i h = ap (λ b. cond b (get_or bytes i 0) c) (le-ltb i k h)

-- ---- words

pub record WordIs (bytes : List ℕ) (at least most w : ℕ) : Type 0 where
  pub is : w ≡ number_at bytes at
  pub low : least ≤ w
  pub high : w ≤ most
  pub room : at + 4 ≤ length bytes

-- A word between two numbers stops here, and some number between them goes on from the bytes before: the one with zeros,
-- or the one with the highest bytes.
pub record WordStops (bytes : List ℕ) (at least most k : ℕ) : Type 0 where
  pub from : at ≤ k
  pub before : k < at + 4
  pub within : k ≤ length bytes
  pub first : at < k → get_or bytes at 0 * 16777216 ≤ word_of (filled bytes k 0) at
  pub high : word_of (filled bytes k 0) at ≤ most
  pub low : most ≡ 4294967295 → least ≤ word_of (filled bytes k 255) at
  pub last : least ≡ 0 → most ≡ 4294967295 → k ≡ length bytes

byte_cases : (P Q : ℕ → Type 0) (b c d : Bool) (x at long : ℕ) → (b ≡ false → Q long) → (b ≡ true → c ≡ true → Q at) → (b ≡ true → d ≡ true → Q at) → (b ≡ true → c ≡ false → d ≡ false → P x)
    → Ends P Q (cond b (cond c (Err at) (cond d (Err at) (Ok x))) (Err long))
byte_cases P Q true true d x at long h f g k = f refl refl
byte_cases P Q true false true x at long h f g k = g refl refl
byte_cases P Q true false false x at long h f g k = k refl refl refl
byte_cases P Q false c d x at long h f g k = h refl

byte_ends : (bytes : List ℕ) (at before least most : ℕ) (P Q : ℕ → Type 0) → IsBytes bytes → at ≤ length bytes
    → ((k : ℕ) → k ≡ at → (least ≡ 0 → before * 256 + 255 ≤ most → k ≡ length bytes) → Q k)
    → ((x : ℕ) → x ≡ before * 256 + get_or bytes at 0 → at < length bytes → least ≤ x → x ≤ most → P x)
    → Ends P Q (byte_between bytes at before least most)
byte_ends bytes at before least most P Q fits within stop go =
    let x : ℕ = before * 256 + get_or bytes at 0 in
    let byte : get_or bytes at 0 < 256 = fits at in
    byte_cases P Q (ltb at (length bytes)) (ltb x least) (ltb most x) x at (length bytes)
    (λ b. let out : length bytes ≤ at = ltb-false at (length bytes) b in stop (length bytes) (omega arith) (λ z m. refl))
    (λ b c. let less : x < least = ltb-true x least c in stop at refl (λ z m. absurd (omega arith)))
    (λ b d. let more : most < x = ltb-true most x d in stop at refl (λ z m. absurd (omega arith)))
    (λ b c d. go x refl (ltb-true at (length bytes) b) (ltb-false x least c) (ltb-false most x d))

-- words of which so many bytes are kept
module _ (bytes : List ℕ) (k c p : ℕ) where
  pub word_put : k ≤ p → word_of (filled bytes k c) p ≡ c * 16777216 + c * 65536 + c * 256 + c
  word_put h = omega (arith, put bytes k c p h, put bytes k c (p + 1) (omega arith), put bytes k c (p + 2) (omega arith), put bytes k c (p + 3) (omega arith))

  word_kept_1 : k ≡ p + 1 → word_of (filled bytes k c) p ≡ get_or bytes p 0 * 16777216 + c * 65536 + c * 256 + c
  word_kept_1 h = omega (arith, kept bytes k c p (omega arith), put bytes k c (p + 1) (omega arith), put bytes k c (p + 2) (omega arith), put bytes k c (p + 3) (omega arith))

  word_kept_2 : k ≡ p + 2 → word_of (filled bytes k c) p ≡ get_or bytes p 0 * 16777216 + get_or bytes (p + 1) 0 * 65536 + c * 256 + c
  word_kept_2 h = omega (arith, kept bytes k c p (omega arith), kept bytes k c (p + 1) (omega arith), put bytes k c (p + 2) (omega arith), put bytes k c (p + 3) (omega arith))

  word_kept_3 : k ≡ p + 3 → word_of (filled bytes k c) p ≡ get_or bytes p 0 * 16777216 + get_or bytes (p + 1) 0 * 65536 + get_or bytes (p + 2) 0 * 256 + c
  word_kept_3 h = omega (arith, kept bytes k c p (omega arith), kept bytes k c (p + 1) (omega arith), kept bytes k c (p + 2) (omega arith), put bytes k c (p + 3) (omega arith))

-- A word that stops behind so many bytes: these are its number with zeros, and with the highest bytes.
stops : (bytes : List ℕ) (at least most k low high : ℕ) → at ≤ k → k < at + 4 → k ≤ length bytes → word_of (filled bytes k 0) at ≡ low → word_of (filled bytes k 255) at ≡ high → (at < k → get_or bytes at 0 * 16777216 ≤ low) → low ≤ most
    → (most ≡ 4294967295 → least ≤ high) → (least ≡ 0 → most ≡ 4294967295 → k ≡ length bytes) → WordStops bytes at least most k
stops bytes at least most k low high from before within zeros full first fits enough last = record {
  from = from;
  before = before;
  within = within;
  first = λ h. subst (λ w. get_or bytes at 0 * 16777216 ≤ w) (sym zeros) (first h);
  high = subst (λ w. w ≤ most) (sym zeros) fits;
  low = λ h. subst (λ w. least ≤ w) (sym full) (enough h);
  last = last;
}

-- a byte more, with what the number so far is
record More (before least most byte long at x : ℕ) : Type 0 where
  is : x ≡ before * 256 + byte
  room : at < long
  low : least ≤ x
  high : x ≤ most

pub word_ends : (bytes : List ℕ) (at least most : ℕ) → IsBytes bytes → at ≤ length bytes → least ≤ most → most < 4294967296 → Ends (WordIs bytes at least most) (WordStops bytes at least most) (word_between bytes at least most)
unfolding word_between
word_ends bytes at least most fits within ordered top =
    let long : ℕ = length bytes in
    let Stop : ℕ → Type 0 = WordStops bytes at least most in
    let Is : ℕ → Type 0 = WordIs bytes at least most in
    ends_on (More 0 (least / 16777216) (most / 16777216) (get_or bytes at 0) long at) Is Stop Stop (byte_between bytes at 0 (least / 16777216) (most / 16777216)) _
    (byte_ends bytes at 0 (least / 16777216) (most / 16777216) (More 0 (least / 16777216) (most / 16777216) (get_or bytes at 0) long at) Stop fits within
    (λ k e last. stops bytes at least most k _ _ (omega arith) (omega arith) (omega arith) (word_put bytes k 0 at (omega arith)) (word_put bytes k 255 at (omega arith)) (λ h. absurd (omega arith)) (omega arith) (λ m. omega arith) (λ z m. last (omega arith) (omega arith)))
    (λ x is room low high. record { is = is; room = room; low = low; high = high }))
    (λ k s. s) (λ first p.
    ends_on (More first (least / 65536) (most / 65536) (get_or bytes (at + 1) 0) long (at + 1)) Is Stop Stop (byte_between bytes (at + 1) first (least / 65536) (most / 65536)) _
    (byte_ends bytes (at + 1) first (least / 65536) (most / 65536) (More first (least / 65536) (most / 65536) (get_or bytes (at + 1) 0) long (at + 1)) Stop fits (omega (arith, p.room))
    (λ k e last. stops bytes at least most k _ _ (omega arith) (omega arith) (omega (arith, p.room)) (word_kept_1 bytes k 0 at e) (word_kept_1 bytes k 255 at e) (λ h. omega arith) (omega (arith, p.is, p.high)) (λ m. omega (arith, p.is, p.low)) (λ z m. last (omega arith) (omega (arith, p.high))))
    (λ x is room low high. record { is = is; room = room; low = low; high = high }))
    (λ k s. s) (λ second q.
    ends_on (More second (least / 256) (most / 256) (get_or bytes (at + 2) 0) long (at + 2)) Is Stop Stop (byte_between bytes (at + 2) second (least / 256) (most / 256)) _
    (byte_ends bytes (at + 2) second (least / 256) (most / 256) (More second (least / 256) (most / 256) (get_or bytes (at + 2) 0) long (at + 2)) Stop fits (omega (arith, q.room))
    (λ k e last. stops bytes at least most k _ _ (omega arith) (omega arith) (omega (arith, q.room)) (word_kept_2 bytes k 0 at (omega arith)) (word_kept_2 bytes k 255 at (omega arith)) (λ h. omega arith) (omega (arith, p.is, q.is, q.high)) (λ m. omega (arith, p.is, q.is, q.low)) (λ z m. last (omega arith) (omega (arith, q.high))))
    (λ x is room low high. record { is = is; room = room; low = low; high = high }))
    (λ k s. s) (λ third r.
    byte_ends bytes (at + 3) third least most Is Stop fits (omega (arith, r.room))
    (λ k e last. stops bytes at least most k _ _ (omega arith) (omega arith) (omega (arith, r.room)) (word_kept_3 bytes k 0 at (omega arith)) (word_kept_3 bytes k 255 at (omega arith)) (λ h. omega arith) (omega (arith, p.is, q.is, r.is, r.high)) (λ m. omega (arith, p.is, q.is, r.is, r.low)) (λ z m. last (omega arith) (omega (arith, r.high))))
    (λ x is room low high. record { is = omega (arith, is, p.is, q.is, r.is, four bytes at); low = low; high = high; room = omega arith }))))

-- ---- the number of values, or the status

pub record CountIs (bytes : List ℕ) (at others limit n : ℕ) : Type 0 where
  pub is : n ≡ number_at bytes (at + 4)
  pub kind : (n ≤ most_values at others limit) ⊎ (2147483648 ≤ n)
  pub room : at + 8 ≤ length bytes

pub record CountStops (bytes : List ℕ) (at others limit k : ℕ) : Type 0 where
  pub from : at + 4 ≤ k
  pub before : k < at + 8
  pub within : k ≤ length bytes
  pub kind : (word_of (filled bytes k 0) (at + 4) ≤ most_values at others limit) ⊎ (2147483648 ≤ word_of (filled bytes k 0) (at + 4))

and_true : (b c : Bool) → (b && c) ≡ true → (b ≡ true) × (c ≡ true)
and_true true c e = (refl, e)
and_true false c e = absurd cc

pub count_ends : (bytes : List ℕ) (at others limit : ℕ) → IsBytes bytes → at + 4 ≤ length bytes → Ends (CountIs bytes at others limit) (CountStops bytes at others limit) (count_word bytes at others limit)
count_ends bytes at others limit fits within = by (ltb (at + 4) (length bytes) && leb 128 (get_or bytes (at + 4) 0)) refl
  where
    by : (b : Bool) → (ltb (at + 4) (length bytes) && leb 128 (get_or bytes (at + 4) 0)) ≡ b
        → Ends (CountIs bytes at others limit) (CountStops bytes at others limit) (cond b (any_word bytes (at + 4)) (word_between bytes (at + 4) 0 (most_values at others limit)))
    by true e =
        let both = and_true (ltb (at + 4) (length bytes)) (leb 128 (get_or bytes (at + 4) 0)) e in
        let more : at + 4 < length bytes = ltb-true (at + 4) (length bytes) both.0 in
        let sign : 128 ≤ get_or bytes (at + 4) 0 = leb-true 128 (get_or bytes (at + 4) 0) both.1 in
        let number : number_at bytes (at + 4) ≡ get_or bytes (at + 4) 0 * 16777216 + get_or bytes (at + 4 + 1) 0 * 65536 + get_or bytes (at + 4 + 2) 0 * 256 + get_or bytes (at + 4 + 3) 0 = four bytes (at + 4) in
        ends_or (WordIs bytes (at + 4) 0 4294967295) (CountIs bytes at others limit) (WordStops bytes (at + 4) 0 4294967295) (CountStops bytes at others limit) (any_word bytes (at + 4))
        (word_ends bytes (at + 4) 0 4294967295 fits within (omega arith) (omega arith))
        (λ k s. let ends : k ≡ length bytes = s.last refl refl in let high : get_or bytes (at + 4) 0 * 16777216 ≤ word_of (filled bytes k 0) (at + 4) = s.first (omega arith) in
        record { from = s.from; before = omega (arith, s.before); within = s.within; kind = inr (omega arith) })
        (λ n w. record { is = w.is; kind = inr (omega (arith, w.is)); room = omega (arith, w.room) })
    by false e =
        ends_or (WordIs bytes (at + 4) 0 (most_values at others limit)) (CountIs bytes at others limit) (WordStops bytes (at + 4) 0 (most_values at others limit)) (CountStops bytes at others limit) (word_between bytes (at + 4) 0 (most_values at others limit))
        (word_ends bytes (at + 4) 0 (most_values at others limit) fits within (omega arith) (omega arith))
        (λ k s. record { from = s.from; before = omega (arith, s.before); within = s.within; kind = inl s.high })
        (λ n w. record { is = w.is; kind = inl w.high; room = omega (arith, w.room) })
