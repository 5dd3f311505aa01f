-- Where the first line feed stands, the first line ends.
use Rattle.std.proofs.Common.{◌≡◌, ℕ, zero, suc, ◌-◌, ◌<◌, Bool, true, false, cond, nat_eq, List, [], ◌∷◌, ◌++◌, length, take, drop, refl, sym, ap, ◌∙◌, arith, length-drop, Some, None, option_map}
use Rattle.std.proofs.lemmas.List.{take_all, length-take-le}
use mathlib.Core.Logic.{⊎_elim, inl, inr, ◌⊎◌}
use Rattle.memchr.specs.Find.{Passes, is_byte, Nowhere}
use Rattle.text_lines.specs.Lines.{prepend, lines_of, without_feed, IsUnended, IsSplit}

pub either : (q : Bool) → (q ≡ true) ⊎ (q ≡ false)
either true = inl refl
either false = inr refl

-- a line feed stands at this place
abbrev IsFeed : List ℕ → ℕ → Type 0
IsFeed bytes k = Passes (is_byte 10) bytes k

-- bytes behind which a line feed stands
pub fed : (text : List ℕ) → without_feed (text ++ 10 ∷ []) ≡ Some text
unfolding without_feed
fed [] = refl
fed (b ∷ []) = refl
fed (b ∷ c ∷ text) = ap (option_map (λ t. b ∷ t)) (fed (c ∷ text))

-- a line feed is a line of its own
pub feed_lines : (b : ℕ) (bs : List ℕ) → nat_eq b 10 ≡ true → lines_of (b ∷ bs) ≡ (10 ∷ []) ∷ lines_of bs
unfolding lines_of
feed_lines b bs h = ap (λ q. cond q ((10 ∷ []) ∷ lines_of bs) (prepend b (lines_of bs))) h

-- any other byte begins the first line behind it
pub other_lines : (b : ℕ) (bs : List ℕ) → nat_eq b 10 ≡ false → lines_of (b ∷ bs) ≡ prepend b (lines_of bs)
unfolding lines_of
other_lines b bs h = ap (λ q. cond q ((10 ∷ []) ∷ lines_of bs) (prepend b (lines_of bs))) h

-- what holds of no place holds of no later one
behind : (b : ℕ) (bs : List ℕ) (n : ℕ) → Nowhere (IsFeed (b ∷ bs)) 0 (suc n) → Nowhere (IsFeed bs) 0 n
behind b bs n none k low high feed = none (suc k) (omega arith) (omega arith) feed

-- the first line up to its line feed, and the bytes behind it
first_lines : (bytes : List ℕ) (n : ℕ) → n < length bytes → IsFeed bytes n → Nowhere (IsFeed bytes) 0 n → lines_of bytes ≡ (take n bytes ++ 10 ∷ []) ∷ lines_of (drop (suc n) bytes)
unfolding prepend
first_lines [] n h feed none = absurd (omega arith)
first_lines (b ∷ bs) zero h feed none = feed_lines b bs feed
first_lines (b ∷ bs) (suc n) h feed none =
    ⊎_elim
    (λ (q : nat_eq b 10 ≡ true). absurd (none 0 (omega arith) (omega arith) q))
    (λ (q : nat_eq b 10 ≡ false). other_lines b bs q ∙ ap (prepend b) (first_lines bs n (omega arith) feed (behind b bs n none)))
    (either (nat_eq b 10))

-- bytes without a line feed are one line
last_lines : (bytes : List ℕ) → Nowhere (IsFeed bytes) 0 (length bytes) → 0 < length bytes → (lines_of bytes ≡ bytes ∷ []) × (without_feed bytes ≡ None)
unfolding lines_of prepend without_feed
last_lines [] none p = absurd (omega arith)
last_lines (b ∷ []) none p =
    ⊎_elim
    (λ (q : nat_eq b 10 ≡ true). absurd (none 0 (omega arith) (omega arith) q))
    (λ (q : nat_eq b 10 ≡ false). (other_lines b [] q, ap (λ q. cond q (Some []) None) q))
    (either (nat_eq b 10))
last_lines (b ∷ c ∷ bs) none p =
    ⊎_elim
    (λ (q : nat_eq b 10 ≡ true). absurd (none 0 (omega arith) (omega arith) q))
    (λ (q : nat_eq b 10 ≡ false).
    let more = last_lines (c ∷ bs) (behind b (c ∷ bs) (length (c ∷ bs)) none) (omega arith) in
    (other_lines b (c ∷ bs) q ∙ ap (prepend b) more.0, ap (option_map (λ t. b ∷ t)) more.1))
    (either (nat_eq b 10))

drop_one : (n : ℕ) (bytes : List ℕ) → drop 1 (drop n bytes) ≡ drop (suc n) bytes
drop_one zero bytes = refl
drop_one (suc n) [] = refl
drop_one (suc n) (b ∷ bs) = drop_one n bs

pub unended : (bytes : List ℕ) → Nowhere (IsFeed bytes) 0 (length bytes) → IsUnended bytes
unended bytes none = record { lines = λ p. (last_lines bytes none p).0; first = λ p. (last_lines bytes none p).1 }

pub split : (bytes line behind rest : List ℕ) (n : ℕ) → n < length bytes → IsFeed bytes n → Nowhere (IsFeed bytes) 0 n → line ≡ take n bytes → behind ≡ drop n bytes → rest ≡ take (length behind - 1) (drop 1 behind) → IsSplit bytes line rest
split bytes line behind rest n there feed none l d r =
    let rests : rest ≡ drop (suc n) bytes = r ∙ take_all (length behind - 1) (drop 1 behind) (omega (arith, length-drop 1 behind)) ∙ ap (drop 1) d ∙ drop_one n bytes in
    record {
      lines = first_lines bytes n there feed none ∙ ap (λ t. (t ++ 10 ∷ []) ∷ lines_of (drop (suc n) bytes)) (sym l) ∙ ap (λ t. (line ++ 10 ∷ []) ∷ lines_of t) (sym rests);
      first = fed line;
      long = omega (arith, ap length l, length-take-le n bytes (omega arith), ap length rests, length-drop (suc n) bytes);
    }
