-- A framed record that stands in bytes, and the words at its ends.
use Rattle.std.proofs.Common.{zero, suc, inl, inr, [], ◌∷◌, slice_index_or, ◌≡◌, ℕ, ◌+◌, ◌-◌, ◌<◌, ◌≤◌, List, ◌++◌, length, get_or, take, drop, refl, sym, ap, ◌∙◌, subst, append_assoc, arith}
use Rattle.std.specs.Int.{w32, from_be_bytes}
use Rattle.std.specs.List.{slice_range, AllByRecursion}
use Rattle.std.proofs.lemmas.List.{take_at, drop_at, drop-drop, take-append-drop, length-append, length-take, length-drop, get_or-drop, get_or-take, get_or_past}
use Rattle.std.proofs.lemmas.Bool.{cases_lt}
use Rattle.std.proofs.lemmas.List.Folds.{drop_split}
use Rattle.std.proofs.lemmas.Nat.{be_bytes_4}
use Rattle.pcp_base.specs.Fields.{number_at}
use Rattle.pcp_base.proofs.Bytes.{IsBytes}
use Rattle.pcp_model.specs.Words.{word, length-word}
use Rattle.pcp_model.specs.Frame.{frame, frames, IsFrameable}
use Rattle.pcp_model.proofs.Lengths.{length-frame}
use Rattle.pcp_model.proofs.Cuts.{number_of_word}
use Rattle.archive_frame.specs.Steps.{Stands, IsSize}

-- the word at a byte
pub word_at : (bytes : List ℕ) (at : ℕ) → IsBytes bytes → at + 4 ≤ length bytes → word (number_at bytes at) ≡ take 4 (drop at bytes)
unfolding word
word_at bytes at fits within =
    be_bytes_4 (take 4 (drop at bytes)) (number_at bytes at) (omega (arith, length-take 4 (drop at bytes), length-drop at bytes))
    (λ i. elim (cases_lt i 4) [
      | inl lt ↦ rw (get_or-take 4 (drop at bytes) i 0 lt, get_or-drop at bytes i 0) (fits (at + i))
      | inr le ↦ rw (get_or_past (take 4 (drop at bytes)) i 0 (omega (arith, length-take 4 (drop at bytes)))) (omega arith)
    ]) refl

-- bytes go on with this word
pub begins_word : (bytes : List ℕ) (at : ℕ) → IsBytes bytes → at + 4 ≤ length bytes → drop at bytes ≡ word (number_at bytes at) ++ drop (at + 4) bytes
begins_word bytes at fits within =
    sym (take-append-drop 4 (drop at bytes)) ∙ ap (λ t. t ++ drop 4 (drop at bytes)) (sym (word_at bytes at fits within)) ∙ ap (λ t. word (number_at bytes at) ++ t) (drop-drop 4 at bytes)

-- two length words that agree make a record
pub stands : (bytes : List ℕ) (first size : ℕ) → IsBytes bytes → IsSize size → first + size ≤ length bytes → number_at bytes first ≡ size → number_at bytes (first + size - 4) ≡ size
    → Stands bytes (slice_range bytes (first + 4) (first + size - 4)) first (first + size)
unfolding frame
stands bytes first size fits sized within head tail =
    let payload : List ℕ = slice_range bytes (first + 4) (first + size - 4) in
    let least : 12 ≤ size = sized.0 in
    let most : size ≤ 16777216 = sized.1 in
    let long : length payload ≡ size - 8 = omega (arith, length-take (first + size - 4 - (first + 4)) (drop (first + 4) bytes), length-drop (first + 4) bytes) in
    let says : length payload + 8 ≡ size = omega arith in
    let behind : first + size - 4 + 4 ≡ first + size = omega arith in
    let one : drop first bytes ≡ word size ++ drop (first + 4) bytes = subst (λ n. drop first bytes ≡ word n ++ drop (first + 4) bytes) head (begins_word bytes first fits (omega arith)) in
    let two : drop (first + 4) bytes ≡ payload ++ drop (first + size - 4) bytes = drop_split bytes (first + 4) (first + size - 4) (omega arith) in
    let three : drop (first + size - 4) bytes ≡ word size ++ drop (first + size) bytes =
    subst (λ n. drop (first + size - 4) bytes ≡ word n ++ drop (first + size) bytes) tail
    (subst (λ n. drop (first + size - 4) bytes ≡ word (number_at bytes (first + size - 4)) ++ drop n bytes) behind (begins_word bytes (first + size - 4) fits (omega arith))) in
    let whole : drop first bytes ≡ (word size ++ (payload ++ word size)) ++ drop (first + size) bytes =
    one ∙ ap (λ t. word size ++ t) (two ∙ ap (λ t. payload ++ t) three ∙ sym (append_assoc payload (word size) (drop (first + size) bytes))) ∙ sym (append_assoc (word size) (payload ++ word size) (drop (first + size) bytes)) in
    record {
      fits = record { least = omega arith; most = omega arith };
      front = take first bytes;
      rest = drop (first + size) bytes;
      is = sym (take-append-drop first bytes)
          ∙ ap (λ t. take first bytes ++ t) (whole ∙ ap (λ n. (word n ++ (payload ++ word n)) ++ drop (first + size) bytes) (sym says));
      begins = omega (arith, length-take first bytes);
      ends = omega arith;
    }

-- what a record that stands says of the bytes
pub record Ends (bytes payload : List ℕ) (first behind : ℕ) : Type 0 where
  pub size : behind ≡ first + (length payload + 8)
  pub sized : IsSize (length payload + 8)
  pub within : behind ≤ length bytes
  pub head : number_at bytes first ≡ length payload + 8
  pub tail : number_at bytes (behind - 4) ≡ length payload + 8
  pub payload_is : slice_range bytes (first + 4) (behind - 4) ≡ payload

number_in : (front : List ℕ) (n : ℕ) (rest : List ℕ) (at : ℕ) → n < 4294967296 → length front ≡ at → number_at (front ++ (word n ++ rest)) at ≡ n
number_in front n rest at fits here =
    ap (from_be_bytes w32) (ap (take 4) (drop_at front (word n ++ rest) at here) ∙ take_at (word n) rest 4 (length-word n)) ∙ number_of_word n fits

pub stood : (bytes payload : List ℕ) (first behind : ℕ) → Stands bytes payload first behind → Ends bytes payload first behind
unfolding frame
stood bytes payload first behind s =
    let n : ℕ = length payload + 8 in
    let least : 4 ≤ length payload = s.fits.least in
    let most : length payload ≤ 16777208 = s.fits.most in
    let ends : behind ≡ first + length payload + 8 = s.ends in
    let begins : length s.front ≡ first = s.begins in
    let long : length (frame payload) ≡ length payload + 8 = length-frame payload in
    let total : length bytes ≡ first + (length payload + 8 + length s.rest) =
    ap length s.is ∙ (let e : length (s.front ++ (frame payload ++ s.rest)) ≡ first + (length payload + 8 + length s.rest) = omega (arith, length-append s.front (frame payload ++ s.rest), length-append (frame payload) s.rest) in e) in
    let one : bytes ≡ s.front ++ (word n ++ ((payload ++ word n) ++ s.rest)) = s.is ∙ ap (λ t. s.front ++ t) (append_assoc (word n) (payload ++ word n) s.rest) in
    let two : bytes ≡ (s.front ++ word n) ++ (payload ++ (word n ++ s.rest)) =
    one ∙ ap (λ t. s.front ++ (word n ++ t)) (append_assoc payload (word n) s.rest) ∙ sym (append_assoc s.front (word n) (payload ++ (word n ++ s.rest))) in
    let three : bytes ≡ ((s.front ++ word n) ++ payload) ++ (word n ++ s.rest) = two ∙ sym (append_assoc (s.front ++ word n) payload (word n ++ s.rest)) in
    let here : length (s.front ++ word n) ≡ first + 4 = omega (arith, length-append s.front (word n), length-word n) in
    let there : length ((s.front ++ word n) ++ payload) ≡ behind - 4 = omega (arith, length-append (s.front ++ word n) payload) in
    record {
      size = omega arith;
      sized = (omega arith, omega arith);
      within = omega arith;
      head = ap (λ t. number_at t first) one ∙ number_in s.front n ((payload ++ word n) ++ s.rest) first (omega arith) begins;
      tail = ap (λ t. number_at t (behind - 4)) three ∙ number_in ((s.front ++ word n) ++ payload) n s.rest (behind - 4) (omega arith) there;
      payload_is = ap (λ t. slice_range t (first + 4) (behind - 4)) two ∙ ap (take (behind - 4 - (first + 4))) (drop_at (s.front ++ word n) (payload ++ (word n ++ s.rest)) (first + 4) here)
          ∙ take_at payload (word n ++ s.rest) (behind - 4 - (first + 4)) (omega arith);
    }

-- each of framed records stands in them, whatever precedes and follows them
stands_in : (payloads : List (List ℕ)) (front rest : List ℕ) (k : ℕ) → AllByRecursion IsFrameable payloads → k < length payloads
    → Stands (front ++ (frames payloads ++ rest)) (get_or payloads k []) (length front + length (frames (take k payloads))) (length front + length (frames (take (suc k) payloads)))
stands_in [] front rest k fits few = absurd (omega arith)
stands_in (payload ∷ payloads) front rest zero fits few = record {
  fits = fits.0;
  front = front;
  rest = frames payloads ++ rest;
  is = ap (λ t. front ++ t) (append_assoc (frame payload) (frames payloads) rest);
  begins = omega arith;
  ends = omega (arith, length-append (frame payload) [], length-frame payload);
}
stands_in (payload ∷ payloads) front rest (suc k) fits few =
    let longer : length (front ++ frame payload) ≡ length front + length (frame payload) = length-append front (frame payload) in
    let later : Stands ((front ++ frame payload) ++ (frames payloads ++ rest)) (get_or payloads k []) (length (front ++ frame payload) + length (frames (take k payloads))) (length (front ++ frame payload) + length (frames (take (suc k) payloads))) =
    stands_in payloads (front ++ frame payload) rest k fits.1 (omega arith) in
    let same : (front ++ frame payload) ++ (frames payloads ++ rest) ≡ front ++ ((frame payload ++ frames payloads) ++ rest) = simp append_assoc in
    let from : length (front ++ frame payload) + length (frames (take k payloads)) ≡ length front + length (frame payload ++ frames (take k payloads)) =
    omega (arith, longer, length-append (frame payload) (frames (take k payloads))) in
    let to : length (front ++ frame payload) + length (frames (take (suc k) payloads)) ≡ length front + length (frame payload ++ frames (take (suc k) payloads)) =
    omega (arith, longer, length-append (frame payload) (frames (take (suc k) payloads))) in
    subst (λ t. Stands t (get_or payloads k []) (length front + length (frame payload ++ frames (take k payloads))) (length front + length (frame payload ++ frames (take (suc k) payloads)))) same
    (subst (λ n. Stands ((front ++ frame payload) ++ (frames payloads ++ rest)) (get_or payloads k []) n (length front + length (frame payload ++ frames (take (suc k) payloads)))) from
    (subst (λ n. Stands ((front ++ frame payload) ++ (frames payloads ++ rest)) (get_or payloads k []) (length (front ++ frame payload) + length (frames (take k payloads))) n) to later))

pub each_stands : (payloads : List (List ℕ)) (rest : List ℕ) (k : ℕ) → AllByRecursion IsFrameable payloads → k < length payloads
    → Stands (frames payloads ++ rest) (slice_index_or payloads k []) (length (frames (take k payloads))) (length (frames (take (k + 1) payloads)))
each_stands payloads rest k fits few =
    let none : (n : ℕ) → 0 + n ≡ n = λ n. omega arith in
    subst (λ n. Stands (frames payloads ++ rest) (get_or payloads k []) (length (frames (take k payloads))) (length (frames (take n payloads)))) (let e : suc k ≡ k + 1 = omega arith in e)
    (subst (λ n. Stands (frames payloads ++ rest) (get_or payloads k []) (length (frames (take k payloads))) n) (none (length (frames (take (suc k) payloads))))
    (subst (λ n. Stands (frames payloads ++ rest) (get_or payloads k []) n (0 + length (frames (take (suc k) payloads)))) (none (length (frames (take k payloads)))) (stands_in payloads [] rest k fits few)))
