-- Whole PDUs at the front of bytes, and what a further piece of a stream adds to them.
use Rattle.std.proofs.Common.{◌≡◌, ℕ, ◌+◌, ◌-◌, ◌≤◌, List, [], ◌∷◌, ◌++◌, length, take, drop, refl, sym, ap, ◌∙◌, subst, append_assoc, arith}
use Rattle.std.specs.Int.{w32, from_be_bytes}
use Rattle.std.specs.List.{AllByRecursion}
use Rattle.std.proofs.lemmas.List.{append-nil, length-append, length-drop, length-take-le, take-append-drop, take-append-le, take-take, take_all}
use Rattle.std.proofs.Math.Seq.{take-add}
use Rattle.pdu_stream.specs.declared.front.Front.TheVariants.{Whole}
use Rattle.pdu_stream.specs.declared.phase.Phase.{Phase}
use Rattle.pdu_stream.specs.declared.phase.Phase.TheVariants.{Open, Bad, Lost}
use Rattle.pdu_stream.specs.Streams.{IsPdu, IsBad, Splits, bytes_of_pdus}
use Rattle.pdu_stream.specs.Front.{IsFront, IsCut}
use Rattle.pdu_stream.specs.Reading.{HasComeTo}

pub joined-append : (xs ys : List (List ℕ)) → bytes_of_pdus (xs ++ ys) ≡ bytes_of_pdus xs ++ bytes_of_pdus ys
joined-append [] ys = refl
joined-append (x ∷ xs) ys = ap (λ t. x ++ t) (joined-append xs ys) ∙ sym (append_assoc x (bytes_of_pdus xs) (bytes_of_pdus ys))

pub all_both : (xs ys : List (List ℕ)) → AllByRecursion IsPdu xs → AllByRecursion IsPdu ys → AllByRecursion IsPdu (xs ++ ys)
all_both [] ys a b = b
all_both (x ∷ xs) ys a b = (a.0, all_both xs ys a.1 b)

-- ---- one PDU more

pub whole_here : (bytes : List ℕ) (size : ℕ) → IsFront bytes (Whole size) → IsPdu (take size bytes)
whole_here bytes size f =
    let least : 12 ≤ size = f.0 in
    let four : 4 ≤ size = omega arith in
    let long : length (take size bytes) ≡ size = length-take-le size bytes f.2 in
    record {
      least = subst (λ n. 12 ≤ n) (sym long) f.0;
      most = subst (λ n. n ≤ 65536) (sym long) f.1;
      says = ap (from_be_bytes w32) (take-take 4 size bytes four) ∙ f.3 ∙ sym long;
    }

pub goes_on : (bytes : List ℕ) (pdus later : List (List ℕ)) (pdu : List ℕ) (at size : ℕ) → IsCut bytes pdus at → IsFront (drop at bytes) (Whole size)
    → pdu ≡ take size (drop at bytes) → later ≡ pdus ++ pdu ∷ [] → IsCut bytes later (at + size)
goes_on bytes pdus later pdu at size c f is e =
    let long : length (drop at bytes) ≡ length bytes - at = length-drop at bytes in
    let fits : size ≤ length (drop at bytes) = f.2 in
    let within : at ≤ length bytes = c.within in
    subst (λ ps. IsCut bytes ps (at + size)) (sym e) (record {
      within = omega arith;
      front = take-add at size bytes ∙ ap (λ t. t ++ take size (drop at bytes)) c.front ∙ ap (λ t. bytes_of_pdus pdus ++ t) (sym is ∙ sym (append-nil pdu)) ∙ sym (joined-append pdus (pdu ∷ []));
      whole = all_both pdus (pdu ∷ []) c.whole (subst IsPdu (sym is) (whole_here (drop at bytes) size f), tt);
    })

-- the same, of all bytes from an offset on as a slice has them
pub goes_on_from : (bytes : List ℕ) (pdus later : List (List ℕ)) (pdu : List ℕ) (at size : ℕ) → IsCut bytes pdus at → IsFront (take (length bytes - at) (drop at bytes)) (Whole size)
    → pdu ≡ take size (take (length bytes - at) (drop at bytes)) → later ≡ pdus ++ pdu ∷ [] → IsCut bytes later (at + size)
goes_on_from bytes pdus later pdu at size c f is e =
    let whole : take (length bytes - at) (drop at bytes) ≡ drop at bytes = take_all (length bytes - at) (drop at bytes) (omega (arith, length-drop at bytes)) in
    goes_on bytes pdus later pdu at size c (subst (λ b. IsFront b (Whole size)) whole f) (is ∙ ap (take size) whole) e

-- ---- where whole PDUs end

pub cut_splits : (bytes : List ℕ) (pdus : List (List ℕ)) (at : ℕ) → IsCut bytes pdus at → Splits bytes pdus (drop at bytes)
cut_splits bytes pdus at c = record {
  is = sym (take-append-drop at bytes) ∙ ap (λ t. t ++ drop at bytes) c.front;
  whole = c.whole;
}

-- ---- a piece behind a stream

pub behind : (stream rest piece left : List ℕ) (given pdus : List (List ℕ)) → Splits stream given rest → Splits (rest ++ piece) pdus left → Splits (stream ++ piece) (given ++ pdus) left
behind stream rest piece left given pdus s r = record {
  is = ap (λ t. t ++ piece) s.is ∙ append_assoc (bytes_of_pdus given) rest piece ∙ ap (λ t. bytes_of_pdus given ++ t) r.is
      ∙ sym (append_assoc (bytes_of_pdus given) (bytes_of_pdus pdus) left) ∙ ap (λ t. t ++ left) (sym (joined-append given pdus));
  whole = all_both given pdus s.whole r.whole;
}

pub longer : (stream rest piece : List ℕ) (given : List (List ℕ)) → Splits stream given rest → Splits (stream ++ piece) given (rest ++ piece)
longer stream rest piece given s = record {
  is = ap (λ t. t ++ piece) s.is ∙ append_assoc (bytes_of_pdus given) rest piece;
  whole = s.whole;
}

pub bad_longer : (rest piece : List ℕ) (found : ℕ) → IsBad rest found → IsBad (rest ++ piece) found
bad_longer rest piece found b =
    let four : 4 ≤ length rest = b.0 in
    (omega (arith, length-append rest piece), ap (from_be_bytes w32) (take-append-le 4 rest piece four) ∙ b.1, b.2)

pub further : (stream rest piece : List ℕ) (given pdus : List (List ℕ)) (p : Phase) (kept : List ℕ) → Splits stream given rest
    → HasComeTo (rest ++ piece) pdus p kept → HasComeTo (stream ++ piece) (given ++ pdus) p kept
further stream rest piece given pdus Open kept s h = (behind stream rest piece kept given pdus s h.0, h.1)
further stream rest piece given pdus (Bad found) kept s h = (h.0, behind stream rest piece h.0 given pdus s h.1, h.2)
further stream rest piece given pdus Lost kept s h = h
