-- How many bytes were taken behind the last PDU of a piece, or with a length word that no PDU has.
use Rattle.std.proofs.Common.{◌≡◌, ℕ, ◌+◌, ◌<◌, ◌≤◌, List, [], ◌∷◌, ◌++◌, length, drop, Some, None, inl, inr, sym, ap, ◌∙◌, subst, arith}
use Rattle.std.specs.Int.{w32, from_be_bytes}
use Rattle.std.proofs.lemmas.Bool.{cases_lt}
use Rattle.std.proofs.lemmas.List.{append-nil, length-append, take-append-le}
use Rattle.std.proofs.Math.Seq.{drop-append_seam}
use Rattle.std.specs.List.{AllByRecursion}
use Rattle.pdu_stream.specs.Streams.{length_word, IsPdu, IsBegun, IsBad, Splits, bytes_of_pdus}
use Rattle.pdu_stream.proofs.OneWay.{one_stop}
use Rattle.pdu_stream.proofs.Pieces.{longer}
use Rattle.pmcd_session.specs.Sessions.{most_piece}
use Rattle.pmcd_session.proofs.Endings.{all_right, fewer}

-- the same bytes behind the same PDUs
same_rest : (stream : List ℕ) (given : List (List ℕ)) (rest left : List ℕ) → Splits stream given rest → Splits stream given left → rest ≡ left
same_rest stream given rest left s t = sym (drop-append_seam (bytes_of_pdus given) rest) ∙ ap (drop (length (bytes_of_pdus given))) (sym s.is ∙ t.is) ∙ drop-append_seam (bytes_of_pdus given) left

-- a length word goes by the first four bytes
word_front : (bytes more : List ℕ) → 4 ≤ length bytes → length_word (bytes ++ more) ≡ length_word bytes
word_front bytes more four = ap (from_be_bytes w32) (take-append-le 4 bytes more four)

-- a length word that no PDU has ends in the last piece, or more bytes would have been none of a begun PDU before
pub few_behind_bad : (taken piece : List ℕ) (given : List (List ℕ)) (kept rest : List ℕ) (found : ℕ) → Splits taken given kept → IsBegun kept → Splits (taken ++ piece) given rest → IsBad rest found → length piece ≤ most_piece
    → length rest < 4 + most_piece
few_behind_bad taken piece given kept rest found s begun t bad small =
    let whole : rest ≡ kept ++ piece = same_rest (taken ++ piece) given rest (kept ++ piece) t (longer taken kept piece given s) in
    let long : length rest ≡ length kept + length piece = ap length whole ∙ length-append kept piece in
    elim (cases_lt (length kept) 4) [
      | inl short ↦ omega arith
      | inr four ↦
          let word : length_word kept ≡ found = sym (word_front kept piece four) ∙ ap length_word (sym whole) ∙ bad.1 in
          let never = one_stop kept None (Some found) begun (four, word, bad.2) in
          absurd (differ never)
    ]
  where
    differ : None ≡ Some found → ⊥
    differ e = cc

-- of the bytes behind a PDU that a piece made whole, the PDU's last one stands in the piece
few_behind_some : (taken piece : List ℕ) (given : List (List ℕ)) (pdu : List ℕ) (pdus : List (List ℕ)) (kept rest : List ℕ) → Splits taken given kept → IsBegun kept → Splits (taken ++ piece) (given ++ pdu ∷ pdus) rest → IsPdu pdu
    → length rest < length piece
few_behind_some taken piece given pdu pdus kept rest s begun t p =
    let both : kept ++ piece ≡ (pdu ++ bytes_of_pdus pdus) ++ rest = same_rest (taken ++ piece) given (kept ++ piece) ((pdu ++ bytes_of_pdus pdus) ++ rest) (longer taken kept piece given s) (fewer (taken ++ piece) given (pdu ∷ pdus) rest t) in
    let long : length kept + length piece ≡ length (pdu ++ bytes_of_pdus pdus) + length rest = sym (length-append kept piece) ∙ ap length both ∙ length-append (pdu ++ bytes_of_pdus pdus) rest in
    let parts : length (pdu ++ bytes_of_pdus pdus) ≡ length pdu + length (bytes_of_pdus pdus) = length-append pdu (bytes_of_pdus pdus) in
    let least : 12 ≤ length pdu = p.least in
    elim (cases_lt (length kept) 4) [
      | inl short ↦ omega (arith, long, parts)
      | inr four ↦
          let enough : 4 ≤ length pdu = omega arith in
          let room : 4 ≤ length (pdu ++ bytes_of_pdus pdus) = omega (arith, parts) in
          let word : length_word kept ≡ length pdu =
          sym (word_front kept piece four) ∙ ap length_word both ∙ word_front (pdu ++ bytes_of_pdus pdus) rest room ∙ word_front pdu (bytes_of_pdus pdus) enough ∙ p.says in
          elim begun [
            | inl short ↦ omega arith
            | inr more ↦ let below : length kept < length_word kept = more.2 in omega (arith, long, parts, word)
          ]
    ]

first_whole : (given : List (List ℕ)) (pdu : List ℕ) (pdus : List (List ℕ)) (stream rest : List ℕ) → Splits stream (given ++ pdu ∷ pdus) rest → IsPdu pdu
first_whole given pdu pdus stream rest t = (right given t.whole).0
  where
    right : (xs : List (List ℕ)) → AllByRecursion IsPdu (xs ++ pdu ∷ pdus) → AllByRecursion IsPdu (pdu ∷ pdus)
    right xs all = all_right xs (pdu ∷ pdus) all

pub few_behind_all : (taken piece : List ℕ) (given pdus : List (List ℕ)) (kept rest : List ℕ) (found : ℕ) → Splits taken given kept → IsBegun kept → Splits (taken ++ piece) (given ++ pdus) rest → IsBad rest found → length piece ≤ most_piece
    → length rest < 4 + most_piece
few_behind_all taken piece given [] kept rest found s begun t bad small =
    few_behind_bad taken piece given kept rest found s begun (subst (λ (x : List (List ℕ)). Splits (taken ++ piece) x rest) (append-nil given) t) bad small
few_behind_all taken piece given (pdu ∷ pdus) kept rest found s begun t bad small =
    let few : length rest < length piece = few_behind_some taken piece given pdu pdus kept rest s begun t (first_whole given pdu pdus (taken ++ piece) rest t) in
    omega arith

-- so also behind the last of several
pub few_behind_last : (taken piece : List ℕ) (given served : List (List ℕ)) (pdu kept rest : List ℕ) → Splits taken given kept → IsBegun kept → Splits (taken ++ piece) (given ++ (served ++ pdu ∷ [])) rest → length piece ≤ most_piece
    → length rest < most_piece
few_behind_last taken piece given [] pdu kept rest s begun t small =
    let few : length rest < length piece = few_behind_some taken piece given pdu [] kept rest s begun t (first_whole given pdu [] (taken ++ piece) rest t) in
    omega arith
few_behind_last taken piece given (x ∷ served) pdu kept rest s begun t small =
    let few : length rest < length piece = few_behind_some taken piece given x (served ++ pdu ∷ []) kept rest s begun t (first_whole given x (served ++ pdu ∷ []) (taken ++ piece) rest t) in
    omega arith
