-- What was served of a stream, where a session ends.
use Rattle.std.proofs.Common.{◌≡◌, ℕ, List, [], ◌∷◌, ◌++◌, refl, sym, ap, ◌∙◌, append_assoc}
use Rattle.std.specs.List.{AllByRecursion}
use Rattle.std.proofs.lemmas.List.{append-nil}
use Rattle.pdu_stream.specs.Streams.{IsPdu, Splits, bytes_of_pdus}

joined-append : (xs ys : List (List ℕ)) → bytes_of_pdus (xs ++ ys) ≡ bytes_of_pdus xs ++ bytes_of_pdus ys
joined-append [] ys = refl
joined-append (x ∷ xs) ys = ap (λ t. x ++ t) (joined-append xs ys) ∙ sym (append_assoc x (bytes_of_pdus xs) (bytes_of_pdus ys))

all_left : (xs ys : List (List ℕ)) → AllByRecursion IsPdu (xs ++ ys) → AllByRecursion IsPdu xs
all_left [] ys all = tt
all_left (x ∷ xs) ys all = (all.0, all_left xs ys all.1)

pub all_right : (xs ys : List (List ℕ)) → AllByRecursion IsPdu (xs ++ ys) → AllByRecursion IsPdu ys
all_right [] ys all = all
all_right (x ∷ xs) ys all = all_right xs ys all.1

-- fewer PDUs of a stream, with the others behind them
pub fewer : (stream : List ℕ) (xs ys : List (List ℕ)) (rest : List ℕ) → Splits stream (xs ++ ys) rest → Splits stream xs (bytes_of_pdus ys ++ rest)
fewer stream xs ys rest s = record {
  is = s.is ∙ ap (λ t. t ++ rest) (joined-append xs ys) ∙ append_assoc (bytes_of_pdus xs) (bytes_of_pdus ys) rest;
  whole = all_left xs ys s.whole;
}

-- and the first of those
pub next_behind : (stream : List ℕ) (xs ys : List (List ℕ)) (pdu rest : List ℕ) → Splits stream (xs ++ pdu ∷ ys) rest → Splits (bytes_of_pdus (pdu ∷ ys) ++ rest) (pdu ∷ []) (bytes_of_pdus ys ++ rest)
next_behind stream xs ys pdu rest s = record {
  is = append_assoc pdu (bytes_of_pdus ys) rest ∙ ap (λ p. p ++ (bytes_of_pdus ys ++ rest)) (sym (append-nil pdu));
  whole = ((all_right xs (pdu ∷ ys) s.whole).0, tt);
}
