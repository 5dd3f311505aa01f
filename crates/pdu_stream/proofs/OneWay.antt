-- A stream splits one way only.
use Rattle.std.proofs.Common.{◌≡◌, inl, inr, ℕ, ◌+◌, ◌<◌, ◌≤◌, List, [], ◌∷◌, ◌++◌, length, take, drop, Some, None, refl, sym, ap, ◌∙◌, subst, append_assoc, arith}
use Rattle.std.specs.Prelude.{Option}
use Rattle.std.specs.Int.{w32, from_be_bytes}
use Rattle.std.specs.List.{AllByRecursion}
use Rattle.std.proofs.lemmas.List.{length-append, take-append-le, take_at, drop_at}
use Rattle.pdu_stream.specs.Streams.{length_word, IsPdu, IsBegun, IsBad, IsStop, bytes_of_pdus}

-- a whole PDU's length word stands whatever follows
pdu_first : (pdu more : List ℕ) → IsPdu pdu → length_word (pdu ++ more) ≡ length pdu
pdu_first pdu more p =
    let least : 12 ≤ length pdu = p.least in
    let four : 4 ≤ length pdu = omega arith in
    ap (from_be_bytes w32) (take-append-le 4 pdu more four) ∙ p.says

begun_not_bad : (bytes : List ℕ) (found : ℕ) → IsBegun bytes → IsBad bytes found → ⊥
begun_not_bad bytes found begun bad =
    let four : 4 ≤ length bytes = bad.0 in
    let says : length_word bytes ≡ found = bad.1 in
    elim begun [
      | inl short ↦ omega arith
      | inr b ↦
          let least : 12 ≤ length_word bytes = b.0 in
          let most : length_word bytes ≤ 65536 = b.1 in
          elim bad.2 [
            | inl low ↦ omega arith
            | inr high ↦ omega arith
          ]
    ]

-- bytes that begin with a whole PDU don't stop there
not_stop : (pdu more : List ℕ) (bad : Option ℕ) → IsPdu pdu → IsStop (pdu ++ more) bad → ⊥
not_stop pdu more None p stop =
    let least : 12 ≤ length pdu = p.least in
    let long : length (pdu ++ more) ≡ length pdu + length more = length-append pdu more in
    let says : length_word (pdu ++ more) ≡ length pdu = pdu_first pdu more p in
    elim stop [
      | inl short ↦ omega arith
      | inr b ↦ let less : length (pdu ++ more) < length_word (pdu ++ more) = b.2 in omega arith
    ]
not_stop pdu more (Some found) p stop =
    let least : 12 ≤ length pdu = p.least in
    let most : length pdu ≤ 65536 = p.most in
    let says : length_word (pdu ++ more) ≡ length pdu = pdu_first pdu more p in
    let found_is : length_word (pdu ++ more) ≡ found = stop.1 in
    elim stop.2 [
      | inl low ↦ omega arith
      | inr high ↦ omega arith
    ]

pub one_stop : (bytes : List ℕ) (bad worse : Option ℕ) → IsStop bytes bad → IsStop bytes worse → bad ≡ worse
one_stop bytes None None a b = refl
one_stop bytes None (Some n) a b = absurd (begun_not_bad bytes n a b)
one_stop bytes (Some m) None a b = absurd (begun_not_bad bytes m b a)
one_stop bytes (Some m) (Some n) a b = ap (λ k. Some k) (sym a.1 ∙ b.1)

pub same : (pdus others : List (List ℕ)) (rest left : List ℕ) (bad worse : Option ℕ) → AllByRecursion IsPdu pdus → AllByRecursion IsPdu others
    → IsStop rest bad → IsStop left worse → bytes_of_pdus pdus ++ rest ≡ bytes_of_pdus others ++ left → (pdus ≡ others) × (rest ≡ left)
same [] [] rest left bad worse a b s t e = (refl, e)
same [] (q ∷ qs) rest left bad worse a b s t e =
    absurd (not_stop q (bytes_of_pdus qs ++ left) bad b.0 (subst (λ x. IsStop x bad) (e ∙ append_assoc q (bytes_of_pdus qs) left) s))
same (p ∷ ps) [] rest left bad worse a b s t e =
    absurd (not_stop p (bytes_of_pdus ps ++ rest) worse a.0 (subst (λ x. IsStop x worse) (sym e ∙ append_assoc p (bytes_of_pdus ps) rest) t))
same (p ∷ ps) (q ∷ qs) rest left bad worse a b s t e =
    let both : p ++ (bytes_of_pdus ps ++ rest) ≡ q ++ (bytes_of_pdus qs ++ left) = sym (append_assoc p (bytes_of_pdus ps) rest) ∙ e ∙ append_assoc q (bytes_of_pdus qs) left in
    let long : length p ≡ length q = sym (pdu_first p (bytes_of_pdus ps ++ rest) a.0) ∙ ap length_word both ∙ pdu_first q (bytes_of_pdus qs ++ left) b.0 in
    let front : p ≡ q = sym (take_at p (bytes_of_pdus ps ++ rest) (length q) long) ∙ ap (take (length q)) both ∙ take_at q (bytes_of_pdus qs ++ left) (length q) refl in
    let tail : bytes_of_pdus ps ++ rest ≡ bytes_of_pdus qs ++ left = sym (drop_at p (bytes_of_pdus ps ++ rest) (length q) long) ∙ ap (drop (length q)) both ∙ drop_at q (bytes_of_pdus qs ++ left) (length q) refl in
    let r = same ps qs rest left bad worse a.1 b.1 s t tail in
    (ap (λ x. x ∷ ps) front ∙ ap (λ xs. q ∷ xs) r.0, r.1)
