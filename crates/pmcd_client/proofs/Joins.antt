-- Lists of turns and replies, one behind another.
use Rattle.std.proofs.Common.{◌≡◌, ℕ, List, [], ◌∷◌, ◌++◌, length, take, refl, sym, ap, ◌∙◌, subst, append_assoc}
use Rattle.pdu_codec.specs.declared.pdu.Pdu.{Pdu}
use Rattle.pdu_codec.specs.Spelling.{all_bytes}
use Rattle.pmcd_client.specs.Bytes.{AreReplies}
use Rattle.pmcd_client.specs.Turns.{Turn, Answers}

-- replies behind replies
pub replies_on : (a b : List ℕ) (xs ys : List Pdu) → AreReplies a xs → AreReplies b ys → AreReplies (a ++ b) (xs ++ ys)
replies_on a b [] ys e h = subst (λ (l : List ℕ). AreReplies (l ++ b) ys) (sym e) h
replies_on a b (x ∷ xs) ys h k = (h.0, h.1 ++ b, ap (λ (l : List ℕ). l ++ b) h.2 ∙ append_assoc h.0 h.1 b, h.3, replies_on h.1 b xs ys h.4 k)

-- all of some turns were answered, and then further ones
pub answers_on : (ts us rest : List Turn) (xs ys : List Pdu) → Answers ts xs [] → Answers us ys rest → Answers (ts ++ us) (xs ++ ys) rest
answers_on ts us rest [] ys e h = subst (λ (l : List Turn). Answers (l ++ us) ys rest) e h
answers_on (t ∷ ts) us rest (x ∷ xs) ys h k = (h.0, answers_on ts us rest xs ys h.1 k)
answers_on [] us rest (x ∷ xs) ys h k = absurd h

-- more turns are left where more follow
pub answers_more : (ts rest more : List Turn) (xs : List Pdu) → Answers ts xs rest → Answers (ts ++ more) xs (rest ++ more)
answers_more ts rest more [] e = ap (λ (l : List Turn). l ++ more) e
answers_more (t ∷ ts) rest more (x ∷ xs) h = (h.0, answers_more ts rest more xs h.1)
answers_more [] rest more (x ∷ xs) h = absurd h

-- the turns that were answered
pub answered_on : (ts us : List Turn) (xs ys : List Pdu) → Answers ts xs [] → take (length (xs ++ ys)) (ts ++ us) ≡ ts ++ take (length ys) us
answered_on ts us [] ys e = subst (λ (l : List Turn). take (length ys) (l ++ us) ≡ l ++ take (length ys) us) e refl
answered_on (t ∷ ts) us (x ∷ xs) ys h = ap (λ (l : List Turn). t ∷ l) (answered_on ts us xs ys h.1)
answered_on [] us (x ∷ xs) ys h = absurd h

pub answered_more : (ts rest more : List Turn) (xs : List Pdu) → Answers ts xs rest → take (length xs) (ts ++ more) ≡ take (length xs) ts
answered_more ts rest more [] e = refl
answered_more (t ∷ ts) rest more (x ∷ xs) h = ap (λ (l : List Turn). t ∷ l) (answered_more ts rest more xs h.1)
answered_more [] rest more (x ∷ xs) h = absurd h

-- the bytes of all, and then of further ones
pub bytes-append : {X : Type 0} (bytes : X → List ℕ) (xs ys : List X) → all_bytes bytes (xs ++ ys) ≡ all_bytes bytes xs ++ all_bytes bytes ys
bytes-append bytes [] ys = refl
bytes-append bytes (x ∷ xs) ys = ap (λ (l : List ℕ). bytes x ++ l) (bytes-append bytes xs ys) ∙ sym (append_assoc (bytes x) (all_bytes bytes xs) (all_bytes bytes ys))
