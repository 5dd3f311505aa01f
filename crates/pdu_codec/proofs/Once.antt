-- Bytes are one PDU, or have one fault.
use Rattle.std.proofs.Common.{◌≡◌, ℕ, ◌+◌, ◌<◌, ◌≤◌, Some, None, List, ◌++◌, length, take, drop, Result, Ok, Err, refl, sym, ap, ◌∙◌, subst, append_assoc, arith, inl, inr}
use Rattle.std.specs.Prelude.{◌⊎◌}
use Rattle.std.proofs.lemmas.List.{take_at}
use Rattle.pcp_base.specs.Fields.{number_at}
use Rattle.pcp_base.proofs.Bytes.{IsBytes}
use Rattle.pcp_model.specs.Words.{word}
use Rattle.archive_frame.specs.Misfits.{IsFirstMisfit}
use Rattle.pdu_codec.specs.declared.fault.PduFault.{PduFault}
use Rattle.pdu_codec.specs.declared.fault.PduFault.TheVariants.{Length, Unknown, Body, NoMemory}
use Rattle.pdu_codec.specs.declared.pdu.Pdu.{Pdu}
use Rattle.pdu_codec.specs.declared.types.PduType.{PduType}
use Rattle.pdu_codec.specs.Types.{code_of_type, type_of_code, type_of}
use Rattle.pdu_codec.specs.Bodies.{IsPdu}
use Rattle.pdu_codec.specs.Decoding.{pdu_in}
use Rattle.pdu_codec.specs.Faults.{HasLength, IsLengthFault, SomeBody, IsFault}
use Rattle.pdu_codec.specs.Laws.{FaultsComeOnce}
use Rattle.pdu_codec.proofs.Readers.{ok_is}
use Rattle.pdu_codec.proofs.FieldReaders.{word_field}
use Rattle.pdu_codec.proofs.Pdus.{pdu_takes, pdu_again, pdu_fails, head_of_pdu}

some_of : (bytes : List ℕ) (r : Result Pdu PduFault) → IsBytes bytes → pdu_in bytes ≡ r → ((p : Pdu) × IsPdu bytes p) ⊎ ((e : PduFault) × IsFault bytes e)
some_of bytes (Ok p) fits e = inl (p, pdu_takes bytes p fits e)
some_of bytes (Err f) fits e = inr (f, pdu_fails bytes f fits e)

-- ---- one fault

same_misfit : (kind : PduType) (t : List ℕ) (i j : ℕ) → IsFirstMisfit (SomeBody kind) t i → IsFirstMisfit (SomeBody kind) t j → i ≡ j
same_misfit kind t i j m n =
    let a : i ≤ j = n.longest i m.within m.begins in
    let b : j ≤ i = m.longest j n.within n.begins in
    omega arith

long_is_good : (bytes : List ℕ) (found : ℕ) → HasLength bytes → IsLengthFault bytes found → ⊥
long_is_good bytes found long (inl short) = let a : 12 ≤ length bytes = long.0 in let b : length bytes < 4 = short.0 in omega arith
long_is_good bytes found long (inr (h, is, inl other)) = other (is ∙ long.1)
long_is_good bytes found long (inr (h, is, inr low)) = let a : 12 ≤ length bytes = long.0 in let b : number_at bytes 0 ≡ length bytes = long.1 in omega (arith, is)

same_length : (bytes : List ℕ) (m n : ℕ) → IsLengthFault bytes m → IsLengthFault bytes n → m ≡ n
same_length bytes m n (inl a) (inl b) = a.1 ∙ sym b.1
same_length bytes m n (inl a) (inr b) = let x : length bytes < 4 = a.0 in let y : 4 ≤ length bytes = b.0 in absurd (omega arith)
same_length bytes m n (inr a) (inl b) = let x : length bytes < 4 = b.0 in let y : 4 ≤ length bytes = a.0 in absurd (omega arith)
same_length bytes m n (inr a) (inr b) = a.1 ∙ sym b.1

kind_is : (x y : PduType) → Some x ≡ Some y → x ≡ y
kind_is x y e = cc

no_type : (k : PduType) → None ≡ Some k → ⊥
no_type k e = absurd cc

one_fault : (bytes : List ℕ) (e f : PduFault) → IsFault bytes e → IsFault bytes f → e ≡ f
one_fault bytes (Length m) (Length n) a b = ap Length (same_length bytes m n a b)
one_fault bytes (Length m) (Unknown n) a b = absurd (long_is_good bytes m b.0 a)
one_fault bytes (Length m) (Body n) a b = absurd (long_is_good bytes m b.0 a)
one_fault bytes (Unknown m) (Length n) a b = absurd (long_is_good bytes n a.0 b)
one_fault bytes (Unknown m) (Unknown n) a b = ap Unknown (a.1 ∙ sym b.1)
one_fault bytes (Unknown m) (Body n) a b = absurd (no_type b.1 (sym a.2 ∙ ap type_of_code a.1 ∙ b.2))
one_fault bytes (Body m) (Length n) a b = absurd (long_is_good bytes n a.0 b)
one_fault bytes (Body m) (Unknown n) a b = absurd (no_type a.1 (sym b.2 ∙ ap type_of_code b.1 ∙ a.2))
one_fault bytes (Body m) (Body n) a b =
    let same : b.1 ≡ a.1 = kind_is b.1 a.1 (sym b.2 ∙ a.2) in
    let k : a.3 ≡ b.3 = same_misfit a.1 (drop 12 bytes) a.3 b.3 a.5 (subst (λ x. IsFirstMisfit (SomeBody x) (drop 12 bytes) b.3) same b.5) in
    ap Body (a.4 ∙ ap (λ i. 12 + i) k ∙ sym b.4)
one_fault bytes NoMemory f a b = elim a [ ]
one_fault bytes e NoMemory a b = elim b [ ]

no_fault : (bytes : List ℕ) (p : Pdu) (e : PduFault) → IsBytes bytes → IsPdu bytes p → IsFault bytes e → ⊥
no_fault bytes p (Length n) fits s f = long_is_good bytes n (head_of_pdu bytes p s).long f
no_fault bytes p (Unknown n) fits s f = let h = head_of_pdu bytes p s in no_type (type_of p) (sym f.2 ∙ ap type_of_code f.1 ∙ h.kind)
no_fault bytes p (Body n) fits s f =
    let h = head_of_pdu bytes p s in
    let same : type_of p ≡ f.1 = kind_is (type_of p) f.1 (sym h.kind ∙ f.2) in
    f.5.none (subst (λ k. SomeBody k (drop 12 bytes)) same (p, h.has))
no_fault bytes p NoMemory fits s f = f

pub once : (bytes : List ℕ) → IsBytes bytes → FaultsComeOnce bytes
once bytes fits = record {
  some = some_of bytes (pdu_in bytes) fits refl;
  one = one_fault bytes;
  either = λ p e s f. no_fault bytes p e fits s f;
}

-- ---- no PDU begins another

pub one_beginning : (a b x y : List ℕ) (p q : Pdu) → IsBytes a → IsPdu a p → IsPdu b q → a ++ x ≡ b ++ y → (a ≡ b) × (p ≡ q)
one_beginning a b x y p q fits s t e =
    let tail_a : List ℕ = word (code_of_type (type_of p)) ++ (word s.from ++ s.body) in
    let tail_b : List ℕ = word (code_of_type (type_of q)) ++ (word t.from ++ t.body) in
    let whole : List ℕ = a ++ x in
    let front_a : whole ≡ word (12 + length s.body) ++ (tail_a ++ x) = ap (λ z. z ++ x) s.is ∙ append_assoc (word (12 + length s.body)) tail_a x in
    let front_b : whole ≡ word (12 + length t.body) ++ (tail_b ++ y) = e ∙ ap (λ z. z ++ y) t.is ∙ append_assoc (word (12 + length t.body)) tail_b y in
    let first : 12 + length s.body ≡ 12 + length t.body = sym (word_field whole 0 (12 + length s.body) (tail_a ++ x) s.fits front_a) ∙ word_field whole 0 (12 + length t.body) (tail_b ++ y) t.fits front_b in
    let long_a : length a ≡ 12 + length s.body = (head_of_pdu a p s).size in
    let long_b : length b ≡ 12 + length t.body = (head_of_pdu b q t).size in
    let same : a ≡ b = sym (take_at a x (length a) refl) ∙ ap (take (length a)) e ∙ take_at b y (length a) (omega arith) in
    (same, ok_is p q (sym (pdu_again a p fits s) ∙ pdu_again a q fits (subst (λ z. IsPdu z q) (sym same) t)))
