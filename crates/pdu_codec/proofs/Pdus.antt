-- A whole PDU is read as what it spells, and else its first fault is told.
use Rattle.std.proofs.Common.{◌≡◌, ℕ, ◌+◌, ◌-◌, ◌<◌, ◌≤◌, Bool, true, false, cond, ltb, leb, eqb, Option, Some, None, List, ◌++◌, length, take, drop, Result, Ok, Err, refl, sym, ap, ◌∙◌, subst, arith, inl, inr}
use Rattle.std.specs.Prelude.{◌⊎◌, ◌≢◌, ◌&&◌, IfOk, IfErr}
use Rattle.std.specs.Int.{w32, from_be_bytes}
use Rattle.std.proofs.lemmas.Bool.{cases_lt, cases_eq, lt-ltb, eq-eqb, ne_eqb, le-leb, lt-leb, eqb-true, and_from, and_left, and_right, cond-true, cond-false}
use Rattle.std.proofs.lemmas.List.{length-append, length-drop}
use Rattle.pcp_base.proofs.Bytes.{IsBytes}
use Rattle.pcp_base.specs.Fields.{be_field, number_at}
use Rattle.pcp_model.specs.Words.{word, length-word}
use Rattle.result_form.proofs.Spans.{behind_word}
use Rattle.pdu_codec.specs.declared.fault.PduFault.{PduFault}
use Rattle.pdu_codec.specs.declared.fault.PduFault.TheVariants.{Length, Unknown, Body, NoMemory}
use Rattle.pdu_codec.specs.declared.pdu.Pdu.{Pdu}
use Rattle.pdu_codec.specs.declared.types.PduType.{PduType}
use Rattle.pdu_codec.specs.declared.types.PduType.TheVariants as types
use Rattle.pdu_codec.specs.Types.{code_of_type, type_of_code, type_of}
use Rattle.pdu_codec.specs.Bodies.{body_of, IsPdu}
use Rattle.pdu_codec.specs.Decoding.{type_or_unknown, type_in, head_in, head_of, body_at, whole_body, pdu_in}
use Rattle.pdu_codec.specs.Faults.{HasLength, IsFault, IsPduFault}
use Rattle.pdu_codec.specs.Reading.{◌>>=◌, Gives, or_end}
use Rattle.pdu_codec.proofs.Readers.{bind_ok, failed, ok_is, err_is, not_both}
use Rattle.pdu_codec.proofs.FieldReaders.{word_reads, word_field, word_found}
use Rattle.pdu_codec.proofs.Whole.{answers}

-- ---- types

kind_of_body : (kind : PduType) (text : List ℕ) (p : Pdu) → body_of kind text p → type_of p ≡ kind
kind_of_body types.Error text p b = ap type_of b.second.1
kind_of_body types.Result text p b = ap type_of b.is
kind_of_body types.Profile text p b = ap type_of b.second.second.second.second.second.second.1
kind_of_body types.Fetch text p b = ap type_of b.second.second.second.second.second.1
kind_of_body types.DescReq text p b = ap type_of b.second.1
kind_of_body types.Desc text p b = ap type_of b.second.second.second.second.second.1
kind_of_body types.InstanceReq text p b = ap type_of b.second.second.1
kind_of_body types.Instance text p b = ap type_of b.second.second.second.1
kind_of_body types.Creds text p b = ap type_of b.second.1
kind_of_body types.PmnsIds text p b = ap type_of b.second.second.second.1
kind_of_body types.PmnsNames text p b = ap type_of b.second.second.second.1
kind_of_body types.PmnsChild text p b = ap type_of b.second.1
kind_of_body types.PmnsTraverse text p b = ap type_of b.second.1

pub type_again : (kind : PduType) → type_of_code (code_of_type kind) ≡ Some kind
type_again types.Error = refl
type_again types.Result = refl
type_again types.Profile = refl
type_again types.Fetch = refl
type_again types.DescReq = refl
type_again types.Desc = refl
type_again types.InstanceReq = refl
type_again types.Instance = refl
type_again types.Creds = refl
type_again types.PmnsIds = refl
type_again types.PmnsNames = refl
type_again types.PmnsChild = refl
type_again types.PmnsTraverse = refl

code_small : (kind : PduType) → code_of_type kind < 4294967296
code_small types.Error = omega arith
code_small types.Result = omega arith
code_small types.Profile = omega arith
code_small types.Fetch = omega arith
code_small types.DescReq = omega arith
code_small types.Desc = omega arith
code_small types.InstanceReq = omega arith
code_small types.Instance = omega arith
code_small types.Creds = omega arith
code_small types.PmnsIds = omega arith
code_small types.PmnsNames = omega arith
code_small types.PmnsChild = omega arith
code_small types.PmnsTraverse = omega arith

-- the type is that of its number
same_kind : (first kind : PduType) → Some first ≡ Some kind → first ≡ kind
same_kind first kind e = cc

no_kind : (kind : PduType) → None ≡ Some kind → ⊥
no_kind kind e = absurd cc

pick : (b : Bool) (n : ℕ) (first kind : PduType) (rest : Option PduType) → (b ≡ true → n ≡ code_of_type first) → (rest ≡ Some kind → n ≡ code_of_type kind) → cond b (Some first) rest ≡ Some kind → n ≡ code_of_type kind
pick true n first kind rest here more e = here refl ∙ ap code_of_type (same_kind first kind e)
pick false n first kind rest here more e = more e

code_found : (n : ℕ) (kind : PduType) → type_of_code n ≡ Some kind → n ≡ code_of_type kind
code_found n kind =
    pick (eqb n 28672) n types.Error kind _ (eqb-true n 28672)
    (pick (eqb n 28673) n types.Result kind _ (eqb-true n 28673)
    (pick (eqb n 28674) n types.Profile kind _ (eqb-true n 28674)
    (pick (eqb n 28675) n types.Fetch kind _ (eqb-true n 28675)
    (pick (eqb n 28676) n types.DescReq kind _ (eqb-true n 28676)
    (pick (eqb n 28677) n types.Desc kind _ (eqb-true n 28677)
    (pick (eqb n 28678) n types.InstanceReq kind _ (eqb-true n 28678)
    (pick (eqb n 28679) n types.Instance kind _ (eqb-true n 28679)
    (pick (eqb n 28684) n types.Creds kind _ (eqb-true n 28684)
    (pick (eqb n 28685) n types.PmnsIds kind _ (eqb-true n 28685)
    (pick (eqb n 28686) n types.PmnsNames kind _ (eqb-true n 28686)
    (pick (eqb n 28687) n types.PmnsChild kind _ (eqb-true n 28687)
    (pick (eqb n 28688) n types.PmnsTraverse kind None (eqb-true n 28688) (λ e. absurd (no_kind kind e))))))))))))))

-- ---- the head

data HeadRead (bytes : List ℕ) : Type 0 where
  few : length bytes < 4 → head_of bytes ≡ Err (Length 0) → HeadRead bytes
  wrong : 4 ≤ length bytes → (number_at bytes 0 ≢ length bytes) ⊎ (number_at bytes 0 < 12) → head_of bytes ≡ Err (Length (number_at bytes 0)) → HeadRead bytes
  unknown : HasLength bytes → type_of_code (number_at bytes 4) ≡ None → head_of bytes ≡ Err (Unknown (number_at bytes 4)) → HeadRead bytes
  stands : HasLength bytes → (kind : PduType) → type_of_code (number_at bytes 4) ≡ Some kind → head_of bytes ≡ Ok kind → HeadRead bytes

test_fails : (n size : ℕ) → (n ≢ size) ⊎ (n < 12) → (eqb n size && leb 12 n) ≡ false
test_fails n size (inl other) = and_left (eqb n size) (leb 12 n) (ne_eqb n size other)
test_fails n size (inr low) = and_right (eqb n size) (leb 12 n) (lt-leb 12 n low)

test_holds : (n size : ℕ) → n ≡ size → 12 ≤ n → (eqb n size && leb 12 n) ≡ true
test_holds n size e h = and_from (eqb n size) (leb 12 n) (eq-eqb n size e) (le-leb 12 n h)

head_wrong : (bytes : List ℕ) → 4 ≤ length bytes → (number_at bytes 0 ≢ length bytes) ⊎ (number_at bytes 0 < 12) → head_of bytes ≡ Err (Length (number_at bytes 0))
unfolding head_of
head_wrong bytes h bad =
    let n : ℕ = number_at bytes 0 in
    ap (head_in bytes) (word_found bytes 0 h)
    ∙ cond-false (eqb n (length bytes) && leb 12 n) (type_in (be_field w32 4 bytes)) (failed PduType (Length n)) (test_fails n (length bytes) bad)

head_few : (bytes : List ℕ) → length bytes < 4 → head_of bytes ≡ Err (Length 0)
unfolding head_of
head_few bytes h = ap (head_in bytes) (cond-true (ltb (length bytes) 4) None (Some (from_be_bytes w32 (take 4 bytes))) (lt-ltb (length bytes) 4 h))

head_stands : (bytes : List ℕ) → HasLength bytes → head_of bytes ≡ type_or_unknown (number_at bytes 4) (type_of_code (number_at bytes 4))
unfolding head_of
head_stands bytes long =
    let n : ℕ = number_at bytes 0 in
    let size : 12 ≤ length bytes = long.0 in
    let is : n ≡ length bytes = long.1 in
    ap (head_in bytes) (word_found bytes 0 (omega arith))
    ∙ cond-true (eqb n (length bytes) && leb 12 n) (type_in (be_field w32 4 bytes)) (failed PduType (Length n)) (test_holds n (length bytes) is (omega arith))
    ∙ ap type_in (word_found bytes 4 (omega arith))

by_kind : (bytes : List ℕ) (o : Option PduType) → HasLength bytes → type_of_code (number_at bytes 4) ≡ o → HeadRead bytes
by_kind bytes None long e = unknown long e (head_stands bytes long ∙ ap (type_or_unknown (number_at bytes 4)) e)
by_kind bytes (Some kind) long e = stands long kind e (head_stands bytes long ∙ ap (type_or_unknown (number_at bytes 4)) e)

head_read : (bytes : List ℕ) → HeadRead bytes
head_read bytes =
    let n : ℕ = number_at bytes 0 in
    elim (cases_lt (length bytes) 4) [
      | inl lt ↦ few lt (head_few bytes lt)
      | inr long ↦ elim (cases_eq n (length bytes)) [
        | inr other ↦ wrong long (inl other) (head_wrong bytes long (inl other))
        | inl same ↦ elim (cases_lt n 12) [
          | inl low ↦ wrong long (inr low) (head_wrong bytes long (inr low))
          | inr enough ↦ by_kind bytes (type_of_code (number_at bytes 4)) (omega arith, same) refl
        ]
      ]
    ]

-- ---- the whole

-- a length that a word has
length_fits : (bytes : List ℕ) → IsBytes bytes → HasLength bytes → length bytes < 4294967296
length_fits bytes fits long =
    let size : 12 ≤ length bytes = long.0 in
    let first = word_reads.takes bytes 0 4 (number_at bytes 0) fits (omega arith) (ap (or_end bytes 0) (word_found bytes 0 (omega arith))) in
    subst (λ n. n < 4294967296) long.1 first.fits.1

-- the words of the head stand in front of the body
spelled : (bytes : List ℕ) (p : Pdu) → IsBytes bytes → HasLength bytes → number_at bytes 4 ≡ code_of_type (type_of p) → body_of (type_of p) (drop 12 bytes) p → IsPdu bytes p
spelled bytes p fits long code has =
    let size : 12 ≤ length bytes = long.0 in
    let room : length (drop 12 bytes) ≡ length bytes - 12 = length-drop 12 bytes in
    let a = word_reads.takes bytes 0 4 (number_at bytes 0) fits (omega arith) (ap (or_end bytes 0) (word_found bytes 0 (omega arith))) in
    let b = word_reads.takes bytes 4 8 (number_at bytes 4) fits (omega arith) (ap (or_end bytes 4) (word_found bytes 4 (omega arith))) in
    let c = word_reads.takes bytes 8 12 (number_at bytes 8) fits (omega arith) (ap (or_end bytes 8) (word_found bytes 8 (omega arith))) in
    let first : number_at bytes 0 ≡ 12 + length (drop 12 bytes) = let is : number_at bytes 0 ≡ length bytes = long.1 in omega arith in
    record {
      from = number_at bytes 8;
      body = drop 12 bytes;
      is = a.spans.cut ∙ ap (λ t. t ++ drop 4 bytes) (a.fits.0 ∙ ap word first)
          ∙ ap (λ t. word (12 + length (drop 12 bytes)) ++ t) (b.spans.cut ∙ ap (λ t. t ++ drop 8 bytes) (b.fits.0 ∙ ap word code)
          ∙ ap (λ t. word (code_of_type (type_of p)) ++ t) (c.spans.cut ∙ ap (λ t. t ++ drop 12 bytes) c.fits.0));
      fits = subst (λ n. n < 4294967296) first a.fits.1;
      from_fits = c.fits.1;
      has = has;
    }

pub pdu_takes : (bytes : List ℕ) (p : Pdu) → IsBytes bytes → pdu_in bytes ≡ Ok p → IsPdu bytes p
unfolding pdu_in
pdu_takes bytes p fits e =
    let a = bind_ok (head_of bytes) (λ kind. body_at kind bytes 12 >>= whole_body bytes) p e in
    elim (head_read bytes) [
      | few lt f ↦ absurd (not_both a.0 (Length 0) (sym a.1 ∙ f))
      | wrong h bad f ↦ absurd (not_both a.0 (Length (number_at bytes 0)) (sym a.1 ∙ f))
      | unknown long none f ↦ absurd (not_both a.0 (Unknown (number_at bytes 4)) (sym a.1 ∙ f))
      | stands long kind code f ↦ let same : a.0 ≡ kind = ok_is a.0 kind (sym a.1 ∙ f) in
          let has = (answers kind bytes 12 fits long.0 (length_fits bytes fits long)).ok p (subst (λ k. (body_at k bytes 12 >>= whole_body bytes) ≡ Ok p) same a.2) in
          let is : type_of p ≡ kind = kind_of_body kind (drop 12 bytes) p has in
          spelled bytes p fits long (code_found (number_at bytes 4) kind code ∙ ap code_of_type (sym is)) (subst (λ k. body_of k (drop 12 bytes) p) (sym is) has)
    ]

-- what the head of a PDU says
pub record HeadOf (bytes : List ℕ) (p : Pdu) (body : List ℕ) : Type 0 where
  pub size : length bytes ≡ 12 + length body
  pub long : HasLength bytes
  pub code : number_at bytes 4 ≡ code_of_type (type_of p)
  pub kind : type_of_code (number_at bytes 4) ≡ Some (type_of p)
  pub has : body_of (type_of p) (drop 12 bytes) p

pub head_of_pdu : (bytes : List ℕ) (p : Pdu) (s : IsPdu bytes p) → HeadOf bytes p s.body
head_of_pdu bytes p s =
    let kind : PduType = type_of p in
    let code : ℕ = code_of_type kind in
    let n : ℕ = 12 + length s.body in
    let tail : List ℕ = word code ++ (word s.from ++ s.body) in
    let size : length bytes ≡ 12 + length s.body =
    ap length s.is
    ∙ (let e : length (word n ++ tail) ≡ 12 + length s.body =
    omega (arith, length-append (word n) tail, length-word n, length-append (word code) (word s.from ++ s.body), length-word code, length-append (word s.from) s.body, length-word s.from) in
    e) in
    let four : drop 4 bytes ≡ tail = behind_word bytes 0 4 n tail refl s.is in
    let eight : drop 8 bytes ≡ word s.from ++ s.body = behind_word bytes 4 8 code (word s.from ++ s.body) refl four in
    let twelve : drop 12 bytes ≡ s.body = behind_word bytes 8 12 s.from s.body refl eight in
    let first : number_at bytes 0 ≡ n = word_field bytes 0 n tail s.fits s.is in
    let second : number_at bytes 4 ≡ code = word_field bytes 4 code (word s.from ++ s.body) (code_small kind) four in
    record {
      size = size;
      long = (omega arith, first ∙ sym size);
      code = second;
      kind = ap type_of_code second ∙ type_again kind;
      has = subst (λ t. body_of kind t p) (sym twelve) s.has;
    }

pub pdu_again : (bytes : List ℕ) (p : Pdu) → IsBytes bytes → IsPdu bytes p → pdu_in bytes ≡ Ok p
unfolding pdu_in
pdu_again bytes p fits s =
    let h = head_of_pdu bytes p s in
    let head : head_of bytes ≡ Ok (type_of p) = head_stands bytes h.long ∙ ap (type_or_unknown (number_at bytes 4)) h.kind in
    ap (λ r. r >>= λ k. body_at k bytes 12 >>= whole_body bytes) head ∙ (answers (type_of p) bytes 12 fits h.long.0 (length_fits bytes fits h.long)).again p h.has

-- a head that fails is the fault of the whole
head_fault : (r : Result PduType PduFault) (next : PduType → Result Pdu PduFault) (f e : PduFault) → r ≡ Err f → (r >>= next) ≡ Err e → f ≡ e
head_fault (Ok k) next f e g h = absurd (not_both k f g)
head_fault (Err d) next f e g h = err_is PduType f d (sym g) ∙ err_is Pdu d e h

pub pdu_fails : (bytes : List ℕ) (e : PduFault) → IsBytes bytes → pdu_in bytes ≡ Err e → IsFault bytes e
unfolding pdu_in
pdu_fails bytes e fits h =
    elim (head_read bytes) [
      | few lt f ↦ subst (IsFault bytes) (head_fault (head_of bytes) (λ k. body_at k bytes 12 >>= whole_body bytes) (Length 0) e f h) (inl (lt, refl))
      | wrong long bad f ↦ subst (IsFault bytes) (head_fault (head_of bytes) (λ k. body_at k bytes 12 >>= whole_body bytes) (Length (number_at bytes 0)) e f h) (inr (long, refl, bad))
      | unknown long none f ↦ subst (IsFault bytes) (head_fault (head_of bytes) (λ k. body_at k bytes 12 >>= whole_body bytes) (Unknown (number_at bytes 4)) e f h) (long, refl, none)
      | stands long kind code f ↦ let s = (answers kind bytes 12 fits long.0 (length_fits bytes fits long)).err e (sym (ap (λ r. r >>= λ k. body_at k bytes 12 >>= whole_body bytes) f) ∙ h) in
          subst (IsFault bytes) (sym s.1) (long, kind, code, s.0, refl, s.2)
    ]

-- ---- what a function returned

pub is_found : (bytes : List ℕ) (result : Result Pdu PduFault) → IsBytes bytes → Gives result (pdu_in bytes) → IfOk result (λ p. IsPdu bytes p)
is_found bytes (Ok p) fits given = pdu_takes bytes p fits given
is_found bytes (Err e) fits given = tt

no_fault_at_all : (bytes : List ℕ) (e : PduFault) → (e ≡ NoMemory) ⊎ IsFault bytes e → IsPduFault bytes e
no_fault_at_all bytes (Length n) (inl e) = absurd cc
no_fault_at_all bytes (Length n) (inr h) = h
no_fault_at_all bytes (Unknown n) (inl e) = absurd cc
no_fault_at_all bytes (Unknown n) (inr h) = h
no_fault_at_all bytes (Body n) (inl e) = absurd cc
no_fault_at_all bytes (Body n) (inr h) = h
no_fault_at_all bytes NoMemory h = tt

pub is_fault : (bytes : List ℕ) (result : Result Pdu PduFault) → IsBytes bytes → Gives result (pdu_in bytes) → IfErr result (IsPduFault bytes)
is_fault bytes (Ok p) fits given = tt
is_fault bytes (Err e) fits (inl h) = no_fault_at_all bytes e (inl h)
is_fault bytes (Err e) fits (inr h) = no_fault_at_all bytes e (inr (pdu_fails bytes e fits h))
