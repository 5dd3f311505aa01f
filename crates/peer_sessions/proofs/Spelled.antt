-- A PDU's spelling at the front of bytes, and what it is read as.
use Rattle.std.proofs.Common.{◌≡◌, ℕ, ◌+◌, ◌<◌, ◌≤◌, List, [], ◌∷◌, ◌++◌, length, take, drop, Some, sym, ap, ◌∙◌, subst, append_assoc, arith}
use Rattle.std.specs.Int.{w32, from_be_bytes}
use Rattle.std.specs.List.{AllByRecursion}
use Rattle.std.proofs.lemmas.List.{take-append-le, take_at, drop_at}
use Rattle.pcp_model.specs.Words.{word, length-word}
use Rattle.pcp_model.proofs.Cuts.{number_of_word}
use Rattle.pcp_model.proofs.Unique.{both, both_words}
use Rattle.pdu_stream.specs.Streams.{length_word}
use Rattle.pdu_stream.specs.Streams.{IsPdu as IsWhole}
use Rattle.pdu_codec.specs.declared.pdu.Pdu.{Pdu}
use Rattle.pdu_codec.specs.declared.pdu.Pdu.TheVariants as pdus
use Rattle.pdu_codec.specs.declared.types.PduType.{PduType}
use Rattle.pdu_codec.specs.declared.types.PduType.TheVariants as types
use Rattle.pdu_codec.specs.Types.{code_of_type, type_of_code, type_of}
use Rattle.pdu_codec.specs.Bodies.{body_of, IsPdu}
use Rattle.pdu_codec.specs.Grammar.{Both, Word, Many}
use Rattle.pdu_codec.specs.Spelling.{all_bytes, body_bytes, pdu_length, pdu_bytes, IsWord}
use Rattle.pdu_codec.proofs.Pdus.{type_again}
use Rattle.peer_sessions.proofs.Lengths.{pdu_long}

-- ---- at the front of bytes

-- a whole PDU's length word stands whatever follows
whole_word : (a more : List ℕ) → IsWhole a → length_word (a ++ more) ≡ length a
whole_word a more w =
    let least : 12 ≤ length a = w.least in
    let four : 4 ≤ length a = omega arith in
    ap (from_be_bytes w32) (take-append-le 4 a more four) ∙ w.says

spelled_word : (p : Pdu) (more : List ℕ) → pdu_length p < 4294967296 → length_word (pdu_bytes p ++ more) ≡ pdu_length p
unfolding pdu_bytes
spelled_word p more few =
    let n : ℕ = pdu_length p in
    let tail : List ℕ = word (code_of_type (type_of p)) ++ (word 0 ++ body_bytes p) in
    ap (λ (t : List ℕ). from_be_bytes w32 (take 4 t)) (append_assoc (word n) tail more)
    ∙ ap (from_be_bytes w32) (take_at (word n) (tail ++ more) 4 (length-word n))
    ∙ number_of_word n few

-- a whole PDU and a spelled one at the front of the same bytes are one
pub same_front : (a x y : List ℕ) (p : Pdu) → IsWhole a → pdu_length p < 4294967296 → a ++ x ≡ pdu_bytes p ++ y → (a ≡ pdu_bytes p) × (x ≡ y)
same_front a x y p whole few e =
    let long : length a ≡ pdu_length p = sym (whole_word a x whole) ∙ ap length_word e ∙ spelled_word p y few in
    both a (pdu_bytes p) x y (long ∙ sym (pdu_long p)) e

-- ---- as which type, and with which body

small_code : (kind : PduType) → code_of_type kind < 4294967296
small_code types.Error = omega arith
small_code types.Result = omega arith
small_code types.Profile = omega arith
small_code types.Fetch = omega arith
small_code types.DescReq = omega arith
small_code types.Desc = omega arith
small_code types.InstanceReq = omega arith
small_code types.Instance = omega arith
small_code types.Creds = omega arith
small_code types.PmnsIds = omega arith
small_code types.PmnsNames = omega arith
small_code types.PmnsChild = omega arith
small_code types.PmnsTraverse = omega arith

kind_is : (x y : PduType) → Some x ≡ Some y → x ≡ y
kind_is x y e = cc

-- the bytes of the type
pub type_word : (p : Pdu) → take 4 (drop 4 (pdu_bytes p)) ≡ word (code_of_type (type_of p))
unfolding pdu_bytes
type_word p =
    let code : ℕ = code_of_type (type_of p) in
    let tail : List ℕ = word 0 ++ body_bytes p in
    ap (take 4) (drop_at (word (pdu_length p)) (word code ++ tail) 4 (length-word (pdu_length p))) ∙ take_at (word code) tail 4 (length-word code)

-- the parts behind the length word
parts_are : (p q : Pdu) (s : IsPdu (pdu_bytes p) q) → (code_of_type (type_of p) ≡ code_of_type (type_of q)) × (word 0 ++ body_bytes p ≡ word s.from ++ s.body)
unfolding pdu_bytes
parts_are p q s =
    let n : ℕ = pdu_length p in
    let m : ℕ = 12 + length s.body in
    let behind = both (word n) (word m) (word (code_of_type (type_of p)) ++ (word 0 ++ body_bytes p)) (word (code_of_type (type_of q)) ++ (word s.from ++ s.body)) (length-word n ∙ sym (length-word m)) s.is in
    both_words (code_of_type (type_of p)) (code_of_type (type_of q)) (word 0 ++ body_bytes p) (word s.from ++ s.body) (small_code (type_of p)) (small_code (type_of q)) behind.1

pub same_type : (p q : Pdu) → IsPdu (pdu_bytes p) q → type_of p ≡ type_of q
same_type p q s =
    let codes : code_of_type (type_of p) ≡ code_of_type (type_of q) = (parts_are p q s).0 in
    kind_is (type_of p) (type_of q) (sym (type_again (type_of p)) ∙ ap type_of_code codes ∙ type_again (type_of q))

pub body_is : (p q : Pdu) → IsPdu (pdu_bytes p) q → body_of (type_of q) (body_bytes p) q
body_is p q s =
    let same : body_bytes p ≡ s.body = (both (word 0) (word s.from) (body_bytes p) s.body (length-word 0 ∙ sym (length-word s.from)) (parts_are p q s).1).1 in
    subst (λ (t : List ℕ). body_of (type_of q) t q) (sym same) s.has

-- ---- the request of a fetch

word_cut : {Y : Type 0} (H : ℕ → List ℕ → Y → Type 0) (n : ℕ) (rest : List ℕ) (y : Y) → n < 4294967296 → Both Word H (word n ++ rest) y → H n rest y
word_cut H n rest y few b =
    let flat : word n ++ rest ≡ word b.value ++ b.back = b.cut ∙ ap (λ (t : List ℕ). t ++ b.back) b.first.0 in
    let same = both_words n b.value rest b.back few b.first.1 flat in
    subst (λ (m : ℕ). H m rest y) (sym same.0) (subst (λ (t : List ℕ). H b.value t y) (sym same.1) b.second)

words_cut : (xs ys front back : List ℕ) → AllByRecursion IsWord xs → Many Word (length xs) front ys → all_bytes word xs ≡ front ++ back → (ys ≡ xs) × (back ≡ [])
words_cut [] ys front back words m e = (m.1, sym (e ∙ ap (λ (t : List ℕ). t ++ back) m.0))
words_cut (x ∷ xs) ys front back words m e =
    let flat : word x ++ all_bytes word xs ≡ word m.value ++ (m.back ++ back) =
    e ∙ ap (λ (t : List ℕ). t ++ back) (m.cut ∙ ap (λ (t : List ℕ). t ++ m.back) m.first.0) ∙ append_assoc (word m.value) m.back back in
    let same = both_words x m.value (all_bytes word xs) (m.back ++ back) words.0 m.first.1 flat in
    let n = m.second in
    let behind : all_bytes word xs ≡ n.front ++ (n.back ++ back) = same.1 ∙ ap (λ (t : List ℕ). t ++ back) n.cut ∙ append_assoc n.front n.back back in
    let more = words_cut xs n.value n.front (n.back ++ back) words.1 n.first behind in
    (n.second.1 ∙ ap (λ (h : ℕ). h ∷ n.value) (sym same.0) ∙ ap (λ (t : List ℕ). x ∷ t) more.0, sym (ap (λ (t : List ℕ). t ++ back) n.second.0) ∙ more.1)

-- a request for these metrics, in the first context
pub record AsksFor (context sec usec : ℕ) (asked pmids : List ℕ) : Type 0 where
  pub first : context ≡ 0
  pub no_sec : sec ≡ 0
  pub no_usec : usec ≡ 0
  pub same : asked ≡ pmids

fetch_parts : (context sec usec : ℕ) (asked pmids : List ℕ) → pdus.Fetch context sec usec asked ≡ pdus.Fetch 0 0 0 pmids → AsksFor context sec usec asked pmids
fetch_parts context sec usec asked pmids e = record { first = cc; no_sec = cc; no_usec = cc; same = cc }

-- it is read as it was asked
pub fetch_is : (context sec usec : ℕ) (asked pmids : List ℕ) → AllByRecursion IsWord pmids → length pmids < 4294967296
    → IsPdu (pdu_bytes (pdus.Fetch 0 0 0 pmids)) (pdus.Fetch context sec usec asked) → AsksFor context sec usec asked pmids
fetch_is context sec usec asked pmids words few s =
    let p : Pdu = pdus.Fetch context sec usec asked in
    let list : List ℕ = all_bytes word pmids in
    let b0 = body_is (pdus.Fetch 0 0 0 pmids) p s in
    let b1 = word_cut _ 0 (word 0 ++ (word 0 ++ (word (length pmids) ++ list))) p (omega arith) b0 in
    let b2 = word_cut _ 0 (word 0 ++ (word (length pmids) ++ list)) p (omega arith) b1 in
    let b3 = word_cut _ 0 (word (length pmids) ++ list) p (omega arith) b2 in
    let b4 = word_cut _ (length pmids) list p few b3 in
    let m = words_cut pmids b4.value b4.front b4.back words b4.first b4.cut in
    fetch_parts context sec usec asked pmids (b4.second.1 ∙ ap (λ (xs : List ℕ). pdus.Fetch 0 0 0 xs) m.0)
