-- Which bytes are the body of which PDU, by its type; and which bytes are a PDU (PCP's PDU headers; the bodies are this
-- program's own, but that of a result, pmFetch(3)).
use Rattle.std.specs.Prelude.{◌≡◌, ℕ, ◌+◌, ◌<◌, List, [], ◌∷◌, ◌++◌, length}
use Rattle.pcp_base.specs.declared.result.PmResult.{PmResult}
use Rattle.pcp_model.specs.Words.{word}
use Rattle.pcp_model.specs.Payload.{IsPayload}
use Rattle.pdu_codec.specs.declared.pdu.Pdu.{Pdu}
use Rattle.pdu_codec.specs.declared.pdu.Pdu.TheVariants as pdus
use Rattle.pdu_codec.specs.declared.types.PduType.{PduType}
use Rattle.pdu_codec.specs.declared.types.PduType.TheVariants as types
use Rattle.pdu_codec.specs.Types.{code_of_type, type_of}
use Rattle.pdu_codec.specs.Grammar.{◌>>=◌, Is, IsExactly, Word, Signed, State, TextField, Pair, HeadField, Many, Parts, zero_word}

-- the payload of a result
pub record ResultBody (text : List ℕ) (p : Pdu) : Type 0 where
  pub answer : PmResult
  pub is : p ≡ pdus.Result answer
  pub payload : IsPayload text answer

abbrev pub body_of : PduType → List ℕ → Pdu → Type 0
body_of types.Error = do
  code ← Signed
  Is (pdus.Error code)
body_of types.Result = ResultBody
body_of types.Profile = do
  context ← Word
  global ← State
  count ← Word
  none ← IsExactly zero_word
  heads ← Many HeadField count
  parts ← Parts heads
  Is (pdus.Profile context global parts)
body_of types.Fetch = do
  context ← Word
  sec ← Word
  usec ← Word
  count ← Word
  pmids ← Many Word count
  Is (pdus.Fetch context sec usec pmids)
body_of types.DescReq = do
  pmid ← Word
  Is (pdus.DescReq pmid)
body_of types.Desc = do
  pmid ← Word
  code ← Word
  indom ← Word
  semantics ← Word
  units ← Word
  Is (pdus.Desc (record { pmid = pmid; code = code; indom = indom; semantics = semantics; units = units }))
body_of types.InstanceReq = do
  indom ← Word
  instance ← Signed
  Is (pdus.InstanceReq indom instance)
body_of types.Instance = do
  indom ← Word
  count ← Word
  pairs ← Many Pair count
  Is (pdus.Instance indom pairs)
body_of types.Creds = do
  version ← IsExactly (0 ∷ 0 ∷ 0 ∷ 1 ∷ 1 ∷ 2 ∷ 0 ∷ 0 ∷ [])
  Is pdus.Creds
body_of types.PmnsIds = do
  status ← Signed
  count ← Word
  pmids ← Many Word count
  Is (pdus.PmnsIds status pmids)
body_of types.PmnsNames = do
  status ← Signed
  count ← Word
  names ← Many TextField count
  Is (pdus.PmnsNames status names)
body_of types.PmnsChild = do
  name ← TextField
  Is (pdus.PmnsChild name)
body_of types.PmnsTraverse = do
  name ← TextField
  Is (pdus.PmnsTraverse name)

-- The length of all its bytes, its type, whom it is from, and its body.
pub record IsPdu (bytes : List ℕ) (p : Pdu) : Type 0 where
  pub from : ℕ
  pub body : List ℕ
  pub is : bytes ≡ word (12 + length body) ++ (word (code_of_type (type_of p)) ++ (word from ++ body))
  pub fits : 12 + length body < 4294967296
  pub from_fits : from < 4294967296
  pub has : body_of (type_of p) body p
