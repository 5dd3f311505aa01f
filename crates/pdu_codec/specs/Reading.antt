-- Reading a PDU's bytes from left to right. A step answers what it read and the byte behind it, or the offset of the first
-- byte that doesn't fit, which is the end where the bytes are too few.
use Rattle.std.specs.Prelude.{◌≡◌, ◌⊎◌, ℕ, zero, suc, ℤ, ◌+◌, Bool, true, false, List, [], ◌∷◌, length, take, drop, slice_get, Option, Some, None, Result, Ok, Err, nat_lt, ◌==◌, if◌then◌else◌}
use Rattle.std.specs.Int.{w32, cast_signed}
use Rattle.pcp_base.specs.Fields.{be_field}
use Rattle.profile_filter.specs.declared.profile.DomainPart.{DomainPart}
use Rattle.pcp_model.specs.Payload.{filling}
use Rattle.pdu_codec.specs.declared.fault.PduFault.{PduFault}
use Rattle.pdu_codec.specs.declared.fault.PduFault.TheVariants.{Body, NoMemory}
use Rattle.pdu_codec.specs.declared.pdu.Pdu.{Pdu}
use Rattle.pdu_codec.specs.declared.pdu.Pdu.TheVariants as pdus
use Rattle.pdu_codec.specs.declared.lists.Head.{Head}

infixl 10 ◌>>=◌
abbrev pub ◌>>=◌ : {A B : Type 0} → Result A PduFault → (A → Result B PduFault) → Result B PduFault
(Ok x) >>= f = f x
(Err e) >>= f = Err e

-- What a function returned is what reading gives, unless memory ran out.
abbrev pub Gives : {X : Type 0} → Result X PduFault → Result X PduFault → Type 0
Gives (Ok x) read = read ≡ Ok x
Gives (Err e) read = (e ≡ NoMemory) ⊎ (read ≡ Err e)

-- ---- fields

abbrev pub or_end : List ℕ → ℕ → Option ℕ → Result (ℕ × ℕ) PduFault
or_end bytes at (Some n) = Ok (n, at + 4)
or_end bytes at None = Err (Body (length bytes))

-- a word of 4 bytes
abbrev pub word_at : List ℕ → ℕ → Result (ℕ × ℕ) PduFault
word_at bytes at = or_end bytes at (be_field w32 at bytes)

-- a word with a sign
unfoldable pub signed_at : List ℕ → ℕ → Result (ℤ × ℕ) PduFault
signed_at bytes at = do
  n ← word_at bytes at
  Ok (cast_signed w32 n.0, n.1)

-- how many bytes both begin with
unfoldable pub common : List ℕ → List ℕ → ℕ
common [] bytes = 0
common (b ∷ wanted) [] = 0
common (b ∷ wanted) (c ∷ bytes) = if b == c then suc (common wanted bytes) else 0

-- bytes that have to stand there
abbrev pub given_at : List ℕ → List ℕ → ℕ → Result ℕ PduFault
given_at wanted bytes at =
    if nat_lt (common wanted (drop at bytes)) (length wanted) then Err (Body (at + common wanted (drop at bytes))) else Ok (at + length wanted)

-- the last byte of a state
abbrev pub state_of : ℕ → Option ℕ → Result (Bool × ℕ) PduFault
state_of at None = Err (Body at)
state_of at (Some b) = if b == 0 then Ok (true, at + 1) else if b == 1 then Ok (false, at + 1) else Err (Body at)

-- a state: 0 includes, 1 excludes
unfoldable pub state_at : List ℕ → ℕ → Result (Bool × ℕ) PduFault
state_at bytes at = do
  last ← given_at (0 ∷ 0 ∷ 0 ∷ []) bytes at
  state_of last (slice_get bytes last)

-- how many bytes stand before the first zero byte
unfoldable pub clean_length : List ℕ → ℕ
clean_length [] = 0
clean_length (b ∷ bytes) = if b == 0 then 0 else suc (clean_length bytes)

-- the text of so many bytes, none of them zero, and any padding to a whole word
abbrev pub text_behind : List ℕ → ℕ → ℕ → Result (List ℕ × ℕ) PduFault
text_behind bytes size from =
    if nat_lt (clean_length (take size (drop from bytes))) (length (take size (drop from bytes))) then Err (Body (from + clean_length (take size (drop from bytes))))
    else if nat_lt (length bytes) (from + (size + filling size)) then Err (Body (length bytes)) else Ok (take size (drop from bytes), from + (size + filling size))

-- a text with its length before it
unfoldable pub text_at : List ℕ → ℕ → Result (List ℕ × ℕ) PduFault
text_at bytes at = do
  size ← word_at bytes at
  text_behind bytes size.0 size.1

-- an instance's number and its name
unfoldable pub pair_at : List ℕ → ℕ → Result ((ℤ × List ℕ) × ℕ) PduFault
pair_at bytes at = do
  instance ← signed_at bytes at
  name ← text_at bytes instance.1
  Ok ((instance.0, name.0), name.1)

-- the head of a domain's part in a profile: domain, state, number of instances, and a word 0
unfoldable pub head_at : List ℕ → ℕ → Result (Head × ℕ) PduFault
head_at bytes at = do
  indom ← word_at bytes at
  state ← state_at bytes indom.1
  count ← word_at bytes state.1
  next ← given_at (0 ∷ 0 ∷ 0 ∷ 0 ∷ []) bytes count.1
  Ok (record { indom = indom.0; include = state.0; count = count.0 }, next)

-- so many, one behind another
unfoldable pub many : {X : Type 0} → (List ℕ → ℕ → Result (X × ℕ) PduFault) → List ℕ → ℕ → ℕ → Result (List X × ℕ) PduFault
many read bytes zero at = Ok ([], at)
many read bytes (suc n) at = do
  first ← read bytes at
  others ← many read bytes n first.1
  Ok (first.0 ∷ others.0, others.1)

abbrev pub part_of : Head → List ℤ → DomainPart
part_of head instances = record { indom = head.indom; include = head.include; instances = instances }

-- a head's part with its instances
abbrev pub one_part : List ℕ → Head → ℕ → Result (DomainPart × ℕ) PduFault
one_part bytes head at = do
  instances ← many signed_at bytes head.count at
  Ok (part_of head instances.0, instances.1)

-- the instances of each part, behind all heads
unfoldable pub parts_at : List ℕ → List Head → ℕ → Result (List DomainPart × ℕ) PduFault
parts_at bytes [] at = Ok ([], at)
parts_at bytes (head ∷ heads) at = do
  part ← one_part bytes head at
  others ← parts_at bytes heads part.1
  Ok (part.0 ∷ others.0, others.1)

-- ---- bodies

unfoldable pub error_at : List ℕ → ℕ → Result (Pdu × ℕ) PduFault
error_at bytes at = do
  code ← signed_at bytes at
  Ok (pdus.Error code.0, code.1)

unfoldable pub profile_at : List ℕ → ℕ → Result (Pdu × ℕ) PduFault
profile_at bytes at = do
  context ← word_at bytes at
  global ← state_at bytes context.1
  count ← word_at bytes global.1
  next ← given_at (0 ∷ 0 ∷ 0 ∷ 0 ∷ []) bytes count.1
  heads ← many head_at bytes count.0 next
  parts ← parts_at bytes heads.0 heads.1
  Ok (pdus.Profile context.0 global.0 parts.0, parts.1)

unfoldable pub fetch_at : List ℕ → ℕ → Result (Pdu × ℕ) PduFault
fetch_at bytes at = do
  context ← word_at bytes at
  sec ← word_at bytes context.1
  usec ← word_at bytes sec.1
  count ← word_at bytes usec.1
  pmids ← many word_at bytes count.0 count.1
  Ok (pdus.Fetch context.0 sec.0 usec.0 pmids.0, pmids.1)

unfoldable pub desc_req_at : List ℕ → ℕ → Result (Pdu × ℕ) PduFault
desc_req_at bytes at = do
  pmid ← word_at bytes at
  Ok (pdus.DescReq pmid.0, pmid.1)

unfoldable pub desc_at : List ℕ → ℕ → Result (Pdu × ℕ) PduFault
desc_at bytes at = do
  pmid ← word_at bytes at
  code ← word_at bytes pmid.1
  indom ← word_at bytes code.1
  semantics ← word_at bytes indom.1
  units ← word_at bytes semantics.1
  Ok (pdus.Desc (record { pmid = pmid.0; code = code.0; indom = indom.0; semantics = semantics.0; units = units.0 }), units.1)

unfoldable pub instance_req_at : List ℕ → ℕ → Result (Pdu × ℕ) PduFault
instance_req_at bytes at = do
  indom ← word_at bytes at
  instance ← signed_at bytes indom.1
  Ok (pdus.InstanceReq indom.0 instance.0, instance.1)

unfoldable pub instance_at : List ℕ → ℕ → Result (Pdu × ℕ) PduFault
instance_at bytes at = do
  indom ← word_at bytes at
  count ← word_at bytes indom.1
  pairs ← many pair_at bytes count.0 count.1
  Ok (pdus.Instance indom.0 pairs.0, pairs.1)

unfoldable pub creds_at : List ℕ → ℕ → Result (Pdu × ℕ) PduFault
creds_at bytes at = do
  next ← given_at (0 ∷ 0 ∷ 0 ∷ 1 ∷ 1 ∷ 2 ∷ 0 ∷ 0 ∷ []) bytes at
  Ok (pdus.Creds, next)

unfoldable pub ids_at : List ℕ → ℕ → Result (Pdu × ℕ) PduFault
ids_at bytes at = do
  status ← signed_at bytes at
  count ← word_at bytes status.1
  pmids ← many word_at bytes count.0 count.1
  Ok (pdus.PmnsIds status.0 pmids.0, pmids.1)

unfoldable pub names_at : List ℕ → ℕ → Result (Pdu × ℕ) PduFault
names_at bytes at = do
  status ← signed_at bytes at
  count ← word_at bytes status.1
  names ← many text_at bytes count.0 count.1
  Ok (pdus.PmnsNames status.0 names.0, names.1)

unfoldable pub child_at : List ℕ → ℕ → Result (Pdu × ℕ) PduFault
child_at bytes at = do
  name ← text_at bytes at
  Ok (pdus.PmnsChild name.0, name.1)

unfoldable pub traverse_at : List ℕ → ℕ → Result (Pdu × ℕ) PduFault
traverse_at bytes at = do
  name ← text_at bytes at
  Ok (pdus.PmnsTraverse name.0, name.1)
