-- Reading a whole PDU: its length, its type, its body, and nothing behind it.
use Rattle.std.specs.Prelude.{ℕ, ◌+◌, List, length, drop, Option, Some, None, Result, Ok, Err, nat_lt, ◌==◌, ◌&&◌, nat_le, if◌then◌else◌}
use Rattle.std.specs.Int.{w32}
use Rattle.pcp_base.specs.Fields.{be_field}
use Rattle.pcp_base.specs.declared.result.PmResult.{PmResult}
use Rattle.result_form.specs.declared.fault.FormFault.{FormFault}
use Rattle.result_form.specs.declared.fault.FormFault.TheVariants as forms
use Rattle.result_form.specs.Decoding.{payload_result as payload_read}
use Rattle.pdu_codec.specs.declared.fault.PduFault.{PduFault}
use Rattle.pdu_codec.specs.declared.fault.PduFault.TheVariants.{Length, Unknown, Body, NoMemory}
use Rattle.pdu_codec.specs.declared.pdu.Pdu.{Pdu}
use Rattle.pdu_codec.specs.declared.pdu.Pdu.TheVariants as pdus
use Rattle.pdu_codec.specs.declared.types.PduType.{PduType}
use Rattle.pdu_codec.specs.declared.types.PduType.TheVariants as types
use Rattle.pdu_codec.specs.Types.{type_of_code}
use Rattle.pdu_codec.specs.Reading.{◌>>=◌, error_at, profile_at, fetch_at, desc_req_at, desc_at, instance_req_at, instance_at, creds_at, ids_at, names_at, child_at, traverse_at}
use Rattle.pdu_codec.specs.ResultMisfit.{result_misfit}

-- the type of a number
abbrev pub type_or_unknown : ℕ → Option PduType → Result PduType PduFault
type_or_unknown code None = Err (Unknown code)
type_or_unknown code (Some kind) = Ok kind

abbrev pub type_in : Option ℕ → Result PduType PduFault
type_in None = Err (Length 0)
type_in (Some code) = type_or_unknown code (type_of_code code)

-- the type of bytes whose first word is their number
abbrev pub head_in : List ℕ → Option ℕ → Result PduType PduFault
head_in bytes None = Err (Length 0)
head_in bytes (Some n) = if n == length bytes && nat_le 12 n then type_in (be_field w32 4 bytes) else Err (Length n)

unfoldable pub head_of : List ℕ → Result PduType PduFault
head_of bytes = head_in bytes (be_field w32 0 bytes)

-- want of memory, or where bytes stop being like a payload
abbrev pub fault_of : List ℕ → ℕ → FormFault → PduFault
fault_of payload at forms.NoMemory = NoMemory
fault_of payload at e = Body (at + result_misfit payload)

-- a result and where it ends, or where its bytes stop being like one
abbrev pub result_read : List ℕ → ℕ → Result PmResult FormFault → Result (Pdu × ℕ) PduFault
result_read bytes at (Ok r) = Ok (pdus.Result r, length bytes)
result_read bytes at (Err e) = Err (Body (at + result_misfit (drop at bytes)))

unfoldable pub result_at : List ℕ → ℕ → Result (Pdu × ℕ) PduFault
result_at bytes at = result_read bytes at (payload_read (drop at bytes))

abbrev pub body_at : PduType → List ℕ → ℕ → Result (Pdu × ℕ) PduFault
body_at types.Error = error_at
body_at types.Result = result_at
body_at types.Profile = profile_at
body_at types.Fetch = fetch_at
body_at types.DescReq = desc_req_at
body_at types.Desc = desc_at
body_at types.InstanceReq = instance_req_at
body_at types.Instance = instance_at
body_at types.Creds = creds_at
body_at types.PmnsIds = ids_at
body_at types.PmnsNames = names_at
body_at types.PmnsChild = child_at
body_at types.PmnsTraverse = traverse_at

-- nothing stands behind a body
abbrev pub whole_body : List ℕ → Pdu × ℕ → Result Pdu PduFault
whole_body bytes read = if nat_lt read.1 (length bytes) then Err (Body read.1) else Ok read.0

unfoldable pub pdu_in : List ℕ → Result Pdu PduFault
pdu_in bytes = do
  kind ← head_of bytes
  read ← body_at kind bytes 12
  whole_body bytes read
