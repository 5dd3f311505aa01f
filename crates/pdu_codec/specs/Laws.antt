-- What holds of PDUs and their faults, over all bytes.
use Rattle.std.specs.Prelude.{◌≡◌, ◌⊎◌, ℕ, ◌<◌, ◌≤◌, List, ◌++◌, length, take, get_or}
use Rattle.archive_frame.specs.Misfits.{BeginsOne}
use Rattle.pdu_codec.specs.declared.fault.PduFault.{PduFault}
use Rattle.pdu_codec.specs.declared.pdu.Pdu.{Pdu}
use Rattle.pdu_codec.specs.declared.types.PduType.TheVariants as types
use Rattle.pdu_codec.specs.Bodies.{IsPdu}
use Rattle.pdu_codec.specs.Faults.{SomeBody, IsFault}
use Rattle.pdu_codec.specs.ResultMisfit.{result_misfit}
use Rattle.pdu_codec.specs.Spelling.{pdu_bytes, pdu_length, InRange}

-- Bytes are a PDU, or they have a fault; they have one at most, and no PDU has one.
pub record FaultsComeOnce (bytes : List ℕ) : Type 0 where
  pub some : ((p : Pdu) × IsPdu bytes p) ⊎ ((e : PduFault) × IsFault bytes e)
  pub one : (e f : PduFault) → IsFault bytes e → IsFault bytes f → e ≡ f
  pub either : (p : Pdu) (e : PduFault) → IsPdu bytes p → IsFault bytes e → ⊥

abbrev pub OneFault : Type 0
OneFault = (bytes : List ℕ) → ((i : ℕ) → get_or bytes i 0 < 256) → FaultsComeOnce bytes

-- what begins with two PDUs begins with one, which says one thing
abbrev pub NoPduBeginsAnother : Type 0
NoPduBeginsAnother = (a b x y : List ℕ) (p q : Pdu) → ((i : ℕ) → get_or a i 0 < 256) → IsPdu a p → IsPdu b q → a ++ x ≡ b ++ y → (a ≡ b) × (p ≡ q)

-- the writer's spelling is one that is read
abbrev pub WrittenIsRead : Type 0
WrittenIsRead = (p : Pdu) → InRange p → pdu_length p ≤ 65536 → IsPdu (pdu_bytes p) p

-- no body of a result begins with more of these bytes than those before the byte at which they stop being like one
abbrev pub NoResultGoesOn : Type 0
NoResultGoesOn = (bytes : List ℕ) (n : ℕ) → length bytes < 4294967296 → n ≤ length bytes → BeginsOne (SomeBody types.Result) (take n bytes) → n ≤ result_misfit bytes

-- the body of some result begins with what stands before that byte
abbrev pub SomeResultGoesSoFar : Type 0
SomeResultGoesSoFar = (bytes : List ℕ) → ((i : ℕ) → get_or bytes i 0 < 256) → BeginsOne (SomeBody types.Result) (take (result_misfit bytes) bytes)
