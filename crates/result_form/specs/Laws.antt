-- What holds of payloads, their faults and what is read of them, over all bytes.
use Rattle.std.specs.Prelude.{◌≡◌, ◌⊎◌, ℕ, ◌<◌, List, Ok, get_or}
use Rattle.pcp_base.specs.declared.result.PmResult.{PmResult}
use Rattle.pcp_model.specs.Payload.{IsPayload}
use Rattle.result_form.specs.declared.fault.FormFault.{FormFault}
use Rattle.result_form.specs.Faults.{IsFault}
use Rattle.result_form.specs.Decoding.{payload_result}

-- Bytes are the payload of a result, or they have a fault; they have one at most, and no payload has one.
pub record FaultsComeOnce (bytes : List ℕ) : Type 0 where
  pub some : ((r : PmResult) × IsPayload bytes r) ⊎ ((e : FormFault) × IsFault bytes e)
  pub one : (e f : FormFault) → IsFault bytes e → IsFault bytes f → e ≡ f
  pub either : (r : PmResult) (e : FormFault) → IsPayload bytes r → IsFault bytes e → ⊥

abbrev pub OneFault : Type 0
OneFault = (bytes : List ℕ) → ((i : ℕ) → get_or bytes i 0 < 256) → FaultsComeOnce bytes

-- Bytes are read as a result exactly where they are its payload, and they are the payload of one result at most.
pub record ReadOneWay (bytes : List ℕ) : Type 0 where
  pub read : (r : PmResult) → IsPayload bytes r → payload_result bytes ≡ Ok r
  pub said : (r : PmResult) → payload_result bytes ≡ Ok r → IsPayload bytes r
  pub one : (r s : PmResult) → IsPayload bytes r → IsPayload bytes s → r ≡ s

abbrev pub OneReading : Type 0
OneReading = (bytes : List ℕ) → ((i : ℕ) → get_or bytes i 0 < 256) → ReadOneWay bytes
