-- Bytes that are refused ask for nothing.
use Rattle.std.proofs.Common.{◌≡◌, ◌≢◌, ℕ, List, Option, None, Result, Ok, Err, inl, inr, sym, subst}
use Rattle.std.specs.Prelude.{IfOk}
use Rattle.pcp_base.specs.declared.memory.NoMemory.{NoMemory as Refusal}
use Rattle.pdu_codec.specs.declared.fault.PduFault.{PduFault}
use Rattle.pdu_codec.specs.declared.fault.PduFault.TheVariants.{NoMemory}
use Rattle.pdu_codec.specs.declared.pdu.Pdu.{Pdu}
use Rattle.pdu_codec.specs.Bodies.{IsPdu}
use Rattle.pdu_codec.specs.Reading.{Gives}
use Rattle.pmcd_session.specs.Serving.{Asks}

pub nothing_asked : (bytes : List ℕ) (fault : PduFault) (r : Result (Option Pdu) Refusal) → ((p : Pdu) → IsPdu bytes p → Gives (Err fault) (Ok p))
    → IfOk r (λ asked. (asked ≡ None) × (fault ≢ NoMemory)) → IfOk r (λ asked. Asks bytes asked)
nothing_asked bytes fault (Ok asked) only h =
    subst (λ (o : Option Pdu). Asks bytes o) (sym h.0) (λ p is. elim (only p is) [ inl e ↦ h.1 e | inr e ↦ cc ])
nothing_asked bytes fault (Err refused) only h = tt
