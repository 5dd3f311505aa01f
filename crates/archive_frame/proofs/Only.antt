-- A record that stands at an offset is what a step there answers.
use Rattle.std.proofs.Common.{◌≡◌, ℕ, ◌+◌, ◌-◌, List, length, Result, Ok, Err, sym, ap, ◌∙◌, arith}
use Rattle.std.specs.Prelude.{IfOk, IfErr}
use Rattle.std.specs.List.{slice_range}
use Rattle.pcp_base.specs.Fields.{number_at}
use Rattle.archive_frame.specs.declared.fault.FrameFault.{FrameFault}
use Rattle.archive_frame.specs.declared.fault.FrameFault.TheVariants.{Torn, Size, Lengths, Label, NoMemory}
use Rattle.archive_frame.specs.declared.steps.Step.{Step}
use Rattle.archive_frame.specs.declared.steps.Step.TheVariants.{End, Payload}
use Rattle.archive_frame.specs.Steps.{Stands, IsForward, IsForwardFault, IsBack, IsBackFault}
use Rattle.archive_frame.proofs.Records.{Ends, stood}

offsets : (from to next : ℕ) (from2 to2 next2 : ℕ) → from ≡ from2 → to ≡ to2 → next ≡ next2 → Payload from to next ≡ Payload from2 to2 next2
offsets from to next from2 to2 next2 a b c = cc

pub only_forward : (bytes : List ℕ) (at : ℕ) (result : Result Step FrameFault) → IfOk result (IsForward bytes at) → IfErr result (IsForwardFault bytes at)
    → (payload : List ℕ) (next : ℕ) → Stands bytes payload at next → result ≡ Ok (Payload (at + 4) (at + 4 + length payload) next)
only_forward bytes at (Ok End) found fault payload next s =
    let e : Ends bytes payload at next = stood bytes payload at next s in absurd (omega (arith, e.size, e.within))
only_forward bytes at (Ok (Payload from to behind)) found fault payload next s =
    let e : Ends bytes payload at next = stood bytes payload at next s in
    let other : Ends bytes (slice_range bytes from to) at behind = stood bytes (slice_range bytes from to) at behind found.0 in
    ap Ok (offsets from to behind (at + 4) (at + 4 + length payload) next found.1 (omega (arith, e.size, e.head, other.size, other.head, found.2)) (omega (arith, e.size, e.head, other.size, other.head)))
only_forward bytes at (Err (Torn offset)) found fault payload next s =
    let e : Ends bytes payload at next = stood bytes payload at next s in absurd (omega (arith, e.size, e.within, e.head, e.sized, fault.2))
only_forward bytes at (Err (Size offset number)) found fault payload next s =
    let e : Ends bytes payload at next = stood bytes payload at next s in absurd (omega (arith, e.size, e.within, e.head, e.sized, fault.1))
only_forward bytes at (Err (Lengths offset head tail)) found fault payload next s =
    let e : Ends bytes payload at next = stood bytes payload at next s in
    let one : head ≡ length payload + 8 = fault.3 ∙ e.head in
    let there : at + head - 4 ≡ next - 4 = omega (arith, e.size) in
    absurd (fault.5 (one ∙ sym (fault.4 ∙ ap (number_at bytes) there ∙ e.tail)))
only_forward bytes at (Err (Label offset)) found fault payload next s = absurd fault
only_forward bytes at (Err NoMemory) found fault payload next s = absurd fault

pub only_back : (bytes : List ℕ) (at : ℕ) (result : Result Step FrameFault) → IfOk result (IsBack bytes at) → IfErr result (IsBackFault bytes at)
    → (payload : List ℕ) (next : ℕ) → Stands bytes payload next at → result ≡ Ok (Payload (next + 4) (next + 4 + length payload) next)
only_back bytes at (Ok End) found fault payload next s =
    let e : Ends bytes payload next at = stood bytes payload next at s in absurd (omega (arith, e.size, found))
only_back bytes at (Ok (Payload from to first)) found fault payload next s =
    let e : Ends bytes payload next at = stood bytes payload next at s in
    let other : Ends bytes (slice_range bytes from to) first at = stood bytes (slice_range bytes from to) first at found.0 in
    let same : length payload + 8 ≡ length (slice_range bytes from to) + 8 = sym e.tail ∙ other.tail in
    ap Ok (offsets from to first (next + 4) (next + 4 + length payload) next (omega (arith, e.size, other.size, same, found.1)) (omega (arith, e.size, found.2)) (omega (arith, e.size, other.size, same)))
only_back bytes at (Err (Torn offset)) found fault payload next s =
    let e : Ends bytes payload next at = stood bytes payload next at s in absurd (omega (arith, e.size, e.within, e.tail, e.sized, fault.2))
only_back bytes at (Err (Size offset number)) found fault payload next s =
    let e : Ends bytes payload next at = stood bytes payload next at s in absurd (omega (arith, e.size, e.within, e.tail, e.sized, fault.1))
only_back bytes at (Err (Lengths offset head tail)) found fault payload next s =
    let e : Ends bytes payload next at = stood bytes payload next at s in
    let one : tail ≡ length payload + 8 = fault.3 ∙ e.tail in
    let there : at - tail ≡ next = omega (arith, e.size) in
    absurd (fault.5 (fault.4 ∙ ap (number_at bytes) there ∙ e.head ∙ sym one))
only_back bytes at (Err (Label offset)) found fault payload next s = absurd fault
only_back bytes at (Err NoMemory) found fault payload next s = absurd fault
