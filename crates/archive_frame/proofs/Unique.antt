-- What a label says is read, and nothing else.
use Rattle.std.proofs.Common.{◌≡◌, ℕ, ℤ, ◌<◌, ◌≤◌, List, Result, Ok, Err, refl, arith}
use Rattle.std.specs.Prelude.{IfOk, IfErr, FitsSigned}
use Rattle.std.specs.Int.{w32}
use Rattle.pcp_base.specs.Texts.{IsText}
use Rattle.pcp_base.specs.Time.{IsMoment}
use Rattle.pcp_model.specs.LabelFields.{LabelFields, FitsLabel}
use Rattle.pcp_model.specs.Labels.{label, IsLabel}
use Rattle.pcp_model.proofs.Cuts.{is_label}
use Rattle.pcp_model.proofs.Unique.{one_label}
use Rattle.archive_frame.specs.declared.fault.FrameFault.{FrameFault}
use Rattle.archive_frame.specs.declared.fault.FrameFault.TheVariants.{Torn, Size, Lengths, Label, NoMemory}
use Rattle.archive_frame.specs.Labels.{IsSomeLabel, IsFileNumber, IsLabelFault, IsRead}
use Rattle.archive_frame.specs.Misfits.{IsFirstMisfit}

-- what a label says is read, or memory ran out
pub only_reading : (bytes : List ℕ) (result : Result (LabelFields × ℤ) FrameFault) → IfOk result (λ read. IsLabel bytes read.0 read.1 × IsFileNumber read.1) → IfErr result (IsLabelFault IsSomeLabel bytes)
    → (l : LabelFields) (number : ℤ) → IsFileNumber number → IsLabel bytes l number → IsRead l number result
only_reading bytes (Ok read) found fault l number such is = one_label bytes read.0 l read.1 number found.0 is
only_reading bytes (Err (Torn at)) found fault l number such is = absurd fault
only_reading bytes (Err (Size at number)) found fault l n such is = absurd fault
only_reading bytes (Err (Lengths at head tail)) found fault l number such is = absurd fault
only_reading bytes (Err (Label at)) found fault l number such is = absurd (fault.none (l, number, such, is))
only_reading bytes (Err NoMemory) found fault l number such is = refl

-- the writer's label is read
pub written_read : (l : LabelFields) (number : ℤ) → l.pid < 4294967296 → IsMoment l.start → IsText l.host → IsText l.zone → FitsLabel l → FitsSigned w32 number → IsLabel (label l number) l number
written_read l number pid start host zone fits low = is_label l number (record { pid = pid; start = start; host = host; zone = zone; fits = fits }) low

-- the longest beginning has one length
pub stops_once : (bytes : List ℕ) (i j : ℕ) → IsFirstMisfit IsSomeLabel bytes i → IsFirstMisfit IsSomeLabel bytes j → i ≡ j
stops_once bytes i j m n =
    let low : i ≤ j = n.longest i m.within m.begins in
    let high : j ≤ i = m.longest j n.within n.begins in
    omega arith
