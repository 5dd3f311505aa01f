-- What holds between writing and reading, over all values.
use Rattle.std.specs.Prelude.{◌≡◌, ℕ, ℤ, ◌+◌, ◌<◌, List, [], ◌++◌, length, take, slice_index_or, FitsSigned}
use Rattle.std.specs.Int.{w32}
use Rattle.std.specs.List.{AllByRecursion}
use Rattle.pcp_base.specs.Texts.{IsText}
use Rattle.pcp_base.specs.Time.{IsMoment}
use Rattle.pcp_model.specs.Frame.{frame, frames, IsFrameable}
use Rattle.pcp_model.specs.LabelFields.{LabelFields, FitsLabel}
use Rattle.pcp_model.specs.Labels.{label, IsLabel}
use Rattle.archive_frame.specs.Steps.{Stands}
use Rattle.archive_frame.specs.Misfits.{IsFirstMisfit}
use Rattle.archive_frame.specs.Labels.{IsSomeLabel}

-- bytes that begin with two framed records begin with one
abbrev pub NoFrameBeginsAnother : Type 0
NoFrameBeginsAnother = (a b x y : List ℕ) → IsFrameable a → IsFrameable b → frame a ++ x ≡ frame b ++ y → (a ≡ b) × (x ≡ y)

-- each record stands where those before it end, up to where they end with it, whatever follows them all
abbrev pub EachFrameStands : Type 0
EachFrameStands = (payloads : List (List ℕ)) (rest : List ℕ) (k : ℕ) → AllByRecursion IsFrameable payloads → k < length payloads
    → Stands (frames payloads ++ rest) (slice_index_or payloads k []) (length (frames (take k payloads))) (length (frames (take (k + 1) payloads)))

-- the writer's label says what it was written of
abbrev pub WrittenLabelIsRead : Type 0
WrittenLabelIsRead = (l : LabelFields) (number : ℤ) → l.pid < 4294967296 → IsMoment l.start → IsText l.host → IsText l.zone → FitsLabel l → FitsSigned w32 number
    → IsLabel (label l number) l number

-- and no label says two things
abbrev pub LabelSaysOneThing : Type 0
LabelSaysOneThing = (bytes : List ℕ) (l m : LabelFields) (n k : ℤ) → IsLabel bytes l n → IsLabel bytes m k → (l ≡ m) × (n ≡ k)

-- bytes that are no label stop being one at one offset
abbrev pub LabelStopsOnce : Type 0
LabelStopsOnce = (bytes : List ℕ) (i j : ℕ) → IsFirstMisfit IsSomeLabel bytes i → IsFirstMisfit IsSomeLabel bytes j → i ≡ j
