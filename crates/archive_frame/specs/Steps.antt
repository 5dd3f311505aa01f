-- Steps over framed records (LOGARCHIVE(5)), forward from where one begins and back from where one ends.
use Rattle.std.specs.Prelude.{◌≡◌, ◌≢◌, ◌⊎◌, ℕ, ◌+◌, ◌-◌, ◌<◌, ◌≤◌, List, ◌++◌, length, take, drop}
use Rattle.std.specs.Int.{w32, from_be_bytes}
use Rattle.std.specs.List.{slice_range}
use Rattle.pcp_base.specs.Fields.{number_at}
use Rattle.pcp_model.specs.Frame.{frame, IsFrameable}
use Rattle.archive_frame.specs.declared.fault.FrameFault.{FrameFault}
use Rattle.archive_frame.specs.declared.fault.FrameFault.TheVariants.{Torn, Size, Lengths, Label, NoMemory}
use Rattle.archive_frame.specs.declared.steps.Step.{Step}
use Rattle.archive_frame.specs.declared.steps.Step.TheVariants.{End, Payload}

-- A framed record stands in the bytes, from its first byte up to the one behind it.
pub record Stands (bytes payload : List ℕ) (first behind : ℕ) : Type 0 where
  pub fits : IsFrameable payload
  pub front : List ℕ
  pub rest : List ℕ
  pub is : bytes ≡ front ++ (frame payload ++ rest)
  pub begins : length front ≡ first
  pub ends : behind ≡ first + length payload + 8

-- what a length word may say
abbrev pub IsSize : ℕ → Type 0
IsSize n = (12 ≤ n) × (n ≤ 16777216)

-- the refusal of another length word, at an offset
abbrev pub IsSizeFault : ℕ → ℕ → FrameFault → Type 0
IsSizeFault word at (Torn offset) = ⊥
IsSizeFault word at (Size offset found) = (offset ≡ at) × (found ≡ word) × ((found < 12) ⊎ (16777216 < found))
IsSizeFault word at (Lengths offset head tail) = ⊥
IsSizeFault word at (Label offset) = ⊥
IsSizeFault word at NoMemory = ⊥

-- what a step forward from an offset answers
abbrev pub IsForward : List ℕ → ℕ → Step → Type 0
IsForward bytes at End = at ≡ length bytes
IsForward bytes at (Payload from to next) = Stands bytes (slice_range bytes from to) at next × (from ≡ at + 4) × (next ≡ to + 4)

-- and when it is refused: too few bytes for a length word or for what it says, a length out of range, two lengths
abbrev pub IsForwardFault : List ℕ → ℕ → FrameFault → Type 0
IsForwardFault bytes at (Torn offset) = (offset ≡ at) × (at < length bytes)
    × ((length bytes < at + 4) ⊎ (IsSize (number_at bytes at) × (length bytes < at + number_at bytes at)))
IsForwardFault bytes at (Size offset found) = (at + 4 ≤ length bytes) × IsSizeFault (number_at bytes at) at (Size offset found)
IsForwardFault bytes at (Lengths offset head tail) = (offset ≡ at) × IsSize head × (at + head ≤ length bytes)
    × (head ≡ number_at bytes at) × (tail ≡ number_at bytes (at + head - 4)) × (head ≢ tail)
IsForwardFault bytes at (Label offset) = ⊥
IsForwardFault bytes at NoMemory = ⊥

-- what a step back from an offset answers
abbrev pub IsBack : List ℕ → ℕ → Step → Type 0
IsBack bytes at End = at ≡ 0
IsBack bytes at (Payload from to next) = Stands bytes (slice_range bytes from to) next at × (from ≡ next + 4) × (at ≡ to + 4)

-- and when it is refused: the length word that ends there is looked at first
abbrev pub IsBackFault : List ℕ → ℕ → FrameFault → Type 0
IsBackFault bytes at (Torn offset) = (offset ≡ at) × (0 < at)
    × ((at < 4) ⊎ (IsSize (number_at bytes (at - 4)) × (at < number_at bytes (at - 4))))
IsBackFault bytes at (Size offset found) = (4 ≤ at) × IsSizeFault (number_at bytes (at - 4)) at (Size offset found)
IsBackFault bytes at (Lengths offset head tail) = (offset ≡ at) × IsSize tail × (tail ≤ at)
    × (tail ≡ number_at bytes (at - 4)) × (head ≡ number_at bytes (at - tail)) × (head ≢ tail)
IsBackFault bytes at (Label offset) = ⊥
IsBackFault bytes at NoMemory = ⊥
