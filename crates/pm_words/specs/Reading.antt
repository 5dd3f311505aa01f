-- How an input of at most 16 MiB is read, and why it isn't.
use Rattle.std.specs.Prelude.{◌≡◌, ℕ, ◌<◌, ◌≤◌, List, [], length, drop}
use Rattle.pcp_outside.specs.Causes.{Rose}
use Rattle.pm_words.specs.Inputs.{input_limit}
use Rattle.pcp_outside.specs.Sides.{SourceSide}
use Rattle.pm_words.specs.declared.refusal.Refusal.{Refusal}
use Rattle.pm_words.specs.declared.refusal.Refusal.TheVariants.{ReadFault, InputLimit, NoMemory}

-- An input of at most 16 MiB was read to its end, and where the source tells, it's all that the source had left. No call of the source
-- failed.
pub record WasRead (s : SourceSide) (input : List ℕ) : Type 0 where
  pub within : length input ≤ input_limit
  pub told : s.tells → (input ≡ s.left) × (s.after ≡ [])
  pub quiet : s.faults_after ≡ s.faults

-- a front of the input was taken, no byte behind the first above the limit
abbrev pub TookSome : SourceSide → Type 0
TookSome s = (n : ℕ) × (n ≤ 16777217) × (s.after ≡ drop n s.left)

-- an input is above 16 MiB, and one byte above the limit is taken, and no further one
abbrev pub IsAbove : SourceSide → Type 0
IsAbove s = s.tells → (input_limit < length s.left) × (s.after ≡ drop 16777217 s.left)

-- why an input isn't read to its end, and what was taken of it
abbrev pub UnreadCause : SourceSide → Refusal → Type 0
UnreadCause s ReadFault = Rose s.faults s.faults_after × (s.tells → TookSome s)
UnreadCause s InputLimit = IsAbove s
UnreadCause s NoMemory = s.tells → TookSome s
UnreadCause s _ = ⊥
