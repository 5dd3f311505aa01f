-- How many bytes of volumes a call takes.
use Rattle.std.specs.Prelude.{◌≡◌, ◌⊎◌, ℕ, ◌+◌, ◌-◌, ◌≤◌, List, length}
use Rattle.pcp_base.specs.Fields.{number_at}
use Rattle.pcp_base.specs.declared.file.FileId.{FileId}
use Rattle.pcp_base.specs.declared.file.FileId.TheVariants.{Meta, Index, Volume}
use Rattle.archive_frame.specs.Steps.{IsSize}

-- of so many bytes of a file those that are a volume's
abbrev pub volume_bytes : FileId → ℕ → ℕ
volume_bytes (Volume _) n = n
volume_bytes Meta n = 0
volume_bytes Index n = 0

-- At an offset none, a length word, or as many bytes as it says.
abbrev pub IsPart : List ℕ → ℕ → ℕ → Type 0
IsPart bytes at n = (n ≡ 0) ⊎ ((at + n ≤ length bytes) × ((n ≡ 4) ⊎ (IsSize n × (number_at bytes at ≡ n))))

-- And before an offset, behind the label, where a record ends with its length word.
abbrev pub IsPartBack : List ℕ → ℕ → ℕ → Type 0
IsPartBack bytes at n = (n ≡ 0) ⊎ ((132 + n ≤ at) × ((n ≡ 4) ⊎ (IsSize n × (number_at bytes (at - 4) ≡ n))))

-- no more than these were taken
pub record Took (bytes : List ℕ) (at before after : ℕ) : Type 0 where
  pub count : ℕ
  pub part : IsPart bytes at count
  pub most : after ≤ before + count

pub record TookBack (bytes : List ℕ) (at before after : ℕ) : Type 0 where
  pub count : ℕ
  pub part : IsPartBack bytes at count
  pub most : after ≤ before + count

-- and behind a length word that was taken before
pub record TookBehind (bytes : List ℕ) (at before after : ℕ) : Type 0 where
  pub count : ℕ
  pub part : IsPart bytes at count
  pub most : after + 4 ≤ before + count

pub record TookBefore (bytes : List ℕ) (at before after : ℕ) : Type 0 where
  pub count : ℕ
  pub part : IsPartBack bytes at count
  pub most : after + 4 ≤ before + count
