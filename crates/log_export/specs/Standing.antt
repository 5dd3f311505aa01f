-- What stands where an archive is to come to stand. An empty file is as none.
use Rattle.std.specs.Prelude.{◌≡◌, ◌⊎◌, ℕ, ◌<◌, [], length, Option, Some, None}
use Rattle.pcp_base.specs.declared.file.FileId.{FileId}
use Rattle.pcp_base.specs.declared.file.FileId.TheVariants.{Meta, Index, Volume}
use Rattle.pcp_model.specs.Disk.{Files, IsEmpty}

-- the lowest volume that isn't empty
abbrev pub IsLowest : Files → Option ℕ → Type 0
IsLowest files None = (n : ℕ) → files (Volume n) ≡ []
IsLowest files (Some n) = (0 < length (files (Volume n))) × ((k : ℕ) → k < n → files (Volume k) ≡ [])

-- the files before this one, in the order Meta, Index, volumes by number, are empty
abbrev pub AreEmptyBefore : Files → FileId → Type 0
AreEmptyBefore files Meta = Unit {0}
AreEmptyBefore files Index = files Meta ≡ []
AreEmptyBefore files (Volume n) = (files Meta ≡ []) × (files Index ≡ []) × ((k : ℕ) → k < n → files (Volume k) ≡ [])

-- it is the first that isn't empty; or all are, and it is the first that stands wrapped
abbrev pub IsStanding : Files → Option FileId → FileId → Type 0
IsStanding files wrapped file = ((0 < length (files file)) × AreEmptyBefore files file) ⊎ (IsEmpty files × (wrapped ≡ Some file))

-- nothing stands there
abbrev pub IsFree : Files → Option FileId → Type 0
IsFree files wrapped = IsEmpty files × (wrapped ≡ None)

abbrev pub IsFirstStanding : Files → Option FileId → Option FileId → Type 0
IsFirstStanding files wrapped None = IsFree files wrapped
IsFirstStanding files wrapped (Some file) = IsStanding files wrapped file
