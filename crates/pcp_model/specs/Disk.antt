-- What a disk holds, and what a crash leaves of it.
use Rattle.std.specs.Prelude.{◌≡◌, ◌⊎◌, ℕ, ◌≤◌, List, [], ◌++◌, length, take}
use Rattle.pcp_base.specs.declared.file.FileId.{FileId}
use Rattle.pcp_base.specs.declared.file.FileId.TheVariants.{Meta, Index, Volume}

-- the bytes of each file; a missing file is an empty one
abbrev pub Files : Type 0
Files = FileId → List ℕ

-- what one file holds: the bytes that are surely on the disk, and the rest
pub record Held : Type 0 where
  pub sure : List ℕ
  pub rest : List ℕ

abbrev pub Holdings : Type 0
Holdings = FileId → Held

abbrev pub bytes_of : Held → List ℕ
bytes_of h = h.sure ++ h.rest

-- what the files read as while nothing fails
abbrev pub contents_of : Holdings → Files
contents_of held = λ file. bytes_of (held file)

abbrev pub nothing_held : Held
nothing_held = record { sure = []; rest = [] }

abbrev pub empty_disk : Holdings
empty_disk = λ _. nothing_held

-- a crash keeps, of each file by itself, the sure bytes and any beginning of the rest
abbrev pub CrashImage : Holdings → Files → Type 0
CrashImage held image = (file : FileId) → (n : ℕ) × (image file ≡ (held file).sure ++ take n (held file).rest)

-- All bytes of Meta and of the volumes are sure; of Index its label is sure, or all of what there is of it.
pub record IsSettled (held : Holdings) : Type 0 where
  pub meta : (held Meta).rest ≡ []
  pub index : (132 ≤ length (held Index).sure) ⊎ ((held Index).rest ≡ [])
  pub volumes : (k : ℕ) → (held (Volume k)).rest ≡ []

-- no file holds a byte
abbrev pub IsEmpty : Files → Type 0
IsEmpty files = (file : FileId) → files file ≡ []
