-- The files of a disk in memory.
use Rattle.std.specs.Prelude.{◌≡◌, ℕ, List, false}
use Rattle.pcp_base.specs.declared.file.FileId.{FileId}
use Rattle.pcp_base.specs.declared.file.FileId.TheVariants.{Meta, Index, Volume}
use Rattle.pcp_model.specs.Disk.{Files}
use Rattle.pcp_model.specs.Written.{same_file}
use Rattle.pcp_memory.specs.Volumes.{volume}
use Rattle.pcp_memory.specs.declared.contents.Contents.{Contents}

-- what each file reads as
abbrev pub files_of : Contents → Files
files_of c Meta = c.meta.items
files_of c Index = c.index.items
files_of c (Volume k) = volume c.volumes k

-- one file reads so now, and the others as before
pub record Sets (file : FileId) (bytes : List ℕ) (old new : Contents) : Type 0 where
  pub this : files_of new file ≡ bytes
  pub others : (g : FileId) → same_file file g ≡ false → files_of new g ≡ files_of old g
