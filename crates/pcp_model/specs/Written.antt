-- What a writer makes of whole files: an archive without an item, and bytes added to one file.
use Rattle.std.specs.Prelude.{ℕ, pos, negsuc, List, [], ◌++◌, Bool, true, false, if◌then◌else◌, ◌==◌}
use Rattle.pcp_base.specs.declared.file.FileId.{FileId}
use Rattle.pcp_base.specs.declared.file.FileId.TheVariants.{Meta, Index, Volume}
use Rattle.pcp_model.specs.Disk.{Files}
use Rattle.pcp_model.specs.LabelFields.{LabelFields}
use Rattle.pcp_model.specs.Labels.{label}

abbrev pub same_file : FileId → FileId → Bool
same_file Meta Meta = true
same_file Index Index = true
same_file (Volume a) (Volume b) = a == b
same_file f g = false

-- the files with these bytes added to one of them
abbrev pub with_added : FileId → List ℕ → Files → Files
with_added file bytes files = λ g. if same_file file g then files g ++ bytes else files g

-- an archive without an item: the labels of Meta, of the index and of the first volume
abbrev pub created_files : LabelFields → Files
created_files l Meta = label l (negsuc 0)
created_files l Index = label l (negsuc 1)
created_files l (Volume n) = if n == 0 then label l (pos 0) else []
