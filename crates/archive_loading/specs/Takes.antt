-- How many bytes of volumes loading takes.
use Rattle.std.specs.Prelude.{zero, suc, ℕ, ◌+◌, ◌≤◌, length, take}
use Rattle.pcp_base.specs.declared.file.FileId.TheVariants.{Volume}
use Rattle.pcp_model.specs.Disk.{Files}

-- the bytes of the labels of the volumes below a number, as far as these are there
unfoldable pub label_bytes : Files → ℕ → ℕ
label_bytes files zero = 0
label_bytes files (suc n) = label_bytes files n + length (take 132 (files (Volume n)))

-- of each volume no more than its label
pub record TookLabels (files : Files) (before after : ℕ) : Type 0 where
  pub volumes : ℕ
  pub most : after ≤ before + label_bytes files volumes
