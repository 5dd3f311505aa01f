-- The summary of a run: the results that it logged, the disk's volumes, the bytes of Meta, the adds of its script, and the sum of
-- what they add.
use Rattle.std.specs.Prelude.{◌≡◌, ◌⊎◌, ℕ, ℤ, pos, negsuc, ◌+◌, ◌<◌, ◌≤◌, List, [], ◌∷◌, ◌++◌, codes, length}
use Rattle.pcp_base.specs.declared.file.FileId.TheVariants.{Meta, Volume}
use Rattle.pcp_model.specs.Disk.{Files}
use Rattle.run_script.specs.declared.script.Line.{Line}
use Rattle.run_script.specs.declared.script.Line.TheVariants as lines
use Rattle.text_lines.specs.Spelling.{one_number}

abbrev pub adds_in : List (ℕ × Line) → ℕ
adds_in [] = 0
adds_in ((number, lines.Add region pass item instance n) ∷ steps) = 1 + adds_in steps
adds_in (step ∷ steps) = adds_in steps

-- amounts of a script that a number makes are all positive
abbrev pub amount : ℤ → ℕ
amount (pos n) = n
amount (negsuc n) = 0

abbrev pub total_in : List (ℕ × Line) → ℕ
total_in [] = 0
total_in ((number, lines.Add region pass item instance n) ∷ steps) = amount n + total_in steps
total_in (step ∷ steps) = total_in steps

-- one more than the greatest number of a volume that isn't empty, or 0
pub record HasVolumes (files : Files) (count : ℕ) : Type 0 where
  pub above : (n : ℕ) → count ≤ n → files (Volume n) ≡ []
  pub last : (count ≡ 0) ⊎ ((n : ℕ) × (count ≡ n + 1) × (0 < length (files (Volume n))))

abbrev pub summary : List (ℕ × Line) → ℕ → ℕ → ℕ → List ℕ
summary steps items volumes meta =
    one_number (codes "items") items ++ (one_number (codes "volumes") volumes ++ (one_number (codes "meta") meta
    ++ (one_number (codes "adds") (adds_in steps) ++ one_number (codes "total") (total_in steps))))

-- what is written after such a run
pub record Summarizes (steps : List (ℕ × Line)) (items : ℕ) (files : Files) (text : List ℕ) : Type 0 where
  pub volumes : ℕ
  pub counted : HasVolumes files volumes
  pub is : text ≡ summary steps items volumes (length (files Meta))
