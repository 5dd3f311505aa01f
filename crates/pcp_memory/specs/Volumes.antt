-- The volumes of a disk in memory, by number.
use Rattle.std.specs.Prelude.{◌≡◌, ℕ, ◌≤◌, List, [], Option, Some, None, Vec}
use Rattle.std.specs.BTreeMap.{BTreeMap, get}
use Rattle.std.specs.Ordering.{nat_cmp}
use Rattle.std.specs.declared.alloc.Global.{Global}

abbrev pub Volumes : Type 0
Volumes = BTreeMap ℕ (Vec ℕ Global)

abbrev pub bytes_found : Option (Vec ℕ Global) → List ℕ
bytes_found None = []
bytes_found (Some v) = v.items

-- the bytes of the volume with this number
abbrev pub volume : Volumes → ℕ → List ℕ
volume volumes k = bytes_found (get nat_cmp volumes k)

-- no volume with a number of 2^32 - 1 or more holds a byte
abbrev pub HasNumbers : Volumes → Type 0
HasNumbers volumes = (k : ℕ) → 4294967295 ≤ k → volume volumes k ≡ []
