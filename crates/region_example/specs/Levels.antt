-- The levels of a log's lines.
use Rattle.std.specs.Prelude.{ℕ, ℤ, pos, List, codes, nat_eq, if◌then◌else◌}
use Rattle.std.specs.List.{starts_with}
use Rattle.region_example.specs.declared.level.Level.{Level}
use Rattle.region_example.specs.declared.level.Level.TheVariants.{Info, Warning, Error}

-- the level of a line, by the word that it begins with
abbrev pub level_of : List ℕ → Level
level_of line =
    if starts_with nat_eq line (codes "error") then Error else
    if starts_with nat_eq line (codes "warning") then Warning else Info

-- the number of a level's instance
abbrev pub instance_of : Level → ℤ
instance_of Info = pos 0
instance_of Warning = pos 1
instance_of Error = pos 2
