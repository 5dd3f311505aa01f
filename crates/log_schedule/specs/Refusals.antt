-- What comes of reading a configuration.
use Rattle.std.specs.Prelude.{◌≡◌, ℕ, List, Result, Ok, Err}
use Rattle.log_schedule.specs.declared.config.Config.{Config}
use Rattle.log_schedule.specs.declared.config.Group.{Group}
use Rattle.log_schedule.specs.declared.config.ConfigFault.{ConfigFault}
use Rattle.log_schedule.specs.declared.config.ConfigFault.TheVariants as faults
use Rattle.log_schedule.specs.Configuration.{IsFault}

-- what a refusal says
abbrev pub IsRefusal : List ℕ → ConfigFault → Type 0
IsRefusal text (faults.Grammar at) = IsFault text at
IsRefusal text faults.NoMemory = Unit {0}

-- these groups are read, and no fault is found
abbrev pub IsReadAs : List Group → Result Config ConfigFault → Type 0
IsReadAs groups (Ok config) = config.groups ≡ groups
IsReadAs groups (Err (faults.Grammar at)) = ⊥
IsReadAs groups (Err faults.NoMemory) = Unit {0}
