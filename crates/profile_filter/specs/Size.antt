-- How large a profile is: its parts and the instances that they list.
use Rattle.std.specs.Prelude.{ℕ, ◌+◌, List, length, sum_by}
use Rattle.profile_filter.specs.declared.profile.DomainPart.{DomainPart}

abbrev pub size_of : List DomainPart → ℕ
size_of parts = length parts + sum_by (λ part. length part.instances) parts
