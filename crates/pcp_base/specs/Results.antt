-- What the sets of a result hold (pmFetch(3)).
use Rattle.std.specs.Prelude.{◌<◌, length, pos, ◌≤ℤ◌}
use Rattle.pcp_base.specs.declared.result.Body.{Body}
use Rattle.pcp_base.specs.declared.result.Body.TheVariants.{InPlace, Blocks, Status}
use Rattle.pcp_base.specs.declared.result.ValueSet.{ValueSet}

-- a set with values holds at least one, and a status isn't above 0
abbrev pub HasContent : Body → Type 0
HasContent (InPlace pairs) = 0 < length pairs
HasContent (Blocks pairs) = 0 < length pairs
HasContent (Status n) = n ≤ℤ pos 0

-- the set can be written
abbrev pub Fits : ValueSet → Type 0
Fits set = HasContent set.body
