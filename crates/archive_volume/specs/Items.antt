-- The records of volumes as items (LOGARCHIVE(5)).
use Rattle.std.specs.Prelude.{ℕ, ◌<◌, List, ◌++◌, length, ◌==◌, if◌then◌else◌}
use Rattle.std.specs.List.{AllByRecursion}
use Rattle.pcp_base.specs.Results.{Fits}
use Rattle.pcp_base.specs.Time.{IsMoment}
use Rattle.pcp_base.specs.declared.result.PmResult.{PmResult}
use Rattle.pcp_base.specs.declared.result.Item.{Item}
use Rattle.pcp_base.specs.declared.result.Item.TheVariants.{Sample, Mark}
use Rattle.pcp_model.specs.Words.{word}
use Rattle.pcp_model.specs.Payload.{payload, payload_length, ResultInRange}

-- A sample is spelled as its result, and a mark is its stamp and no set.
abbrev pub item_payload : Item → List ℕ
item_payload (Sample r) = payload r
item_payload (Mark t) = word t.sec ++ (word t.usec ++ word 0)

-- how many bytes this takes
abbrev pub item_length : Item → ℕ
item_length (Sample r) = payload_length r
item_length (Mark t) = 12

-- a sample has a set, and each holds what can be written
abbrev pub IsWritable : Item → Type 0
IsWritable (Sample r) = (0 < length r.sets) × AllByRecursion Fits r.sets
IsWritable (Mark t) = Unit {0}

-- a sample has a set, and each number fits its type
abbrev pub ItemInRange : Item → Type 0
ItemInRange (Sample r) = (0 < length r.sets) × ResultInRange r
ItemInRange (Mark t) = IsMoment t

-- a result as an item
abbrev pub item_of : PmResult → Item
item_of r = if length r.sets == 0 then Mark r.stamp else Sample r
