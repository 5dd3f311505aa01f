-- The name space as a request finds it.
use Rattle.std.specs.Prelude.{◌≡◌, ◌≢◌, List, [], Option, Some, None}
use Rattle.pmns_core.specs.Pairs.{Pair}
use Rattle.fetch_answers.specs.Readings.{RegionReading}
use Rattle.pmcd_session.specs.Replies.{names_shown, missing_among}

-- the names of the regions that were read, or none while one is missing
abbrev pub ShowsNames : List RegionReading → Option (List Pair) → Type 0
ShowsNames regions (Some names) = (missing_among regions ≡ []) × (names ≡ names_shown regions)
ShowsNames regions None = missing_among regions ≢ []
