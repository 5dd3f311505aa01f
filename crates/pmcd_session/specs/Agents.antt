-- What an agent holds of the name space, and what a seat at a server tells, as an agent.
use Rattle.std.specs.Prelude.{ℕ, List, Option, Some, None}
use Rattle.fetch_answers.specs.Readings.{RegionReading}
use Rattle.fetch_answers.specs.declared.names.Named.{Named}
use Rattle.fetch_engine.specs.Servers.{Seated}
use Rattle.fetch_engine.specs.Visits.{AreLoaded, AreRead, IsReadFor}
use Rattle.fetch_engine.specs.declared.server.Mounted.{Mounted}
use Rattle.pmcd_session.specs.Replies.{names_shown, missing_among}

-- the names of the regions that were read, and the clusters of those that were missed
abbrev pub named_by : List RegionReading → Named
named_by readings = record { names = names_shown readings; missing = missing_among readings }

-- each region was read once by the seat's own pass, or the one alone in whose cluster a number lies
abbrev pub ReadsRegions : List Mounted → Option ℕ → Seated → List RegionReading → Seated → Type 0
ReadsRegions rows None old readings new = AreRead rows old.tokens readings new.tokens
ReadsRegions rows (Some word) old readings new = IsReadFor word rows old.tokens readings new.tokens

-- the seat's passes did nothing but loads
abbrev pub LoadsRegions : Seated → Seated → Type 0
LoadsRegions old new = AreLoaded old.tokens new.tokens
