-- Samples of the regions of a server, taken by one seat while others may store into them.
use Rattle.std.specs.Prelude.{◌≡◌, List, [], ◌∷◌, map}
use Rattle.pcp_base.specs.Time.{Moment}
use Rattle.region_rule.specs.Seats.{Token}
use Rattle.fetch_engine.specs.declared.server.Mounted.{Mounted}
use Rattle.fetch_answers.specs.Readings.{RegionReading}
use Rattle.fetch_engine.specs.Visits.{AreRead}

-- A sample: its moment; the seat's passes before it, behind its reading for names, and behind its reading for values; and what
-- these readings showed of each region, in ascending cluster
pub record SampleTaken : Type 0 where
  pub stamp : Moment
  pub before : List Token
  pub names : List RegionReading
  pub between : List Token
  pub values : List RegionReading
  pub after : List Token

-- each region was read once for names, and then once for values, by loads of the seat's own passes from the end of what they had seen
pub record IsTaken (server : List Mounted) (s : SampleTaken) : Type 0 where
  pub named : AreRead server s.before s.names s.between
  pub read : AreRead server s.between s.values s.after

-- samples one behind another, from these passes to those: the loads of a sample stand behind those of the sample before
abbrev pub AreTaken : List Mounted → List Token → List SampleTaken → List Token → Type 0
AreTaken server tokens [] last = last ≡ tokens
AreTaken server tokens (s ∷ samples) last = (s.before ≡ tokens) × IsTaken server s × AreTaken server s.after samples last

abbrev pub stamps_of : List SampleTaken → List Moment
stamps_of samples = map (λ (s : SampleTaken). s.stamp) samples
