-- How many volume bytes a command takes that asks an archive by time: of each volume no more than its label, and then what its
-- search takes of the records.
use Rattle.std.specs.Prelude.{◌⊎◌, ℕ, ◌≤◌}
use Rattle.pcp_base.specs.Time.{Moment}
use Rattle.pcp_model.specs.Disk.{Files}
use Rattle.archive_loading.specs.Loaded.{Loaded, IsOver}
use Rattle.archive_loading.specs.Takes.{TookLabels}
use Rattle.archive_reader.specs.Asked.{at_begin, range_begin}
use Rattle.archive_reader.specs.Takes.{TakesAt, TakesRange}

-- the labels alone, or also what a search takes of the archive that was loaded
pub record TookAsked (files : Files) (Search : Loaded → ℕ → ℕ → Type 0) (before after : ℕ) : Type 0 where
  pub mid : ℕ
  pub labels : TookLabels files before mid
  pub search : (after ≤ mid) ⊎ ((r : Loaded) × IsOver files r × Search r mid after)

-- the search for the last item that isn't after a moment, and that for the items between two
abbrev pub TookAt : Moment → Files → ℕ → ℕ → Type 0
TookAt t files before after = TookAsked files (λ r. TakesAt files r.volumes t (at_begin r t)) before after

abbrev pub TookRange : Moment → Moment → Files → ℕ → ℕ → Type 0
TookRange from to files before after = TookAsked files (λ r. TakesRange files r.volumes to (range_begin r from)) before after
