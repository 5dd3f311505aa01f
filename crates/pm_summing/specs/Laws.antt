-- What holds of summaries.
use Rattle.std.specs.Prelude.{◌≡◌, ℕ, List}
use Rattle.pcp_base.specs.Time.{Moment}
use Rattle.pcp_model.specs.Disk.{Files}
use Rattle.pm_summing.specs.Sums.{SumsUp}

-- between two moments files sum up to one text, however many workers find it
abbrev pub ArchiveHasOneSummary : Type 0
ArchiveHasOneSummary = (files : Files) (from to : Moment) (text other : List ℕ) → SumsUp files from to text → SumsUp files from to other → text ≡ other
