-- The entries so far are of other volumes.
use Rattle.std.proofs.Common.{◌≡◌, drop}
use Rattle.archive_loading.specs.Loaded.{numbers}
use Rattle.log_export.specs.Exported.{kept_entries}
use Rattle.log_export.proofs.planning.first_kept.Given as goal

abbrev pub invariant-loop-at : goal.invariant-loop-at
invariant-loop-at l = kept_entries (numbers l.left) (drop l.at l.index) ≡ kept_entries (numbers l.left) l.index
