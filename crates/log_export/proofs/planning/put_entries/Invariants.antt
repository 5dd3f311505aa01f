-- The bytes so far, and those of the other entries, are those of all.
use Rattle.std.proofs.Common.{◌≡◌, ◌++◌, drop}
use Rattle.pcp_model.specs.Records.{entries}
use Rattle.archive_loading.specs.Loaded.{numbers}
use Rattle.log_export.specs.Exported.{kept_entries}
use Rattle.log_export.proofs.planning.put_entries.Given as goal

abbrev pub invariant-loop-at : goal.invariant-loop-at
invariant-loop-at l = l.out.items ++ entries (kept_entries (numbers l.left) (drop l.at l.index)) ≡ l.initial.out.items ++ entries (kept_entries (numbers l.left) l.index)
