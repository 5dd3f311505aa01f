use Rattle.std.proofs.Common.{take}
use Rattle.archive_recovery.specs.Stamps.{entry_stamps, IsLatestOn}
use Rattle.archive_recovery.proofs.stamps.later_entry.Given as goal

abbrev pub invariant-loop-at : goal.invariant-loop-at
invariant-loop-at l = IsLatestOn l.initial.latest (entry_stamps (take l.at l.index)) l.latest
