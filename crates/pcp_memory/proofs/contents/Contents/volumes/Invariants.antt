use Rattle.std.proofs.Common.{◌≡◌, max}
use Rattle.pcp_memory.proofs.VolumeCounts.{used}
use Rattle.pcp_memory.proofs.contents.Contents.volumes.Given as goal

abbrev pub invariant-loop-number : goal.invariant-loop-number
invariant-loop-number l = max l.most (used l.number-iterator) ≡ used l.self.volumes.entries
