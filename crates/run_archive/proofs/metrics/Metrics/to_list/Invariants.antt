-- Those so far.
use Rattle.std.proofs.Common.{◌≡◌, take}
use Rattle.run_archive.proofs.metrics.Metrics.to_list.Given as goal

abbrev pub invariant-loop-word : goal.invariant-loop-word
invariant-loop-word l = l.pmids ≡ take l.word-index l.word-items
