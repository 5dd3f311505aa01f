use Rattle.std.proofs.Common.{◌≡◌, drop}
use Rattle.std.specs.Prelude.{fold}
use Rattle.archive_merge.specs.Facts.{with_used}
use Rattle.archive_merge.proofs.facts.note_domains.Given as goal

abbrev pub invariant-loop-set : goal.invariant-loop-set
invariant-loop-set l = fold (with_used l.meta) l.domains.keys (drop l.set-index l.sets) ≡ fold (with_used l.meta) l.fn.domains.keys l.sets
