use Rattle.std.proofs.Common.{◌≤◌, length, drop, sym, ◌∙◌, arith}
use Rattle.std.proofs.lemmas.List.{length-drop}
use Rattle.archive_reader.proofs.Stepping.{next_last}
use Rattle.log_export.proofs.walking.settled.Goals as goal

pub returns-then-index-volumes : goal.returns-then-index-volumes
returns-then-index-volumes c =
    let few : length (drop c.loop-index.index c.args.volumes.now) ≤ 1 = omega (arith, length-drop c.loop-index.index c.args.volumes.now, c.if-index-volumes.true) in
    sym (next_last (drop c.loop-index.index c.args.volumes.now) c.loop-index.at few).1 ∙ c.loop-index.invariant.offset
