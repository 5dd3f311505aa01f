use Rattle.std.proofs.Common.{◌≡◌, ◌≤◌, length, arith, sym, ◌∙◌}
use Rattle.std.proofs.lemmas.List.{take_all}
use Rattle.archive_meta.specs.Woven.{with_other_records}
use Rattle.archive_meta.proofs.Woven.{woven_length}
use Rattle.archive_meta.proofs.keeping.cut.Goals as goal

pub returns-clause-rest : goal.returns-clause-rest
returns-clause-rest c =
    let all = with_other_records c.loop-left.marks c.loop-left.records in
    let size : length all ≡ length c.loop-left.marks = woven_length c.loop-left.marks c.loop-left.records c.loop-left.invariant.state.marked in
    let left : c.loop-left.left ≡ length c.loop-left.marks = c.loop-left.invariant.size in
    let end : c.loop-left.left ≤ c.args.count = c.loop-left-test.false in
    let few : length all ≤ c.args.count = omega arith in
    sym (take_all c.args.count all few) ∙ c.loop-left.invariant.front
