use Rattle.archive_check.specs.Marks.{mark_at, code_of}
use Rattle.archive_check.proofs.Placed.{puts}
use Rattle.archive_check.proofs.marks.put.Goals as goal

pub returns : goal.returns
returns c = puts (code_of c.args.file) c.args.offset c.code_of.result (mark_at c.args.marks.now) (mark_at c.insert.new.self) c.code_of.ensures (λ a b. c.in_ok-insert.ensures.updates.0 (a, b))
