use Rattle.archive_check.specs.Marks.{mark_at, code_of}
use Rattle.archive_check.proofs.Placed.{passes}
use Rattle.archive_check.proofs.marks.pass.Goals as goal

pub returns-in_ok-insert-in-Some : goal.returns-in_ok-insert-in-Some
returns-in_ok-insert-in-Some c =
    passes (code_of c.args.file) c.args.at c.code_of.result (mark_at c.args.marks.now) (mark_at c.insert.new.self) c.code_of.ensures c.args.time (λ a b. c.in_ok-insert-in-Some.ensures.updates.0 (a, b))
