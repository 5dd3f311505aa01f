-- A run more, or a longer last one.
use Rattle.std.proofs.Common.{sym, ap, ◌∙◌, arith}
use Rattle.logger_core.specs.Held.{counts_of}
use Rattle.logger_core.proofs.HeldRuns.{last_count}
use Rattle.logger_core.proofs.RunKept.{put_begins, put_joins}
use Rattle.logger_core.proofs.groups.put.Goals as goal

pub returns-then-made-clause-ok : goal.returns-then-made-clause-ok
returns-then-made-clause-ok c =
    let cases = sym c.in_ok-reserve.ensures.items ∙ c.in-Some.ensures.items in
    put_begins c.args.runs.now.items c.pop.new.self.items c.push_reserved-then-made.new.self.items c.push_reserved-then-made-2.new.self.items c.in-Some.last c.run_of-then-made.result c.args.made c.args.stamp
    cases c.if-made.true c.push_reserved-then-made.ensures.items c.run_of-then-made.ensures c.push_reserved-then-made-2.ensures.items

pub joined-run-requires : goal.joined-run-requires
joined-run-requires c =
    let cases = sym c.in_ok-reserve.ensures.items ∙ c.in-Some.ensures.items in
    omega (arith, last_count c.pop.new.self.items c.in-Some.last, c.requires, ap counts_of cases)

pub returns-clause-ok : goal.returns-clause-ok
returns-clause-ok c =
    let cases = sym c.in_ok-reserve.ensures.items ∙ c.in-Some.ensures.items in
    put_joins c.args.runs.now.items c.pop.new.self.items c.push_reserved-2.new.self.items c.in-Some.last c.joined-run.result.0 c.joined-run.result.1 c.args.made c.args.stamp
    cases c.if-made.false c.joined-run.ensures c.if-not-grown.false c.push_reserved-2.ensures.items
