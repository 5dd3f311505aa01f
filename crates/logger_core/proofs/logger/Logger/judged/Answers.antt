-- The results are judged one after another, from no runs on.
use Rattle.std.proofs.Common.{[], ap, arith}
use Rattle.logger_core.specs.Held.{counts_of}
use Rattle.logger_core.specs.Meant.{Kept}
use Rattle.logger_core.proofs.GroupLogged.{judged_all, judged_none, judged_some, none_held}
use Rattle.logger_core.proofs.logger.Logger.judged.Goals as goal

pub hold_all-requires-clause-few : goal.hold_all-requires-clause-few
hold_all-requires-clause-few c = omega (arith, c.requires.few, ap counts_of c.empty.ensures)

pub returns-in-Ok-clause-judged : goal.returns-in-Ok-clause-judged
returns-in-Ok-clause-judged c =
    let inside : Kept = record { label = c.self.inside.label; records = c.self.inside.meta; ends = c.self.inside.ends; limit = c.self.inside.limit; closed = c.self.inside.closed } in
    let start = none_held inside.records inside.ends inside.limit c.empty.result c.empty.ensures in
    judged_all c.args.self.now inside c.self.view_is c.args.all.now c.hold_all.new.meta c.hold_all.new.group c.if-was_closed.false (c.in-Ok.ensures.held inside.records inside.ends [] c.self.invariant.small start)

pub returns-else-is_memory-clause-judged : goal.returns-else-is_memory-clause-judged
returns-else-is_memory-clause-judged c =
    let inside : Kept = record { label = c.self.inside.label; records = c.self.inside.meta; ends = c.self.inside.ends; limit = c.self.inside.limit; closed = c.self.inside.closed } in
    let start = none_held inside.records inside.ends inside.limit c.empty.result c.empty.ensures in
    judged_some c.args.self.now inside c.self.view_is c.args.all.now c.hold_all.new.meta c.hold_all.new.group c.if-was_closed.false c.in-Err.refusal (c.is_memory.ensures.1 c.if-is_memory.false) (c.in-Err.ensures.refused inside.records inside.ends [] c.self.invariant.small start)

pub returns-then-is_memory-clause-fault : goal.returns-then-is_memory-clause-fault
returns-then-is_memory-clause-fault c =
    let inside : Kept = record { label = c.self.inside.label; records = c.self.inside.meta; ends = c.self.inside.ends; limit = c.self.inside.limit; closed = c.self.inside.closed } in
    let start = none_held inside.records inside.ends inside.limit c.empty.result c.empty.ensures in
    judged_none c.args.self.now inside c.self.view_is c.args.all.now c.hold_all.new.meta c.hold_all.new.group c.if-was_closed.false c.in-Err.refusal c.count-count.result c.cut.new.self (c.is_memory.ensures.0 c.if-is_memory.true) c.count-count.ensures.value c.cut.ensures (c.in-Err.ensures.refused inside.records inside.ends [] c.self.invariant.small start)
