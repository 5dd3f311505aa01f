-- Meta is as long as it was.
use Rattle.std.proofs.Common.{ap, arith}
use Rattle.logger_core.specs.declared.ends.Ends.{Ends}
use Rattle.logger_core.proofs.Planned.{ready_meta}
use Rattle.logger_core.proofs.planning.planned_ends.Goals as goal

pub ran_ends-requires-clause-meta_room : goal.ran_ends-requires-clause-meta_room
ran_ends-requires-clause-meta_room c = omega (arith, c.requires.meta_room, ap (λ (e : Ends). e.meta) c.ready_ends-ready.ensures, ready_meta c.args.crossing c.args.ends.now)
