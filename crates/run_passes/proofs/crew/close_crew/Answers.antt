use Rattle.run_passes.proofs.Seated.{closed_at}
use Rattle.run_passes.proofs.crew.close_crew.Goals as goal

pub returns-clause-closed : goal.returns-clause-closed
returns-clause-closed c = closed_at c.args.server.now c.args.at c.args.crew.items c.end_all.new.crew.items c.args.seat.now.tokens c.end_all.new.seat.tokens c.gather_all.new.seat.tokens c.end_all.ensures.goes c.gather_all.ensures.gathered
