use Rattle.run_passes.proofs.Seated.{closed_by, all_idle}
use Rattle.run_passes.proofs.crew.end_all.Goals as goal

pub returns-clause-goes : goal.returns-clause-goes
returns-clause-goes c =
    closed_by c.args.server.now c.args.at c.args.crew.now.items c.sweep.new.crew.items c.sweep-2.new.crew.items c.sweep-3.new.crew.items c.args.seat.now.tokens c.sweep.new.seat.tokens c.sweep-2.new.seat.tokens c.sweep-3.new.seat.tokens
    c.sweep.ensures.goes c.sweep-2.ensures.goes c.sweep-3.ensures.goes

pub returns-clause-idle : goal.returns-clause-idle
returns-clause-idle c =
    all_idle c.args.crew.now.items c.sweep.new.crew.items c.sweep-2.new.crew.items c.sweep-3.new.crew.items c.sweep.ensures.goes.goes.as_many c.sweep-2.ensures.goes.goes.as_many c.sweep-3.ensures.goes.goes.as_many
    c.sweep.ensures.ends c.sweep-2.ensures.ends c.sweep-3.ensures.ends
