-- A flush, event by event.
use Rattle.std.proofs.Common.{refl}
use Rattle.logging_session.specs.Events.{Event}
use Rattle.logging_session.proofs.Course.{flush_went}
use Rattle.logging_session.proofs.session.Session.flush.Goals as goal

pub returns-clause-went : goal.returns-clause-went
returns-clause-went g c = λ tells left events start h.
    let d = g.D.Disk in
    flush_went d left g.met.D.Disk.only_now start c.args.disk.now c.make_sure.new.disk c.args.self.now c.make_sure.new.self c.make_sure.ensures.same.0 c.make_sure.ensures.same.1 events h
    (c.make_sure.ensures.any_moment tells left events h.keeps) Event.flushed refl c.make_sure.result (d.faults c.args.disk.now) (d.faults c.make_sure.new.disk)
    (c.make_sure.ensures.done tells left events h.keeps) c.make_sure.ensures.none c.make_sure.ensures.cause c.make_sure.ensures.closed
