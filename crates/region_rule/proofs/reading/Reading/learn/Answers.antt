use Rattle.std.proofs.Common.{sym, ap, subst}
use Rattle.region_rule.specs.Calls.{Opened}
use Rattle.region_rule.specs.Reads.{HasRead}
use Rattle.region_rule.proofs.Fronts.{learned}
use Rattle.region_rule.proofs.HasRead.{has_learned}
use Rattle.region_rule.proofs.reading.Reading.learn.Goals as goal

pub returns-clause-goes_on : goal.returns-clause-goes_on
returns-clause-goes_on g c v found h =
    let S = g.S.Shape.shaping in
    let r = c.self.inside in
    let x = c.note.inside.seat.me.0 in
    let w = c.learn_seat.new.seat.me.0 in
    let here : HasRead S v r.first found r.seat.me.0 = subst (λ (o : Opened). HasRead S v o.first found o.token.view) (sym c.self.view_is) h in
    has_learned S v r.seat.me.0 x w r.first found here (learned S r.seat.me.0 x w (ap (λ m. m.0) c.learn_seat.ensures.both) c.learn_seat.ensures.knows)
