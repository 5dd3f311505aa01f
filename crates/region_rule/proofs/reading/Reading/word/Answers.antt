use Rattle.std.proofs.Common.{sym, subst}
use Rattle.region_rule.specs.Calls.{Opened}
use Rattle.region_rule.specs.Reads.{HasRead}
use Rattle.region_rule.proofs.HasRead.{has_more}
use Rattle.region_rule.proofs.reading.Reading.word.Goals as goal

pub returns-clause-goes_on : goal.returns-clause-goes_on
returns-clause-goes_on g c v found h =
    let S = g.S.Shape.shaping in
    let r = c.self.inside in
    let here : HasRead S v r.first found r.seat.me.0 = subst (λ (o : Opened). HasRead S v o.first found o.token.view) (sym c.self.view_is) h in
    has_more S v r.seat.me.0 c.load.new.seat.me.0 r.first c.args.index c.load.result found here c.load.ensures.tells.0
