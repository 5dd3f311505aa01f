use Rattle.std.proofs.Common.{sym, subst}
use Rattle.region_rule.specs.Calls.{Opened}
use Rattle.region_rule.specs.Reads.{HasRead}
use Rattle.region_rule.proofs.HasRead.{has_shown, has_refused}
use Rattle.region_rule.proofs.reading.Reading.end.Goals as goal

pub returns-then-first-last-clause-shown : goal.returns-then-first-last-clause-shown
returns-then-first-last-clause-shown g c v found h =
    let S = g.S.Shape.shaping in
    let r = c.self.inside in
    let here : HasRead S v r.first found r.seat.me.0 = subst (λ (o : Opened). HasRead S v o.first found o.token.view) (sym c.self.view_is) h in
    has_refused S v r.seat.me.0 c.load_first-last.new.seat.me.0 r.first c.load_first-last.result found here c.load_first-last.ensures.tells.0 c.if-first-last.true

pub returns-clause-shown : goal.returns-clause-shown
returns-clause-shown g c v found h =
    let S = g.S.Shape.shaping in
    let r = c.self.inside in
    let here : HasRead S v r.first found r.seat.me.0 = subst (λ (o : Opened). HasRead S v o.first found o.token.view) (sym c.self.view_is) h in
    has_shown S g.S.Shape.laws v r.seat.me.0 c.load_first-last.new.seat.me.0 r.first c.load_first-last.result found here c.load_first-last.ensures.tells.0 c.if-first-last.false
