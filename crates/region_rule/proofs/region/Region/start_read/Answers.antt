use Rattle.std.proofs.Common.{[], subst}
use Rattle.region_rule.specs.Seats.{Token}
use Rattle.region_rule.specs.Reads.{HasRead}
use Rattle.region_rule.proofs.HasRead.{has_begun}
use Rattle.region_rule.proofs.region.Region.start_read.Goals as goal

pub returns-clause-begins : goal.returns-clause-begins
returns-clause-begins g c =
    let S = g.S.Shape.shaping in
    subst (λ (t : Token). HasRead S t.view c.load_second-first.result [] c.load_second-first.new.seat.me.0) c.pass.view_is
    (has_begun S c.pass.inside.seat.me.0 c.load_second-first.new.seat.me.0 c.load_second-first.result c.load_second-first.ensures.tells.0)
