-- The seat's pass stays of its region.
use Rattle.std.proofs.Common.{rules, ap, ◌∙◌}
use Rattle.region_rule.specs.Seats.{Token}
use Rattle.fetch_engine.specs.Servers.{IsSeated}
use Rattle.fetch_engine.proofs.SeatPasses.{seated_at}
use Rattle.fetch_engine.proofs.seat.Seat.gather.Goals as goal

pub returns-clause-seated : goal.returns-clause-seated
returns-clause-seated c =
    let seated : IsSeated c.args.server.now c.self.inside.passes.items = search rules in
    seated_at c.args.server.now c.self.inside.passes.items c.args.index c.index_mut.result.now c.gather.new.self seated
    (c.gather.ensures.stays.region ∙ ap (λ (t : Token). t.region) c.index_mut.ensures.value)
