-- One row more has its region.
use Rattle.run_passes.specs.Makings.{IsMadeFor}
use Rattle.run_passes.proofs.OpeningServer.{zip_more}
use Rattle.run_passes.proofs.opening.making.make_each.Goals as goal

pub loop-row-preserved : goal.loop-row-preserved
loop-row-preserved c =
    zip_more (IsMadeFor c.args.script.now c.args.seats) c.args.script.now.regions c.as_slice-row-items.result.now c.loop-row.made.items c.push.new.self.items c.loop-row.row-index
    c.row-item.result c.in_ok-make_region.field-0 c.as_slice-row-items.ensures c.loop-row-test.true c.row-item.is c.loop-row.invariant c.in_ok-push.ensures.items c.in_ok-make_region.ensures
