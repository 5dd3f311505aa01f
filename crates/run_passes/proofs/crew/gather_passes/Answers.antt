use Rattle.std.proofs.Common.{refl, sym, subst}
use Rattle.run_passes.specs.declared.worker.Worker.TheVariants as workers
use Rattle.region_rule.specs.Seats.{MadeRegion}
use Rattle.fetch_engine.specs.Servers.{IsRegionAt}
use Rattle.run_passes.specs.Openings.{idle_crew}
use Rattle.run_passes.proofs.Gathering.{gathering, gathered_more, idle_last, passes_there}
use Rattle.run_passes.proofs.Seated.{at_within}
use Rattle.run_passes.proofs.crew.gather_passes.Goals as goal

pub loop-pass-init : goal.loop-pass-init
loop-pass-init c = (c.requires.seated, gathering c.args.server.now c.args.at (idle_crew c.args.passes.items) c.args.seat.now.tokens c.requires.crew)

pub gather-requires-clause-there : goal.gather-requires-clause-there
gather-requires-clause-there c = at_within c.args.server.now c.args.at c.requires.crew.region c.requires.crew.placed

pub gather-requires-clause-ended : goal.gather-requires-clause-ended
gather-requires-clause-ended c =
    subst (λ (r : MadeRegion). IsRegionAt c.args.server.now c.args.at r)
    (sym (passes_there c.args.passes.items c.loop-pass.passes.items c.pop.new.self.items c.in-Some.pass c.args.server.now c.args.at c.args.seat.now.tokens c.loop-pass.seat.tokens c.requires.crew c.loop-pass.invariant.1 c.in-Some.ensures.items))
    c.requires.crew.placed

pub loop-pass-preserved : goal.loop-pass-preserved
loop-pass-preserved c = (
  c.gather.ensures.seated,
  gathered_more c.args.server.now c.args.at (idle_crew c.args.passes.items) (idle_crew c.loop-pass.passes.items) (idle_crew c.pop.new.self.items) (workers.Idle c.in-Some.pass) c.in-Some.pass c.args.seat.now.tokens c.loop-pass.seat.tokens c.gather.new.self.tokens
      c.loop-pass.invariant.1 (idle_last c.loop-pass.passes.items c.pop.new.self.items c.in-Some.pass c.in-Some.ensures.items) refl c.gather.ensures.gathers,
)
