use Rattle.std.proofs.Common.{length, sym, subst, ◌∙◌}
use Rattle.region_rule.specs.Seats.{MadeRegion}
use Rattle.fetch_engine.specs.Servers.{IsRegionAt}
use Rattle.run_passes.specs.Workers.{IsWorker}
use Rattle.run_passes.proofs.Gathering.{gathering, gathered_more, among}
use Rattle.run_passes.proofs.Seated.{region_at, at_within}
use Rattle.run_passes.proofs.crew.gather_all.Goals as goal

pub loop-worker-init : goal.loop-worker-init
loop-worker-init c = (c.requires.seated, gathering c.args.server.now c.args.at c.args.crew.items c.args.seat.now.tokens c.requires.crew)

pub into_pass-requires-clause-here : goal.into_pass-requires-clause-here
into_pass-requires-clause-here c =
    (length c.pop.new.self.items, subst (λ (r : MadeRegion). IsWorker r (length c.pop.new.self.items) c.in-Some-pop.worker) (sym (region_at c.args.server.now c.args.at c.in-Some.region.now c.requires.crew.region c.in-Some.ensures c.requires.crew.placed)) (c.requires.crew.is_crew.each (length c.pop.new.self.items) c.in-Some-pop.worker (among c.args.server.now c.args.at c.args.crew.items c.loop-worker.crew.items c.pop.new.self.items c.in-Some-pop.worker c.args.seat.now.tokens c.loop-worker.seat.tokens c.loop-worker.invariant.1 c.in-Some-pop.ensures.items)))

pub into_pass-requires-clause-idle : goal.into_pass-requires-clause-idle
into_pass-requires-clause-idle c = c.requires.idle (length c.pop.new.self.items) c.in-Some-pop.worker (among c.args.server.now c.args.at c.args.crew.items c.loop-worker.crew.items c.pop.new.self.items c.in-Some-pop.worker c.args.seat.now.tokens c.loop-worker.seat.tokens c.loop-worker.invariant.1 c.in-Some-pop.ensures.items)

pub gather-requires-clause-there : goal.gather-requires-clause-there
gather-requires-clause-there c = at_within c.args.server.now c.args.at c.requires.crew.region c.requires.crew.placed

pub gather-requires-clause-ended : goal.gather-requires-clause-ended
gather-requires-clause-ended c = subst (λ (r : MadeRegion). IsRegionAt c.args.server.now c.args.at r) (sym (c.into_pass.ensures.region ∙ (region_at c.args.server.now c.args.at c.in-Some.region.now c.requires.crew.region c.in-Some.ensures c.requires.crew.placed))) c.requires.crew.placed

pub loop-worker-preserved : goal.loop-worker-preserved
loop-worker-preserved c = (c.gather.ensures.seated, gathered_more c.args.server.now c.args.at c.args.crew.items c.loop-worker.crew.items c.pop.new.self.items c.in-Some-pop.worker c.into_pass.result c.args.seat.now.tokens c.loop-worker.seat.tokens c.gather.new.self.tokens c.loop-worker.invariant.1 c.in-Some-pop.ensures.items c.into_pass.ensures.view c.gather.ensures.gathers)
