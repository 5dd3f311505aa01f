use Rattle.std.proofs.Common.{refl}
use Rattle.std.specs.Vec.{with_item}
use Rattle.run_passes.specs.Works.{step_of}
use Rattle.run_passes.specs.declared.running.Running.{Running}
use Rattle.run_passes.proofs.Placing.{crew_at, pass_there, at_below, manned_then, alone_before, has_done}
use Rattle.run_passes.proofs.Turning.{was_there}
use Rattle.run_passes.proofs.running.Running.run_deed.Goals as goal

pub act-requires-clause-crew : goal.act-requires-clause-crew
act-requires-clause-crew c =
    crew_at c.args.server.now c.args.self.now c.args.seat.now.tokens c.place-at.result c.place-at.ensures.mounted c.index_mut-crew.result.now c.requires.manned c.place-at.ensures.there (was_there c.args.self.now.crews.items c.place-at.result c.index_mut-crew.result.now c.index_mut-crew.result.now (at_below c.args.script.now c.args.server.now c.args.self.now c.args.seat.now.tokens c.args.region c.place-at.result c.requires.manned c.place-at.ensures) c.index_mut-crew.ensures.value refl)

pub act-requires-clause-there : goal.act-requires-clause-there
act-requires-clause-there c =
    pass_there c.args.script.now c.args.server.now c.args.self.now c.args.seat.now.tokens c.args.region c.place-at.result c.args.pass c.index_mut-crew.result.now c.requires.manned c.place-at.ensures (was_there c.args.self.now.crews.items c.place-at.result c.index_mut-crew.result.now c.index_mut-crew.result.now (at_below c.args.script.now c.args.server.now c.args.self.now c.args.seat.now.tokens c.args.region c.place-at.result c.requires.manned c.place-at.ensures) c.index_mut-crew.ensures.value refl) c.requires.there

pub returns-clause-manned : goal.returns-clause-manned
returns-clause-manned c = let new : Running = record { clusters = c.args.self.now.clusters; crews = with_item c.args.self.now.crews c.place-at.result c.act.new.crew } in
    manned_then c.args.server.now c.args.self.now new c.args.seat.now.tokens c.act.new.seat.tokens c.place-at.result c.args.pass (step_of c.args.deed.now) c.index_mut-crew.result.now c.act.new.crew c.act.result c.requires.manned c.act.ensures.acts c.act.ensures.seated (was_there c.args.self.now.crews.items c.place-at.result c.index_mut-crew.result.now c.index_mut-crew.result.now (at_below c.args.script.now c.args.server.now c.args.self.now c.args.seat.now.tokens c.args.region c.place-at.result c.requires.manned c.place-at.ensures) c.index_mut-crew.ensures.value refl) refl refl

pub returns-clause-alone : goal.returns-clause-alone
returns-clause-alone c = let new : Running = record { clusters = c.args.self.now.clusters; crews = with_item c.args.self.now.crews c.place-at.result c.act.new.crew } in
    alone_before c.args.server.now c.args.self.now new c.args.seat.now.tokens c.act.new.seat.tokens c.place-at.result c.args.pass (step_of c.args.deed.now) c.index_mut-crew.result.now c.act.new.crew c.act.result c.requires.manned c.act.ensures.acts c.act.ensures.seated (was_there c.args.self.now.crews.items c.place-at.result c.index_mut-crew.result.now c.index_mut-crew.result.now (at_below c.args.script.now c.args.server.now c.args.self.now c.args.seat.now.tokens c.args.region c.place-at.result c.requires.manned c.place-at.ensures) c.index_mut-crew.ensures.value refl) refl refl

pub returns-clause-done : goal.returns-clause-done
returns-clause-done c = let new : Running = record { clusters = c.args.self.now.clusters; crews = with_item c.args.self.now.crews c.place-at.result c.act.new.crew } in λ alone regions follows.
    has_done c.args.server.now c.args.self.now new c.args.seat.now.tokens c.act.new.seat.tokens c.place-at.result c.args.pass (step_of c.args.deed.now) c.index_mut-crew.result.now c.act.new.crew c.act.result c.requires.manned c.act.ensures.acts c.act.ensures.seated (was_there c.args.self.now.crews.items c.place-at.result c.index_mut-crew.result.now c.index_mut-crew.result.now (at_below c.args.script.now c.args.server.now c.args.self.now c.args.seat.now.tokens c.args.region c.place-at.result c.requires.manned c.place-at.ensures) c.index_mut-crew.ensures.value refl) refl refl c.args.script.now c.args.region c.place-at.ensures regions follows alone
