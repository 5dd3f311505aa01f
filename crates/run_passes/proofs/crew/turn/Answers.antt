use Rattle.std.proofs.Common.{◌∙◌}
use Rattle.run_passes.specs.Works.{step_of}
use Rattle.run_passes.proofs.Turning.{was_there, done_here, turned_by, ended_by}
use Rattle.run_passes.proofs.crew.turn.Goals as goal

pub learned-worker-requires-clause-here : goal.learned-worker-requires-clause-here
learned-worker-requires-clause-here c = (c.args.pass, (c.requires.here c.args.pass c.replace-worker.result (was_there c.args.crew.now.items c.args.pass c.index_mut.result.now c.replace-worker.result c.requires.there c.index_mut.ensures.value c.replace-worker.ensures.value)))

pub run-worker-requires : goal.run-worker-requires
run-worker-requires c = record { here = (c.args.pass, (c.learned-worker.ensures.stays c.args.pass (c.requires.here c.args.pass c.replace-worker.result (was_there c.args.crew.now.items c.args.pass c.index_mut.result.now c.replace-worker.result c.requires.there c.index_mut.ensures.value c.replace-worker.ensures.value)))) }

pub noted-worker-requires : goal.noted-worker-requires
noted-worker-requires c = record { here = (c.args.pass, done_here c.args.region.now (step_of c.args.deed.now) c.args.pass c.learned-worker.result c.run-worker.result.0 c.run-worker.result.1 c.run-worker.ensures.works (c.learned-worker.ensures.stays c.args.pass (c.requires.here c.args.pass c.replace-worker.result (was_there c.args.crew.now.items c.args.pass c.index_mut.result.now c.replace-worker.result c.requires.there c.index_mut.ensures.value c.replace-worker.ensures.value)))) }

pub returns-clause-ends : goal.returns-clause-ends
returns-clause-ends c = λ needs.
    ended_by c.args.deed.now c.args.pass c.args.crew.now.items c.replace-worker.new.dest c.replace-worker.result c.learned-worker.result c.run-worker.result.0 c.replace-away.new.dest (was_there c.args.crew.now.items c.args.pass c.index_mut.result.now c.replace-worker.result c.requires.there c.index_mut.ensures.value c.replace-worker.ensures.value) c.learned-worker.ensures.doing (c.run-worker.ensures.ends needs) (c.replace-away.ensures.after ∙ c.noted-worker.ensures.same)

pub returns-clause-turned : goal.returns-clause-turned
returns-clause-turned c =
    turned_by c.args.region.now c.args.pass (step_of c.args.deed.now) c.args.crew.now.items c.replace-worker.new.dest c.replace-worker.result c.learned-worker.result c.run-worker.result.0 c.replace-away.new.dest c.args.note.view c.noted-worker.result.1.view c.run-worker.result.1
    (was_there c.args.crew.now.items c.args.pass c.index_mut.result.now c.replace-worker.result c.requires.there c.index_mut.ensures.value c.replace-worker.ensures.value) c.learned-worker.ensures.learns c.learned-worker.ensures.doing c.learned-worker.ensures.stays c.run-worker.ensures.works (c.replace-away.ensures.after ∙ c.noted-worker.ensures.same) c.noted-worker.ensures.note
