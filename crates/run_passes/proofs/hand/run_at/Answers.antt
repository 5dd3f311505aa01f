use Rattle.std.proofs.Common.{refl, arith}
use Rattle.run_passes.proofs.Turning.{was_there}
use Rattle.run_passes.proofs.Acting.{acts_done, no_region, ready_now}
use Rattle.run_passes.proofs.hand.run_at.Goals as goal

pub unreachable-requires : goal.unreachable-requires
unreachable-requires g c = no_region c.args.server.now c.args.at c.requires.there c.in_default.ensures

pub run-requires-clause-here : goal.run-requires-clause-here
run-requires-clause-here g c = (ready_now c.args.script.now c.args.server.now c.args.at c.args.line.now c.args.writers.now.items c.in-Some.region.now c.index_mut.result.now c.requires.there c.in-Some.ensures c.requires.ready (was_there c.args.writers.now.items c.args.at c.index_mut.result.now c.index_mut.result.now (let there = c.requires.there in let many = c.requires.as_many in omega arith) c.index_mut.ensures.value refl)).here

pub run-requires-clause-may : goal.run-requires-clause-may
run-requires-clause-may g c = (ready_now c.args.script.now c.args.server.now c.args.at c.args.line.now c.args.writers.now.items c.in-Some.region.now c.index_mut.result.now c.requires.there c.in-Some.ensures c.requires.ready (was_there c.args.writers.now.items c.args.at c.index_mut.result.now c.index_mut.result.now (let there = c.requires.there in let many = c.requires.as_many in omega arith) c.index_mut.ensures.value refl)).may

pub run-requires-clause-fits : goal.run-requires-clause-fits
run-requires-clause-fits g c = (ready_now c.args.script.now c.args.server.now c.args.at c.args.line.now c.args.writers.now.items c.in-Some.region.now c.index_mut.result.now c.requires.there c.in-Some.ensures c.requires.ready (was_there c.args.writers.now.items c.args.at c.index_mut.result.now c.index_mut.result.now (let there = c.requires.there in let many = c.requires.as_many in omega arith) c.index_mut.ensures.value refl)).room

pub returns : goal.returns
returns g c =
    acts_done c.args.script.now.images c.args.server.now c.args.at c.args.line.now c.args.writers.now.items c.in-Some.region.now c.index_mut.result.now c.run.new.self c.run.result c.requires.there c.in-Some.ensures (was_there c.args.writers.now.items c.args.at c.index_mut.result.now c.index_mut.result.now (let there = c.requires.there in let many = c.requires.as_many in omega arith) c.index_mut.ensures.value refl) c.run.ensures
