use Rattle.std.proofs.Common.{None, length, ap, ◌∙◌}
use Rattle.run_passes.specs.Hands.{hand_of}
use Rattle.run_passes.proofs.Handed.{down_so, on_ok, same_as, up_so}
use Rattle.run_passes.proofs.Laying.{replicate_long}
use Rattle.run_passes.proofs.hand.write_lines.Goals as goal

pub returns-in_default-clause-same : goal.returns-in_default-clause-same
returns-in_default-clause-same g c = same_as (hand_of c.args.number c.args.passes.now.items)

pub run_steps-answer-requires-clause-writers : goal.run_steps-answer-requires-clause-writers
run_steps-answer-requires-clause-writers g c = (up_so c.args.script.now c.args.server.now (hand_of c.args.number c.args.passes.now.items) c.take_up.new.writers.items c.requires.hand c.take_up.ensures.taken).writers

pub run_steps-answer-requires-clause-present : goal.run_steps-answer-requires-clause-present
run_steps-answer-requires-clause-present g c = (up_so c.args.script.now c.args.server.now (hand_of c.args.number c.args.passes.now.items) c.take_up.new.writers.items c.requires.hand c.take_up.ensures.taken).present

pub run_steps-answer-requires-clause-idle : goal.run_steps-answer-requires-clause-idle
run_steps-answer-requires-clause-idle g c = (up_so c.args.script.now c.args.server.now (hand_of c.args.number c.args.passes.now.items) c.take_up.new.writers.items c.requires.hand c.take_up.ensures.taken).idle

pub lay_down-requires-clause-none : goal.lay_down-requires-clause-none
lay_down-requires-clause-none g c = ap (λ l. length l) c.take_up.ensures.none ∙ (replicate_long (length c.args.passes.now.items) None ∙ c.requires.hand.as_many)

pub returns-clause-hand : goal.returns-clause-hand
returns-clause-hand g c = (down_so c.args.script.now c.args.server.now (hand_of c.args.number c.args.passes.now.items) c.take_up.new.writers.items c.run_steps-answer.new.writers.items c.lay_down.new.passes.items c.requires.hand c.take_up.ensures.taken c.run_steps-answer.ensures.writers c.run_steps-answer.ensures.present c.run_steps-answer.ensures.away c.lay_down.ensures.as_many c.lay_down.ensures.laid).hand_is

pub returns-clause-same : goal.returns-clause-same
returns-clause-same g c = (down_so c.args.script.now c.args.server.now (hand_of c.args.number c.args.passes.now.items) c.take_up.new.writers.items c.run_steps-answer.new.writers.items c.lay_down.new.passes.items c.requires.hand c.take_up.ensures.taken c.run_steps-answer.ensures.writers c.run_steps-answer.ensures.present c.run_steps-answer.ensures.away c.lay_down.ensures.as_many c.lay_down.ensures.laid).same

pub returns-clause-written : goal.returns-clause-written
returns-clause-written g c = on_ok c.run_steps-answer.result c.run_steps-answer.ensures.run ((down_so c.args.script.now c.args.server.now (hand_of c.args.number c.args.passes.now.items) c.take_up.new.writers.items c.run_steps-answer.new.writers.items c.lay_down.new.passes.items c.requires.hand c.take_up.ensures.taken c.run_steps-answer.ensures.writers c.run_steps-answer.ensures.present c.run_steps-answer.ensures.away c.lay_down.ensures.as_many c.lay_down.ensures.laid).written c.requires.taken)
