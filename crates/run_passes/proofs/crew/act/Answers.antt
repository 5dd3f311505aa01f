use Rattle.std.proofs.Common.{ap}
use Rattle.fetch_engine.specs.Servers.{Seated}
use Rattle.run_passes.specs.Works.{step_of}
use Rattle.run_passes.proofs.Seated.{acts_at_by}
use Rattle.run_passes.proofs.crew.act.Goals as goal

pub returns-clause-acts : goal.returns-clause-acts
returns-clause-acts c =
    acts_at_by c.args.server.now c.args.at c.args.pass (step_of c.args.deed.now) c.args.crew.now.items c.turn-note.new.crew.items c.args.seat.now.tokens c.note-note.new.self.tokens c.learn.new.self.tokens c.in-Some.region.now c.note-note.result.region c.note-note.result.view c.turn-note.result.0.view c.turn-note.result.1
    c.requires.crew c.in-Some.ensures c.note-note.ensures.note (ap (λ (s : Seated). s.tokens) c.note-note.ensures.same) c.turn-note.ensures.turned c.learn.ensures.learns
