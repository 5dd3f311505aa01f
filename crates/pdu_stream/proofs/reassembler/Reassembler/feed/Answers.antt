use Rattle.pdu_stream.proofs.Calls.{answers_from, bad_from, lost_from}
use Rattle.pdu_stream.proofs.reassembler.Reassembler.feed.Goals as goal

pub returns-in-Open-clause-stream : goal.returns-in-Open-clause-stream
returns-in-Open-clause-stream c = λ stream given. answers_from stream given c.args.piece.now c.args.self.now c.self.inside.phase c.self.inside.buffer.items
    (record { phase = c.read.new.phase; rest = c.read.new.buffer.items }) c.read.result c.self.view_is c.in-Open.is c.read.ensures.reads

pub returns-in-Bad-clause-stream : goal.returns-in-Bad-clause-stream
returns-in-Bad-clause-stream c = λ stream given. bad_from stream given c.args.piece.now c.args.self.now c.self.inside.phase c.self.inside.buffer.items c.in-Bad.found c.self.view_is c.in-Bad.is

pub returns-in-Lost-clause-stream : goal.returns-in-Lost-clause-stream
returns-in-Lost-clause-stream c = λ stream given. lost_from stream given c.args.piece.now c.args.self.now c.self.inside.phase c.self.inside.buffer.items c.self.view_is c.in-Lost.is
