use Rattle.std.proofs.Common.{◌++◌}
use Rattle.pdu_stream.proofs.Calls.{reads, keeps}
use Rattle.pdu_stream.proofs.reassembler.read.Goals as goal

pub returns-clause-reads : goal.returns-clause-reads
returns-clause-reads c = reads (c.args.buffer.now.items ++ c.args.piece.now) c.take_whole.new.buffer.items c.in_ok-parts.parts c.phase_of.result c.answer_of.result c.in_ok-parts.ensures c.phase_of.ensures c.answer_of.ensures

pub returns-clause-kept : goal.returns-clause-kept
returns-clause-kept c = keeps (c.args.buffer.now.items ++ c.args.piece.now) c.take_whole.new.buffer.items c.in_ok-parts.parts c.phase_of.result c.in_ok-parts.ensures c.phase_of.ensures
