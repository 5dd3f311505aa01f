use Rattle.std.proofs.Common.{arith}
use Rattle.std.proofs.lemmas.List.{take_rest}
use Rattle.pdu_codec.proofs.Whole.{answer_stands, answer_stops}
use Rattle.pdu_codec.proofs.reading.result_at.Goals as goal

pub returns-in-Ok : goal.returns-in-Ok
returns-in-Ok c = answer_stands c.args.bytes.now _ c.args.at c.in-Ok.answer (take_rest c.args.bytes.now c.args.at) (λ i. omega (arith, c.type_inv.bytes i)) c.in-Ok.ensures.found

pub returns-in-Err : goal.returns-in-Err
returns-in-Err c = rw c.fault_of.ensures (answer_stops c.args.bytes.now _ c.args.at c.in-Err.fault (take_rest c.args.bytes.now c.args.at) (λ i. omega (arith, c.type_inv.bytes i)) c.in-Err.ensures.only)
