use Rattle.std.proofs.Common.{arith, subst}
use Rattle.pdu_codec.specs.Reading.{Gives}
use Rattle.pdu_codec.proofs.Pdus.{is_found, is_fault, pdu_again}
use Rattle.pdu_codec.proofs.reading.decode.Goals as goal

pub returns-clause-found : goal.returns-clause-found
returns-clause-found c = is_found c.args.bytes.now c.read.result (λ i. omega (arith, c.type_inv.bytes i)) c.read.ensures

pub returns-clause-only : goal.returns-clause-only
returns-clause-only c = λ p is. subst (λ f. Gives c.read.result f) (pdu_again c.args.bytes.now p (λ i. omega (arith, c.type_inv.bytes i)) is) c.read.ensures

pub returns-clause-fault : goal.returns-clause-fault
returns-clause-fault c = is_fault c.args.bytes.now c.read.result (λ i. omega (arith, c.type_inv.bytes i)) c.read.ensures
