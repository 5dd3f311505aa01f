use Rattle.std.proofs.Common.{arith, refl}
use Rattle.archive_frame.proofs.Records.{stands}
use Rattle.archive_frame.proofs.steps.forward.Goals as goal

pub returns-clause-found : goal.returns-clause-found
returns-clause-found c = (
  stands c.args.bytes.now c.args.at c.in_ok-size.size (λ i. omega (arith, c.type_inv.bytes i)) c.in_ok-size.ensures.1 (omega arith)
      (omega (arith, c.in-Some.ensures.1, c.in_ok-size.ensures.0)) (omega (arith, c.in-Some-word_at.ensures.1, c.in_ok-size.ensures.0, c.if-head-tail.false)),
  refl,
  omega arith,
)
