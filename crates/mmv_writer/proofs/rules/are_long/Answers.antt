-- The bytes of a slice fit.
use Rattle.std.proofs.Common.{arith}
use Rattle.mmv_writer.proofs.rules.are_long.Goals as goal

pub returns-clause-range : goal.returns-clause-range
returns-clause-range c = λ j. omega (arith, c.type_inv.bytes j)
