-- The entry lies in the words.
use Rattle.std.proofs.Common.{arith}
use Rattle.mmv_layout.proofs.Lies.{indom_lies}
use Rattle.mmv_layout.proofs.offsets.indom_offset.Goals as goal

pub overflow_cast-result : goal.overflow_cast-result
overflow_cast-result c = let lies = indom_lies c.args.words.now c.args.i c.requires.sections c.requires.below in omega arith

pub returns-clause-bound : goal.returns-clause-bound
returns-clause-bound c = let lies = indom_lies c.args.words.now c.args.i c.requires.sections c.requires.below in omega arith
