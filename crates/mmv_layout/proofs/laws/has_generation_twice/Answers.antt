-- An image has five words, and both generations equal.
use Rattle.mmv_layout.proofs.Shapes.{has_twice}
use Rattle.mmv_layout.proofs.laws.has_generation_twice.Goals as goal

pub returns : goal.returns
returns c = has_twice
