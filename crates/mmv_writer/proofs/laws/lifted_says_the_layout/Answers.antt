-- What a lifted image says.
use Rattle.mmv_writer.proofs.Lifted.{lifted_says_the_layout}
use Rattle.mmv_writer.proofs.laws.lifted_says_the_layout.Goals as goal

pub returns : goal.returns
returns c = lifted_says_the_layout
