-- A value word lies behind the header.
use Rattle.mmv_layout.proofs.Shapes.{is_no_value}
use Rattle.mmv_layout.proofs.laws.generation_is_no_value.Goals as goal

pub returns : goal.returns
returns c = is_no_value
