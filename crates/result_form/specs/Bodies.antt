-- What a set holds, as a view has it and as a result does.
use Rattle.pcp_base.specs.declared.result.Body.{Body}
use Rattle.pcp_base.specs.declared.result.Body.TheVariants as bodies
use Rattle.result_form.specs.declared.sets.BodyView.{BodyView}
use Rattle.result_form.specs.declared.sets.BodyView.TheVariants.{InPlace, Blocks, Status}

abbrev pub as_body : BodyView → Body
as_body (InPlace pairs) = bodies.InPlace pairs
as_body (Blocks pairs) = bodies.Blocks pairs
as_body (Status n) = bodies.Status n
