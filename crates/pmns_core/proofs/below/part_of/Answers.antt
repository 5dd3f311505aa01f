-- Without a `.` the component is all.
use Rattle.std.proofs.Common.{ℕ, Option, length, take, sym, ap, ◌∙◌}
use Rattle.std.specs.Prelude.{unwrap_or, is_none}
use Rattle.std.proofs.Math.Seq.{take-length}
use Rattle.pmns_core.proofs.below.part_of.Goals as goal

pub returns-in-Some-clause-part : goal.returns-in-Some-clause-part
returns-in-Some-clause-part c = ap (λ (o : Option ℕ). take (unwrap_or o (length c.args.rest.now)) c.args.rest.now) c.in-Some.ensures.value

pub returns-in-None-clause-part : goal.returns-in-None-clause-part
returns-in-None-clause-part c = sym (take-length c.args.rest.now) ∙ ap (λ (o : Option ℕ). take (unwrap_or o (length c.args.rest.now)) c.args.rest.now) c.in-None.ensures.value

pub returns-in-None-clause-leaf : goal.returns-in-None-clause-leaf
returns-in-None-clause-leaf c = ap is_none c.in-None.ensures.value
