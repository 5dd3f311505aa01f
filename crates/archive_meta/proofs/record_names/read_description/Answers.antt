use Rattle.std.proofs.Common.{Some, None, sym, ◌∙◌}
use Rattle.std.proofs.lemmas.List.{take_rest}
use Rattle.archive_meta.proofs.DescriptionsRead.{described}
use Rattle.archive_meta.proofs.record_names.read_description.Goals as goal

pub returns-in-Some-2 : goal.returns-in-Some-2
returns-in-Some-2 c = sym (described c.args.payload.now c.in-Some.desc c.in-Some-be32.count (Some c.in-Some-2.names) (sym c.in-Some.ensures) (sym c.in-Some-be32.ensures) (simp take_rest at (sym c.in_ok-names.ensures ∙ c.in-Some-2.is)))

pub returns-in-None : goal.returns-in-None
returns-in-None c = sym (described c.args.payload.now c.in-Some.desc c.in-Some-be32.count None (sym c.in-Some.ensures) (sym c.in-Some-be32.ensures) (simp take_rest at (sym c.in_ok-names.ensures ∙ c.in-None.is)))
