-- Without a domain of this serial nothing grows.
use Rattle.std.proofs.Common.{◌∙◌, ap, sym, is_some}
use Rattle.mmv_writer.proofs.Kept.{domain_there, not_grown}
use Rattle.mmv_writer.proofs.adding.add_instance.Goals as goal

pub returns-in_default-clause-ok : goal.returns-in_default-clause-ok
returns-in_default-clause-ok c =
    sym (not_grown c.args.rows.now c.args.serial c.args.instance
    (sym (domain_there c.args.domains.now c.args.rows.now c.args.serial c.requires.keys) ∙ ap is_some (sym c.place_of.ensures ∙ c.in_default.is)))
