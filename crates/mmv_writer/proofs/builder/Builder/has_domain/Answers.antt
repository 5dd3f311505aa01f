-- The domains' keys are those of the rows.
use Rattle.std.proofs.Common.{◌∙◌, ap}
use Rattle.mmv_writer.specs.Rules.{has_domain}
use Rattle.mmv_writer.proofs.Kept.{keys_there}
use Rattle.mmv_writer.proofs.builder.Builder.has_domain.Goals as goal

pub returns : goal.returns
returns c =
    c.has_domain.ensures ∙ keys_there c.self.inside.keys.domains c.self.inside.layout.indoms c.args.serial c.self.invariant.1.domains
    ∙ ap (λ l. has_domain l.indoms c.args.serial) c.self.view_is
