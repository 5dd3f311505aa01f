-- The numbers and names of the keys are those of the rows.
use Rattle.std.proofs.Common.{◌∙◌, ap}
use Rattle.mmv_writer.specs.Rules.{has_same_instance}
use Rattle.mmv_writer.proofs.Kept.{found_same}
use Rattle.mmv_writer.proofs.builder.Builder.has_same_instance.Goals as goal

pub returns : goal.returns
returns c =
    c.has_either.ensures ∙ found_same c.self.inside.keys.domains c.self.inside.layout.indoms c.args.serial c.args.id.now c.args.name.now c.self.invariant.1.domains
    ∙ ap (λ l. has_same_instance l.indoms c.args.serial (c.args.id.now, c.args.name.now)) c.self.view_is
