use Rattle.std.proofs.Common.{None, sym, subst}
use Rattle.pcp_base.specs.declared.file.FileId.TheVariants.{Index}
use Rattle.pcp_model.specs.Disk.{contents_of}
use Rattle.archive_check.specs.Stamped.{Steps}
use Rattle.archive_check.proofs.Places.{no_index}
use Rattle.archive_check.proofs.steps.step.Goals as goal

pub returns-in-Index-clause-found : goal.returns-in-Index-clause-found
returns-in-Index-clause-found g c = λ tells.
    let files = contents_of (g.D.Disk.held c.args.disk.now) in
    subst (λ f. Steps f (files f) c.args.at None) (sym c.in-Index.is) (λ records front p. no_index (files Index) records c.args.at front p)
