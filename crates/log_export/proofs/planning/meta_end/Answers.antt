-- Meta of an archive has its label, and records alone.
use Rattle.std.proofs.Common.{subst}
use Rattle.pcp_base.specs.declared.file.FileId.TheVariants.{Meta}
use Rattle.pcp_model.specs.Disk.{contents_of}
use Rattle.archive_loading.specs.Metadata.{IsMetaPart}
use Rattle.log_export.proofs.Plans.{never_begun, never_stops}
use Rattle.log_export.proofs.planning.meta_end.Goals as goal

pub returns-in-Begun-clause-fault : goal.returns-in-Begun-clause-fault
returns-in-Begun-clause-fault g c = λ tells.
    never_begun (contents_of (g.D.Disk.held c.args.disk.now)) c.in-Begun.at (c.requires tells) (subst (IsMetaPart (contents_of (g.D.Disk.held c.args.disk.now) Meta)) c.in-Begun.is (c.in_ok-label.ensures.meta tells))

pub returns-clause-fault : goal.returns-clause-fault
returns-clause-fault g c = λ tells.
    never_stops (contents_of (g.D.Disk.held c.args.disk.now)) c.in-Stops.at (c.requires tells) (subst (IsMetaPart (contents_of (g.D.Disk.held c.args.disk.now) Meta)) c.in-Stops.is (c.in_ok-label.ensures.meta tells))
