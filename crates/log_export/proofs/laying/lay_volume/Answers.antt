-- Nothing is written of an empty volume.
use Rattle.pcp_base.specs.declared.file.FileId.TheVariants.{Volume}
use Rattle.pcp_model.specs.Disk.{contents_of}
use Rattle.log_export.proofs.Pieces.{nothing_yet}
use Rattle.log_export.proofs.laying.lay_volume.Goals as goal

pub returns-in_err-length-clause-any_moment : goal.returns-in_err-length-clause-any_moment
returns-in_err-length-clause-any_moment g c = λ source tells. nothing_yet g.D.Disk g.met.D.Disk.only_now c.args.disk.now (Volume c.args.number) (contents_of (g.A.Disk.held c.args.source.now) (Volume c.args.number))

pub returns-then-length-eq0-clause-any_moment : goal.returns-then-length-eq0-clause-any_moment
returns-then-length-eq0-clause-any_moment g c = λ source tells. nothing_yet g.D.Disk g.met.D.Disk.only_now c.args.disk.now (Volume c.args.number) (contents_of (g.A.Disk.held c.args.source.now) (Volume c.args.number))
