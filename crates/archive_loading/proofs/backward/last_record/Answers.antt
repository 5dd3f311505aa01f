use Rattle.std.proofs.Common.{arith}
use Rattle.pcp_base.specs.declared.file.FileId.TheVariants.{Volume}
use Rattle.pcp_model.specs.Disk.{contents_of}
use Rattle.archive_loading.proofs.Endings.{took_back_word}
use Rattle.archive_loading.proofs.backward.last_record.Goals as goal

pub returns-in_err-take_bytes-clause-count : goal.returns-in_err-take_bytes-clause-count
returns-in_err-take_bytes-clause-count g c = λ tells.
    took_back_word (contents_of (g.D.Disk.held c.args.disk.now) (Volume c.args.number)) c.args.at (g.D.Disk.taken c.args.disk.now) (g.D.Disk.taken c.take_bytes.new.disk) (omega (arith, c.if-at-lt144.false)) (c.take_bytes.ensures.taken tells)
