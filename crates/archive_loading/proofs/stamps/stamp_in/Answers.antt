use Rattle.std.proofs.Common.{◌-◌, length, refl}
use Rattle.std.specs.List.{slice_range}
use Rattle.archive_loading.proofs.Framed.{stamp_of_frame}
use Rattle.archive_loading.proofs.stamps.stamp_in.Goals as goal

pub returns : goal.returns
returns c = λ records are. stamp_of_frame c.args.frame.now (slice_range c.args.frame.now 4 (length c.args.frame.now - 4)) records c.domain_stamp.result c.requires refl are c.domain_stamp.ensures
