use Rattle.archive_loading.proofs.MetaSteps.{frame_added}
use Rattle.archive_loading.proofs.metadata.add_frame.Goals as goal

pub returns-in-Ok : goal.returns-in-Ok
returns-in-Ok c = frame_added c.args.frame.now c.args.meta.now c.extend.new.self c.args.last.now c.later_by.result c.stamp_in.result c.in-Ok.ensures.ok c.stamp_in.ensures c.later_by.ensures
