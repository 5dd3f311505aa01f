use Rattle.archive_meta.proofs.Frames.{added_only, refused_only}
use Rattle.archive_meta.proofs.state.MetaState.extend.Goals as goal

pub returns-in-Ok-clause-only : goal.returns-in-Ok-clause-only
returns-in-Ok-clause-only c = λ records all consistent. added_only c.args.self.now c.add_all.new.self c.args.bytes.now c.in-Ok.ensures.ok records all

pub returns-in-Err-clause-only : goal.returns-in-Err-clause-only
returns-in-Err-clause-only c = λ records all consistent. refused_only c.args.self.now c.args.bytes.now c.in-Err.fault c.in-Err.ensures.fault records all consistent
