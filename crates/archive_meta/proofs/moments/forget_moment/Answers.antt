use Rattle.archive_meta.proofs.moments.forget_moment.Goals as goal

pub returns : goal.returns
returns c = λ q. rw c.listed.ensures at (c.remove.ensures.updates.0 q)
