use Rattle.archive_meta.proofs.moments.note_moment.Goals as goal

pub returns-clause-ok : goal.returns-clause-ok
returns-clause-ok c = λ q. rw c.listed.ensures at (c.in_ok-insert.ensures.updates.0 q)
