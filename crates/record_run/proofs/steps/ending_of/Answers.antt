-- The passes are at work.
use Rattle.record_run.proofs.steps.ending_of.Goals as goal

pub is_idle-requires-clause-manned : goal.is_idle-requires-clause-manned
is_idle-requires-clause-manned c = record { clusters = c.requires.manned.1.clusters; as_many = c.requires.manned.1.as_many }
