-- Loads of the logger's passes leave a run as it was, and tell what it shows.
use Rattle.run_passes.proofs.ReadingRuns.{loaded_stay_manned, readings_are_states}
use Rattle.run_passes.proofs.laws.alone_readings_are_states.Goals as goal

pub returns-clause-manned : goal.returns-clause-manned
returns-clause-manned c = loaded_stay_manned

pub returns-clause-states : goal.returns-clause-states
returns-clause-states c = readings_are_states
