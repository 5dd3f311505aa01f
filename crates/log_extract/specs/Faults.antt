-- Why the output's files aren't recovered, and what an extract answers at its end.
use Rattle.std.specs.Prelude.{ℕ, Result, Ok, Err}
use Rattle.logging_run.specs.declared.fault.RunFault.{RunFault}
use Rattle.logging_run.specs.declared.fault.RunFault.TheVariants as runs
use Rattle.log_extract.specs.declared.fault.ExtractFault.{ExtractFault}
use Rattle.log_extract.specs.declared.fault.ExtractFault.TheVariants.{Archive}

-- a beginning turns no item away
abbrev pub begin_fault : RunFault → RunFault
begin_fault (runs.Compressed file) = runs.Compressed file
begin_fault (runs.NotArchive file at) = runs.NotArchive file at
begin_fault runs.DiskFault = runs.DiskFault
begin_fault fault = runs.NoMemory

-- what its merge came to, unless the output's disk failed
abbrev pub ended_by : Result ℕ RunFault → Result (Unit {0}) ExtractFault → Result ℕ ExtractFault
ended_by (Ok count) (Ok done) = Ok count
ended_by (Ok count) (Err fault) = Err fault
ended_by (Err fault) merged = Err (Archive fault)
