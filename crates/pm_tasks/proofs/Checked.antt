-- Why a check is refused, told of the command.
use Rattle.std.proofs.Common.{◌≡◌, refl}
use Rattle.pcp_model.specs.Disk.{contents_of}
use Rattle.pcp_outside.specs.Causes.{Rose}
use Rattle.pcp_outside.specs.declared.disk.Disk.{Ghosts as DiskGhosts}
use Rattle.archive_reader.specs.declared.fault.ReaderFault.TheVariants as reading
use Rattle.archive_check.specs.declared.fault.CheckFault.{CheckFault}
use Rattle.archive_check.specs.declared.fault.CheckFault.TheVariants as checking
use Rattle.archive_check.specs.Checks.{IsCheckFault}
use Rattle.pm_words.specs.Refusals.{check_refusal}
use Rattle.pm_words.specs.Sides.{disk_side}
use Rattle.pm_tasks.specs.Archives.{TurnedAway}
use Rattle.pm_tasks.specs.commands.check.{IsTurnedAway}

module _ {D : Type 0} (g : DiskGhosts D) (a b : D) where
  pub check_turned : (fault : CheckFault) → (g.tells → IsCheckFault (g.wrapped_file a) (contents_of (g.held a)) fault) → (fault ≡ checking.Reader reading.DiskFault → Rose (g.faults a) (g.faults b))
      → TurnedAway IsTurnedAway (disk_side g a b) (check_refusal fault)
  check_turned (checking.Items first second) why rose = why
  check_turned (checking.Boundary entry file below above) why rose = why
  check_turned (checking.Late entry stamp) why rose = why
  check_turned (checking.Reader (reading.Compressed file)) why rose = why
  check_turned (checking.Reader (reading.NotArchive file at)) why rose = why
  check_turned (checking.Reader reading.DiskFault) why rose = rose refl
  check_turned (checking.Reader reading.NoMemory) why rose = tt
