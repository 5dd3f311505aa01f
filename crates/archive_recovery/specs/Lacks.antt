-- What a call lacked, as a fault of recovery.
use Rattle.archive_loading.specs.declared.lack.Lack.{Lack}
use Rattle.archive_loading.specs.declared.lack.Lack.TheVariants.{Disk, Memory}
use Rattle.archive_recovery.specs.declared.outcome.RecoverFault.{RecoverFault}
use Rattle.archive_recovery.specs.declared.outcome.RecoverFault.TheVariants.{DiskFault, NoMemory}

abbrev pub of_lack : Lack → RecoverFault
of_lack Disk = DiskFault
of_lack Memory = NoMemory
