-- What a call lacked, as a fault of a reader.
use Rattle.archive_loading.specs.declared.lack.Lack.{Lack}
use Rattle.archive_loading.specs.declared.lack.Lack.TheVariants.{Disk, Memory}
use Rattle.archive_reader.specs.declared.fault.ReaderFault.{ReaderFault}
use Rattle.archive_reader.specs.declared.fault.ReaderFault.TheVariants.{DiskFault, NoMemory}

abbrev pub of_lack : Lack → ReaderFault
of_lack Disk = DiskFault
of_lack Memory = NoMemory
