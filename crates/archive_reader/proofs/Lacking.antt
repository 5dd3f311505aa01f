-- What a call lacked is a fault of loading.
use Rattle.pcp_model.specs.Disk.{Files}
use Rattle.archive_loading.specs.declared.lack.Lack.{Lack}
use Rattle.archive_loading.specs.declared.lack.Lack.TheVariants.{Disk, Memory}
use Rattle.archive_reader.specs.Lacks.{of_lack}
use Rattle.archive_reader.specs.LoadFaults.{IsFilesFault}

pub lack_fault : (files : Files) (lack : Lack) → IsFilesFault files (of_lack lack)
lack_fault files Disk = tt
lack_fault files Memory = tt
