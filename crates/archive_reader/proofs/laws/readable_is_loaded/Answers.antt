use Rattle.archive_reader.proofs.Loadable.{loads_readable}
use Rattle.archive_reader.proofs.laws.readable_is_loaded.Goals as goal

pub returns : goal.returns
returns c = loads_readable
