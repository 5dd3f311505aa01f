use Rattle.std.proofs.Common.{take}
use Rattle.region_core.specs.State.{opening}
use Rattle.region_core.proofs.Replays.{words_replayed}
use Rattle.region_core.proofs.laws.words_are_replayed.Goals as goal

pub returns : goal.returns
returns c words passes log p = words_replayed (opening words passes) (take p log)
