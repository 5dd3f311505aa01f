use Rattle.region_core.specs.State.{opening}
use Rattle.region_core.proofs.Running as running
use Rattle.region_core.proofs.laws.legal_runs.Goals as goal

pub returns : goal.returns
returns g c words passes log journal = running.legal_runs g.S.Shape.shaping (opening words passes) log journal.legal
