use Rattle.std.proofs.Common.{◌≡◌, length, replicate, arith}
use Rattle.std.proofs.lemmas.List.{length-replicate}
use Rattle.region_core.specs.declared.mode.Mode.TheVariants.{Idle}
use Rattle.region_core.specs.State.{opening}
use Rattle.region_core.proofs.Runs.{none_past}
use Rattle.region_core.proofs.laws.passes_alone.Goals as goal

pub returns : goal.returns
returns g c words passes log k journal above =
    let many : length (replicate passes Idle) ≡ passes = length-replicate passes Idle in
    none_past g.S.Shape.shaping (opening words passes) k log journal.legal (omega arith)
