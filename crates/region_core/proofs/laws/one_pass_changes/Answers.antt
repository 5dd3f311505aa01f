use Rattle.region_core.specs.Laws.{region_at}
use Rattle.region_core.proofs.Runs.{idle_or_bounced}
use Rattle.region_core.proofs.Positions.{sound_at}
use Rattle.region_core.proofs.laws.one_pass_changes.Goals as goal

pub returns : goal.returns
returns g c words passes log p j k m journal change apart mode =
    let s = region_at words passes log p in
    idle_or_bounced s.gate s.modes j k m (sound_at g.S.Shape.shaping g.S.Shape.laws words passes log journal p).gated change apart mode
