use Rattle.region_core.proofs.Positions.{sound_at}
use Rattle.region_core.proofs.laws.gate_counts.Goals as goal

pub returns : goal.returns
returns g c words passes log p journal = (sound_at g.S.Shape.shaping g.S.Shape.laws words passes log journal p).gated
