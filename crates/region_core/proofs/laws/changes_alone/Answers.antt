use Rattle.region_core.specs.Laws.{region_at}
use Rattle.region_core.proofs.Runs as runs
use Rattle.region_core.proofs.Positions.{sound_at, allowed_at}
use Rattle.region_core.proofs.laws.changes_alone.Goals as goal

pub returns : goal.returns
returns g c words passes log p k e journal change there event =
    runs.alone_changes g.S.Shape.shaping (region_at words passes log p) e.by k e.act
    (sound_at g.S.Shape.shaping g.S.Shape.laws words passes log journal p)
    (allowed_at g.S.Shape.shaping g.S.Shape.laws words passes log journal p e there) change event
