use Rattle.std.proofs.Common.{◌≡◌, subst}
use Rattle.region_core.specs.declared.act.Act.{Act}
use Rattle.region_core.specs.declared.act.Act.TheVariants.{Begin}
use Rattle.region_core.specs.State.{IsAllowed}
use Rattle.region_core.specs.Laws.{region_at}
use Rattle.region_core.proofs.Runs as runs
use Rattle.region_core.proofs.Positions.{sound_at, allowed_at}
use Rattle.region_core.proofs.laws.no_change_begins.Goals as goal

pub returns : goal.returns
returns g c words passes log p k n e journal stays there =
    λ (begins : e.act ≡ Begin n). runs.no_begin g.S.Shape.shaping (region_at words passes log p) e.by k n
    (sound_at g.S.Shape.shaping g.S.Shape.laws words passes log journal p)
    (subst (λ (act : Act). IsAllowed g.S.Shape.shaping (region_at words passes log p) e.by act) begins (allowed_at g.S.Shape.shaping g.S.Shape.laws words passes log journal p e there)) stays
