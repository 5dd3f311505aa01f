use Rattle.std.proofs.Common.{◌≡◌, ℕ, ◌<◌, length, replicate, take, sym, ◌∙◌, arith}
use Rattle.std.proofs.lemmas.List.{length-replicate}
use mathlib.Core.Option.{some, some-injective}
use Rattle.region_core.specs.declared.mode.Mode.TheVariants.{Idle, Changing}
use Rattle.region_core.specs.State.{State, opening, IsIn}
use Rattle.region_core.specs.Laws.{region_at}
use Rattle.region_core.proofs.Lists.{at_below}
use Rattle.region_core.proofs.Gates.{none_changing}
use Rattle.region_core.proofs.Runs.{count_run}
use Rattle.region_core.proofs.Positions.{sound_at}
use Rattle.region_core.proofs.laws.idle_is_stable.Goals as goal

pub returns : goal.returns
returns g c words passes log p journal idle =
    let s : State = region_at words passes log p in
    let sound = sound_at g.S.Shape.shaping g.S.Shape.laws words passes log journal p in
    let many : length s.modes ≡ passes = count_run (opening words passes) (take p log) ∙ length-replicate passes Idle in
    let none : (k : ℕ) → IsIn Changing s k → ⊥ = λ k there.
    let below = at_below s.modes k Changing there in
    let same : Idle ≡ Changing = some-injective Idle Changing (sym (idle k (omega arith)) ∙ there) in
    absurd (cc) in
    sound.shut (none_changing s.modes none)
