use Rattle.std.proofs.Common.{rules, sym, subst, arith}
use Rattle.region_core.specs.declared.mode.Mode.TheVariants.{Idle}
use Rattle.region_core.specs.State.{State, IsIn}
use Rattle.region_core.proofs.Gates.{takes}
use Rattle.region_core.proofs.Lists.{at_below}
use Rattle.std.proofs.Common.{eq-eqb, true}
use Rattle.region_core.proofs.state.State.take.Goals as goal

pub index_mut-requires : goal.index_mut-requires
index_mut-requires c = let below = at_below c.self.inside.modes.items c.args.by Idle (subst (λ (s : State). IsIn Idle s c.args.by) (sym c.self.view_is) c.requires) in search rules

pub invariant_of-self : goal.invariant_of-self
invariant_of-self c =
    let s : State = record { words = c.self.inside.words.items; gate = c.self.inside.gate; modes = c.self.inside.modes.items } in
    takes s c.args.by true (eq-eqb c.self.inside.gate 0 (omega arith)) c.self.invariant (subst (λ (s : State). IsIn Idle s c.args.by) (sym c.self.view_is) c.requires)
