use Rattle.std.proofs.Common.{rules, sym, subst, arith}
use Rattle.region_core.specs.declared.mode.Mode.TheVariants.{Changing}
use Rattle.region_core.specs.State.{State, IsIn}
use Rattle.region_core.proofs.Gates.{frees}
use Rattle.region_core.proofs.Runs.{gate_changing}
use Rattle.region_core.proofs.Lists.{at_below}
use Rattle.region_core.proofs.state.State.free.Goals as goal

pub overflow_sub-self : goal.overflow_sub-self
overflow_sub-self c =
    let taken_once = gate_changing c.self.inside.gate c.self.inside.modes.items c.args.by c.self.invariant (subst (λ (s : State). IsIn Changing s c.args.by) (sym c.self.view_is) c.requires) in
    omega arith

pub index_mut-requires : goal.index_mut-requires
index_mut-requires c = let below = at_below c.self.inside.modes.items c.args.by Changing (subst (λ (s : State). IsIn Changing s c.args.by) (sym c.self.view_is) c.requires) in search rules

pub invariant_of-self : goal.invariant_of-self
invariant_of-self c = frees c.self.inside.gate c.self.inside.modes.items c.args.by c.self.invariant (subst (λ (s : State). IsIn Changing s c.args.by) (sym c.self.view_is) c.requires)
