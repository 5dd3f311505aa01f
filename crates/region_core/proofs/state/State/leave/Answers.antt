use Rattle.std.proofs.Common.{rules, ◌<◌, ◌≤◌, ⊎_elim, length, sym, subst, arith}
use Rattle.region_core.specs.declared.mode.Mode.TheVariants.{Attached, Bounced}
use Rattle.region_core.specs.declared.act.Act.TheVariants.{Leave}
use Rattle.region_core.specs.State.{State, IsIn, IsOpen}
use Rattle.region_core.proofs.Gates.{gated_after}
use Rattle.region_core.proofs.Runs.{gate_inside, gate_bounced}
use Rattle.region_core.proofs.Lists.{at_below}
use Rattle.region_core.proofs.state.State.leave.Goals as goal

pub overflow_sub-self : goal.overflow_sub-self
overflow_sub-self c =
    let s : State = record { words = c.self.inside.words.items; gate = c.self.inside.gate; modes = c.self.inside.modes.items } in
    let is : IsOpen s c.args.by Leave = subst (λ (t : State). IsOpen t c.args.by Leave) (sym c.self.view_is) c.requires in
    let counted : 1 ≤ c.self.inside.gate = ⊎_elim
    (λ (e : IsIn Attached s c.args.by). (gate_inside c.self.inside.gate c.self.inside.modes.items c.args.by c.self.invariant e).0)
    (λ (e : IsIn Bounced s c.args.by). gate_bounced c.self.inside.gate c.self.inside.modes.items c.args.by c.self.invariant e) is in
    omega arith

pub index_mut-requires : goal.index_mut-requires
index_mut-requires c =
    let s : State = record { words = c.self.inside.words.items; gate = c.self.inside.gate; modes = c.self.inside.modes.items } in
    let is : IsOpen s c.args.by Leave = subst (λ (t : State). IsOpen t c.args.by Leave) (sym c.self.view_is) c.requires in
    let below : c.args.by < length c.self.inside.modes.items = ⊎_elim (λ (e : IsIn Attached s c.args.by). at_below c.self.inside.modes.items c.args.by Attached e)
    (λ (e : IsIn Bounced s c.args.by). at_below c.self.inside.modes.items c.args.by Bounced e) is in
    search rules

pub invariant_of-self : goal.invariant_of-self
invariant_of-self c =
    let s : State = record { words = c.self.inside.words.items; gate = c.self.inside.gate; modes = c.self.inside.modes.items } in
    gated_after s c.args.by Leave c.self.invariant (subst (λ (t : State). IsOpen t c.args.by Leave) (sym c.self.view_is) c.requires)
