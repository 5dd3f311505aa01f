use Rattle.std.proofs.Common.{rules, ◌≡◌, ◌+◌, ◌^◌, set, sym, ap, subst, ◌∙◌}
use Rattle.region_core.specs.declared.mode.Mode.{Mode}
use Rattle.region_core.specs.declared.mode.Mode.TheVariants.{Idle}
use Rattle.region_core.specs.declared.act.Act.TheVariants.{Enter}
use Rattle.region_core.specs.State.{State, IsIn, entry_mode}
use Rattle.region_core.specs.Gate.{IsGated}
use Rattle.region_core.proofs.Gates.{gated_after, gate_room}
use Rattle.region_core.proofs.Lists.{at_below}
use Rattle.std.proofs.Common.{ltb, lt-ltb, le-ltb}
use Rattle.region_core.proofs.state.State.enter.Goals.{then-self-lt-TAKEN, else-self-lt-TAKEN}
use Rattle.region_core.proofs.state.State.enter.Goals as goal

pub overflow_add-self : goal.overflow_add-self
overflow_add-self c = let room = gate_room c.self.inside.gate c.self.inside.modes.items c.self.invariant in search rules

pub index_mut-requires : goal.index_mut-requires
index_mut-requires c = let below = at_below c.self.inside.modes.items c.args.by Idle (subst (λ (s : State). IsIn Idle s c.args.by) (sym c.self.view_is) c.requires) in search rules

pub invariant_of-self : goal.invariant_of-self
invariant_of-self c =
    let s : State = record { words = c.self.inside.words.items; gate = c.self.inside.gate; modes = c.self.inside.modes.items } in
    let mode_is : c.if-self-lt-TAKEN.mode ≡ entry_mode (ltb c.self.inside.gate (2 ^ 63)) = elim c.if-self-lt-TAKEN.branch [
      | then-self-lt-TAKEN w ↦ w.mode-is ∙ ap entry_mode (sym (lt-ltb c.self.inside.gate (2 ^ 63) w.if-self-lt-TAKEN.true))
      | else-self-lt-TAKEN w ↦ w.mode-is ∙ ap entry_mode (sym (le-ltb c.self.inside.gate (2 ^ 63) w.if-self-lt-TAKEN.false))
    ] in
    subst (λ (m : Mode). IsGated (c.self.inside.gate + 1) (set c.self.inside.modes.items c.args.by m)) (sym mode_is)
    (gated_after s c.args.by Enter c.self.invariant (subst (λ (s : State). IsIn Idle s c.args.by) (sym c.self.view_is) c.requires))
