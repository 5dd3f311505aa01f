use Rattle.std.proofs.Common.{Some, sym, ◌∙◌, rules}
use Rattle.run_passes.proofs.Slotted.{slot_still, swap_taken, swap_not, swap_done, loads_both}
use Rattle.run_passes.proofs.stores.swap_in.Goals as goal

pub returns-in_default-value_for-clause-stored : goal.returns-in_default-value_for-clause-stored
returns-in_default-value_for-clause-stored c = loads_both c.args.stint.now.view c.slot_of.new.self.view c.value_for.new.stint.view c.slot_of.ensures.looks.loads c.value_for.ensures.looks.loads

pub returns-in_default-found-clause-stored : goal.returns-in_default-found-clause-stored
returns-in_default-found-clause-stored c =
    swap_not c.args.stint.now.view c.slot_of.new.self.view c.value_for.new.stint.view c.args.item c.args.instance c.in-Some.slot c.args.value.now (sym c.in_ok-slot.ensures.slot ∙ c.in-Some.is) c.slot_of.ensures.looks.form (sym c.in_default-found.is ∙ c.in-Ok.ensures.value) c.slot_of.ensures.looks.loads c.value_for.ensures.looks.loads

pub swap-requires-clause-takes : goal.swap-requires-clause-takes
swap-requires-clause-takes c =
    swap_taken c.slot_of.new.self.view c.value_for.new.stint.view c.args.item c.args.instance c.in-Some.slot c.args.value.now c.in-Some-found.value c.value_for.ensures.looks.form (slot_still c.args.stint.now.view c.slot_of.new.self.view c.args.item c.args.instance (Some c.in-Some.slot) c.slot_of.ensures.looks.form (sym c.in_ok-slot.ensures.slot ∙ c.in-Some.is)) (sym c.in-Ok.ensures.value ∙ c.in-Some-found.is) (search rules)

pub returns-clause-stored : goal.returns-clause-stored
returns-clause-stored c =
    swap_done c.args.stint.now.view c.slot_of.new.self.view c.value_for.new.stint.view c.swap.new.self.view c.args.item c.args.instance c.in-Some.slot c.args.value.now c.in-Some-found.value c.swap.result (sym c.in_ok-slot.ensures.slot ∙ c.in-Some.is) c.slot_of.ensures.looks.form (sym c.in-Some-found.is ∙ c.in-Ok.ensures.value) c.slot_of.ensures.looks.loads c.value_for.ensures.looks.loads c.swap.ensures.swaps
