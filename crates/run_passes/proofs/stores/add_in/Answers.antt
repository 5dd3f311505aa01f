use Rattle.std.proofs.Common.{sym, ◌∙◌}
use Rattle.run_passes.proofs.Slotted.{add_taken}
use Rattle.run_passes.proofs.stores.add_in.Goals as goal

pub add-requires-clause-takes : goal.add-requires-clause-takes
add-requires-clause-takes c = add_taken c.args.stint.now.view c.slot_of.new.self.view c.args.item c.args.instance c.in-Some.slot c.slot_of.ensures.looks.form (sym c.in_ok-slot.ensures.slot ∙ c.in-Some.is) (sym c.holds_number.ensures ∙ c.if-not-holds_number.false)
