-- The copy of what is found.
use Rattle.std.proofs.Common.{◌≡◌, w32, subst, ◌∙◌}
use Rattle.std.proofs.lemmas.Int.{to_z-of_z}
use Rattle.mmv_layout.specs.SlotTables.{slot_in}
use Rattle.mmv_layout.proofs.slot_table.SlotTable.slot_of.Goals as goal

pub returns : goal.returns
returns c =
    subst (λ instance. c.copied.result ≡ slot_in c.args.self.now.slots c.args.item instance) (to_z-of_z w32 c.args.instance c.ranges.instance) (c.copied.ensures ∙ c.get.ensures.value)
