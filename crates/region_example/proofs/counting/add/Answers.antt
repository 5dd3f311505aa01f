use Rattle.std.proofs.Common.{length}
use Rattle.region_example.proofs.Slots.{found_below}
use Rattle.region_example.proofs.Adds.{add_to}
use Rattle.region_example.proofs.counting.add.Goals as goal

pub add-requires-clause-below : goal.add-requires-clause-below
add-requires-clause-below c = found_below c.args.slots.now c.as_slice.result.now _ c.in-Some.slot.now (length c.args.region.now.words) c.requires.below c.as_slice.ensures c.in-Some.ensures

pub returns-clause-adds : goal.returns-clause-adds
returns-clause-adds c = add_to c.args.stint.now.view c.add.new.self.view c.args.slots.now c.as_slice.result.now c.in-Some.slot.now c.args.item c.args.amount c.add.result c.args.level c.add.ensures.adds c.in-Some.ensures c.as_slice.ensures
