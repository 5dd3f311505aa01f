use Rattle.std.proofs.Common.{sym}
use Rattle.region_words.proofs.Inside.{number_taken}
use Rattle.region_tests.proofs.threads.add_to_first.Goals as goal

pub add-requires-clause-takes : goal.add-requires-clause-takes
add-requires-clause-takes c = number_taken c.slots.new.stint.view c.in-Ok.slots 0 c.in-Some.slot.now c.in-Ok.ensures.slots (sym c.in-Some.ensures) (c.is_number.ensures.number c.if-is_number.true)
