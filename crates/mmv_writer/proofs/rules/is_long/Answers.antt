-- The bytes of a text, as its slice tells them.
use Rattle.std.proofs.Common.{◌<◌, subst, slice_index}
use Rattle.mmv_writer.proofs.rules.is_long.Goals as goal

pub returns-clause-stored : goal.returns-clause-stored
returns-clause-stored c = record { nonzero = c.as_slice.ensures.text; bytes = λ j. subst (λ b. slice_index b j < 256) c.as_slice.ensures.value (c.are_long.ensures.range j) }
