use Rattle.run_passes.specs.Storing.{texts_seen}
use Rattle.run_passes.proofs.Slotted.{text_value}
use Rattle.run_passes.proofs.stores.value_for.Goals as goal

pub returns-clause-value : goal.returns-clause-value
returns-clause-value c = text_value (texts_seen c.args.stint.now.view) c.args.kind c.args.value.now c.in-Choice.text c.offset_of.result c.in-Text.is c.in-Choice.is c.offset_of.ensures.offset
