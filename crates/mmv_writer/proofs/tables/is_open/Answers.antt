-- What is kept of the text.
use Rattle.std.proofs.Common.{◌∙◌, ap}
use Rattle.mmv_writer.specs.Tables.{first_of}
use Rattle.mmv_writer.proofs.Firsts.{open_none, open_some}
use Rattle.mmv_writer.proofs.tables.is_open.Goals as goal

pub returns-in-None : goal.returns-in-None
returns-in-None c = open_none (first_of c.args.firsts.now c.args.text.now) (c.in-None.ensures.value ∙ ap (first_of c.args.firsts.now) c.as_slice.ensures.value)

pub returns-in-Some : goal.returns-in-Some
returns-in-Some c = c.is_nowhere.ensures ∙ open_some (first_of c.args.firsts.now c.args.text.now) c.in-Some.at.now (c.in-Some.ensures.value ∙ ap (first_of c.args.firsts.now) c.as_slice.ensures.value)
