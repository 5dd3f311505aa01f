use Rattle.std.proofs.Common.{sym}
use Rattle.archive_meta.proofs.Consistent.{agrees_first, agrees_none}
use Rattle.archive_meta.proofs.state.MetaState.agrees_with.Goals as goal

pub returns-in-Some : goal.returns-in-Some
returns-in-Some c = agrees_first c.args.desc.now c.args.names.now c.args.self.now c.in-Some.first.now c.is_description.result c.description_of.ensures.consistent (sym c.in-Some.ensures.value) c.is_description.ensures

pub returns-in-None : goal.returns-in-None
returns-in-None c = agrees_none c.args.desc.now c.args.names.now c.args.self.now c.description_of.ensures.consistent (sym c.in-None.ensures.value)
