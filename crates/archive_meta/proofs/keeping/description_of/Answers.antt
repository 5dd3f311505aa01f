use Rattle.std.proofs.Common.{sym, ◌∙◌}
use Rattle.archive_meta.proofs.FirstSeen.{found_at, found_none}
use Rattle.archive_meta.proofs.keeping.description_of.Goals as goal

pub returns-in-Some : goal.returns-in-Some
returns-in-Some c = c.get.ensures ∙ found_at c.args.pmid c.args.records.now c.in-Some.at (sym (c.requires.positions c.args.pmid) ∙ sym c.position_of.ensures ∙ c.in-Some.is)

pub returns-in-None : goal.returns-in-None
returns-in-None c = found_none c.args.pmid c.args.records.now (sym (c.requires.positions c.args.pmid) ∙ sym c.position_of.ensures ∙ c.in-None.is)
