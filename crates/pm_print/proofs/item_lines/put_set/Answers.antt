-- What is kept, and what is kept more, is said.
use Rattle.pm_print.proofs.item_lines.put_set.Goals as goal

pub put_set_lines-requires-clause-said : goal.put_set_lines-requires-clause-said
put_set_lines-requires-clause-said c = c.in-Some.ensures.said c.args.meta.now c.requires

pub returns-clause-said : goal.returns-clause-said
returns-clause-said c = c.keep.ensures c.args.meta.now c.requires c.in_ok-start.ensures.said
