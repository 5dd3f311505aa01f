use Rattle.std.proofs.Common.{sym, ◌∙◌}
use Rattle.archive_check.specs.Marks.{mark_at}
use Rattle.archive_check.proofs.Placed.{one_more, no_more}
use Rattle.archive_check.proofs.marks.put_at.Goals as goal

pub returns-in_ok-put_entry-in-Some : goal.returns-in_ok-put_entry-in-Some
returns-in_ok-put_entry-in-Some c =
    one_more (mark_at c.args.marks.now) (mark_at c.put_entry.new.marks) c.args.index.now c.args.at c.in-Some.entry (sym c.entry.ensures ∙ c.in-Some.is) c.in_ok-put_entry-in-Some.ensures.kept c.in_ok-put_entry-in-Some.ensures.put

pub returns-in-None : goal.returns-in-None
returns-in-None c = no_more (mark_at c.args.marks.now) c.args.index.now c.args.at (sym c.entry.ensures ∙ c.in-None.is)
