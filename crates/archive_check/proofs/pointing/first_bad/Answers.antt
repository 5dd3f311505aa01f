use Rattle.std.proofs.Common.{◌∙◌, Bool, sym}
use Rattle.pcp_model.specs.declared.records.Entry.{Entry}
use Rattle.archive_check.specs.Looked.{look_of, is_bad}
use Rattle.archive_check.specs.Marks.{mark_at}
use Rattle.archive_check.proofs.Firsts.{first_here, not_here}
use Rattle.archive_check.proofs.pointing.first_bad.Goals as goal

pub returns-then-is_bad_entry : goal.returns-then-is_bad_entry
returns-then-is_bad_entry c =
    let test : Entry → Bool = λ e. is_bad c.args.late (look_of (mark_at c.args.marks.now) c.args.top e) e.stamp in
    first_here test c.args.index.now c.loop-at.at c.loop-at.invariant c.in-Some.entry (sym c.entry.ensures ∙ c.in-Some.is) (sym c.is_bad_entry.ensures ∙ c.if-is_bad_entry.true)

pub loop-at-preserved : goal.loop-at-preserved
loop-at-preserved c =
    let test : Entry → Bool = λ e. is_bad c.args.late (look_of (mark_at c.args.marks.now) c.args.top e) e.stamp in
    not_here test c.args.index.now c.loop-at.at c.loop-at.invariant c.in-Some.entry (sym c.entry.ensures ∙ c.in-Some.is) (sym c.is_bad_entry.ensures ∙ c.if-is_bad_entry.false)
