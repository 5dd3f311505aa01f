-- An entry more, if it is of one of the volumes.
use Rattle.std.proofs.Common.{◌∙◌, ap, sym, arith}
use Rattle.archive_loading.specs.Loaded.{numbers}
use Rattle.log_export.proofs.Plans.{none_there, put_more}
use Rattle.log_export.proofs.planning.put_entries.Goals.{in-Some+in_ok-put_kept, in_default}
use Rattle.log_export.proofs.planning.put_entries.Goals as goal

pub loop-at-preserved : goal.loop-at-preserved
loop-at-preserved c = elim c.match-entry.branch [
  | in-Some+in_ok-put_kept w ↦
      (let there = sym c.entry.ensures ∙ w.in-Some.is in
      put_more (numbers c.args.left.now) c.args.index.now c.loop-at.at w.in-Some.entry c.args.out.now.items c.loop-at.out.items c.match-entry.out.items there (ap (λ o. o.items) w.out-is ∙ w.in_ok-put_kept.ensures) c.loop-at.invariant)
  | in_default w ↦ absurd (none_there c.args.index.now c.loop-at.at (omega (arith, c.loop-at-test.true, c.len-at-end.ensures)) (sym c.entry.ensures ∙ w.in_default.is))
]
