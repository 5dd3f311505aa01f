-- An entry is of one of the volumes, or passed over.
use Rattle.std.proofs.Common.{◌≡◌, ◌∙◌, ap, sym, true, false, arith}
use Rattle.std.specs.Prelude.{slice_get}
use Rattle.archive_loading.specs.Loaded.{numbers}
use Rattle.log_export.specs.Exported.{is_one_of}
use Rattle.log_export.proofs.Plans.{keeps, none_there, passes}
use Rattle.log_export.proofs.planning.first_kept.Goals.{in-Some+else-is_left, in_default}
use Rattle.log_export.proofs.planning.first_kept.Goals as goal

pub returns-then-is_left : goal.returns-then-is_left
returns-then-is_left c =
    let there = sym c.entry.ensures ∙ c.in-Some.is in
    let listed : is_one_of (numbers c.args.left.now) c.in-Some.entry.volume ≡ true = sym c.is_left.ensures ∙ c.if-is_left.true in
    sym (ap (λ es. slice_get es 0) (sym c.loop-at.invariant ∙ keeps (numbers c.args.left.now) c.args.index.now c.loop-at.at c.in-Some.entry there listed))

pub loop-at-preserved : goal.loop-at-preserved
loop-at-preserved c = elim c.match-entry.branch [
  | in-Some+else-is_left w ↦
      (let there = sym c.entry.ensures ∙ w.in-Some.is in
      let other : is_one_of (numbers c.args.left.now) w.in-Some.entry.volume ≡ false = sym w.is_left.ensures ∙ w.if-is_left.false in
      sym (passes (numbers c.args.left.now) c.args.index.now c.loop-at.at w.in-Some.entry there other) ∙ c.loop-at.invariant)
  | in_default w ↦ absurd (none_there c.args.index.now c.loop-at.at (omega (arith, c.loop-at-test.true, c.len-at-end.ensures)) (sym c.entry.ensures ∙ w.in_default.is))
]
