use Rattle.std.proofs.Common.{◌∙◌, ℕ, List, ◌++◌, length, refl, sym, ap, subst}
use Rattle.std.specs.Prelude.{option_to_list}
use Rattle.pcp_model.specs.Disk.{contents_of}
use Rattle.archive_loading.proofs.Looking.{looks_none, looks_on}
use Rattle.archive_check.specs.Marks.{mark_at}
use Rattle.archive_check.specs.Stamped.{Steps, IsStep}
use Rattle.archive_check.proofs.Walking.{WalkedTo, walk_begins, walk_on, walk_ends}
use Rattle.archive_check.proofs.walks.walk.Goals as goal

pub loop-init : goal.loop-init
loop-init g c = record {
  looks = looks_none g.D.Disk g.met.D.Disk.only_now c.args.disk.now;
  quiet = refl;
  so_far = λ tells. walk_begins c.args.file (contents_of (g.D.Disk.held c.args.disk.now) c.args.file) c.args.tally (mark_at c.args.marks.now);
}

pub returns-in_err-pass-clause-looks : goal.returns-in_err-pass-clause-looks
returns-in_err-pass-clause-looks g c = c.loop.invariant.looks

pub step-requires-clause-end : goal.step-requires-clause-end
step-requires-clause-end g c = λ tells. c.requires.end tells ∙ ap (λ h. length (contents_of h c.args.file)) (sym (c.loop.invariant.looks.held tells))

pub returns-in_err-step-clause-looks : goal.returns-in_err-step-clause-looks
returns-in_err-step-clause-looks g c = looks_on g.D.Disk c.args.disk.now c.loop.disk c.step.new.disk c.loop.invariant.looks c.step.ensures.looks

pub returns-in-None-clause-looks : goal.returns-in-None-clause-looks
returns-in-None-clause-looks g c = looks_on g.D.Disk c.args.disk.now c.loop.disk c.step.new.disk c.loop.invariant.looks c.step.ensures.looks

pub returns-in-None-clause-walked : goal.returns-in-None-clause-walked
returns-in-None-clause-walked g c = λ tells before records holds is.
    let bytes : List ℕ = contents_of (g.D.Disk.held c.args.disk.now) c.args.file in
    let w : WalkedTo c.args.file bytes before records c.loop.at (mark_at c.args.marks.now) (mark_at c.loop.marks) c.loop.tally = c.loop.invariant.so_far tells before records holds is in
    let steps = subst (λ h. Steps c.args.file (contents_of h c.args.file) c.loop.at c.in_ok-step.field-0) (c.loop.invariant.looks.held tells) (c.in_ok-step.ensures.found tells) in
    walk_ends c.args.file bytes before records c.loop.at (mark_at c.args.marks.now) (mark_at c.loop.marks) (mark_at c.pass.new.marks) c.loop.tally w c.in_ok-pass.ensures holds (subst (IsStep c.args.file bytes records w.front) c.in-None.is (steps records w.front w.place))

pub loop-preserved : goal.loop-preserved
loop-preserved g c = record {
  looks = looks_on g.D.Disk c.args.disk.now c.loop.disk c.step.new.disk c.loop.invariant.looks c.step.ensures.looks;
  quiet = c.in_ok-step.ensures.quiet ∙ c.loop.invariant.quiet;
  so_far = λ tells before records holds is.
      let bytes : List ℕ = contents_of (g.D.Disk.held c.args.disk.now) c.args.file in
      let w : WalkedTo c.args.file bytes before records c.loop.at (mark_at c.args.marks.now) (mark_at c.loop.marks) c.loop.tally = c.loop.invariant.so_far tells before records holds is in
      let steps = subst (λ h. Steps c.args.file (contents_of h c.args.file) c.loop.at c.in_ok-step.field-0) (c.loop.invariant.looks.held tells) (c.in_ok-step.ensures.found tells) in
      walk_on c.args.file bytes before records c.loop.at (mark_at c.args.marks.now) (mark_at c.loop.marks) (mark_at c.pass.new.marks) c.loop.tally w c.in_ok-pass.ensures c.in-Some.next (option_to_list c.in-Some.stamp) c.with_record-tally.result
      (subst (IsStep c.args.file bytes records w.front) c.in-Some.is (steps records w.front w.place)) (c.with_record-tally.ensures (before ++ w.front) w.tally);
}
