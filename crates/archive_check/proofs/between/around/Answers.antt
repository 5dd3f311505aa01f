use Rattle.std.proofs.Common.{◌∙◌, ℕ, List, length, refl, sym, ap, subst}
use Rattle.std.specs.Prelude.{option_to_list}
use Rattle.pcp_model.specs.Disk.{contents_of}
use Rattle.archive_loading.proofs.Looking.{looks_none, looks_on}
use Rattle.archive_check.specs.Stamped.{Steps, IsStep}
use Rattle.archive_check.proofs.Seeking.{Before, before_begins, before_on, before_ends, before_passes}
use Rattle.archive_check.proofs.between.around.Goals as goal

pub loop-init : goal.loop-init
loop-init g c = record {
  looks = looks_none g.D.Disk g.met.D.Disk.only_now c.args.disk.now;
  quiet = refl;
  so_far = λ tells. before_begins c.args.file (contents_of (g.D.Disk.held c.args.disk.now) c.args.file) c.args.offset c.requires.behind;
}

pub step-requires-clause-end : goal.step-requires-clause-end
step-requires-clause-end g c = λ tells. c.requires.end tells ∙ ap (λ h. length (contents_of h c.args.file)) (sym (c.loop.invariant.looks.held tells))

pub returns-in_err-step-clause-looks : goal.returns-in_err-step-clause-looks
returns-in_err-step-clause-looks g c = looks_on g.D.Disk c.args.disk.now c.loop.disk c.step.new.disk c.loop.invariant.looks c.step.ensures.looks

pub returns-in-None-clause-looks : goal.returns-in-None-clause-looks
returns-in-None-clause-looks g c = looks_on g.D.Disk c.args.disk.now c.loop.disk c.step.new.disk c.loop.invariant.looks c.step.ensures.looks

pub returns-then-next-offset-clause-looks : goal.returns-then-next-offset-clause-looks
returns-then-next-offset-clause-looks g c = looks_on g.D.Disk c.args.disk.now c.loop.disk c.step.new.disk c.loop.invariant.looks c.step.ensures.looks

pub returns-in-None-clause-between : goal.returns-in-None-clause-between
returns-in-None-clause-between g c = λ tells records holds none.
    let bytes : List ℕ = contents_of (g.D.Disk.held c.args.disk.now) c.args.file in
    let w : Before c.args.file bytes records c.args.offset c.loop.at = c.loop.invariant.so_far tells records holds none in
    let steps = subst (λ h. Steps c.args.file (contents_of h c.args.file) c.loop.at c.in_ok-step.field-0) (c.loop.invariant.looks.held tells) (c.in_ok-step.ensures.found tells) in
    before_ends c.args.file bytes records c.args.offset c.loop.at none w holds (subst (IsStep c.args.file bytes records w.front) c.in-None.is (steps records w.front w.place))

pub returns-then-next-offset-clause-between : goal.returns-then-next-offset-clause-between
returns-then-next-offset-clause-between g c = λ tells records holds none.
    let bytes : List ℕ = contents_of (g.D.Disk.held c.args.disk.now) c.args.file in
    let w : Before c.args.file bytes records c.args.offset c.loop.at = c.loop.invariant.so_far tells records holds none in
    let steps = subst (λ h. Steps c.args.file (contents_of h c.args.file) c.loop.at c.in_ok-step.field-0) (c.loop.invariant.looks.held tells) (c.in_ok-step.ensures.found tells) in
    before_passes c.args.file bytes records c.args.offset c.loop.at none w c.in-Some.next (option_to_list c.in-Some.field-0-0) (subst (IsStep c.args.file bytes records w.front) c.in-Some.is (steps records w.front w.place)) c.if-next-offset.true

pub loop-preserved : goal.loop-preserved
loop-preserved g c = record {
  looks = looks_on g.D.Disk c.args.disk.now c.loop.disk c.step.new.disk c.loop.invariant.looks c.step.ensures.looks;
  quiet = c.in_ok-step.ensures.quiet ∙ c.loop.invariant.quiet;
  so_far = λ tells records holds none.
      let bytes : List ℕ = contents_of (g.D.Disk.held c.args.disk.now) c.args.file in
      let w : Before c.args.file bytes records c.args.offset c.loop.at = c.loop.invariant.so_far tells records holds none in
      let steps = subst (λ h. Steps c.args.file (contents_of h c.args.file) c.loop.at c.in_ok-step.field-0) (c.loop.invariant.looks.held tells) (c.in_ok-step.ensures.found tells) in
      before_on c.args.file bytes records c.args.offset c.loop.at none w c.in-Some.next (option_to_list c.in-Some.field-0-0) (subst (IsStep c.args.file bytes records w.front) c.in-Some.is (steps records w.front w.place)) c.if-next-offset.false;
}
