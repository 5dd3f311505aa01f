use Rattle.std.proofs.Common.{◌∙◌, ℕ, List, length, refl, sym, ap, subst}
use Rattle.pcp_model.specs.Disk.{contents_of}
use Rattle.archive_loading.proofs.Looking.{looks_none, looks_on}
use Rattle.archive_check.specs.Stamped.{Steps, IsStep}
use Rattle.archive_check.proofs.Seeking.{NoneSoFar, after_begins, after_on, after_none, after_found}
use Rattle.archive_check.proofs.afters.first_after.Goals as goal

pub loop-init : goal.loop-init
loop-init g c = record {
  looks = looks_none g.D.Disk g.met.D.Disk.only_now c.args.disk.now;
  quiet = refl;
  so_far = λ tells. after_begins c.args.file (contents_of (g.D.Disk.held c.args.disk.now) c.args.file) c.args.t;
}

pub step-requires-clause-end : goal.step-requires-clause-end
step-requires-clause-end g c = λ tells. c.requires.end tells ∙ ap (λ h. length (contents_of h c.args.file)) (sym (c.loop.invariant.looks.held tells))

pub returns-in_err-step-clause-looks : goal.returns-in_err-step-clause-looks
returns-in_err-step-clause-looks g c = looks_on g.D.Disk c.args.disk.now c.loop.disk c.step.new.disk c.loop.invariant.looks c.step.ensures.looks

pub returns-in-None-clause-looks : goal.returns-in-None-clause-looks
returns-in-None-clause-looks g c = looks_on g.D.Disk c.args.disk.now c.loop.disk c.step.new.disk c.loop.invariant.looks c.step.ensures.looks

pub returns-in-None-clause-found : goal.returns-in-None-clause-found
returns-in-None-clause-found g c = λ tells records holds.
    let bytes : List ℕ = contents_of (g.D.Disk.held c.args.disk.now) c.args.file in
    let w : NoneSoFar c.args.file bytes records c.args.t c.loop.at = c.loop.invariant.so_far tells records holds in
    let steps = subst (λ h. Steps c.args.file (contents_of h c.args.file) c.loop.at c.in_ok-step.field-0) (c.loop.invariant.looks.held tells) (c.in_ok-step.ensures.found tells) in
    after_none c.args.file bytes records c.args.t c.loop.at w (subst (IsStep c.args.file bytes records w.front) c.in-None.is (steps records w.front w.place))

pub returns-in-Some-after-clause-found : goal.returns-in-Some-after-clause-found
returns-in-Some-after-clause-found g c = λ tells records holds.
    let bytes : List ℕ = contents_of (g.D.Disk.held c.args.disk.now) c.args.file in
    let w : NoneSoFar c.args.file bytes records c.args.t c.loop.at = c.loop.invariant.so_far tells records holds in
    let steps = subst (λ h. Steps c.args.file (contents_of h c.args.file) c.loop.at c.in_ok-step.field-0) (c.loop.invariant.looks.held tells) (c.in_ok-step.ensures.found tells) in
    after_found c.args.file bytes records c.args.t c.loop.at w c.in-Some.next c.in-Some.stamp c.in-Some-after.found (subst (IsStep c.args.file bytes records w.front) c.in-Some.is (steps records w.front w.place)) (sym c.after.ensures ∙ c.in-Some-after.is)

pub loop-preserved : goal.loop-preserved
loop-preserved g c = record {
  looks = looks_on g.D.Disk c.args.disk.now c.loop.disk c.step.new.disk c.loop.invariant.looks c.step.ensures.looks;
  quiet = c.in_ok-step.ensures.quiet ∙ c.loop.invariant.quiet;
  so_far = λ tells records holds.
      let bytes : List ℕ = contents_of (g.D.Disk.held c.args.disk.now) c.args.file in
      let w : NoneSoFar c.args.file bytes records c.args.t c.loop.at = c.loop.invariant.so_far tells records holds in
      let steps = subst (λ h. Steps c.args.file (contents_of h c.args.file) c.loop.at c.in_ok-step.field-0) (c.loop.invariant.looks.held tells) (c.in_ok-step.ensures.found tells) in
      after_on c.args.file bytes records c.args.t c.loop.at w c.in-Some.next c.in-Some.stamp (subst (IsStep c.args.file bytes records w.front) c.in-Some.is (steps records w.front w.place)) (sym c.after.ensures ∙ c.in_default.is);
}
