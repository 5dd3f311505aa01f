-- The table is set where the step's pass stands.
use Rattle.std.proofs.Common.{◌≡◌, Some, sym, subst, ◌∙◌}
use Rattle.run_script.specs.Recording.{place_of}
use Rattle.run_script.specs.RecordingSteps.{IsNear}
use Rattle.run_script.proofs.Stages.{tells_more}
use Rattle.run_script.proofs.pass_stages.step_on.Goals as goal

pub returns-clause-later : goal.returns-clause-later
returns-clause-later c before number tells came =
    let placed : place_of c.args.line.now ≡ Some (c.in-Some.region, c.in-Some.pass) = sym c.place_of.ensures ∙ c.in-Some.is in
    let near : IsNear (Some (c.in-Some.region, c.in-Some.pass)) = subst IsNear placed c.requires.near in
    tells_more before c.args.doing.now number c.args.line.now c.in-Some.region c.in-Some.pass c.doing_after.result tells placed near.0 near.1 c.doing_after.ensures
