-- The timetables have passed, and nothing else changed.
use Rattle.std.proofs.Common.{List, map, sym, ◌∙◌, subst}
use Rattle.log_schedule.specs.Instants.{EachPasses, Timetable}
use Rattle.run_archive.specs.Plans.{plans_of}
use Rattle.run_archive.proofs.Beside.{asked_in, groups_in, timetables_in}
use Rattle.script_runs.specs.Groups.{Plan}
use Rattle.script_runs.specs.Steps.{PassesForEach}
use Rattle.run_archive.proofs.plans.Plans.passed.Goals as goal

pub returns : goal.returns
returns c =
    let gs = c.self.inside.groups.now in
    let ts = c.self.inside.timetables in
    let us = c.passed.new.self in
    let ms = c.self.inside.asked.items in
    let timed = c.self.invariant.timed in
    let kept = c.self.invariant.kept in
    let timed_still = c.passed.ensures.same_length ∙ timed in
    subst (λ (old : List Plan). PassesForEach c.args.now old (plans_of gs us ms)) c.self.view_is record {
      timetables = subst (λ (old : List Timetable). EachPasses c.args.now old (map (λ plan. plan.timetable) (plans_of gs us ms))) (sym (timetables_in gs ts ms timed kept))
          (subst (λ (new : List Timetable). EachPasses c.args.now ts new) (sym (timetables_in gs us ms timed_still kept)) c.passed.ensures);
      groups = groups_in gs us ms timed_still kept ∙ sym (groups_in gs ts ms timed kept);
      asked = asked_in gs us ms timed_still kept ∙ sym (asked_in gs ts ms timed kept);
    }
