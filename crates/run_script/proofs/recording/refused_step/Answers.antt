-- The step at the count is refused, or the line behind the last.
use Rattle.std.proofs.Common.{true, false, Some, ap, sym, ◌∙◌}
use Rattle.run_script.specs.Recording.{line_behind}
use Rattle.run_script.proofs.Refusals.{refused_there, refused_behind}
use Rattle.run_script.proofs.recording.refused_step.Goals as goal

pub returns-in-Some : goal.returns-in-Some
returns-in-Some c =
    ap Some c.from.ensures
    ∙ refused_there c.args.script.now c.requires c.as_slice-steps.result.now c.as_slice-steps.ensures c.count_coming-came.result c.count_right-count.result c.in-Some.field-0.now
    c.count_coming-came.ensures.count c.count_right-count.ensures c.in-Some.ensures

pub returns-then-all_rest : goal.returns-then-all_rest
returns-then-all_rest c =
    refused_behind c.args.script.now c.requires c.as_slice-steps.result.now c.as_slice-steps.ensures c.count_coming-came.result c.count_right-count.result c.count_coming-came.new.doing true
    c.count_coming-came.ensures.count c.count_right-count.ensures c.in-None.ensures c.count_coming-came.ensures.stages (sym c.all_rest.ensures ∙ c.if-all_rest.true)

pub returns-else-all_rest : goal.returns-else-all_rest
returns-else-all_rest c =
    ap Some (c.line_behind.ensures ∙ ap line_behind c.as_slice-steps.ensures)
    ∙ refused_behind c.args.script.now c.requires c.as_slice-steps.result.now c.as_slice-steps.ensures c.count_coming-came.result c.count_right-count.result c.count_coming-came.new.doing false
    c.count_coming-came.ensures.count c.count_right-count.ensures c.in-None.ensures c.count_coming-came.ensures.stages (sym c.all_rest.ensures ∙ c.if-all_rest.false)
