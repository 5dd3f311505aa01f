-- The window of the instance is full and compares so, or it isn't there.
use Rattle.std.proofs.Common.{◌≡◌, ◌&&◌, Option, Some, None, FitsSigned, sym, ap, ◌∙◌, subst, rules}
use Rattle.std.specs.Int.{w32, w128}
use Rattle.std.specs.Ordering.{int_cmp}
use Rattle.std.specs.BTreeMap.{get}
use Rattle.std.proofs.lemmas.Int.{to_z-of_z}
use Rattle.rule_watch.specs.Aggregates.{aggregate_of}
use Rattle.rule_watch.specs.Holding.{compares, passes}
use Rattle.rule_watch.specs.Shown.{values_kept}
use Rattle.rule_watch.specs.Watched.{Serves}
use Rattle.rule_watch.specs.Windows.{Recent}
use Rattle.rule_watch.proofs.InstanceWindows.{none_passes, passes_is}
use Rattle.rule_watch.proofs.streams.passes.Goals as goal

pub returns-in_default : goal.returns-in_default
returns-in_default c =
    let cond = c.args.condition.now in
    let there : None ≡ get int_cmp c.args.windows.now c.args.instance = c.in_default.ensures.value ∙ ap (get int_cmp c.args.windows.now) (to_z-of_z w32 c.args.instance c.ranges.instance) in
    none_passes cond c.requires.condition ∙ ap (λ (o : Option Recent). passes cond (values_kept o)) there

pub returns-then-is_full : goal.returns-then-is_full
returns-then-is_full c =
    let cond = c.args.condition.now in
    let w : Recent = c.in-Some.window.now in
    let there : Some w ≡ get int_cmp c.args.windows.now c.args.instance = c.in-Some.ensures.value ∙ ap (get int_cmp c.args.windows.now) (to_z-of_z w32 c.args.instance c.ranges.instance) in
    let serves : Serves cond (Some w) = subst (Serves cond) (sym there) (c.requires.serve c.args.instance) in
    let fits : FitsSigned w128 c.told.result = search rules in
    c.compares.ensures
    ∙ ap (λ told. compares cond.comparison told cond.number) (to_z-of_z w128 c.told.result fits ∙ c.told.ensures)
    ∙ ap (λ b. b && compares cond.comparison (aggregate_of w.aggregate w.values) cond.number) c.if-is_full.ensures
    ∙ passes_is cond w serves
    ∙ ap (λ (o : Option Recent). passes cond (values_kept o)) there

pub returns-else-is_full : goal.returns-else-is_full
returns-else-is_full c =
    let cond = c.args.condition.now in
    let w : Recent = c.in-Some.window.now in
    let there : Some w ≡ get int_cmp c.args.windows.now c.args.instance = c.in-Some.ensures.value ∙ ap (get int_cmp c.args.windows.now) (to_z-of_z w32 c.args.instance c.ranges.instance) in
    let serves : Serves cond (Some w) = subst (Serves cond) (sym there) (c.requires.serve c.args.instance) in
    c.if-is_full.false
    ∙ ap (λ b. b && compares cond.comparison (aggregate_of w.aggregate w.values) cond.number) c.if-is_full.ensures
    ∙ passes_is cond w serves
    ∙ ap (λ (o : Option Recent). passes cond (values_kept o)) there
