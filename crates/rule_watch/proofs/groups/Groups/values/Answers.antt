-- The group at the number, or nothing past the last.
use Rattle.std.proofs.Common.{Some, None, ap, ◌∙◌}
use Rattle.std.specs.Prelude.{slice_get}
use Rattle.rule_watch.specs.Groups.{Grouped, group_at}
use Rattle.rule_watch.proofs.GroupValues.{groups_at}
use Rattle.rule_watch.proofs.groups.Groups.values.Goals as goal

pub returns-in-Some : goal.returns-in-Some
returns-in-Some c =
    c.as_slice.ensures.value
    ∙ groups_at c.self.inside.groups.items c.args.number (Some c.in-Some.group.now) (c.in-Some.ensures ∙ ap (λ groups. slice_get groups c.args.number) c.deref.ensures.value)
    ∙ ap (λ (g : Grouped). group_at g.groups c.args.number) c.self.view_is

pub returns-in-None : goal.returns-in-None
returns-in-None c =
    groups_at c.self.inside.groups.items c.args.number None (c.in-None.ensures ∙ ap (λ groups. slice_get groups c.args.number) c.deref.ensures.value)
    ∙ ap (λ (g : Grouped). group_at g.groups c.args.number) c.self.view_is
