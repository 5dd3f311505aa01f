use Rattle.std.proofs.Common.{◌≡◌, ◌-◌, [], sym, ap, ◌∙◌}
use Rattle.std.specs.Int.{w32}
use Rattle.std.proofs.lemmas.Int.{to_z-of_z}
use Rattle.result_form.specs.Shown.{shown_values}
use Rattle.result_form.proofs.Walks.{same_next, values_end, values_next}
use Rattle.result_form.proofs.bodies.WordsView.next.Goals as goal

pub returns-then-self-eq0 : goal.returns-then-self-eq0
returns-then-self-eq0 c =
    let none : c.args.self.now ≡ [] = sym c.self.view_is ∙ ap (λ n. shown_values n c.self.inside.words.now) c.if-self-eq0.true ∙ values_end c.self.inside.words.now in
    (none, none)

pub returns : goal.returns
returns c =
    let i = c.instance_in-instance in
    sym c.self.view_is ∙ values_next c.self.inside.left c.self.inside.words.now c.if-self-eq0.false
    ∙ same_next _ _ _ _ _ _ (sym i.ensures ∙ sym (to_z-of_z w32 i.result (record { sfits = i.type_inv }))) (sym c.word_in-value.ensures) (ap (shown_values (c.self.inside.left - 1)) (sym c.behind-self-inside.ensures))
