use Rattle.std.proofs.Common.{◌≡◌, ◌-◌, [], ◌∷◌, drop, sym, ap, ◌∙◌}
use Rattle.result_form.specs.Shown.{shown_set, shown_sets}
use Rattle.result_form.proofs.Walks.{sets_end, sets_next}
use Rattle.result_form.proofs.sets.SetsView.next.Goals as goal

pub returns-then-self-eq0 : goal.returns-then-self-eq0
returns-then-self-eq0 c =
    let none : c.args.self.now ≡ [] = sym c.self.view_is ∙ ap (λ n. shown_sets c.self.inside.payload.now n c.self.inside.words.now) c.if-self-eq0.true ∙ sets_end c.self.inside.payload.now c.self.inside.words.now in
    (none, none)

pub returns : goal.returns
returns c =
    let payload = c.self.inside.payload.now in
    let words = c.self.inside.words.now in
    sym c.self.view_is ∙ sets_next payload c.self.inside.left words c.if-self-eq0.false
    ∙ ap (λ t. shown_set payload words ∷ shown_sets payload (c.self.inside.left - 1) t) (ap (λ k. drop k words) (sym c.set_size.ensures) ∙ sym c.behind-self-inside.ensures)
