use Rattle.std.proofs.Common.{◌≡◌, ◌-◌, [], sym, ap, ◌∙◌}
use Rattle.std.specs.Int.{w32}
use Rattle.std.proofs.lemmas.Int.{to_z-of_z}
use Rattle.result_form.specs.Shown.{shown_block, shown_blocks}
use Rattle.result_form.proofs.Walks.{same_next, blocks_end, blocks_next}
use Rattle.result_form.proofs.bodies.BlocksView.next.Goals as goal

pub returns-then-self-eq0 : goal.returns-then-self-eq0
returns-then-self-eq0 c =
    let none : c.args.self.now ≡ [] = sym c.self.view_is ∙ ap (λ n. shown_blocks c.self.inside.payload.now n c.self.inside.words.now) c.if-self-eq0.true ∙ blocks_end c.self.inside.payload.now c.self.inside.words.now in
    (none, none)

pub returns : goal.returns
returns c =
    let i = c.instance_in-instance in
    let payload = c.self.inside.payload.now in
    sym c.self.view_is ∙ blocks_next payload c.self.inside.left c.self.inside.words.now c.if-self-eq0.false
    ∙ same_next _ _ _ _ _ _ (sym i.ensures ∙ sym (to_z-of_z w32 i.result (record { sfits = i.type_inv }))) (ap (shown_block payload) (sym c.word_in-offset.ensures) ∙ sym c.block_in-block.ensures) (ap (shown_blocks payload (c.self.inside.left - 1)) (sym c.behind-self-inside.ensures))
