use Rattle.std.proofs.Common.{◌≡◌, ℕ, List, ◌∷◌, slice_index, sym, ap, ◌∙◌, subst}
use Rattle.std.specs.Slots.{slots_items}
use Rattle.region_rule.specs.Seats.{MadeRegion, Token}
use Rattle.region_rule.specs.Calls.{Closes}
use Rattle.region_rule.proofs.Rows.{closes}
use Rattle.region_rule.proofs.region.Region.close.Goals as goal

pub returns : goal.returns
returns g c =
    let S = g.S.Shape.shaping in
    let seat = c.pass.inside.seat in
    let key = c.into_table.result.shared.key in
    let table = c.into_table.ensures.region in
    let final = c.close_with-closed.ensures.values.2 in
    let cells = slots_items c.close_with-closed.result.words in
    let image : List ℕ = c.copy_words.new.words.items in
    let start : seat.me.0.start ≡ key.words = ap (λ (t : Token). t.region.words) c.pass.view_is ∙ ap (λ (p : MadeRegion). p.words) c.requires.here ∙ sym table.1 in
    let count : seat.me.0.passes ≡ key.passes = ap (λ (t : Token). t.region.passes) c.pass.view_is ∙ ap (λ (p : MadeRegion). p.passes) c.requires.here ∙ sym table.2 in
    let found : final.0.words ≡ slice_index cells 0 ∷ image = final.2 ∙ c.copy_words.ensures in
    subst (λ (t : Token). Closes S t.view image) c.pass.view_is
    (closes S key.words key.passes final.0.words final.0.views seat.id (slice_index cells 0) seat.me.0 image final.1.0 final.1.1 c.pass.invariant.1 start count found)
