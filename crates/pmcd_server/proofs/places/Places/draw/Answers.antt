use Rattle.std.proofs.Common.{◌≡◌, ◌<◌, ap, sym, ◌∙◌, arith}
use Rattle.pmcd_server.specs.Places.{Drawer}
use Rattle.pmcd_server.proofs.Drawing.{draw_allows}
use Rattle.pmcd_server.proofs.places.Places.draw.Goals as goal

pub fetch_add-requires : goal.fetch_add-requires
fetch_add-requires c =
    let seat = c.drawer.inside.seat in
    let table = c.self.inside.table.shared.table_id in
    let here : seat.table_id ≡ table = ap (λ (d : Drawer). d.word) c.drawer.view_is ∙ c.requires.here ∙ sym c.self.view_is in
    let left : seat.me.0.left ≡ c.args.drawer.now.left = ap (λ (d : Drawer). d.left) c.drawer.view_is in
    let words : table.words ≡ 1 = c.self.invariant.0 in
    let some_left : 0 < c.args.drawer.now.left = c.requires.left in
    (here, omega arith, draw_allows table.slots seat.id seat.me (omega arith))
