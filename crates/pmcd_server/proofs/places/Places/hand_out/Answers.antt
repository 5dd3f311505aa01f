use Rattle.std.proofs.Common.{◌≡◌, ◌≤◌, ap, sym, ◌∙◌, arith}
use Rattle.pmcd_server.specs.Draws.{share}
use Rattle.pmcd_server.specs.Places.{Drawer}
use Rattle.pmcd_server.proofs.Drawing.{share_splits}
use Rattle.pmcd_server.proofs.places.Places.hand_out.Goals as goal

pub split_seat-requires : goal.split_seat-requires
split_seat-requires c =
    let seat = c.drawer.inside.seat in
    let table = c.self.inside.table.shared.table_id in
    let here : seat.table_id ≡ table = ap (λ (d : Drawer). d.word) c.drawer.view_is ∙ c.requires.here ∙ sym c.self.view_is in
    let left : seat.me.0.left ≡ c.args.drawer.now.left = ap (λ (d : Drawer). d.left) c.drawer.view_is in
    let words : table.words ≡ 1 = c.self.invariant.0 in
    let enough : share ≤ c.args.drawer.now.left = c.requires.left in
    (here, omega arith, share_splits seat.id seat.me.0 (omega arith))
