use Rattle.std.proofs.Common.{◌≡◌, ap, sym, ◌∙◌, arith}
use Rattle.pmcd_server.specs.Places.{Drawer}
use Rattle.pmcd_server.proofs.Drawing.{take_joins}
use Rattle.pmcd_server.proofs.places.Places.take_back.Goals as goal

pub join_seat-requires : goal.join_seat-requires
join_seat-requires c =
    let seat = c.drawer.inside.seat in
    let other = c.other.inside.seat in
    let table = c.self.inside.table.shared.table_id in
    let here : seat.table_id ≡ table = ap (λ (d : Drawer). d.word) c.drawer.view_is ∙ c.requires.here ∙ sym c.self.view_is in
    let there : other.table_id ≡ table = ap (λ (d : Drawer). d.word) c.other.view_is ∙ c.requires.there ∙ sym c.self.view_is in
    let words : table.words ≡ 1 = c.self.invariant.0 in
    (here, there, c.other.invariant, omega arith, take_joins seat.id seat.me.0 other.id other.me.0)
