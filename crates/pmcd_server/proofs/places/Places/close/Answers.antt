use Rattle.std.proofs.Common.{◌≡◌, ◌+◌, length, subst}
use Rattle.pmcd_server.specs.Draws.{AreBelow, most}
use Rattle.pmcd_server.specs.Places.{Drawer}
use Rattle.pmcd_server.proofs.Drawing.{all_are_drawn}
use Rattle.pmcd_server.proofs.places.Places.close.Goals as goal

pub returns : goal.returns
returns c =
    let seat = c.drawer.inside.seat in
    let final = c.close_with.ensures.values.2 in
    let all : c.args.drawer.left + length c.args.drawer.drawn ≡ most = c.requires.all in
    subst (λ (d : Drawer). d.left + length d.drawn ≡ most → AreBelow d.drawn (length d.drawn)) c.drawer.view_is
    (λ whole. all_are_drawn final.0.words final.0.views seat.id seat.me.0 final.1.0 final.1.1 whole) all
