-- The passes are of the regions at their positions.
use Rattle.case_sessions.proofs.Fresh.{passes_made}
use Rattle.case_sessions.proofs.opening.open_regions.Goals as goal

pub changer_at-changer-requires : goal.changer_at-changer-requires
changer_at-changer-requires c =
    let opened = c.in_ok-server.field-0 in
    passes_made c.args.script opened.server opened.passes.items opened.seats.items c.in_ok-server.ensures.made
