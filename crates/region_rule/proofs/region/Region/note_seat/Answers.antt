use Rattle.std.proofs.Common.{◌≡◌, sym, ap, ◌∙◌, arith}
use Rattle.region_rule.specs.Seats.{MadeRegion, region_of}
use Rattle.region_rule.proofs.Tokens.{notes}
use Rattle.region_rule.proofs.region.Region.note_seat.Goals as goal

pub split_seat-requires : goal.split_seat-requires
split_seat-requires g c =
    let r = c.self.inside in
    let region : MadeRegion = record { table = r.table.shared.table_id; words = r.table.shared.key.words; passes = r.table.shared.key.passes } in
    let is : region_of c.args.seat.now ≡ region = c.requires.here.is ∙ sym c.self.view_is in
    let count = c.self.invariant.0 in (
      ap (λ (p : MadeRegion). p.table) is,
      omega arith,
      notes g.S.Shape.shaping region.words region.passes c.args.seat.now.id c.args.seat.now.me.0 c.requires.here.named,
    )
