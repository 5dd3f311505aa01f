use Rattle.std.proofs.Common.{◌≡◌, sym, ap, ◌∙◌, arith}
use Rattle.region_rule.specs.Seats.{MadeRegion, region_of}
use Rattle.region_rule.proofs.Tokens.{learns}
use Rattle.region_rule.proofs.region.Region.learn_seat.Goals as goal

pub join_seat-requires : goal.join_seat-requires
join_seat-requires g c =
    let r = c.self.inside in
    let region : MadeRegion = record { table = r.table.shared.table_id; words = r.table.shared.key.words; passes = r.table.shared.key.passes } in
    let is : region_of c.args.seat.now ≡ region = c.requires.here.is ∙ sym c.self.view_is in
    let its : region_of c.args.note ≡ region = c.requires.note.0 ∙ sym c.self.view_is in
    let count = c.self.invariant.0 in (
      ap (λ (p : MadeRegion). p.table) is,
      ap (λ (p : MadeRegion). p.table) its,
      c.requires.note.2,
      omega arith,
      learns g.S.Shape.shaping region.words region.passes c.args.seat.now.id c.args.note.id c.args.seat.now.me.0 c.args.note.me.0 c.requires.here.named c.requires.note.1,
    )
