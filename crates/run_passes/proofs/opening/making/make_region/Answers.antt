-- A region has the passes of its row, and those of the seats.
use Rattle.std.proofs.Common.{◌≡◌, ◌+◌, length, ap, ◌∙◌, arith}
use Rattle.run_passes.proofs.Openings.{fresh_count}
use Rattle.run_passes.proofs.opening.making.make_region.Goals as goal

pub split_off-requires : goal.split_off-requires
split_off-requires c =
    let own = c.in_ok-region.own in
    let count : length own.items ≡ c.args.row.now.passes + c.args.seats =
    ap length c.in_ok-region.ensures.tokens_are ∙ fresh_count c.in_ok-region.region 0 (c.args.row.now.passes + c.args.seats) in
    omega (arith, own.ok.0)
