-- Each part is that of both.
use Rattle.std.proofs.Common.{FitsSigned, rules}
use Rattle.std.specs.Int.{w128, int_min, int_max}
use Rattle.std.proofs.lemmas.Int.{wrapping_add_is}
use Rattle.log_summary.proofs.Joining.{joins, chosen}
use Rattle.log_summary.proofs.tally.Tally.joined.Goals as goal

pub returns : goal.returns
returns c =
    let a = c.args.self.now in
    let b = c.args.behind.now in
    let low : FitsSigned w128 c.min.result = search rules in
    let high : FitsSigned w128 c.max.result = search rules in
    let a_least : FitsSigned w128 c.args.self.now.least = search rules in
    let b_least : FitsSigned w128 c.args.behind.now.least = search rules in
    let a_greatest : FitsSigned w128 c.args.self.now.greatest = search rules in
    let b_greatest : FitsSigned w128 c.args.behind.now.greatest = search rules in
    let a_sum : FitsSigned w128 c.args.self.now.sum = search rules in
    let b_sum : FitsSigned w128 c.args.behind.now.sum = search rules in
    joins a b _ _ _ _ c.saturating_add.ensures (chosen int_min c.min.result a.least b.least low a_least b_least c.min.ensures.value)
    (chosen int_max c.max.result a.greatest b.greatest high a_greatest b_greatest c.max.ensures.value) (wrapping_add_is w128 a.sum b.sum a_sum b_sum)
