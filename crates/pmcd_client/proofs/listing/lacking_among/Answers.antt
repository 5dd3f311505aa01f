use Rattle.std.proofs.Common.{arith, rules, map, filter}
use Rattle.std.proofs.lemmas.Grind.{common_steps}
use Rattle.pmcd_client.specs.Items.{lacks}
use Rattle.pmcd_client.proofs.Matching.{none_behind}
use Rattle.pmcd_client.proofs.listing.lacking_among.Goals as goal

pub returns : goal.returns
returns c =
    none_behind (lacks c.args.metrics.now c.args.sets.now) c.loop-listed.found.items (map (λ listed. listed.0) (filter (lacks c.args.metrics.now c.args.sets.now) c.args.domains.now)) c.args.domains.now c.loop-listed.listed-index
    (first_of (omega arith, first_of (search rules, grind (arith, common_steps)))) c.loop-listed.invariant
