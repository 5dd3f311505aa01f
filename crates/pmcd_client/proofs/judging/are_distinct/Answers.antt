use Rattle.std.proofs.Common.{◌≡◌, true, false, refl, sym, rules, arith, true≢false}
use Rattle.std.proofs.lemmas.Grind.{common_steps}
use Rattle.pmcd_client.proofs.Matching.{are_apart, apart_Decides, twice}
use Rattle.pmcd_client.proofs.judging.are_distinct.Goals as goal

pub returns-then-lists_instance : goal.returns-then-lists_instance
returns-then-lists_instance c =
    let apart : are_apart c.args.pairs.now ≡ false = first_of (search rules, grind (arith, common_steps)) in
    ((λ h. absurd (true≢false (sym h))), (λ all. absurd (twice c.args.pairs.now apart all)))

pub returns : goal.returns
returns c =
    let apart : are_apart c.args.pairs.now ≡ true = first_of (search rules, grind (arith, common_steps)) in
    ((λ h. (apart_Decides c.args.pairs.now).0 apart), (λ all. refl))
