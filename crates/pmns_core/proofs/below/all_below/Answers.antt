-- The name's own pair, and then those that continue it.
use Rattle.std.proofs.Common.{◌≡◌, ℕ, List, [], ◌∷◌, ◌++◌, ap, ◌∙◌}
use Rattle.pmns_core.specs.Pairs.{Pair}
use Rattle.pmns_core.specs.Below.{pairs_with_front, pair_of_name}
use Rattle.pmns_core.specs.Tables.{pairs_of}
use Rattle.pmns_core.proofs.Ranges.{below_parts}
use Rattle.pmns_core.proofs.below.all_below.Goals as goal

pub returns : goal.returns
returns c =
    let pairs = pairs_of c.args.table.now in
    let front : c.in_ok-front.front.items ≡ c.args.name.now ++ 46 ∷ [] = c.in_ok-front.ensures ∙ ap (λ (bs : List ℕ). bs ++ 46 ∷ []) c.as_slice.ensures.value in
    c.in_ok-push_all.ensures
    ∙ ap (λ (fs : List Pair). fs ++ pairs_with_front pairs c.in_ok-front.front.items) c.in_ok-found.ensures
    ∙ ap (λ (bs : List ℕ). pair_of_name pairs c.args.name.now ++ pairs_with_front pairs bs) front
    ∙ below_parts pairs c.args.name.now c.requires
