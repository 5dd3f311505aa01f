-- The regions are sorted by their clusters.
use Rattle.std.proofs.Common.{rules}
use Rattle.std.proofs.lemmas.List.Sorted.{IsNonDecreasingBy-from_sort_by_key}
use Rattle.run_passes.specs.declared.opening.making.Made.{Made}
use Rattle.run_passes.proofs.opening.making.make_regions.Goals as goal

pub returns : goal.returns
returns c = record {
  given = c.in_ok-made.made.items;
  each = c.in_ok-made.ensures;
  same = c.sort_unstable_by_key.ensures.permutation;
  rise = IsNonDecreasingBy-from_sort_by_key (λ (m : Made). m.mounted.cluster) _ c.sort_unstable_by_key.ensures.sorted (λ a r q k. search rules);
}
