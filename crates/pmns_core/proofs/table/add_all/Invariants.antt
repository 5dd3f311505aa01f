-- The pairs so far are added.
use Rattle.std.proofs.Common.{◌≡◌, ℕ, take, fold, Ok}
use Rattle.pmns_core.specs.Pairs.{least_name, least_with, IsInOrder}
use Rattle.pmns_core.specs.Adding.{after_adding}
use Rattle.pmns_core.specs.Tables.{pairs_of}
use Rattle.pmns_core.proofs.table.add_all.Given as goal

abbrev pub invariant-loop-done : goal.invariant-loop-done
invariant-loop-done l = record {
  order : IsInOrder (pairs_of l.table);
  so_far : after_adding (take l.done l.pairs) (pairs_of l.initial.table) ≡ Ok (pairs_of l.table);
  least : (q : ℕ) → least_name (pairs_of l.table) q ≡ fold (least_with q) (least_name (pairs_of l.initial.table) q) (take l.done l.pairs);
}
