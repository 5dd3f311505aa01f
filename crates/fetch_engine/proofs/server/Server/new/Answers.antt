-- The regions are sorted by their clusters, which stand once.
use Rattle.std.proofs.Common.{◌≡◌, rules, None}
use Rattle.std.proofs.lemmas.List.Sorted.{IsNonDecreasingBy-from_sort_by_key}
use Rattle.fetch_engine.specs.Servers.{server_fault}
use Rattle.fetch_engine.specs.declared.server.Mounted.{Mounted}
use Rattle.fetch_engine.proofs.Served.{is_served}
use Rattle.fetch_engine.proofs.server.Server.new.Goals as goal

pub invariant_of-result : goal.invariant_of-result
invariant_of-result c =
    let none : server_fault c.args.mounted.items ≡ None = search rules in
    (is_served c.args.mounted.items c.sort_unstable_by_key.new.self.items none c.sort_unstable_by_key.ensures.permutation
    (IsNonDecreasingBy-from_sort_by_key (λ (row : Mounted). row.cluster) _ c.sort_unstable_by_key.ensures.sorted (λ a r q k. search rules))).server

pub returns : goal.returns
returns c =
    let none : server_fault c.args.mounted.items ≡ None = search rules in
    is_served c.args.mounted.items c.sort_unstable_by_key.new.self.items none c.sort_unstable_by_key.ensures.permutation
    (IsNonDecreasingBy-from_sort_by_key (λ (row : Mounted). row.cluster) _ c.sort_unstable_by_key.ensures.sorted (λ a r q k. search rules))
