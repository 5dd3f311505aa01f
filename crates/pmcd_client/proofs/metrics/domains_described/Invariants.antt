use Rattle.std.proofs.Common.{◌≡◌, map, drop}
use Rattle.pmcd_client.specs.Replies.{domains_behind, domains_described}
use Rattle.pmcd_client.proofs.metrics.domains_described.Given as goal

abbrev pub invariant-loop-desc : goal.invariant-loop-desc
invariant-loop-desc l = domains_behind l.domains.items (map (λ m. m.0) (drop l.desc-index l.metrics)) ≡ domains_described (map (λ m. m.0) l.metrics)
