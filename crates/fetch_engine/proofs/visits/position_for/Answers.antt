use Rattle.std.proofs.Common.{◌≡◌, ◌==◌, ◌/◌, ◌+◌, ◌*◌, ◌<◌, ℕ, Bool, nat_lt, ap, ◌∙◌}
use Rattle.std.specs.Prelude.{◌&&◌}
use Rattle.std.proofs.lemmas.Bool.{lt-ltb}
use Rattle.fetch_engine.specs.Visits.{lies_in}
use Rattle.fetch_engine.specs.declared.server.Mounted.{Mounted}
use Rattle.fetch_engine.proofs.Found.{position_same}
use Rattle.fetch_engine.proofs.visits.position_for.Goals as goal

-- where a cluster has 12 bits, the test for that holds
agrees : (word : ℕ) (row : Mounted) → row.cluster < 4096 → (nat_lt row.cluster 4096 && word / 1024 == 70 * 4096 + row.cluster) ≡ lies_in word row
agrees word row low = ap (λ (b : Bool). b && word / 1024 == 70 * 4096 + row.cluster) (lt-ltb row.cluster 4096 low)

pub returns-clause-value : goal.returns-clause-value
returns-clause-value c =
    c.position_in.ensures.value ∙ position_same (λ (row : Mounted). row.cluster < 4096)
    (λ (row : Mounted). nat_lt row.cluster 4096 && c.args.word / 1024 == 70 * 4096 + row.cluster) (λ (row : Mounted). lies_in c.args.word row)
    c.args.rows.now c.requires (agrees c.args.word)
