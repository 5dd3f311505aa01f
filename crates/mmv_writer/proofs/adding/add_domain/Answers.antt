-- The domain's keys stand beside its row.
use Rattle.std.proofs.Common.{subst}
use Rattle.mmv_writer.specs.Keys.{IsEmptyDomain}
use Rattle.mmv_writer.proofs.Kept.{domain_kept}
use Rattle.mmv_writer.proofs.adding.add_domain.Goals as goal

pub returns-clause-keys : goal.returns-clause-keys
returns-clause-keys c =
    rw c.in_ok-push.ensures.ok
    (domain_kept c.args.domains.now c.insert.new.self c.args.rows.now c.args.row c.new-domain.result c.requires.keys c.requires.empty c.requires.new
    (subst (λ n. IsEmptyDomain n c.new-domain.result) c.len.ensures c.new-domain.ensures) c.in_default.ensures.updates.0)
