use Rattle.std.proofs.Common.{subst}
use Rattle.pcp_outside.specs.Devices.{IsVolumes}
use Rattle.archive_loading.proofs.Loads.{beside_volume}
use Rattle.archive_loading.proofs.loading.is_alone.Goals as goal

pub returns-then-branch-ne0-2-clause-alone : goal.returns-then-branch-ne0-2-clause-alone
returns-then-branch-ne0-2-clause-alone g c = λ tells.
    beside_volume (g.D.Disk.held c.args.disk.now) c.in_ok-count_volumes.field-0
    (subst (λ h. IsVolumes h c.in_ok-count_volumes.field-0) (c.length_of.ensures.looks.held tells) (c.in_ok-count_volumes.ensures.count tells)) c.if-branch-ne0-2.true
