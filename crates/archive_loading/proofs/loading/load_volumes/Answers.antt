use Rattle.std.proofs.Common.{◌+◌, ◌≤◌, subst}
use Rattle.pcp_model.specs.Disk.{contents_of}
use Rattle.archive_loading.specs.Takes.{label_bytes}
use Rattle.archive_loading.proofs.loading.load_volumes.Goals as goal

pub returns-clause-taken : goal.returns-clause-taken
returns-clause-taken g c = λ tells.
    let same = c.count_volumes.ensures.looks.held tells in
    let took = subst (λ h. g.D.Disk.taken c.load_heads.new.disk ≤ g.D.Disk.taken c.count_volumes.new.disk + label_bytes (contents_of h) c.in_ok-count.count) same (c.load_heads.ensures.taken tells) in
    record {
      volumes = c.in_ok-count.count;
      most = subst (λ n. g.D.Disk.taken c.load_heads.new.disk ≤ n + label_bytes (contents_of (g.D.Disk.held c.args.disk.now)) c.in_ok-count.count) (c.count_volumes.ensures.taken tells) took;
    }
