-- One item more.
use Rattle.std.proofs.Common.{◌∙◌, subst}
use Rattle.pcp_model.specs.Disk.{contents_of}
use Rattle.archive_loading.proofs.Looking.{looks_on}
use Rattle.archive_reader.specs.Nexts.{IsNext}
use Rattle.log_export.proofs.Read.{one_more}
use Rattle.log_export.proofs.walking.read_all.Goals as goal

pub loop-items-preserved : goal.loop-items-preserved
loop-items-preserved g c = record {
  looks = looks_on g.D.Disk c.args.disk.now c.loop-items.disk c.view_at.new.disk c.loop-items.invariant.looks c.view_at.ensures.looks;
  quiet = c.in_ok-next.ensures.quiet ∙ c.loop-items.invariant.quiet;
  so_far = λ tells.
      let files = contents_of (g.D.Disk.held c.args.disk.now) in
      let found = subst (λ h. IsNext (contents_of h) c.args.reader.now.volumes c.loop-items.end c.in_ok-next.field-0) (c.loop-items.invariant.looks.held tells) (c.in_ok-next.ensures.found tells) in
      one_more files c.args.reader.now.volumes c.loop-items.end c.in-Some.next c.loop-items.items c.in-Some.field-0-0 (c.loop-items.invariant.so_far tells) (subst (IsNext files c.args.reader.now.volumes c.loop-items.end) c.in-Some.is found);
}

pub returns-in_err-next-clause-looks : goal.returns-in_err-next-clause-looks
returns-in_err-next-clause-looks g c = looks_on g.D.Disk c.args.disk.now c.loop-items.disk c.view_at.new.disk c.loop-items.invariant.looks c.view_at.ensures.looks
