-- The index is emptied, and then its label given.
use Rattle.std.proofs.Common.{sym, subst}
use Rattle.std.specs.Prelude.{None, Option, ℕ}
use Rattle.pcp_base.specs.declared.file.FileId.TheVariants.{Index}
use Rattle.pcp_model.specs.Disk.{CrashImage}
use Rattle.pcp_outside.specs.Devices.{LeavesOnly, holdings_after_append}
use Rattle.pcp_outside.proofs.Crash.{joined, weaker}
use Rattle.archive_recovery.specs.Mending.{MayBeCut, IndexMayBe}
use Rattle.archive_recovery.proofs.Moments.{emptied_image, label_image}
use Rattle.archive_recovery.proofs.mending.mend_index.Goals as goal

pub returns-in_ok-cut_tail-in-None-clause-any_moment :
    goal.returns-in_ok-cut_tail-in-None-clause-any_moment
returns-in_ok-cut_tail-in-None-clause-any_moment g c = λ tells.
    let d = g.D.Disk in
    let old = d.held c.args.disk.now in
    let mid = d.held c.cut_tail-in-None.new.disk in
    let label = c.args.label.now in
    subst (λ (e : Option ℕ). LeavesOnly d.moment d.left_since c.args.disk.now c.append_synced.new.disk (IndexMayBe e label old)) (sym c.in-None.is)
    (joined d.moment d.left_since d.held c.args.disk.now c.cut_tail-in-None.new.disk c.append_synced.new.disk (IndexMayBe None label old)
    (weaker d.moment d.left_since d.held c.args.disk.now c.cut_tail-in-None.new.disk (MayBeCut Index 0 old) (IndexMayBe None label old) (c.cut_tail-in-None.ensures.any_moment tells) (emptied_image label old))
    (weaker d.moment d.left_since d.held c.cut_tail-in-None.new.disk c.append_synced.new.disk (CrashImage (holdings_after_append Index label mid)) (IndexMayBe None label old) (c.append_synced.ensures.any_moment tells)
    (label_image label old mid (c.in_ok-cut_tail-in-None.ensures.held tells))))
