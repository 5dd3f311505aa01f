use Rattle.std.proofs.Common.{subst}
use Rattle.pcp_base.specs.declared.file.FileId.TheVariants.{Meta}
use Rattle.pcp_model.specs.Disk.{contents_of}
use Rattle.archive_loading.proofs.Looking.{looks_on}
use Rattle.archive_check.specs.Marks.{mark_at}
use Rattle.archive_check.specs.Verdicts.{IsFound, IsEntryFault}
use Rattle.archive_check.specs.Walked.{IsWalked, AreWalked}
use Rattle.archive_check.proofs.Judging.{items_fall, judged_sound, judged_unsound, seen_all}
use Rattle.archive_check.proofs.verdict.judge.Goals as goal

pub returns-in_err-tally-clause-looks : goal.returns-in_err-tally-clause-looks
returns-in_err-tally-clause-looks g c = looks_on g.D.Disk c.args.disk.now c.walk.new.disk c.walk_volumes.new.disk (looks_on g.D.Disk c.args.disk.now c.length_of.new.disk c.walk.new.disk c.length_of.ensures.looks c.walk.ensures.looks) c.walk_volumes.ensures.looks

pub returns-in-Some-clause-looks : goal.returns-in-Some-clause-looks
returns-in-Some-clause-looks g c = looks_on g.D.Disk c.args.disk.now c.walk.new.disk c.walk_volumes.new.disk (looks_on g.D.Disk c.args.disk.now c.length_of.new.disk c.walk.new.disk c.length_of.ensures.looks c.walk.ensures.looks) c.walk_volumes.ensures.looks

pub returns-in_err-fault-clause-looks : goal.returns-in_err-fault-clause-looks
returns-in_err-fault-clause-looks g c = looks_on g.D.Disk c.args.disk.now c.walk_volumes.new.disk c.entry_fault.new.disk (looks_on g.D.Disk c.args.disk.now c.walk.new.disk c.walk_volumes.new.disk (looks_on g.D.Disk c.args.disk.now c.length_of.new.disk c.walk.new.disk c.length_of.ensures.looks c.walk.ensures.looks) c.walk_volumes.ensures.looks) c.entry_fault.ensures.looks

pub returns-in-Some-2-clause-looks : goal.returns-in-Some-2-clause-looks
returns-in-Some-2-clause-looks g c = looks_on g.D.Disk c.args.disk.now c.walk_volumes.new.disk c.entry_fault.new.disk (looks_on g.D.Disk c.args.disk.now c.walk.new.disk c.walk_volumes.new.disk (looks_on g.D.Disk c.args.disk.now c.length_of.new.disk c.walk.new.disk c.length_of.ensures.looks c.walk.ensures.looks) c.walk_volumes.ensures.looks) c.entry_fault.ensures.looks

pub returns-clause-looks : goal.returns-clause-looks
returns-clause-looks g c = looks_on g.D.Disk c.args.disk.now c.walk_volumes.new.disk c.entry_fault.new.disk (looks_on g.D.Disk c.args.disk.now c.walk.new.disk c.walk_volumes.new.disk (looks_on g.D.Disk c.args.disk.now c.length_of.new.disk c.walk.new.disk c.length_of.ensures.looks c.walk.ensures.looks) c.walk_volumes.ensures.looks) c.entry_fault.ensures.looks

pub returns-in-Some-clause-verdict : goal.returns-in-Some-clause-verdict
returns-in-Some-clause-verdict g c = λ tells d r.
    let files = contents_of (g.D.Disk.held c.args.disk.now) in
    let meta = subst (λ h. IsWalked Meta (contents_of h Meta) c.no_records.result (mark_at c.in_ok-marks.marks) (mark_at c.walk.new.marks) c.in_ok-walk.field-0) (c.length_of.ensures.looks.held tells) (c.in_ok-walk.ensures.walked tells) in
    let two = looks_on g.D.Disk c.args.disk.now c.length_of.new.disk c.walk.new.disk c.length_of.ensures.looks c.walk.ensures.looks in
    let volumes = subst (λ h. AreWalked (contents_of h) c.args.volumes.now (mark_at c.walk.new.marks) (mark_at c.walk_volumes.new.marks) c.in_ok-tally.tally) (two.held tells) (c.in_ok-tally.ensures.walked tells) in
    items_fall files d c.args.volumes.now c.args.index.now r (mark_at c.in_ok-marks.marks) (mark_at c.walk.new.marks) (mark_at c.walk_volumes.new.marks) c.no_records.result c.in_ok-walk.field-0 c.in_ok-tally.tally c.no_records.ensures meta volumes c.in-Some.first c.in-Some.second c.in-Some.is

pub returns-in-Some-2-clause-verdict : goal.returns-in-Some-2-clause-verdict
returns-in-Some-2-clause-verdict g c = λ tells d r.
    let files = contents_of (g.D.Disk.held c.args.disk.now) in
    let meta = subst (λ h. IsWalked Meta (contents_of h Meta) c.no_records.result (mark_at c.in_ok-marks.marks) (mark_at c.walk.new.marks) c.in_ok-walk.field-0) (c.length_of.ensures.looks.held tells) (c.in_ok-walk.ensures.walked tells) in
    let two = looks_on g.D.Disk c.args.disk.now c.length_of.new.disk c.walk.new.disk c.length_of.ensures.looks c.walk.ensures.looks in
    let volumes = subst (λ h. AreWalked (contents_of h) c.args.volumes.now (mark_at c.walk.new.marks) (mark_at c.walk_volumes.new.marks) c.in_ok-tally.tally) (two.held tells) (c.in_ok-tally.ensures.walked tells) in
    let three = looks_on g.D.Disk c.args.disk.now c.walk.new.disk c.walk_volumes.new.disk (looks_on g.D.Disk c.args.disk.now c.length_of.new.disk c.walk.new.disk c.length_of.ensures.looks c.walk.ensures.looks) c.walk_volumes.ensures.looks in
    let found = subst (λ h. IsFound (contents_of h) c.args.volumes.now c.args.index.now (mark_at c.walk_volumes.new.marks) c.in_ok-fault.field-0) (three.held tells) (c.in_ok-fault.ensures.found tells) in
    judged_unsound files d c.args.volumes.now c.args.index.now r (mark_at c.in_ok-marks.marks) (mark_at c.walk.new.marks) (mark_at c.walk_volumes.new.marks) c.no_records.result c.in_ok-walk.field-0 c.in_ok-tally.tally c.no_records.ensures meta volumes c.in_default.is c.in-Some-2.fault (subst (IsEntryFault files d) c.in-Some-2.is (found d (seen_all files d c.args.volumes.now c.args.index.now r (mark_at c.in_ok-marks.marks) (mark_at c.walk.new.marks) (mark_at c.walk_volumes.new.marks) c.no_records.result c.in_ok-walk.field-0 c.in_ok-tally.tally c.no_records.ensures meta volumes c.in_ok-marks.ensures)))

pub returns-clause-verdict : goal.returns-clause-verdict
returns-clause-verdict g c = λ tells d r.
    let files = contents_of (g.D.Disk.held c.args.disk.now) in
    let meta = subst (λ h. IsWalked Meta (contents_of h Meta) c.no_records.result (mark_at c.in_ok-marks.marks) (mark_at c.walk.new.marks) c.in_ok-walk.field-0) (c.length_of.ensures.looks.held tells) (c.in_ok-walk.ensures.walked tells) in
    let two = looks_on g.D.Disk c.args.disk.now c.length_of.new.disk c.walk.new.disk c.length_of.ensures.looks c.walk.ensures.looks in
    let volumes = subst (λ h. AreWalked (contents_of h) c.args.volumes.now (mark_at c.walk.new.marks) (mark_at c.walk_volumes.new.marks) c.in_ok-tally.tally) (two.held tells) (c.in_ok-tally.ensures.walked tells) in
    let three = looks_on g.D.Disk c.args.disk.now c.walk.new.disk c.walk_volumes.new.disk (looks_on g.D.Disk c.args.disk.now c.length_of.new.disk c.walk.new.disk c.length_of.ensures.looks c.walk.ensures.looks) c.walk_volumes.ensures.looks in
    let found = subst (λ h. IsFound (contents_of h) c.args.volumes.now c.args.index.now (mark_at c.walk_volumes.new.marks) c.in_ok-fault.field-0) (three.held tells) (c.in_ok-fault.ensures.found tells) in
    judged_sound files d c.args.volumes.now c.args.index.now r (mark_at c.in_ok-marks.marks) (mark_at c.walk.new.marks) (mark_at c.walk_volumes.new.marks) c.no_records.result c.in_ok-walk.field-0 c.in_ok-tally.tally c.no_records.ensures meta volumes c.in_default.is (subst (IsEntryFault files d) c.in-None.is (found d (seen_all files d c.args.volumes.now c.args.index.now r (mark_at c.in_ok-marks.marks) (mark_at c.walk.new.marks) (mark_at c.walk_volumes.new.marks) c.no_records.result c.in_ok-walk.field-0 c.in_ok-tally.tally c.no_records.ensures meta volumes c.in_ok-marks.ensures)))
