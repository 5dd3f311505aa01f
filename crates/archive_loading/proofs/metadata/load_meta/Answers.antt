use Rattle.std.proofs.Common.{◌∙◌, ◌≤◌, ℕ, List, length, take, negsuc, sym, ap, subst, arith}
use Rattle.pcp_base.specs.declared.file.FileId.TheVariants.{Meta}
use Rattle.pcp_model.specs.Disk.{contents_of}
use Rattle.archive_loading.proofs.Looking.{looks_on}
use Rattle.pcp_model.specs.Labels.{IsLabel}
use Rattle.archive_loading.specs.LoadFaults.{IsMetaPrefix}
use Rattle.archive_loading.specs.Metadata.{IsRecordsRead, AreAllRecords}
use Rattle.archive_loading.proofs.MetaSteps.{is_long, begun, meta_reads}
use Rattle.archive_loading.proofs.metadata.load_meta.Goals as goal

pub returns-in-Part-clause-meta : goal.returns-in-Part-clause-meta
returns-in-Part-clause-meta g c = λ tells.
    let bytes : List ℕ = contents_of (g.D.Disk.held c.args.disk.now) Meta in
    let front = c.in_ok-head.ensures.front tells in
    let b = begun bytes c.as_slice.result.now (c.as_slice.ensures ∙ front.0) (subst (IsMetaPrefix c.as_slice.result.now) c.in-Part.is c.in_ok-meta_head.ensures) in
    (front.1, b.0, b.1)

pub read_records-requires : goal.read_records-requires
read_records-requires g c = λ tells.
    let bytes : List ℕ = contents_of (g.D.Disk.held c.args.disk.now) Meta in
    let front = c.in_ok-head.ensures.front tells in
    let long : 132 ≤ length bytes = is_long bytes c.as_slice.result.now c.in-Whole.label (c.as_slice.ensures ∙ front.0) (subst (IsMetaPrefix c.as_slice.result.now) c.in-Whole.is c.in_ok-meta_head.ensures) in
    (front.1 ∙ ap (λ h. length (contents_of h Meta)) (sym (c.front_of.ensures.looks.held tells)), omega (arith, long, front.1))

pub returns-in-Whole-2-clause-meta : goal.returns-in-Whole-2-clause-meta
returns-in-Whole-2-clause-meta g c = λ tells.
    let bytes : List ℕ = contents_of (g.D.Disk.held c.args.disk.now) Meta in
    let front = c.in_ok-head.ensures.front tells in
    let label : IsLabel (take 132 bytes) c.in-Whole.label (negsuc 0) =
    subst (λ t. IsLabel t c.in-Whole.label (negsuc 0)) (c.as_slice.ensures ∙ front.0) (subst (IsMetaPrefix c.as_slice.result.now) c.in-Whole.is c.in_ok-meta_head.ensures) in
    let read = subst (λ h. IsRecordsRead (contents_of h Meta) c.in_ok-meta.field-0) (c.front_of.ensures.looks.held tells) (c.in_ok-meta.ensures.read tells) in
    let all : AreAllRecords bytes c.in-Whole-2.meta c.in-Whole-2.end c.in-Whole-2.last = subst (IsRecordsRead bytes) c.in-Whole-2.is read in
    meta_reads bytes c.in-Whole.label c.in-Whole-2.meta c.in-Whole-2.end c.in-Whole-2.last label all

pub returns-in-Whole-2-clause-looks : goal.returns-in-Whole-2-clause-looks
returns-in-Whole-2-clause-looks g c = looks_on g.D.Disk c.args.disk.now c.front_of.new.disk c.read_records.new.disk c.front_of.ensures.looks c.read_records.ensures.looks

pub returns-clause-looks : goal.returns-clause-looks
returns-clause-looks g c = looks_on g.D.Disk c.args.disk.now c.front_of.new.disk c.read_records.new.disk c.front_of.ensures.looks c.read_records.ensures.looks
