use Rattle.std.proofs.Common.{◌≡◌, ◌∙◌, inl, subst, sym}
use Rattle.pcp_base.specs.declared.file.FileId.TheVariants.{Meta, Index}
use Rattle.pcp_model.specs.Disk.{contents_of}
use Rattle.archive_loading.proofs.Looking.{looks_on}
use Rattle.archive_loading.specs.Parts.{IsIndexPart}
use Rattle.archive_loading.proofs.MetaSteps.{meta_reads}
use Rattle.archive_recovery.specs.Surveys.{HeadStands}
use Rattle.archive_recovery.proofs.Surveying.{head_stands}
use Rattle.archive_recovery.proofs.survey.survey_index.Goals as goal

pub returns-in-Whole-clause-looks : goal.returns-in-Whole-clause-looks
returns-in-Whole-clause-looks g c = looks_on g.D.Disk c.args.disk.now c.load_index.new.disk c.survey_volumes.new.disk
    (looks_on g.D.Disk c.args.disk.now c.length_of.new.disk c.load_index.new.disk c.length_of.ensures.looks c.load_index.ensures.looks) c.survey_volumes.ensures.looks

pub returns-in-Stops-clause-looks : goal.returns-in-Stops-clause-looks
returns-in-Stops-clause-looks g c = looks_on g.D.Disk c.args.disk.now c.length_of.new.disk c.load_index.new.disk c.length_of.ensures.looks c.load_index.ensures.looks

pub returns-in-Stops-clause-fault : goal.returns-in-Stops-clause-fault
returns-in-Stops-clause-fault g c = λ tells.
    let files = contents_of (g.D.Disk.held c.args.disk.now) in
    let m = c.requires tells in
    let part = subst (λ h. IsIndexPart c.args.label (contents_of h Index) c.in_ok-index.field-0) (c.length_of.ensures.looks.held tells) (c.in_ok-index.ensures.index tells) in
    inl (c.args.label, c.args.meta, meta_reads (files Meta) c.args.label c.args.meta c.args.tail.end c.args.last m.has_label m.all, subst (IsIndexPart c.args.label (files Index)) c.in-Stops.is part)

pub survey_volumes-requires : goal.survey_volumes-requires
survey_volumes-requires g c = λ tells.
    let start = g.D.Disk.held c.args.disk.now in
    let same : g.D.Disk.held c.load_index.new.disk ≡ start = c.load_index.ensures.looks.held tells ∙ c.length_of.ensures.looks.held tells in
    let files = contents_of start in
    let part = subst (λ h. IsIndexPart c.args.label (contents_of h Index) c.in_ok-index.field-0) (c.length_of.ensures.looks.held tells) (c.in_ok-index.ensures.index tells) in
    let whole = subst (IsIndexPart c.args.label (files Index)) c.in-Whole.is part in
    subst (λ h. HeadStands (contents_of h) c.args.label c.args.meta c.args.tail (record { items = 0; last = c.later_entry.result }) c.in-Whole.index c.in_ok-length.length) (sym same)
    (head_stands files c.args.label c.args.meta c.args.tail c.args.last c.later_entry.result c.in-Whole.index c.in_ok-length.length (c.requires tells) whole (c.in_ok-length.ensures.length tells) c.later_entry.ensures)
