-- What is planned is the export of what was walked.
use Rattle.std.proofs.Common.{◌≡◌, ℕ, pos, ◌<◌, Bool, ap, ◌∙◌, refl, subst, sym, Option, Some, None}
use Rattle.std.specs.Prelude.{IfSome, if◌then◌else◌, nat_lt}
use Rattle.std.specs.List.{list_all}
use Rattle.pcp_base.specs.declared.file.FileId.TheVariants.{Index}
use Rattle.pcp_model.specs.Disk.{Files, contents_of}
use Rattle.pcp_model.specs.LabelFields.{LabelFields}
use Rattle.pcp_model.specs.Labels.{label}
use Rattle.archive_loading.specs.Loaded.{IsReachable, Loaded}
use Rattle.archive_reader.specs.Walks.{next_offset, volumes_from}
use Rattle.archive_recovery.specs.declared.mending.Last.{Last}
use Rattle.log_export.specs.declared.walking.Walk.{Walk}
use Rattle.log_export.specs.Planning.{index_text, is_bare, last_of}
use Rattle.archive_loading.proofs.Looking.{looks_none, looks_on}
use Rattle.log_export.proofs.Planned.{archive_of, planned_is}
use Rattle.log_export.proofs.Plans.{low_last}
use Rattle.log_export.proofs.planning.plan_walked.Goals as goal

pub meta_end-requires : goal.meta_end-requires
meta_end-requires g c = λ tells.
    let r = c.args.reader.now in
    archive_of (contents_of (g.D.Disk.held c.args.disk.now)) r.records r.entries r.volumes c.args.walk (c.requires.walked tells) r.label (c.requires.over tells) (c.requires.labelled tells)

pub returns-then-not-are_countable-clause-looks : goal.returns-then-not-are_countable-clause-looks
returns-then-not-are_countable-clause-looks g c = looks_none g.D.Disk g.met.D.Disk.only_now c.args.disk.now

pub returns-in_err-index-clause-looks : goal.returns-in_err-index-clause-looks
returns-in_err-index-clause-looks g c =
    looks_on g.D.Disk c.args.disk.now c.length_of.new.disk c.index_text.new.disk (looks_on g.D.Disk c.args.disk.now c.meta_end.new.disk c.length_of.new.disk c.meta_end.ensures.looks c.length_of.ensures.looks) c.index_text.ensures.looks

pub returns-in_err-given-clause-looks : goal.returns-in_err-given-clause-looks
returns-in_err-given-clause-looks g c =
    looks_on g.D.Disk c.args.disk.now c.length_of.new.disk c.index_text.new.disk (looks_on g.D.Disk c.args.disk.now c.meta_end.new.disk c.length_of.new.disk c.meta_end.ensures.looks c.length_of.ensures.looks) c.index_text.ensures.looks

pub returns-clause-looks : goal.returns-clause-looks
returns-clause-looks g c =
    looks_on g.D.Disk c.args.disk.now c.length_of.new.disk c.index_text.new.disk (looks_on g.D.Disk c.args.disk.now c.meta_end.new.disk c.length_of.new.disk c.meta_end.ensures.looks c.length_of.ensures.looks) c.index_text.ensures.looks

pub returns-clause-plan : goal.returns-clause-plan
returns-clause-plan g c = λ tells.
    let r : Loaded = c.args.reader.now in
    let w : Walk = c.args.walk in
    let label_is : LabelFields = c.in_ok-label.label in
    let files : Files = contents_of (g.D.Disk.held c.args.disk.now) in
    let volumes : c.volumes-volumes.result.now ≡ r.volumes = c.volumes-volumes.ensures in
    let same : g.D.Disk.held c.length_of.new.disk ≡ g.D.Disk.held c.args.disk.now = c.length_of.ensures.looks.held tells ∙ c.meta_end.ensures.looks.held tells in
    planned_is files r.records r.entries r.volumes w (c.requires.walked tells) r.label (c.requires.over tells) (c.requires.labelled tells) (label_is, c.in_ok-label.meta) (c.in_ok-label.ensures.end tells)
    (record { meta = c.in_ok-label.meta; index = c.in_ok-index.index; last = c.last_of.result; given = c.in_ok-given.given; items = w.items })
    refl
    (c.in_ok-index.ensures.text tells
    ∙ ap (λ h. index_text (contents_of h Index) c.index.result.now label_is c.volumes-volumes.result.now) same
    ∙ ap (λ es. index_text (files Index) es label_is c.volumes-volumes.result.now) c.index.ensures
    ∙ ap (λ vs. index_text (files Index) r.entries label_is vs) volumes)
    (c.last_of.ensures ∙ ap (λ vs. last_of c.offset_behind.result vs) volumes ∙ ap (λ at. last_of at r.volumes) (c.offset_behind.ensures ∙ ap (λ vs. next_offset (volumes_from w.end.volume vs) w.end.offset) volumes))
    (c.in_ok-given.ensures ∙ ap (λ (b : Bool). if b then Some (label label_is (pos 0)) else None) (c.is_bare.ensures ∙ ap is_bare volumes))
    refl
    (sym (c.are_countable.ensures ∙ ap (list_all (λ (v : ℕ × ℕ). nat_lt v.1 18446744073709551615)) volumes) ∙ c.if-not-are_countable.false)

pub returns-clause-low : goal.returns-clause-low
returns-clause-low g c =
    let volumes : c.volumes-volumes.result.now ≡ c.args.reader.now.volumes = c.volumes-volumes.ensures in
    subst (λ (o : Option Last). IfSome o (λ (l : Last). l.number < 4294967295)) (sym c.last_of.ensures)
    (low_last c.offset_behind.result c.volumes-volumes.result.now (subst IsReachable (sym volumes) c.requires.reachable))
