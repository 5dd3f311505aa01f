use Rattle.std.proofs.Common.{sym, subst}
use Rattle.pcp_base.specs.declared.file.FileId.TheVariants.{Meta}
use Rattle.pcp_model.specs.Disk.{contents_of}
use Rattle.archive_loading.proofs.Looking.{looks_on}
use Rattle.archive_loading.specs.Metadata.{HasEnd, IsMetaPart, IsReadTo}
use Rattle.archive_recovery.specs.declared.mending.Tail.{Tail}
use Rattle.archive_recovery.specs.Surveys.{IsBegun, MetaStands}
use Rattle.archive_recovery.proofs.Surveying.{meta_stands}
use Rattle.archive_recovery.proofs.survey.sight.Goals as goal

pub returns-in_err-sighted-in-Whole-clause-looks :
    goal.returns-in_err-sighted-in-Whole-clause-looks
returns-in_err-sighted-in-Whole-clause-looks g c = looks_on g.D.Disk c.args.disk.now c.load_meta.new.disk c.survey_index.new.disk c.load_meta.ensures.looks c.survey_index.ensures.looks

pub returns-in_ok-sighted-in-Whole-clause-looks : goal.returns-in_ok-sighted-in-Whole-clause-looks
returns-in_ok-sighted-in-Whole-clause-looks g c = looks_on g.D.Disk c.args.disk.now c.load_meta.new.disk c.survey_index.new.disk c.load_meta.ensures.looks c.survey_index.ensures.looks

pub survey_index-requires : goal.survey_index-requires
survey_index-requires g c = λ tells.
    let files = contents_of (g.D.Disk.held c.args.disk.now) in
    let end : HasEnd (files Meta) c.in-Whole.label c.in-Whole.meta c.in-Whole.end = subst (IsReadTo (files Meta)) c.in-Whole.is (c.in_ok-label.ensures.end tells) in
    let tail : Tail = record { end = c.in-Whole.end.end; length = c.in-Whole.end.length } in
    subst (λ h. MetaStands (contents_of h) c.in-Whole.label c.in-Whole.meta tail c.in-Whole.end.last) (sym (c.load_meta.ensures.looks.held tells)) (meta_stands files c.in-Whole.label c.in-Whole.meta c.in-Whole.end end)

pub survey_begun-requires : goal.survey_begun-requires
survey_begun-requires g c = λ tells.
    let files = contents_of (g.D.Disk.held c.args.disk.now) in
    let part = subst (IsMetaPart (files Meta)) c.in-Begun.is (c.in_ok-label.ensures.meta tells) in
    subst (λ h. IsBegun (contents_of h) c.in-Begun.length) (sym (c.load_meta.ensures.looks.held tells)) (part.0, (part.1, part.2))
