-- The first volume's label where none has its own, or the volumes up to the last one.
use Rattle.std.proofs.Common.{◌≡◌, ℕ, List, ◌++◌, refl, sym, ap, ◌∙◌, Option}
use Rattle.pcp_base.specs.declared.file.FileId.TheVariants.{Volume}
use Rattle.pcp_model.specs.Disk.{Files, Holdings, contents_of, nothing_held}
use Rattle.pcp_outside.specs.Devices.{Becomes, made_sure}
use Rattle.pcp_outside.proofs.Results.{on_ok}
use Rattle.archive_recovery.specs.declared.mending.Last.{Last}
use Rattle.log_export.specs.declared.planning.Plan.{Plan}
use Rattle.log_export.specs.Copying.{piece_of}
use Rattle.log_export.specs.Laying.{IsHeld, laid_before_meta}
use Rattle.log_export.specs.Planning.{planned, planned_volume, up_to_last}
use Rattle.log_export.proofs.Laid.{fresh_volume, laid_part, no_piece, nothing_more, other_runs, sure_becomes, volume_laid, volumes_laid}
use Rattle.log_export.proofs.Plans.{given_alone, none_of}
use Rattle.log_export.proofs.laying.lay_volumes.Goals as goal

pub returns-in-Some-clause-lays : goal.returns-in-Some-clause-lays
returns-in-Some-clause-lays g c = λ source tells start.
    let p : Plan = c.args.plan.now in
    let files : Files = contents_of (g.A.Disk.held c.args.source.now) in
    let out : Files = planned files p in
    let was : Holdings = g.D.Disk.held c.args.disk.now in
    let is : Holdings = g.D.Disk.held c.lay.new.disk in
    let fresh : was (Volume 0) ≡ nothing_held = fresh_volume out 0 was start in
    let text : List ℕ = c.as_slice.result.now ++ piece_of 0 0 (files (Volume 0)) in
    let text_is : text ≡ out (Volume 0) = no_piece c.as_slice.result.now (files (Volume 0)) ∙ c.as_slice.ensures ∙ sym (ap (λ (o : Option (List ℕ)). planned_volume files o p.last 0) c.in-Some.is) in (
      on_ok c.lay.result (Becomes (Volume 0) (made_sure (was (Volume 0)) text) was is) (IsHeld is (laid_before_meta out))
          (λ change. volumes_laid out 1 is (volume_laid out 0 was is (out (Volume 0)) start (sure_becomes (Volume 0) text (out (Volume 0)) was is fresh text_is change) refl)
          (λ k le. ap (λ (o : Option (List ℕ)). planned_volume files o p.last k) c.in-Some.is ∙ given_alone c.in-Some.label k le))
          (c.lay.ensures.laid source tells),
      other_runs out g.D.Disk c.args.disk.now c.lay.new.disk (Volume 0) text (laid_part out 0 was start) fresh refl text_is (c.lay.ensures.any_moment source tells),
    )

pub returns-in-Some-last-clause-lays : goal.returns-in-Some-last-clause-lays
returns-in-Some-last-clause-lays g c = λ source tells start.
    let p : Plan = c.args.plan.now in
    let files : Files = contents_of (g.A.Disk.held c.args.source.now) in
    c.lay_up_to.ensures.lays source tells (planned files p)
    (λ n. ap (λ (o : Option (List ℕ)). planned_volume files o p.last n) (none_of p.given c.in_default.not-Some) ∙ ap (λ (o : Option Last). up_to_last files o n) c.in-Some-last.is) start

pub returns-in-None-clause-lays : goal.returns-in-None-clause-lays
returns-in-None-clause-lays g c = λ source tells start.
    let p : Plan = c.args.plan.now in
    let files : Files = contents_of (g.A.Disk.held c.args.source.now) in
    let out : Files = planned files p in
    let was : Holdings = g.D.Disk.held c.args.disk.now in (
      volumes_laid out 0 was start (λ k le. ap (λ (o : Option (List ℕ)). planned_volume files o p.last k) (none_of p.given c.in_default.not-Some) ∙ ap (λ (o : Option Last). up_to_last files o k) c.in-None.is),
      nothing_more out g.D.Disk g.met.D.Disk.only_now c.args.disk.now (laid_part out 0 was start),
    )
