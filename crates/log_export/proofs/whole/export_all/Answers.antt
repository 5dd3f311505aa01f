-- What stands, what the source is, and what is laid.
use Rattle.std.proofs.Common.{refl, sym, ◌∙◌, subst, Option}
use Rattle.pcp_base.specs.declared.file.FileId.{FileId}
use Rattle.pcp_model.specs.Disk.{Files, Holdings, contents_of, nothing_held}
use Rattle.archive_loading.proofs.Looking.{looks_on}
use Rattle.log_export.specs.declared.planning.Plan.{Plan}
use Rattle.log_export.specs.Exporting.{export_side}
use Rattle.log_export.specs.Laying.{BeginsOnly, IsHeld, LaysWhole, whole}
use Rattle.log_export.specs.Planning.{IsPlanOf, IsPlanned, planned}
use Rattle.log_export.specs.Standing.{IsFirstStanding, IsFree}
use Rattle.log_export.proofs.Outcome.{archive_exported, held_none, looked_laid, nothing_exported}
use Rattle.log_export.proofs.Plans.{none_of}
use Rattle.log_export.proofs.whole.export_all.Goals as goal

pub returns-in_default-2-clause-exports : goal.returns-in_default-2-clause-exports
returns-in_default-2-clause-exports g c =
    let p = export_side g.A.Disk c.args.source.now c.plan_export.new.disk g.D.Disk c.args.disk.now c.standing_file.new.disk in
    let was : Holdings = g.D.Disk.held c.args.disk.now in
    let files : Files = contents_of (g.A.Disk.held c.args.source.now) in
    let free : g.D.Disk.tells → IsFree (contents_of was) (g.D.Disk.wrapped_file c.args.disk.now) =
    λ tells. subst (λ (o : Option FileId). IsFirstStanding (contents_of was) (g.D.Disk.wrapped_file c.args.disk.now) o) (none_of c.in_ok-file.field-0 c.in_default.not-Some) (c.in_ok-file.ensures.first tells) in (
      record { source = c.in_ok-plan.ensures.quiet; disk = c.in_ok-file.ensures.cause.quiet refl },
      free,
      λ source tells. nothing_exported p (c.in_ok-plan.ensures.unwrapped source)
          (subst (λ (o : Option Plan). IsPlanned files o) (none_of c.in_ok-plan.field-0 c.in_default-2.not-Some) (c.in_ok-plan.ensures.planned source))
          (subst (λ (h : Holdings). IsHeld h (λ file. nothing_held)) (sym (c.standing_file.ensures.looks.held tells)) (held_none was (free tells).0)),
    )

pub returns-in_err-lay_all-clause-any_moment : goal.returns-in_err-lay_all-clause-any_moment
returns-in_err-lay_all-clause-any_moment g c = λ source tells.
    let p = export_side g.A.Disk c.args.source.now c.lay_all.new.source g.D.Disk c.args.disk.now c.lay_all.new.disk in
    let plan : Plan = c.in-Some-2.plan in
    let was : Holdings = g.D.Disk.held c.args.disk.now in
    let files : Files = contents_of (g.A.Disk.held c.args.source.now) in
    let free : IsFree (contents_of was) (g.D.Disk.wrapped_file c.args.disk.now) =
    subst (λ (o : Option FileId). IsFirstStanding (contents_of was) (g.D.Disk.wrapped_file c.args.disk.now) o) (none_of c.in_ok-file.field-0 c.in_default.not-Some) (c.in_ok-file.ensures.first tells) in
    let is : IsPlanOf files plan = subst (λ (o : Option Plan). IsPlanned files o) c.in-Some-2.is (c.in_ok-plan.ensures.planned source) in
    let start : IsHeld (g.D.Disk.held c.standing_file.new.disk) (λ file. nothing_held) = subst (λ (h : Holdings). IsHeld h (λ file. nothing_held)) (sym (c.standing_file.ensures.looks.held tells)) (held_none was free.0) in
    let laid = subst (λ (h : Holdings). LaysWhole g.D.Disk (planned (contents_of h) plan) c.standing_file.new.disk c.lay_all.new.disk c.lay_all.result) (c.plan_export.ensures.looks.held source) (c.lay_all.ensures.lays source tells) start in
    looked_laid p c.standing_file.new.disk plan free is c.standing_file.ensures.looks laid.1 tells

pub returns-in_err-lay_all-clause-source : goal.returns-in_err-lay_all-clause-source
returns-in_err-lay_all-clause-source g c = looks_on g.A.Disk c.args.source.now c.plan_export.new.disk c.lay_all.new.source c.plan_export.ensures.looks c.lay_all.ensures.looks

pub returns-clause-exports : goal.returns-clause-exports
returns-clause-exports g c =
    let p = export_side g.A.Disk c.args.source.now c.lay_all.new.source g.D.Disk c.args.disk.now c.lay_all.new.disk in
    let plan : Plan = c.in-Some-2.plan in
    let was : Holdings = g.D.Disk.held c.args.disk.now in
    let is : Holdings = g.D.Disk.held c.lay_all.new.disk in
    let files : Files = contents_of (g.A.Disk.held c.args.source.now) in
    let free : g.D.Disk.tells → IsFree (contents_of was) (g.D.Disk.wrapped_file c.args.disk.now) =
    λ tells. subst (λ (o : Option FileId). IsFirstStanding (contents_of was) (g.D.Disk.wrapped_file c.args.disk.now) o) (none_of c.in_ok-file.field-0 c.in_default.not-Some) (c.in_ok-file.ensures.first tells) in (
      record { source = c.in_ok-lay_all.ensures.source_quiet ∙ c.in_ok-plan.ensures.quiet; disk = c.in_ok-lay_all.ensures.disk_quiet ∙ c.in_ok-file.ensures.cause.quiet refl },
      free,
      λ source tells.
          let plan_is : IsPlanOf files plan = subst (λ (o : Option Plan). IsPlanned files o) c.in-Some-2.is (c.in_ok-plan.ensures.planned source) in
          let start : IsHeld (g.D.Disk.held c.standing_file.new.disk) (λ file. nothing_held) =
          subst (λ (h : Holdings). IsHeld h (λ file. nothing_held)) (sym (c.standing_file.ensures.looks.held tells)) (held_none was (free tells).0) in
          let laid = subst (λ (h : Holdings). IsHeld (g.D.Disk.held c.standing_file.new.disk) (λ file. nothing_held) → IsHeld is (λ file. whole (planned (contents_of h) plan file)) × BeginsOnly g.D.Disk (planned (contents_of h) plan) c.standing_file.new.disk c.lay_all.new.disk)
          (c.plan_export.ensures.looks.held source) (c.in_ok-lay_all.ensures.lays source tells) start in
          archive_exported p plan (c.in_ok-plan.ensures.unwrapped source) plan_is laid.0,
    )

pub returns-clause-any_moment : goal.returns-clause-any_moment
returns-clause-any_moment g c = λ source tells.
    let p = export_side g.A.Disk c.args.source.now c.lay_all.new.source g.D.Disk c.args.disk.now c.lay_all.new.disk in
    let plan : Plan = c.in-Some-2.plan in
    let was : Holdings = g.D.Disk.held c.args.disk.now in
    let files : Files = contents_of (g.A.Disk.held c.args.source.now) in
    let free : IsFree (contents_of was) (g.D.Disk.wrapped_file c.args.disk.now) =
    subst (λ (o : Option FileId). IsFirstStanding (contents_of was) (g.D.Disk.wrapped_file c.args.disk.now) o) (none_of c.in_ok-file.field-0 c.in_default.not-Some) (c.in_ok-file.ensures.first tells) in
    let is : IsPlanOf files plan = subst (λ (o : Option Plan). IsPlanned files o) c.in-Some-2.is (c.in_ok-plan.ensures.planned source) in
    let start : IsHeld (g.D.Disk.held c.standing_file.new.disk) (λ file. nothing_held) = subst (λ (h : Holdings). IsHeld h (λ file. nothing_held)) (sym (c.standing_file.ensures.looks.held tells)) (held_none was free.0) in
    let laid = subst (λ (h : Holdings). LaysWhole g.D.Disk (planned (contents_of h) plan) c.standing_file.new.disk c.lay_all.new.disk c.lay_all.result) (c.plan_export.ensures.looks.held source) (c.lay_all.ensures.lays source tells) start in
    looked_laid p c.standing_file.new.disk plan free is c.standing_file.ensures.looks laid.1 tells

pub returns-clause-source : goal.returns-clause-source
returns-clause-source g c = looks_on g.A.Disk c.args.source.now c.plan_export.new.disk c.lay_all.new.source c.plan_export.ensures.looks c.lay_all.ensures.looks
