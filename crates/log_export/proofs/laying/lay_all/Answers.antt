-- The index, the volumes, and Meta.
use Rattle.std.proofs.Common.{◌≡◌, ℕ, List, ◌++◌, take, refl, ap, ◌∙◌, subst}
use Rattle.pcp_base.specs.declared.file.FileId.TheVariants.{Meta, Index as IndexFile}
use Rattle.pcp_model.specs.Disk.{Files, Holdings, contents_of}
use Rattle.pcp_outside.specs.Devices.{Becomes, made_sure}
use Rattle.pcp_outside.proofs.Results.{on_ok}
use Rattle.archive_loading.proofs.Looking.{looks_on}
use Rattle.log_export.specs.declared.planning.Plan.{Plan}
use Rattle.log_export.specs.Copying.{piece_of}
use Rattle.log_export.specs.Laying.{BeginsOnly, IsHeld, LaysVolumes, laid_before_meta, laid_to, whole}
use Rattle.log_export.specs.Planning.{planned}
use Rattle.log_export.proofs.Laid.{front_piece, index_laid, meta_laid, meta_runs, no_ok, no_piece, none_part, other_runs, runs_on}
use Rattle.log_export.proofs.laying.lay_all.Goals as goal

pub returns-in_err-lay-clause-lays : goal.returns-in_err-lay-clause-lays
returns-in_err-lay-clause-lays g c = λ source tells start.
    let p : Plan = c.args.plan.now in
    let files : Files = contents_of (g.A.Disk.held c.args.source.now) in
    let out : Files = planned files p in
    let was : Holdings = g.D.Disk.held c.args.disk.now in
    let text : List ℕ = c.as_slice.result.now ++ piece_of 0 0 (files IndexFile) in
    let text_is : text ≡ p.index = no_piece c.as_slice.result.now (files IndexFile) ∙ c.as_slice.ensures in (
      no_ok c.from_residual.result c.in_err-lay.field-0.0 (IsHeld (g.D.Disk.held c.lay.new.disk) (λ file. whole (out file))) c.from_residual.ensures.1,
      other_runs out g.D.Disk c.args.disk.now c.lay.new.disk IndexFile text (none_part out was start) (start IndexFile) refl text_is (c.lay.ensures.any_moment source tells),
    )

pub returns-in_err-lay_volumes-clause-lays : goal.returns-in_err-lay_volumes-clause-lays
returns-in_err-lay_volumes-clause-lays g c = λ source tells start.
    let p : Plan = c.args.plan.now in
    let files : Files = contents_of (g.A.Disk.held c.args.source.now) in
    let out : Files = planned files p in
    let was : Holdings = g.D.Disk.held c.args.disk.now in
    let text : List ℕ = c.as_slice.result.now ++ piece_of 0 0 (files IndexFile) in
    let text_is : text ≡ p.index = no_piece c.as_slice.result.now (files IndexFile) ∙ c.as_slice.ensures in
    let first = other_runs out g.D.Disk c.args.disk.now c.lay.new.disk IndexFile text (none_part out was start) (start IndexFile) refl text_is (c.lay.ensures.any_moment source tells) in
    let lies = index_laid out was (g.D.Disk.held c.lay.new.disk) text start (c.in_ok-lay.ensures.laid source tells) text_is in
    let volumes = subst (λ (h : Holdings). LaysVolumes g.D.Disk (planned (contents_of h) p) c.lay.new.disk c.lay_volumes.new.disk c.lay_volumes.result) (c.lay.ensures.looks.held source) (c.lay_volumes.ensures.lays source tells) lies in (
      no_ok c.from_residual-in_err-lay_volumes.result c.in_err-lay_volumes.field-0.0 (IsHeld (g.D.Disk.held c.lay_volumes.new.disk) (λ file. whole (out file))) c.from_residual-in_err-lay_volumes.ensures.1,
      runs_on out g.D.Disk c.args.disk.now c.lay.new.disk c.lay_volumes.new.disk first volumes.1,
    )

pub returns-clause-lays : goal.returns-clause-lays
returns-clause-lays g c = λ source tells start.
    let p : Plan = c.args.plan.now in
    let files : Files = contents_of (g.A.Disk.held c.args.source.now) in
    let out : Files = planned files p in
    let was : Holdings = g.D.Disk.held c.args.disk.now in
    let text : List ℕ = c.as_slice.result.now ++ piece_of 0 0 (files IndexFile) in
    let text_is : text ≡ p.index = no_piece c.as_slice.result.now (files IndexFile) ∙ c.as_slice.ensures in
    let first = other_runs out g.D.Disk c.args.disk.now c.lay.new.disk IndexFile text (none_part out was start) (start IndexFile) refl text_is (c.lay.ensures.any_moment source tells) in
    let lies = index_laid out was (g.D.Disk.held c.lay.new.disk) text start (c.in_ok-lay.ensures.laid source tells) text_is in
    let volumes = subst (λ (h : Holdings). IsHeld (g.D.Disk.held c.lay.new.disk) (laid_to 0 (planned (contents_of h) p)) → IsHeld (g.D.Disk.held c.lay_volumes.new.disk) (laid_before_meta (planned (contents_of h) p)) × BeginsOnly g.D.Disk (planned (contents_of h) p) c.lay.new.disk c.lay_volumes.new.disk)
    (c.lay.ensures.looks.held source) (c.in_ok-lay_volumes.ensures.lays source tells) lies in
    let mid : Holdings = g.D.Disk.held c.lay_volumes.new.disk in
    let is : Holdings = g.D.Disk.held c.lay-2.new.disk in
    let source_is : g.A.Disk.held c.lay_volumes.new.source ≡ g.A.Disk.held c.args.source.now = c.lay_volumes.ensures.looks.held source ∙ c.lay.ensures.looks.held source in
    let records : List ℕ = c.as_slice-2.result.now ++ piece_of 0 p.meta (contents_of (g.A.Disk.held c.lay_volumes.new.source) Meta) in
    let records_are : records ≡ out Meta =
    ap (λ t. t ++ piece_of 0 p.meta (contents_of (g.A.Disk.held c.lay_volumes.new.source) Meta)) c.as_slice-2.ensures ∙ front_piece p.meta (contents_of (g.A.Disk.held c.lay_volumes.new.source) Meta) ∙ ap (λ h. take p.meta (contents_of h Meta)) source_is in (
      on_ok c.lay-2.result (Becomes Meta (made_sure (mid Meta) records) mid is) (IsHeld is (λ file. whole (out file))) (λ change. meta_laid out mid is records volumes.0 change records_are) (c.lay-2.ensures.laid source tells),
      runs_on out g.D.Disk c.args.disk.now c.lay_volumes.new.disk c.lay-2.new.disk (runs_on out g.D.Disk c.args.disk.now c.lay.new.disk c.lay_volumes.new.disk first volumes.1)
          (meta_runs out g.D.Disk c.lay_volumes.new.disk c.lay-2.new.disk records volumes.0 records_are (c.lay-2.ensures.any_moment source tells)),
    )

pub returns-clause-looks : goal.returns-clause-looks
returns-clause-looks g c =
    looks_on g.A.Disk c.args.source.now c.lay_volumes.new.source c.lay-2.new.source
    (looks_on g.A.Disk c.args.source.now c.lay.new.source c.lay_volumes.new.source c.lay.ensures.looks c.lay_volumes.ensures.looks) c.lay-2.ensures.looks
