-- A volume more.
use Rattle.std.proofs.Common.{◌≡◌, ℕ, ◌<◌, length, refl, sym, ap, ◌∙◌, subst, arith}
use Rattle.pcp_base.specs.declared.file.FileId.TheVariants.{Volume}
use Rattle.pcp_model.specs.Disk.{Holdings, contents_of}
use Rattle.archive_loading.proofs.Looking.{looks_none, looks_on}
use Rattle.log_export.specs.Laying.{IsHeld, laid_to}
use Rattle.log_export.proofs.Laid.{fresh_volume, laid_part, no_ok, nothing_more, other_runs, runs_on, volume_laid}
use Rattle.log_export.proofs.laying.lay_below.Goals as goal

pub loop-number-init : goal.loop-number-init
loop-number-init g c = record {
  room = refl;
  looks = looks_none g.A.Disk g.met.A.Disk.only_now c.args.source.now;
  source_quiet = refl;
  disk_quiet = refl;
  goes = λ source tells out agree start. (start, nothing_more out g.D.Disk g.met.D.Disk.only_now c.args.disk.now (laid_part out 0 (g.D.Disk.held c.args.disk.now) start));
}

pub lay_volume-requires-clause-countable : goal.lay_volume-requires-clause-countable
lay_volume-requires-clause-countable g c = λ source.
    subst (λ (h : Holdings). length (contents_of h (Volume c.loop-number.number)) < 18446744073709551615) (sym (c.loop-number.invariant.looks.held source)) (c.requires.countable source c.loop-number.number)

pub returns-in_err-lay_volume-clause-lays : goal.returns-in_err-lay_volume-clause-lays
returns-in_err-lay_volume-clause-lays g c = λ source tells out agree start.
    let n : ℕ = c.loop-number.number in
    let so = c.loop-number.invariant.goes source tells out agree start in
    let text_is : contents_of (g.A.Disk.held c.loop-number.source) (Volume n) ≡ out (Volume n) = ap (λ h. contents_of h (Volume n)) (c.loop-number.invariant.looks.held source) ∙ sym (agree n c.loop-number-test.true) in (
      no_ok c.from_residual.result c.in_err-lay_volume.field-0.0 (IsHeld (g.D.Disk.held c.lay_volume.new.disk) (laid_to c.args.count out)) c.from_residual.ensures.1,
      runs_on out g.D.Disk c.args.disk.now c.loop-number.disk c.lay_volume.new.disk so.1
          (other_runs out g.D.Disk c.loop-number.disk c.lay_volume.new.disk (Volume n) (contents_of (g.A.Disk.held c.loop-number.source) (Volume n)) (laid_part out n (g.D.Disk.held c.loop-number.disk) so.0) (fresh_volume out n (g.D.Disk.held c.loop-number.disk) so.0) refl text_is
          (c.lay_volume.ensures.any_moment source tells)),
    )

pub returns-in_err-lay_volume-clause-looks : goal.returns-in_err-lay_volume-clause-looks
returns-in_err-lay_volume-clause-looks g c = looks_on g.A.Disk c.args.source.now c.loop-number.source c.lay_volume.new.source c.loop-number.invariant.looks c.lay_volume.ensures.looks

pub returns-in_err-lay_volume-clause-later : goal.returns-in_err-lay_volume-clause-later
returns-in_err-lay_volume-clause-later g c = omega (arith, c.lay_volume.ensures.later, c.loop-number.invariant.disk_quiet)

pub loop-number-preserved : goal.loop-number-preserved
loop-number-preserved g c = record {
  room = c.lay_volume.ensures.room ∙ c.loop-number.invariant.room;
  looks = looks_on g.A.Disk c.args.source.now c.loop-number.source c.lay_volume.new.source c.loop-number.invariant.looks c.lay_volume.ensures.looks;
  source_quiet = c.in_ok-lay_volume.ensures.source_quiet ∙ c.loop-number.invariant.source_quiet;
  disk_quiet = c.in_ok-lay_volume.ensures.disk_quiet ∙ c.loop-number.invariant.disk_quiet;
  goes = λ source tells out agree start.
      let n : ℕ = c.loop-number.number in
      let so = c.loop-number.invariant.goes source tells out agree start in
      let fresh = fresh_volume out n (g.D.Disk.held c.loop-number.disk) so.0 in
      let text_is : contents_of (g.A.Disk.held c.loop-number.source) (Volume n) ≡ out (Volume n) = ap (λ h. contents_of h (Volume n)) (c.loop-number.invariant.looks.held source) ∙ sym (agree n c.loop-number-test.true) in (
        volume_laid out n (g.D.Disk.held c.loop-number.disk) (g.D.Disk.held c.lay_volume.new.disk) (contents_of (g.A.Disk.held c.loop-number.source) (Volume n)) so.0 (c.in_ok-lay_volume.ensures.laid source tells fresh) text_is,
        runs_on out g.D.Disk c.args.disk.now c.loop-number.disk c.lay_volume.new.disk so.1
            (other_runs out g.D.Disk c.loop-number.disk c.lay_volume.new.disk (Volume n) (contents_of (g.A.Disk.held c.loop-number.source) (Volume n)) (laid_part out n (g.D.Disk.held c.loop-number.disk) so.0) fresh refl text_is (c.lay_volume.ensures.any_moment source tells)),
      );
}
