-- The last volume behind those below it.
use Rattle.std.proofs.Common.{◌≡◌, ⊎_elim, ℕ, ◌+◌, ◌<◌, ◌≤◌, List, [], ◌++◌, take, refl, sym, ap, ◌∙◌, subst, arith, Option}
use Rattle.std.specs.Prelude.{unwrap_or}
use Rattle.std.proofs.lemmas.Bool.{cases_lt}
use Rattle.pcp_base.specs.declared.file.FileId.TheVariants.{Volume}
use Rattle.pcp_model.specs.Disk.{Files, Holdings, contents_of, nothing_held}
use Rattle.pcp_outside.specs.Devices.{Becomes, made_sure}
use Rattle.pcp_outside.proofs.Results.{on_ok}
use Rattle.archive_recovery.specs.declared.mending.Last.{Last}
use Rattle.log_export.specs.Copying.{piece_of}
use Rattle.log_export.specs.Laying.{IsHeld, laid_before_meta}
use Rattle.log_export.proofs.Laid.{fresh_volume, front_piece, laid_part, no_ok, other_runs, runs_on, sure_becomes, volume_laid, volumes_laid}
use Rattle.log_export.proofs.Plans.{above_last, at_last, below_last}
use Rattle.log_export.proofs.laying.lay_up_to.Goals as goal

pub returns-in_err-lay_below-clause-lays : goal.returns-in_err-lay_below-clause-lays
returns-in_err-lay_below-clause-lays g c = λ source tells out agree start.
    let files : Files = contents_of (g.A.Disk.held c.args.source.now) in
    let below = c.lay_below.ensures.lays source tells out (λ k lt. agree k ∙ below_last files c.args.last k lt) start in
    (no_ok c.from_residual.result c.in_err-lay_below.field-0.0 (IsHeld (g.D.Disk.held c.lay_below.new.disk) (laid_before_meta out)) c.from_residual.ensures.1, below.1)

pub returns-in-Some-clause-lays : goal.returns-in-Some-clause-lays
returns-in-Some-clause-lays g c = λ source tells out agree start.
    let l : Last = c.args.last in
    let n : ℕ = l.number in
    let files : Files = contents_of (g.A.Disk.held c.args.source.now) in
    let mid : Files = contents_of (g.A.Disk.held c.lay_below.new.source) in
    let was : Holdings = g.D.Disk.held c.lay_below.new.disk in
    let is : Holdings = g.D.Disk.held c.lay.new.disk in
    let below = c.in_ok-lay_below.ensures.lays source tells out (λ k lt. agree k ∙ below_last files l k lt) start in
    let fresh : was (Volume n) ≡ nothing_held = fresh_volume out n was below.0 in
    let text : List ℕ = c.as_slice.result.now ++ piece_of 0 c.in-Some.end (mid (Volume n)) in
    let whole_is : take c.in-Some.end (files (Volume n)) ≡ out (Volume n) = sym (agree n ∙ at_last files l ∙ ap (λ (o : Option ℕ). take (unwrap_or o 0) (files (Volume n))) c.in-Some.is) in
    let text_is : text ≡ out (Volume n) =
    ap (λ t. t ++ piece_of 0 c.in-Some.end (mid (Volume n))) c.as_slice.ensures ∙ front_piece c.in-Some.end (mid (Volume n)) ∙ ap (λ h. take c.in-Some.end (contents_of h (Volume n))) (c.lay_below.ensures.looks.held source) ∙ whole_is in (
      on_ok c.lay.result (Becomes (Volume n) (made_sure (was (Volume n)) text) was is) (IsHeld is (laid_before_meta out))
          (λ change. volumes_laid out (n + 1) is (volume_laid out n was is (out (Volume n)) below.0 (sure_becomes (Volume n) text (out (Volume n)) was is fresh text_is change) refl)
          (λ k le. agree k ∙ above_last files l k (omega (arith, le))))
          (c.lay.ensures.laid source tells),
      runs_on out g.D.Disk c.args.disk.now c.lay_below.new.disk c.lay.new.disk below.1
          (other_runs out g.D.Disk c.lay_below.new.disk c.lay.new.disk (Volume n) text (laid_part out n was below.0) fresh refl text_is (c.lay.ensures.any_moment source tells)),
    )

pub returns-in-None-clause-lays : goal.returns-in-None-clause-lays
returns-in-None-clause-lays g c = λ source tells out agree start.
    let l : Last = c.args.last in
    let n : ℕ = l.number in
    let files : Files = contents_of (g.A.Disk.held c.args.source.now) in
    let below = c.in_ok-lay_below.ensures.lays source tells out (λ k lt. agree k ∙ below_last files l k lt) start in
    let this : out (Volume n) ≡ [] = agree n ∙ at_last files l ∙ ap (λ (o : Option ℕ). take (unwrap_or o 0) (files (Volume n))) c.in-None.is in (
      volumes_laid out n (g.D.Disk.held c.lay_below.new.disk) below.0
          (λ k le. ⊎_elim (λ (lt : n < k). agree k ∙ above_last files l k lt) (λ (ge : k ≤ n). subst (λ (j : ℕ). out (Volume j) ≡ []) (let e : n ≡ k = omega (arith, le, ge) in e) this) (cases_lt n k)),
      below.1,
    )
