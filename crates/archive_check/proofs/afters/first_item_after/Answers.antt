use Rattle.std.proofs.Common.{◌≡◌, ◌∙◌, ◌+◌, ℕ, List, ◌∷◌, length, drop, refl, sym, ap, subst, arith}
use Rattle.std.specs.Prelude.{slice_index_or}
use Rattle.std.proofs.lemmas.List.{drop_more, drop_all}
use Rattle.pcp_base.specs.declared.file.FileId.TheVariants.{Volume}
use Rattle.pcp_model.specs.Disk.{contents_of}
use Rattle.archive_loading.proofs.Looking.{looks_none, looks_on}
use Rattle.archive_check.specs.Sought.{IsFirstAfter}
use Rattle.archive_check.proofs.Seeking.{RestSoFar, rest_begins, rest_on, rest_ends, rest_found}
use Rattle.archive_check.proofs.Walking.{measured_at}
use Rattle.archive_check.proofs.afters.first_item_after.Goals as goal

pub loop-index-init : goal.loop-index-init
loop-index-init g c = record {
  within = omega arith;
  looks = looks_none g.D.Disk g.met.D.Disk.only_now c.args.disk.now;
  quiet = refl;
  so_far = λ tells. rest_begins (contents_of (g.D.Disk.held c.args.disk.now)) c.args.volumes.now c.args.t;
}

pub first_after-requires-clause-end : goal.first_after-requires-clause-end
first_after-requires-clause-end g c = λ tells.
    measured_at (contents_of (g.D.Disk.held c.args.disk.now)) c.args.volumes.now c.loop-index.index (0, 0) c.loop-index-test.true (c.requires tells)
    ∙ ap (λ h. length (contents_of h (Volume (slice_index_or c.args.volumes.now c.loop-index.index (0, 0)).0))) (sym (c.loop-index.invariant.looks.held tells))

pub returns-in-Some-clause-looks : goal.returns-in-Some-clause-looks
returns-in-Some-clause-looks g c = looks_on g.D.Disk c.args.disk.now c.loop-index.disk c.first_after.new.disk c.loop-index.invariant.looks c.first_after.ensures.looks

pub returns-in-Some-clause-found : goal.returns-in-Some-clause-found
returns-in-Some-clause-found g c = λ tells.
    let files = contents_of (g.D.Disk.held c.args.disk.now) in
    let vs : List (ℕ × ℕ) = c.args.volumes.now in
    let i : ℕ = c.loop-index.index in
    let v : ℕ × ℕ = slice_index_or vs i (0, 0) in
    let here : drop i vs ≡ v ∷ drop (i + 1) vs = drop_more vs i (0, 0) c.loop-index-test.true in
    rest_found files vs v (drop (i + 1) vs) c.args.t c.in_ok-stamp.field-0 (subst (RestSoFar files vs c.args.t) here (c.loop-index.invariant.so_far tells))
    (subst (λ h. IsFirstAfter (Volume v.0) (contents_of h (Volume v.0)) c.args.t c.in_ok-stamp.field-0) (c.loop-index.invariant.looks.held tells) (c.in_ok-stamp.ensures.found tells)) c.in-Some.stamp c.in-Some.is

pub loop-index-preserved : goal.loop-index-preserved
loop-index-preserved g c = record {
  within = omega (arith, c.loop-index-test.true);
  looks = looks_on g.D.Disk c.args.disk.now c.loop-index.disk c.first_after.new.disk c.loop-index.invariant.looks c.first_after.ensures.looks;
  quiet = c.in_ok-stamp.ensures.quiet ∙ c.loop-index.invariant.quiet;
  so_far = λ tells.
      let files = contents_of (g.D.Disk.held c.args.disk.now) in
      let vs : List (ℕ × ℕ) = c.args.volumes.now in
      let i : ℕ = c.loop-index.index in
      let v : ℕ × ℕ = slice_index_or vs i (0, 0) in
      let here : drop i vs ≡ v ∷ drop (i + 1) vs = drop_more vs i (0, 0) c.loop-index-test.true in
      rest_on files vs v (drop (i + 1) vs) c.args.t c.in_ok-stamp.field-0 (subst (RestSoFar files vs c.args.t) here (c.loop-index.invariant.so_far tells))
      (subst (λ h. IsFirstAfter (Volume v.0) (contents_of h (Volume v.0)) c.args.t c.in_ok-stamp.field-0) (c.loop-index.invariant.looks.held tells) (c.in_ok-stamp.ensures.found tells)) c.in-None.is;
}

pub returns-clause-found : goal.returns-clause-found
returns-clause-found g c = λ tells.
    rest_ends (contents_of (g.D.Disk.held c.args.disk.now)) c.args.volumes.now (drop c.loop-index.index c.args.volumes.now) c.args.t (drop_all c.loop-index.index c.args.volumes.now c.loop-index-test.false) (c.loop-index.invariant.so_far tells)
