use Rattle.std.proofs.Common.{◌≡◌, ◌∙◌, ℕ, ◌+◌, ◌-◌, List, ◌∷◌, drop, subst, arith}
use Rattle.std.specs.Prelude.{slice_index_or}
use Rattle.std.proofs.lemmas.List.{drop_more}
use Rattle.pcp_model.specs.Disk.{contents_of}
use Rattle.archive_loading.proofs.Looking.{looks_on}
use Rattle.archive_reader.specs.Values.{HasLastHit, IsPassFault, IsValueFault}
use Rattle.archive_reader.proofs.Spanned.{handed_on}
use Rattle.archive_reader.proofs.Valued.{ShowsNone, none_here, hit_here, stops_here, none_at_all}
use Rattle.archive_reader.proofs.values.last_hit.Goals as goal

pub returns-in_err-at-clause-fault : goal.returns-in_err-at-clause-fault
returns-in_err-at-clause-fault g c = λ tells.
    let files = contents_of (g.D.Disk.held c.args.disk.now) in
    let volumes : List (ℕ × ℕ) = c.args.volumes.now in
    let index : ℕ = c.loop-left.left - 1 in
    let v : ℕ × ℕ = slice_index_or volumes index (0, 0) in
    let here : drop index volumes ≡ v ∷ drop (index + 1) volumes = drop_more volumes index (0, 0) (omega (arith, c.loop-left-test.true, c.loop-left.invariant.within)) in
    let same : c.loop-left.left ≡ index + 1 = omega (arith, c.loop-left-test.true) in
    let above = subst (λ n. ShowsNone files (drop n volumes) c.args.pmid c.args.t) same (c.loop-left.invariant.above tells) in
    let fault = subst (λ h. IsPassFault (contents_of h) (drop index volumes) c.in_err-at.field-0.0) (c.loop-left.invariant.looks.held tells) (c.in_err-at.ensures.fault tells) in
    handed_on c.from_residual.result c.in_err-at.field-0.0 (IsValueFault files volumes c.args.pmid c.args.t) c.from_residual.ensures.1 (stops_here files volumes c.args.pmid c.args.t index v here above c.in_err-at.field-0.0 fault)

pub returns-in-Some-clause-found : goal.returns-in-Some-clause-found
returns-in-Some-clause-found g c = λ tells.
    let files = contents_of (g.D.Disk.held c.args.disk.now) in
    let volumes : List (ℕ × ℕ) = c.args.volumes.now in
    let index : ℕ = c.loop-left.left - 1 in
    let v : ℕ × ℕ = slice_index_or volumes index (0, 0) in
    let here : drop index volumes ≡ v ∷ drop (index + 1) volumes = drop_more volumes index (0, 0) (omega (arith, c.loop-left-test.true, c.loop-left.invariant.within)) in
    let same : c.loop-left.left ≡ index + 1 = omega (arith, c.loop-left-test.true) in
    let above = subst (λ n. ShowsNone files (drop n volumes) c.args.pmid c.args.t) same (c.loop-left.invariant.above tells) in
    let hit = subst (λ h. HasLastHit (contents_of h) (drop index volumes) c.args.pmid c.args.t c.in_ok-at.field-0) (c.loop-left.invariant.looks.held tells) (c.in_ok-at.ensures.found tells) in
    hit_here files volumes c.args.pmid c.args.t index v here above c.in-Some.at (subst (HasLastHit files (drop index volumes) c.args.pmid c.args.t) c.in-Some.is hit)

pub loop-left-preserved : goal.loop-left-preserved
loop-left-preserved g c = record {
  within = omega (arith, c.loop-left.invariant.within);
  looks = looks_on g.D.Disk c.args.disk.now c.loop-left.disk c.hit_in.new.disk c.loop-left.invariant.looks c.hit_in.ensures.looks;
  quiet = c.in_ok-at.ensures.quiet ∙ c.loop-left.invariant.quiet;
  above = λ tells.
      let files = contents_of (g.D.Disk.held c.args.disk.now) in
      let volumes : List (ℕ × ℕ) = c.args.volumes.now in
      let index : ℕ = c.loop-left.left - 1 in
      let v : ℕ × ℕ = slice_index_or volumes index (0, 0) in
      let here : drop index volumes ≡ v ∷ drop (index + 1) volumes = drop_more volumes index (0, 0) (omega (arith, c.loop-left-test.true, c.loop-left.invariant.within)) in
      let same : c.loop-left.left ≡ index + 1 = omega (arith, c.loop-left-test.true) in
      let above = subst (λ n. ShowsNone files (drop n volumes) c.args.pmid c.args.t) same (c.loop-left.invariant.above tells) in
      let hit = subst (λ h. HasLastHit (contents_of h) (drop index volumes) c.args.pmid c.args.t c.in_ok-at.field-0) (c.loop-left.invariant.looks.held tells) (c.in_ok-at.ensures.found tells) in
      none_here files volumes c.args.pmid c.args.t index v here above (subst (HasLastHit files (drop index volumes) c.args.pmid c.args.t) c.in-None.is hit);
}

pub returns-clause-found : goal.returns-clause-found
returns-clause-found g c = λ tells.
    let files = contents_of (g.D.Disk.held c.args.disk.now) in
    let volumes : List (ℕ × ℕ) = c.args.volumes.now in
    let none : c.loop-left.left ≡ 0 = omega (arith, c.loop-left-test.false) in
    none_at_all files volumes c.args.pmid c.args.t (subst (λ n. ShowsNone files (drop n volumes) c.args.pmid c.args.t) none (c.loop-left.invariant.above tells))
