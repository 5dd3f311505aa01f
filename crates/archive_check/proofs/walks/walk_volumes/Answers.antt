use Rattle.std.proofs.Common.{◌≡◌, ◌∙◌, ◌+◌, ℕ, List, ◌∷◌, length, drop, refl, sym, ap, subst, arith}
use Rattle.std.specs.Prelude.{slice_index_or}
use Rattle.std.proofs.lemmas.List.{drop_more, drop_all}
use Rattle.pcp_base.specs.declared.file.FileId.TheVariants.{Volume}
use Rattle.pcp_model.specs.Disk.{contents_of}
use Rattle.archive_loading.proofs.Looking.{looks_none, looks_on}
use Rattle.archive_check.specs.Marks.{mark_at}
use Rattle.archive_check.specs.Walked.{IsWalked}
use Rattle.archive_check.proofs.Walking.{VolumesSoFar, volumes_begin, volumes_on, volumes_end, measured_at}
use Rattle.archive_check.proofs.walks.walk_volumes.Goals as goal

pub loop-index-init : goal.loop-index-init
loop-index-init g c = record {
  within = omega arith;
  looks = looks_none g.D.Disk g.met.D.Disk.only_now c.args.disk.now;
  quiet = refl;
  so_far = λ tells. volumes_begin (contents_of (g.D.Disk.held c.args.disk.now)) c.args.volumes.now (mark_at c.args.marks.now) c.no_records-tally.result c.no_records-tally.ensures;
}

pub walk-requires-clause-end : goal.walk-requires-clause-end
walk-requires-clause-end g c = λ tells.
    measured_at (contents_of (g.D.Disk.held c.args.disk.now)) c.args.volumes.now c.loop-index.index (0, 0) c.loop-index-test.true (c.requires tells)
    ∙ ap (λ h. length (contents_of h (Volume (slice_index_or c.args.volumes.now c.loop-index.index (0, 0)).0))) (sym (c.loop-index.invariant.looks.held tells))

pub loop-index-preserved : goal.loop-index-preserved
loop-index-preserved g c = record {
  within = omega (arith, c.loop-index-test.true);
  looks = looks_on g.D.Disk c.args.disk.now c.loop-index.disk c.walk.new.disk c.loop-index.invariant.looks c.walk.ensures.looks;
  quiet = c.in_ok-tally.ensures.quiet ∙ c.loop-index.invariant.quiet;
  so_far = λ tells.
      let files = contents_of (g.D.Disk.held c.args.disk.now) in
      let vs : List (ℕ × ℕ) = c.args.volumes.now in
      let i : ℕ = c.loop-index.index in
      let v : ℕ × ℕ = slice_index_or vs i (0, 0) in
      let here : drop i vs ≡ v ∷ drop (i + 1) vs = drop_more vs i (0, 0) c.loop-index-test.true in
      volumes_on files vs v (drop (i + 1) vs) (mark_at c.args.marks.now) (mark_at c.loop-index.marks) (mark_at c.walk.new.marks) c.loop-index.tally c.in_ok-tally.tally
      (subst (λ l. VolumesSoFar files vs l (mark_at c.args.marks.now) (mark_at c.loop-index.marks) c.loop-index.tally) here (c.loop-index.invariant.so_far tells))
      (subst (λ h. IsWalked (Volume v.0) (contents_of h (Volume v.0)) c.loop-index.tally (mark_at c.loop-index.marks) (mark_at c.walk.new.marks) c.in_ok-tally.tally) (c.loop-index.invariant.looks.held tells) (c.in_ok-tally.ensures.walked tells));
}

pub returns-clause-walked : goal.returns-clause-walked
returns-clause-walked g c = λ tells.
    volumes_end (contents_of (g.D.Disk.held c.args.disk.now)) c.args.volumes.now (drop c.loop-index.index c.args.volumes.now) (mark_at c.args.marks.now) (mark_at c.loop-index.marks) c.loop-index.tally
    (drop_all c.loop-index.index c.args.volumes.now c.loop-index-test.false) (c.loop-index.invariant.so_far tells)
