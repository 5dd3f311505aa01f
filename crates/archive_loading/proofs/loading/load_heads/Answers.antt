use Rattle.std.proofs.Common.{refl, ◌≡◌, ◌∙◌, ◌+◌, ◌<◌, ◌≤◌, ℕ, List, [], ◌∷◌, length, take, sym, subst, arith}
use Rattle.std.specs.Prelude.{nat_eq}
use Rattle.pcp_model.proofs.Lists.{each-append}
use Rattle.archive_loading.specs.Volumes.{IsVolumePart}
use Rattle.archive_loading.proofs.loading.load_heads.Goals.{in-Empty, in-Headed+in_ok-push-in-Headed}
use Rattle.pcp_model.specs.Disk.{contents_of}
use Rattle.archive_loading.proofs.Looking.{looks_none, looks_on}
use Rattle.archive_loading.specs.Loaded.{IsReachable}
use Rattle.pcp_base.specs.declared.file.FileId.TheVariants.{Volume}
use Rattle.archive_loading.proofs.LabelBytes.{none_taken, one_label, labels_below, labels_so_far}
use Rattle.archive_loading.proofs.Volumes.{SoFar, RiseTo, rise_on, rise_with, none_yet, skips, adds, headed_here, one_stops, all_headed}
use Rattle.archive_loading.proofs.loading.load_heads.Goals as goal

pub loop-number-init : goal.loop-number-init
loop-number-init g c = record {
  looks = looks_none g.D.Disk g.met.D.Disk.only_now c.args.disk.now;
  quiet = refl;
  so_far = λ tells. subst (λ vs. SoFar (contents_of (g.D.Disk.held c.args.disk.now)) c.args.label.now c.args.count 0 vs) (sym c.empty-volumes.ensures) (none_yet (contents_of (g.D.Disk.held c.args.disk.now)) c.args.label.now c.args.count);
  reach = subst IsReachable (sym c.empty-volumes.ensures) tt;
  rises = subst (RiseTo 0) (sym c.empty-volumes.ensures) (tt, tt);
  took = λ tells. none_taken (g.D.Disk.taken c.args.disk.now) (contents_of (g.D.Disk.held c.args.disk.now));
}

pub returns-in-Stops-clause-looks : goal.returns-in-Stops-clause-looks
returns-in-Stops-clause-looks g c = looks_on g.D.Disk c.args.disk.now c.loop-number.disk c.load_volume.new.disk c.loop-number.invariant.looks c.load_volume.ensures.looks

pub returns-in-Stops-clause-volumes : goal.returns-in-Stops-clause-volumes
returns-in-Stops-clause-volumes g c = λ tells.
    let l = c.args.label.now in
    let n = c.loop-number.number in
    let is_last = nat_eq (n + 1) c.args.count in
    let found = subst (λ h. IsVolumePart (contents_of h) l n is_last c.in_ok-load_volume.field-0) (c.loop-number.invariant.looks.held tells) (c.in_ok-load_volume.ensures.volume tells) in
    one_stops (g.D.Disk.held c.args.disk.now) l c.args.count n c.in-Stops.at c.loop-number.volumes (c.requires tells) c.loop-number-test.true (c.loop-number.invariant.so_far tells)
    (subst (IsVolumePart (contents_of (g.D.Disk.held c.args.disk.now)) l n is_last) c.in-Stops.is found)

pub loop-number-preserved : goal.loop-number-preserved
loop-number-preserved g c =
    let l = c.args.label.now in
    let n = c.loop-number.number in
    let count = c.args.count in
    let vs : List (ℕ × ℕ) = c.loop-number.volumes in
    let files = contents_of (g.D.Disk.held c.args.disk.now) in
    let is_last = nat_eq (n + 1) count in
    record {
      looks = looks_on g.D.Disk c.args.disk.now c.loop-number.disk c.load_volume.new.disk c.loop-number.invariant.looks c.load_volume.ensures.looks;
      quiet = c.in_ok-load_volume.ensures.quiet ∙ c.loop-number.invariant.quiet;
      so_far = λ tells.
          let found = subst (λ h. IsVolumePart (contents_of h) l n is_last c.in_ok-load_volume.field-0) (c.loop-number.invariant.looks.held tells) (c.in_ok-load_volume.ensures.volume tells) in
          elim c.match-branch-2.branch [
            | in-Empty w ↦ subst (SoFar files l count (n + 1)) (sym w.volumes-is) (skips files l count n vs (subst (IsVolumePart files l n is_last) w.in-Empty.is found) (c.loop-number.invariant.so_far tells))
            | in-Headed+in_ok-push-in-Headed w ↦ subst (SoFar files l count (n + 1)) (sym (w.volumes-is ∙ w.in_ok-push-in-Headed.ensures.ok))
                (adds files l count n w.in-Headed.end vs (headed_here files l count n w.in-Headed.end (subst (IsVolumePart files l n is_last) w.in-Headed.is found)) (c.loop-number.invariant.so_far tells))
          ];
      reach = elim c.match-branch-2.branch [
        | in-Empty w ↦ subst IsReachable (sym w.volumes-is) c.loop-number.invariant.reach
        | in-Headed+in_ok-push-in-Headed w ↦ subst IsReachable (sym (w.volumes-is ∙ w.in_ok-push-in-Headed.ensures.ok))
            (each-append (λ (v : ℕ × ℕ). v.0 < 4294967295) vs ((n, w.in-Headed.end) ∷ []) c.loop-number.invariant.reach (let low : n < 4294967295 = omega (arith, c.loop-number-test.true, c.ranges.count.fits) in low, tt))
      ];
      rises = elim c.match-branch-2.branch [
        | in-Empty w ↦ subst (RiseTo (n + 1)) (sym w.volumes-is) (rise_on n vs c.loop-number.invariant.rises)
        | in-Headed+in_ok-push-in-Headed w ↦ subst (RiseTo (n + 1)) (sym (w.volumes-is ∙ w.in_ok-push-in-Headed.ensures.ok)) (rise_with n w.in-Headed.end vs c.loop-number.invariant.rises)
      ];
      took = λ tells.
          let one : g.D.Disk.taken c.load_volume.new.disk ≤ g.D.Disk.taken c.loop-number.disk + length (take 132 (files (Volume n))) =
          subst (λ h. g.D.Disk.taken c.load_volume.new.disk ≤ g.D.Disk.taken c.loop-number.disk + length (take 132 (contents_of h (Volume n)))) (c.loop-number.invariant.looks.held tells) (c.load_volume.ensures.taken tells) in
          one_label files n (g.D.Disk.taken c.args.disk.now) (g.D.Disk.taken c.loop-number.disk) (g.D.Disk.taken c.load_volume.new.disk) (c.loop-number.invariant.took tells) one;
    }

pub returns-clause-volumes : goal.returns-clause-volumes
returns-clause-volumes g c = λ tells.
    let end : c.loop-number.number ≡ c.args.count = omega (arith, c.loop-number-test.false, c.loop-number.auto.number-end) in
    all_headed (g.D.Disk.held c.args.disk.now) c.args.label.now c.args.count c.loop-number.volumes (c.requires tells)
    (subst (λ n. SoFar (contents_of (g.D.Disk.held c.args.disk.now)) c.args.label.now c.args.count n c.loop-number.volumes) end (c.loop-number.invariant.so_far tells))

pub returns-clause-taken : goal.returns-clause-taken
returns-clause-taken g c = λ tells.
    labels_so_far (contents_of (g.D.Disk.held c.args.disk.now)) c.loop-number.number c.args.count (g.D.Disk.taken c.args.disk.now) (g.D.Disk.taken c.loop-number.disk) (omega (arith, c.loop-number-test.false, c.loop-number.auto.number-end)) (c.loop-number.invariant.took tells)

pub returns-in_err-load_volume-clause-taken : goal.returns-in_err-load_volume-clause-taken
returns-in_err-load_volume-clause-taken g c = λ tells.
    let files = contents_of (g.D.Disk.held c.args.disk.now) in
    let n = c.loop-number.number in
    let one : g.D.Disk.taken c.load_volume.new.disk ≤ g.D.Disk.taken c.loop-number.disk + length (take 132 (files (Volume n))) =
    subst (λ h. g.D.Disk.taken c.load_volume.new.disk ≤ g.D.Disk.taken c.loop-number.disk + length (take 132 (contents_of h (Volume n)))) (c.loop-number.invariant.looks.held tells) (c.load_volume.ensures.taken tells) in
    labels_below files n c.args.count (g.D.Disk.taken c.args.disk.now) (g.D.Disk.taken c.loop-number.disk) (g.D.Disk.taken c.load_volume.new.disk) c.loop-number-test.true (c.loop-number.invariant.took tells) one

pub returns-in_err-push-in-Headed-clause-taken : goal.returns-in_err-push-in-Headed-clause-taken
returns-in_err-push-in-Headed-clause-taken g c = λ tells.
    let files = contents_of (g.D.Disk.held c.args.disk.now) in
    let n = c.loop-number.number in
    let one : g.D.Disk.taken c.load_volume.new.disk ≤ g.D.Disk.taken c.loop-number.disk + length (take 132 (files (Volume n))) =
    subst (λ h. g.D.Disk.taken c.load_volume.new.disk ≤ g.D.Disk.taken c.loop-number.disk + length (take 132 (contents_of h (Volume n)))) (c.loop-number.invariant.looks.held tells) (c.load_volume.ensures.taken tells) in
    labels_below files n c.args.count (g.D.Disk.taken c.args.disk.now) (g.D.Disk.taken c.loop-number.disk) (g.D.Disk.taken c.load_volume.new.disk) c.loop-number-test.true (c.loop-number.invariant.took tells) one

pub returns-in-Stops-clause-taken : goal.returns-in-Stops-clause-taken
returns-in-Stops-clause-taken g c = λ tells.
    let files = contents_of (g.D.Disk.held c.args.disk.now) in
    let n = c.loop-number.number in
    let one : g.D.Disk.taken c.load_volume.new.disk ≤ g.D.Disk.taken c.loop-number.disk + length (take 132 (files (Volume n))) =
    subst (λ h. g.D.Disk.taken c.load_volume.new.disk ≤ g.D.Disk.taken c.loop-number.disk + length (take 132 (contents_of h (Volume n)))) (c.loop-number.invariant.looks.held tells) (c.load_volume.ensures.taken tells) in
    labels_below files n c.args.count (g.D.Disk.taken c.args.disk.now) (g.D.Disk.taken c.loop-number.disk) (g.D.Disk.taken c.load_volume.new.disk) c.loop-number-test.true (c.loop-number.invariant.took tells) one
