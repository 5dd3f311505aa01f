use Rattle.std.proofs.Common.{◌∙◌, ◌-◌, ◌<◌, ◌≤◌, ℕ, List, drop, subst, arith}
use Rattle.pcp_base.specs.declared.file.FileId.TheVariants.{Meta}
use Rattle.pcp_model.specs.Disk.{contents_of}
use Rattle.archive_loading.proofs.Looking.{looks_on}
use Rattle.archive_loading.specs.Metadata.{IsAdded, FitsAdded}
use Rattle.archive_loading.proofs.MetaSteps.{same_so_far, one_record_more, all_records, at_their_end, record_stops}
use Rattle.archive_loading.proofs.metadata.read_records.Goals as goal

pub returns-in_err-add_next-clause-looks : goal.returns-in_err-add_next-clause-looks
returns-in_err-add_next-clause-looks g c = looks_on g.D.Disk c.args.disk.now c.loop-at.disk c.add_next.new.disk c.loop-at.invariant.looks c.add_next.ensures.looks

pub returns-in-End-clause-looks : goal.returns-in-End-clause-looks
returns-in-End-clause-looks g c = looks_on g.D.Disk c.args.disk.now c.loop-at.disk c.add_next.new.disk c.loop-at.invariant.looks c.add_next.ensures.looks

pub returns-in-Stops-clause-looks : goal.returns-in-Stops-clause-looks
returns-in-Stops-clause-looks g c = looks_on g.D.Disk c.args.disk.now c.loop-at.disk c.add_next.new.disk c.loop-at.invariant.looks c.add_next.ensures.looks

pub returns-in-End-clause-read : goal.returns-in-End-clause-read
returns-in-End-clause-read g c = λ tells.
    let bytes : List ℕ = contents_of (g.D.Disk.held c.args.disk.now) Meta in
    let added = subst (λ h. IsAdded (drop 132 (contents_of h Meta)) (c.loop-at.at - 132) c.loop-at.meta c.add_next.new.meta c.loop-at.last c.add_next.new.last c.in_ok-add_next.field-0) (c.loop-at.invariant.looks.held tells) (c.in_ok-add_next.ensures.added tells) in
    let e = subst (IsAdded (drop 132 bytes) (c.loop-at.at - 132) c.loop-at.meta c.add_next.new.meta c.loop-at.last c.add_next.new.last) c.in-End.is added in
    all_records bytes c.loop-at.at c.args.end c.add_next.new.meta c.add_next.new.last (c.requires tells).0 c.loop-at.invariant.low (c.loop-at.invariant.within tells)
    (same_so_far bytes c.loop-at.at c.loop-at.meta c.add_next.new.meta c.loop-at.last c.add_next.new.last e.0 e.1 (c.loop-at.invariant.so_far tells)) e.2

pub returns-in-Stops-clause-read : goal.returns-in-Stops-clause-read
returns-in-Stops-clause-read g c = λ tells.
    let bytes : List ℕ = contents_of (g.D.Disk.held c.args.disk.now) Meta in
    let added = subst (λ h. IsAdded (drop 132 (contents_of h Meta)) (c.loop-at.at - 132) c.loop-at.meta c.add_next.new.meta c.loop-at.last c.add_next.new.last c.in_ok-add_next.field-0) (c.loop-at.invariant.looks.held tells) (c.in_ok-add_next.ensures.added tells) in
    let s = subst (IsAdded (drop 132 bytes) (c.loop-at.at - 132) c.loop-at.meta c.add_next.new.meta c.loop-at.last c.add_next.new.last) c.in-Stops.is added in
    record_stops bytes c.loop-at.at c.args.end c.loop-at.meta c.loop-at.last (c.requires tells).0 c.loop-at.invariant.low c.loop-at-test.true (c.loop-at.invariant.so_far tells) s.0 s.1

pub loop-at-preserved : goal.loop-at-preserved
loop-at-preserved g c =
    let fits : (c.loop-at.at < c.in-Record.next) × (c.in-Record.next ≤ c.args.end) = subst (FitsAdded c.args.end c.loop-at.at) c.in-Record.is c.in_ok-add_next.ensures.within in
    record {
      looks = looks_on g.D.Disk c.args.disk.now c.loop-at.disk c.add_next.new.disk c.loop-at.invariant.looks c.add_next.ensures.looks;
      quiet = c.in_ok-add_next.ensures.quiet ∙ c.loop-at.invariant.quiet;
      low = omega (arith, c.loop-at.invariant.low, fits.0);
      within = λ tells. fits.1;
      took = λ tells. omega (arith, c.loop-at.invariant.took tells, c.add_next.ensures.taken tells);
      so_far = λ tells.
          let bytes : List ℕ = contents_of (g.D.Disk.held c.args.disk.now) Meta in
          let added = subst (λ h. IsAdded (drop 132 (contents_of h Meta)) (c.loop-at.at - 132) c.loop-at.meta c.add_next.new.meta c.loop-at.last c.add_next.new.last c.in_ok-add_next.field-0) (c.loop-at.invariant.looks.held tells) (c.in_ok-add_next.ensures.added tells) in
          one_record_more bytes c.loop-at.at c.in-Record.next c.loop-at.meta c.add_next.new.meta c.loop-at.last c.add_next.new.last c.loop-at.invariant.low (c.loop-at.invariant.so_far tells)
          (subst (IsAdded (drop 132 bytes) (c.loop-at.at - 132) c.loop-at.meta c.add_next.new.meta c.loop-at.last c.add_next.new.last) c.in-Record.is added);
    }

pub returns-clause-read : goal.returns-clause-read
returns-clause-read g c = λ tells.
    let bytes : List ℕ = contents_of (g.D.Disk.held c.args.disk.now) Meta in
    all_records bytes c.loop-at.at c.args.end c.loop-at.meta c.loop-at.last (c.requires tells).0 c.loop-at.invariant.low (c.loop-at.invariant.within tells) (c.loop-at.invariant.so_far tells)
    (at_their_end bytes c.loop-at.at c.args.end (c.requires tells).0 c.loop-at-test.false)
