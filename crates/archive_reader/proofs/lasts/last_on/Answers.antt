use Rattle.std.proofs.Common.{◌∙◌, ◌<◌, ℕ, List, length, drop, refl, sym, subst, arith, Some, None}
use Rattle.pcp_model.specs.Disk.{contents_of}
use Rattle.archive_loading.proofs.Looking.{looks_none, looks_on}
use Rattle.std.specs.List.{AllByRecursion}
use Rattle.archive_loading.specs.Loaded.{IsMeasured}
use Rattle.archive_reader.specs.Steps.{IsAhead, IsAheadFault, IsAheadIn}
use Rattle.archive_reader.specs.Asked.{IsSegmentFault}
use Rattle.archive_reader.specs.Takes.{TookNext}
use Rattle.archive_reader.proofs.Spanned.{LastSoFar, handed_on, nothing_yet, goes_on, stops_here, takes_next, takes_here, last_here, last_more}
use Rattle.archive_reader.proofs.lasts.last_on.Goals as goal

pub loop-init : goal.loop-init
loop-init g c = record {
  within = c.requires.within;
  looks = looks_none g.D.Disk g.met.D.Disk.only_now c.args.disk.now;
  quiet = refl;
  so_far = λ tells. nothing_yet (contents_of (g.D.Disk.held c.args.disk.now)) c.args.volumes.now c.args.index c.args.at (g.D.Disk.taken c.args.disk.now) (LastSoFar c.args.t None) (tt, refl);
}

pub returns-in-End-clause-found : goal.returns-in-End-clause-found
returns-in-End-clause-found g c = λ tells.
    let files = contents_of (g.D.Disk.held c.args.disk.now) in
    let volumes : List (ℕ × ℕ) = c.args.volumes.now in
    let step = subst (λ h. IsAhead (contents_of h) volumes c.loop.index c.loop.at c.args.t c.in_ok-next_ahead.field-0) (c.loop.invariant.looks.held tells) (c.in_ok-next_ahead.ensures.found tells) in
    last_here files volumes c.args.index c.args.at (g.D.Disk.taken c.args.disk.now) c.args.t c.loop.found c.loop.index c.loop.at (g.D.Disk.taken c.loop.disk) (c.loop.invariant.so_far tells) (subst (IsAhead files volumes c.loop.index c.loop.at c.args.t) c.in-End.is step)

pub returns-in-End-clause-count : goal.returns-in-End-clause-count
returns-in-End-clause-count g c = λ tells.
    let files = contents_of (g.D.Disk.held c.args.disk.now) in
    let volumes : List (ℕ × ℕ) = c.args.volumes.now in
    let so_far = c.loop.invariant.so_far tells in
    let past = subst (λ h. TookNext (contents_of h) (drop c.loop.index volumes) c.loop.at (g.D.Disk.taken c.loop.disk) (g.D.Disk.taken c.next_ahead.new.disk)) (c.loop.invariant.looks.held tells) (c.next_ahead.ensures.count tells) in
    takes_next files volumes c.args.index c.args.at (g.D.Disk.taken c.args.disk.now) (LastSoFar c.args.t c.loop.found) c.loop.index c.loop.at (g.D.Disk.taken c.loop.disk) so_far c.args.t (g.D.Disk.taken c.next_ahead.new.disk) so_far.kept.0 past

pub returns-in-End-clause-looks : goal.returns-in-End-clause-looks
returns-in-End-clause-looks g c = looks_on g.D.Disk c.args.disk.now c.loop.disk c.next_ahead.new.disk c.loop.invariant.looks c.next_ahead.ensures.looks

pub returns-in_err-next_ahead-clause-count : goal.returns-in_err-next_ahead-clause-count
returns-in_err-next_ahead-clause-count g c = λ tells.
    let files = contents_of (g.D.Disk.held c.args.disk.now) in
    let volumes : List (ℕ × ℕ) = c.args.volumes.now in
    let so_far = c.loop.invariant.so_far tells in
    let past = subst (λ h. TookNext (contents_of h) (drop c.loop.index volumes) c.loop.at (g.D.Disk.taken c.loop.disk) (g.D.Disk.taken c.next_ahead.new.disk)) (c.loop.invariant.looks.held tells) (c.next_ahead.ensures.count tells) in
    takes_next files volumes c.args.index c.args.at (g.D.Disk.taken c.args.disk.now) (LastSoFar c.args.t c.loop.found) c.loop.index c.loop.at (g.D.Disk.taken c.loop.disk) so_far c.args.t (g.D.Disk.taken c.next_ahead.new.disk) so_far.kept.0 past

pub returns-in_err-next_ahead-clause-looks : goal.returns-in_err-next_ahead-clause-looks
returns-in_err-next_ahead-clause-looks g c = looks_on g.D.Disk c.args.disk.now c.loop.disk c.next_ahead.new.disk c.loop.invariant.looks c.next_ahead.ensures.looks

pub returns-in_err-last-in-Item-clause-count : goal.returns-in_err-last-in-Item-clause-count
returns-in_err-last-in-Item-clause-count g c = λ tells.
    let files = contents_of (g.D.Disk.held c.args.disk.now) in
    let volumes : List (ℕ × ℕ) = c.args.volumes.now in
    let so_far = c.loop.invariant.so_far tells in
    let past = subst (λ h. TookNext (contents_of h) (drop c.loop.index volumes) c.loop.at (g.D.Disk.taken c.loop.disk) (g.D.Disk.taken c.next_ahead.new.disk)) (c.loop.invariant.looks.held tells) (c.next_ahead.ensures.count tells) in
    takes_next files volumes c.args.index c.args.at (g.D.Disk.taken c.args.disk.now) (LastSoFar c.args.t c.loop.found) c.loop.index c.loop.at (g.D.Disk.taken c.loop.disk) so_far c.args.t (g.D.Disk.taken c.next_ahead.new.disk) so_far.kept.0 past

pub returns-in_err-last-in-Item-clause-looks : goal.returns-in_err-last-in-Item-clause-looks
returns-in_err-last-in-Item-clause-looks g c = looks_on g.D.Disk c.args.disk.now c.loop.disk c.next_ahead.new.disk c.loop.invariant.looks c.next_ahead.ensures.looks

pub returns-in_err-next_ahead-clause-fault : goal.returns-in_err-next_ahead-clause-fault
returns-in_err-next_ahead-clause-fault g c = λ tells.
    let files = contents_of (g.D.Disk.held c.args.disk.now) in
    let volumes : List (ℕ × ℕ) = c.args.volumes.now in
    let so_far = c.loop.invariant.so_far tells in
    let stop = subst (λ h. IsAheadFault (contents_of h) (drop c.loop.index volumes) c.loop.at c.in_err-next_ahead.field-0.0) (c.loop.invariant.looks.held tells) (c.in_err-next_ahead.ensures.fault tells) in
    handed_on c.from_residual.result c.in_err-next_ahead.field-0.0 (IsSegmentFault files (drop c.args.index volumes) c.args.at c.args.t) c.from_residual.ensures.1
    (stops_here files volumes c.args.index c.args.at (g.D.Disk.taken c.args.disk.now) (LastSoFar c.args.t c.loop.found) c.loop.index c.loop.at (g.D.Disk.taken c.loop.disk) so_far c.args.t so_far.kept.0 c.in_err-next_ahead.field-0.0 stop)

pub returns-clause-count : goal.returns-clause-count
returns-clause-count g c = λ tells.
    let so_far = c.loop.invariant.so_far tells in
    takes_here (contents_of (g.D.Disk.held c.args.disk.now)) c.args.volumes.now c.args.index c.args.at (g.D.Disk.taken c.args.disk.now) (LastSoFar c.args.t c.loop.found) c.loop.index c.loop.at (g.D.Disk.taken c.loop.disk) so_far c.args.t so_far.kept.0

pub loop-preserved : goal.loop-preserved
loop-preserved g c = record {
  within = let lt : c.in-Item.behind < length c.args.volumes.now = subst (IsAheadIn c.args.volumes.now) c.in-Item.is c.in_ok-next_ahead.ensures.within in omega (arith, lt);
  looks = looks_on g.D.Disk c.args.disk.now c.loop.disk c.next_ahead.new.disk c.loop.invariant.looks c.next_ahead.ensures.looks;
  quiet = c.in_ok-next_ahead.ensures.quiet ∙ c.loop.invariant.quiet;
  so_far = λ tells.
      let files = contents_of (g.D.Disk.held c.args.disk.now) in
      let volumes : List (ℕ × ℕ) = c.args.volumes.now in
      let step = subst (IsAhead files volumes c.loop.index c.loop.at c.args.t) c.in-Item.is (subst (λ h. IsAhead (contents_of h) volumes c.loop.index c.loop.at c.args.t c.in_ok-next_ahead.field-0) (c.loop.invariant.looks.held tells) (c.in_ok-next_ahead.ensures.found tells)) in
      let past = subst (λ h. TookNext (contents_of h) (drop c.loop.index volumes) c.loop.at (g.D.Disk.taken c.loop.disk) (g.D.Disk.taken c.next_ahead.new.disk)) (c.loop.invariant.looks.held tells) (c.next_ahead.ensures.count tells) in
      goes_on files volumes c.args.index c.args.at (g.D.Disk.taken c.args.disk.now) (LastSoFar c.args.t c.loop.found) (LastSoFar c.args.t (Some c.in_ok-last-in-Item.last)) c.loop.index c.loop.at (g.D.Disk.taken c.loop.disk) (g.D.Disk.taken c.next_ahead.new.disk) c.in-Item.item c.in-Item.behind c.in-Item.next
      (c.loop.invariant.so_far tells) step.0 past (last_more c.args.t c.loop.found c.in-Item.item c.in_ok-last-in-Item.last c.in_ok-last-in-Item.ensures step.1);
}

pub next_ahead-requires-clause-lengths : goal.next_ahead-requires-clause-lengths
next_ahead-requires-clause-lengths g c = λ tells.
    subst (λ h. AllByRecursion (IsMeasured (contents_of h)) c.args.volumes.now) (sym (c.loop.invariant.looks.held tells)) (c.requires.lengths tells)
