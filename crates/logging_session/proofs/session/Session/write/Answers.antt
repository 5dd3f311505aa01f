-- What is open is written.
use Rattle.std.proofs.Common.{◌≡◌, inl, inr, refl, sym, ap, ◌∙◌, subst, arith}
use Rattle.logger_core.specs.declared.fault.LogFault.TheVariants.{Closed, DiskFault}
use Rattle.logger_core.specs.Held.{counts_of}
use Rattle.logger_core.specs.Holding.{HeldBack}
use Rattle.logger_core.proofs.Calls.{no_call}
use Rattle.logging_session.specs.declared.place.Place.TheVariants.{Found, Open, Lost, Failed}
use Rattle.logging_session.specs.Answers.{ComesBackBy}
use Rattle.logging_session.specs.Course.{HasKept}
use Rattle.logging_session.specs.Keeping.{Carried, Keeps, held_in}
use Rattle.logging_session.proofs.Course.{kept_still, went_still}
use Rattle.logging_session.proofs.Passing.{batch_passed, not_the_disk}
use Rattle.logging_session.proofs.Placed.{closed_not_working, failed_closed, few_lost, fewer_than, found_is, found_not_closed, found_not_open, lost_closed, none_lost, nothing_held, open_is, open_may_log, open_not_closed, same_count}
use Rattle.logging_session.proofs.Sessions.{batch_comes, kept_comes, put_back, with_place, writes}
use Rattle.logging_session.proofs.session.Session.write.Goals as goal

no_fault : Closed ≡ DiskFault → ⊥
no_fault e = cc

pub returns-in-Found : goal.returns-in-Found
returns-in-Found g c =
    let d = g.D.Disk in
    let s : Carried = record { label = c.self.inside.label; limit = c.self.inside.limit; logged = c.self.inside.logged; place = c.self.inside.place } in
    let old = c.args.self.now in
    let held = d.held c.args.disk.now in
    let a = c.in-Found.field-0 in
    let is : s.place ≡ Found a = c.in-Found.is in
    let was : old.place ≡ Found a = sym (ap (λ (t : Carried). t.place) c.self.view_is) ∙ is in
    let same : s ≡ old = c.self.view_is in
    record {
      done = λ tells left events k. subst (λ (t : Carried). Keeps left events t held) (sym same) k;
      any_moment = λ tells left events k. no_call d g.met.D.Disk.only_now c.args.disk.now (ComesBackBy events left) (kept_comes left events old held k);
      passed = λ tells left events start h. tt;
      went = λ tells left events start h. subst (λ (t : Carried). HasKept d left events start t c.args.disk.now) (sym same) h;
      closed = λ h. found_not_closed old a was h;
      idle = λ working nothing. (refl, same, refl);
      working = (inl (found_is old a was), inl (found_is s a is));
      none = ap held_in is;
      open_ = λ h. found_not_open old a was h;
      cause = tt;
      loses = tt;
      same = (ap (λ (t : Carried). t.label) c.self.view_is, ap (λ (t : Carried). t.limit) c.self.view_is, ap (λ (t : Carried). t.logged) c.self.view_is);
      later = same_count (d.faults c.args.disk.now);
      quiet = refl;
      untouched = tt;
    }

pub returns-in-Lost : goal.returns-in-Lost
returns-in-Lost g c =
    let d = g.D.Disk in
    let s : Carried = record { label = c.self.inside.label; limit = c.self.inside.limit; logged = c.self.inside.logged; place = c.self.inside.place } in
    let old = c.args.self.now in
    let held = d.held c.args.disk.now in
    let is : s.place ≡ Lost = c.in-Lost.is in
    let was : old.place ≡ Lost = sym (ap (λ (t : Carried). t.place) c.self.view_is) ∙ is in
    let same : s ≡ old = c.self.view_is in
    record {
      done = λ tells left events k. tt;
      any_moment = λ tells left events k. no_call d g.met.D.Disk.only_now c.args.disk.now (ComesBackBy events left) (kept_comes left events old held k);
      passed = λ tells left events start h. not_the_disk;
      went = λ tells left events start h. (lost_closed old was, subst (λ (t : Carried). HasKept d left events start t c.args.disk.now) (sym same) h);
      closed = λ h. (refl, same, refl);
      idle = λ working nothing. closed_not_working old.place (lost_closed old was) working;
      none = tt;
      working = tt;
      open_ = tt;
      cause = (lost_closed old was, same);
      loses = λ e. absurd (no_fault e);
      same = (ap (λ (t : Carried). t.label) c.self.view_is, ap (λ (t : Carried). t.limit) c.self.view_is, ap (λ (t : Carried). t.logged) c.self.view_is);
      later = same_count (d.faults c.args.disk.now);
      quiet = tt;
      untouched = λ other. refl;
    }

pub returns-in-Failed : goal.returns-in-Failed
returns-in-Failed g c =
    let d = g.D.Disk in
    let s : Carried = record { label = c.self.inside.label; limit = c.self.inside.limit; logged = c.self.inside.logged; place = c.self.inside.place } in
    let old = c.args.self.now in
    let held = d.held c.args.disk.now in
    let lost = c.in-Failed.field-0 in
    let is : s.place ≡ Failed lost = c.in-Failed.is in
    let was : old.place ≡ Failed lost = sym (ap (λ (t : Carried). t.place) c.self.view_is) ∙ is in
    let same : s ≡ old = c.self.view_is in
    record {
      done = λ tells left events k. tt;
      any_moment = λ tells left events k. no_call d g.met.D.Disk.only_now c.args.disk.now (ComesBackBy events left) (kept_comes left events old held k);
      passed = λ tells left events start h. not_the_disk;
      went = λ tells left events start h. (failed_closed old lost was, subst (λ (t : Carried). HasKept d left events start t c.args.disk.now) (sym same) h);
      closed = λ h. (refl, same, refl);
      idle = λ working nothing. closed_not_working old.place (failed_closed old lost was) working;
      none = tt;
      working = tt;
      open_ = tt;
      cause = (failed_closed old lost was, same);
      loses = λ e. absurd (no_fault e);
      same = (ap (λ (t : Carried). t.label) c.self.view_is, ap (λ (t : Carried). t.limit) c.self.view_is, ap (λ (t : Carried). t.logged) c.self.view_is);
      later = same_count (d.faults c.args.disk.now);
      quiet = tt;
      untouched = λ other. refl;
    }

pub returns-in-Ok : goal.returns-in-Ok
returns-in-Ok g c =
    let d = g.D.Disk in
    let s : Carried = record { label = c.self.inside.label; limit = c.self.inside.limit; logged = c.self.inside.logged; place = c.self.inside.place } in
    let old = c.args.self.now in
    let held = d.held c.args.disk.now in
    let first = c.args.disk.now in
    let last = c.write_held.new.disk in
    let batch = c.in-Open.batch in
    let now = c.write_held.new.batch in
    let is : s.place ≡ Open batch = c.in-Open.is in
    let was : old.place ≡ Open batch = sym (ap (λ (t : Carried). t.place) c.self.view_is) ∙ is in
    let new : with_place s (Open now) ≡ with_place old (Open now) = ap (λ (t : Carried). with_place t (Open now)) c.self.view_is in
    let label = ap (λ (t : Carried). t.label) c.self.view_is in
    let limit = ap (λ (t : Carried). t.limit) c.self.view_is in
    let emptied = c.in-Ok.ensures.emptied in
    let idle = c.write_held.ensures.idle in
    record {
      done = λ tells left events k. subst (λ (t : Carried). Keeps left events t (d.held last)) (sym new)
          (writes left events old held k batch now (d.held last) was (c.in-Ok.ensures.done tells) emptied (λ none. ap d.held (idle (ap counts_of none)).2));
      any_moment = λ tells left events k. batch_comes d left events old first last k batch was (c.write_held.ensures.any_moment tells);
      passed = λ tells left events start h. tt;
      went = λ tells left events start h. kept_still d left g.met.D.Disk.only_now start first last old (with_place s (Open now)) label limit events h
          (batch_comes d left events old first last h.keeps batch was (c.write_held.ensures.any_moment tells))
          (subst (λ (t : Carried). Keeps left events t (d.held last)) (sym new) (writes left events old held h.keeps batch now (d.held last) was (c.in-Ok.ensures.done tells) emptied (λ none. ap d.held (idle (ap counts_of none)).2)))
          (ap (λ (x : HeldBack). counts_of x.runs) emptied);
      closed = λ h. open_not_closed old batch was h;
      idle = λ working nothing.
          let still = idle (sym (ap held_in was) ∙ nothing) in (refl, put_back s old (Open now) c.self.view_is (is ∙ ap (λ (x : HeldBack). Open x) (sym still.1)), still.2);
      none = ap (λ (x : HeldBack). counts_of x.runs) emptied;
      working = (inr (open_is old batch was), inr tt);
      open_ = λ h. tt;
      cause = tt;
      loses = tt;
      same = (label, limit, ap (λ (t : Carried). t.logged) c.self.view_is);
      later = c.write_held.ensures.later;
      quiet = c.in-Ok.ensures.quiet;
      untouched = tt;
    }

pub returns-in-Err : goal.returns-in-Err
returns-in-Err g c =
    let d = g.D.Disk in
    let s : Carried = record { label = c.self.inside.label; limit = c.self.inside.limit; logged = c.self.inside.logged; place = c.self.inside.place } in
    let old = c.args.self.now in
    let first = c.args.disk.now in
    let last = c.write_held.new.disk in
    let batch = c.in-Open.batch in
    let is : s.place ≡ Open batch = c.in-Open.is in
    let was : old.place ≡ Open batch = sym (ap (λ (t : Carried). t.place) c.self.view_is) ∙ is in
    let lost = c.in-Err.ensures.lost in
    record {
      done = λ tells left events k. tt;
      any_moment = λ tells left events k. batch_comes d left events old first last k batch was (c.write_held.ensures.any_moment tells);
      passed = λ tells left events start h is_fault. batch_passed d left events start c.args.disk.now c.write_held.new.disk old (with_place s (Failed c.in-Err.lost)) (ap (λ (t : Carried). t.label) c.self.view_is) (ap (λ (t : Carried). t.limit) c.self.view_is) h batch was c.in-Err.lost refl (λ m o pending i. c.in-Err.ensures.passed tells m o pending i);
      went = λ tells left events start h. went_still d left old.label old.limit events start first last h.went (batch_comes d left events old first last h.keeps batch was (c.write_held.ensures.any_moment tells));
      closed = λ h. open_not_closed old batch was h;
      idle = λ working nothing. absurd (omega (arith, lost.0, lost.1, ap held_in was, nothing));
      none = tt;
      working = tt;
      open_ = tt;
      cause = (open_is old batch was, tt, fewer_than old batch was c.in-Err.lost lost.1, lost.2);
      loses = λ e. lost.0;
      same = (ap (λ (t : Carried). t.label) c.self.view_is, ap (λ (t : Carried). t.limit) c.self.view_is, ap (λ (t : Carried). t.logged) c.self.view_is);
      later = c.write_held.ensures.later;
      quiet = tt;
      untouched = λ other. absurd (other refl);
    }

pub write_held-requires : goal.write_held-requires
write_held-requires g c =
    let s : Carried = record { label = c.self.inside.label; limit = c.self.inside.limit; logged = c.self.inside.logged; place = c.self.inside.place } in
    record { open_ = (open_may_log s c.in-Open.batch c.in-Open.is c.self.invariant.logger).0 }

pub invariant_of-self-in-Ok : goal.invariant_of-self-in-Ok
invariant_of-self-in-Ok g c =
    let s : Carried = record { label = c.self.inside.label; limit = c.self.inside.limit; logged = c.self.inside.logged; place = c.self.inside.place } in
    let may = open_may_log s c.in-Open.batch c.in-Open.is c.self.invariant.logger in
    let emptied = c.in-Ok.ensures.emptied in
    record {
      low = c.self.invariant.low;
      high = c.self.invariant.high;
      logger = (ap (λ (x : HeldBack). x.kept.closed) emptied ∙ may.0, ap (λ (x : HeldBack). x.kept.limit) emptied ∙ may.1);
      held = nothing_held c.write_held.new.batch c.self.inside.logged (ap (λ (x : HeldBack). x.runs) emptied);
      lost = none_lost c.self.inside.logged;
    }

pub invariant_of-self-in-Err : goal.invariant_of-self-in-Err
invariant_of-self-in-Err g c =
    let s : Carried = record { label = c.self.inside.label; limit = c.self.inside.limit; logged = c.self.inside.logged; place = c.self.inside.place } in
    record { low = c.self.invariant.low; high = c.self.invariant.high; logger = tt; held = none_lost c.self.inside.logged; lost = few_lost s c.in-Open.batch c.in-Open.is c.in-Err.lost c.in-Err.ensures.lost.1 c.self.invariant.held }
