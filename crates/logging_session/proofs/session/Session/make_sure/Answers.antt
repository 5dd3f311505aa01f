-- What is open is made sure.
use Rattle.std.proofs.Common.{◌≡◌, inl, inr, refl, sym, ap, ◌∙◌, subst}
use Rattle.logger_core.specs.Held.{counts_of}
use Rattle.logger_core.proofs.Calls.{no_call}
use Rattle.logging_session.specs.declared.place.Place.TheVariants.{Found, Open, Lost, Failed}
use Rattle.logging_session.specs.Answers.{ComesBackBy}
use Rattle.logging_session.specs.Events.{behind, sure_event}
use Rattle.logging_session.specs.Keeping.{Carried, Keeps, held_in}
use Rattle.logging_session.proofs.Passing.{batch_passed, not_the_disk}
use Rattle.logging_session.proofs.Placed.{failed_closed, failed_not_found, few_lost, fewer_than, found_is, found_not_closed, found_not_open, lost_closed, lost_not_found, none_lost, nothing_held, open_is, open_may_log, open_not_closed, open_not_found, same_count}
use Rattle.logging_session.proofs.Sessions.{batch_comes, idle_settles, idles, kept_comes, makes_sure, sure_settles, with_place}
use Rattle.logging_session.proofs.session.Session.make_sure.Goals as goal

pub returns-in-Found : goal.returns-in-Found
returns-in-Found g c =
    let d = g.D.Disk in
    let s : Carried = record { label = c.self.inside.label; limit = c.self.inside.limit; logged = c.self.inside.logged; place = c.self.inside.place } in
    let old = c.args.self.now in
    let held = d.held c.args.disk.now in
    let a = c.in-Found.field-0 in
    let is : s.place ≡ Found a = c.in-Found.is in
    let was : old.place ≡ Found a = sym (ap (λ (t : Carried). t.place) c.self.view_is) ∙ is in
    let same : s ≡ old = c.self.view_is in
    record {
      done = λ tells left events k. subst (λ (t : Carried). Keeps left (behind events (sure_event c.args.puts_entry)) t held) (sym same) (idles left events old held k a was (sure_event c.args.puts_entry));
      settled = λ tells left events k. idle_settles left events old held k a was;
      any_moment = λ tells left events k. no_call d g.met.D.Disk.only_now c.args.disk.now (ComesBackBy events left) (kept_comes left events old held k);
      passed = λ tells left events start h. tt;
      closed = λ h. found_not_closed old a was h;
      idle = λ h. (refl, same, refl);
      working = (inl (found_is old a was), inl (found_is s a is));
      none = ap held_in is;
      open_ = λ h. found_not_open old a was h;
      cause = tt;
      same = (ap (λ (t : Carried). t.label) c.self.view_is, ap (λ (t : Carried). t.limit) c.self.view_is, ap (λ (t : Carried). t.logged) c.self.view_is);
      later = same_count (d.faults c.args.disk.now);
      quiet = refl;
      untouched = tt;
    }

pub returns-in-Lost : goal.returns-in-Lost
returns-in-Lost g c =
    let d = g.D.Disk in
    let s : Carried = record { label = c.self.inside.label; limit = c.self.inside.limit; logged = c.self.inside.logged; place = c.self.inside.place } in
    let old = c.args.self.now in
    let held = d.held c.args.disk.now in
    let is : s.place ≡ Lost = c.in-Lost.is in
    let was : old.place ≡ Lost = sym (ap (λ (t : Carried). t.place) c.self.view_is) ∙ is in
    let same : s ≡ old = c.self.view_is in
    record {
      done = λ tells left events k. tt;
      settled = λ tells left events k. tt;
      any_moment = λ tells left events k. no_call d g.met.D.Disk.only_now c.args.disk.now (ComesBackBy events left) (kept_comes left events old held k);
      passed = λ tells left events start h. not_the_disk;
      closed = λ h. (refl, same, refl);
      idle = λ h. lost_not_found old was h;
      none = tt;
      working = tt;
      open_ = tt;
      cause = (lost_closed old was, same);
      same = (ap (λ (t : Carried). t.label) c.self.view_is, ap (λ (t : Carried). t.limit) c.self.view_is, ap (λ (t : Carried). t.logged) c.self.view_is);
      later = same_count (d.faults c.args.disk.now);
      quiet = tt;
      untouched = λ other. refl;
    }

pub returns-in-Failed : goal.returns-in-Failed
returns-in-Failed g c =
    let d = g.D.Disk in
    let s : Carried = record { label = c.self.inside.label; limit = c.self.inside.limit; logged = c.self.inside.logged; place = c.self.inside.place } in
    let old = c.args.self.now in
    let held = d.held c.args.disk.now in
    let lost = c.in-Failed.field-0 in
    let is : s.place ≡ Failed lost = c.in-Failed.is in
    let was : old.place ≡ Failed lost = sym (ap (λ (t : Carried). t.place) c.self.view_is) ∙ is in
    let same : s ≡ old = c.self.view_is in
    record {
      done = λ tells left events k. tt;
      settled = λ tells left events k. tt;
      any_moment = λ tells left events k. no_call d g.met.D.Disk.only_now c.args.disk.now (ComesBackBy events left) (kept_comes left events old held k);
      passed = λ tells left events start h. not_the_disk;
      closed = λ h. (refl, same, refl);
      idle = λ h. failed_not_found old lost was h;
      none = tt;
      working = tt;
      open_ = tt;
      cause = (failed_closed old lost was, same);
      same = (ap (λ (t : Carried). t.label) c.self.view_is, ap (λ (t : Carried). t.limit) c.self.view_is, ap (λ (t : Carried). t.logged) c.self.view_is);
      later = same_count (d.faults c.args.disk.now);
      quiet = tt;
      untouched = λ other. refl;
    }

pub returns-in-Ok : goal.returns-in-Ok
returns-in-Ok g c =
    let d = g.D.Disk in
    let s : Carried = record { label = c.self.inside.label; limit = c.self.inside.limit; logged = c.self.inside.logged; place = c.self.inside.place } in
    let old = c.args.self.now in
    let held = d.held c.args.disk.now in
    let after = d.held c.make_batch_sure.new.disk in
    let batch = c.in-Open.batch in
    let now = c.make_batch_sure.new.batch in
    let is : s.place ≡ Open batch = c.in-Open.is in
    let was : old.place ≡ Open batch = sym (ap (λ (t : Carried). t.place) c.self.view_is) ∙ is in
    let new : with_place s (Open now) ≡ with_place old (Open now) = ap (λ (t : Carried). with_place t (Open now)) c.self.view_is in
    let o = c.in-Ok.ensures.open_ in
    record {
      done = λ tells left events k. subst (λ (t : Carried). Keeps left (behind events (sure_event c.args.puts_entry)) t after) (sym new)
          (makes_sure left events old held k batch now after was o.0 o.1 o.2 o.3 (c.in-Ok.ensures.sure tells) c.args.puts_entry (c.in-Ok.ensures.done tells));
      settled = λ tells left events k. sure_settles left events old held k batch now after was o.0 o.1 o.2 o.3 (c.in-Ok.ensures.sure tells) c.args.puts_entry (c.in-Ok.ensures.done tells);
      any_moment = λ tells left events k. batch_comes d left events old c.args.disk.now c.make_batch_sure.new.disk k batch was (c.make_batch_sure.ensures.any_moment tells);
      passed = λ tells left events start h. tt;
      closed = λ h. open_not_closed old batch was h;
      idle = λ h. open_not_found old batch was h;
      none = ap counts_of o.2;
      working = (inr (open_is old batch was), inr tt);
      open_ = λ h. tt;
      cause = tt;
      same = (ap (λ (t : Carried). t.label) c.self.view_is, ap (λ (t : Carried). t.limit) c.self.view_is, ap (λ (t : Carried). t.logged) c.self.view_is);
      later = c.make_batch_sure.ensures.later;
      quiet = c.in-Ok.ensures.quiet;
      untouched = tt;
    }

pub returns-in-Err : goal.returns-in-Err
returns-in-Err g c =
    let d = g.D.Disk in
    let s : Carried = record { label = c.self.inside.label; limit = c.self.inside.limit; logged = c.self.inside.logged; place = c.self.inside.place } in
    let old = c.args.self.now in
    let batch = c.in-Open.batch in
    let is : s.place ≡ Open batch = c.in-Open.is in
    let was : old.place ≡ Open batch = sym (ap (λ (t : Carried). t.place) c.self.view_is) ∙ is in
    record {
      done = λ tells left events k. tt;
      settled = λ tells left events k. tt;
      any_moment = λ tells left events k. batch_comes d left events old c.args.disk.now c.make_batch_sure.new.disk k batch was (c.make_batch_sure.ensures.any_moment tells);
      passed = λ tells left events start h is_fault. batch_passed d left events start c.args.disk.now c.make_batch_sure.new.disk old (with_place s (Failed c.in-Err.lost)) (ap (λ (t : Carried). t.label) c.self.view_is) (ap (λ (t : Carried). t.limit) c.self.view_is) h batch was c.in-Err.lost refl (λ m o pending i. c.in-Err.ensures.passed tells m o pending i);
      closed = λ h. open_not_closed old batch was h;
      idle = λ h. open_not_found old batch was h;
      none = tt;
      working = tt;
      open_ = tt;
      cause = (open_is old batch was, tt, fewer_than old batch was c.in-Err.lost c.in-Err.ensures.lost.0, c.in-Err.ensures.lost.1);
      same = (ap (λ (t : Carried). t.label) c.self.view_is, ap (λ (t : Carried). t.limit) c.self.view_is, ap (λ (t : Carried). t.logged) c.self.view_is);
      later = c.make_batch_sure.ensures.later;
      quiet = tt;
      untouched = λ other. absurd (other refl);
    }

pub make_batch_sure-requires : goal.make_batch_sure-requires
make_batch_sure-requires g c =
    let s : Carried = record { label = c.self.inside.label; limit = c.self.inside.limit; logged = c.self.inside.logged; place = c.self.inside.place } in
    record { open_ = (open_may_log s c.in-Open.batch c.in-Open.is c.self.invariant.logger).0 }

pub invariant_of-self-in-Ok : goal.invariant_of-self-in-Ok
invariant_of-self-in-Ok g c =
    let s : Carried = record { label = c.self.inside.label; limit = c.self.inside.limit; logged = c.self.inside.logged; place = c.self.inside.place } in
    let may = open_may_log s c.in-Open.batch c.in-Open.is c.self.invariant.logger in
    let o = c.in-Ok.ensures.open_ in
    record { low = c.self.invariant.low; high = c.self.invariant.high; logger = (o.1, o.0 ∙ may.1); held = nothing_held c.make_batch_sure.new.batch c.self.inside.logged o.2; lost = none_lost c.self.inside.logged }

pub invariant_of-self-in-Err : goal.invariant_of-self-in-Err
invariant_of-self-in-Err g c =
    let s : Carried = record { label = c.self.inside.label; limit = c.self.inside.limit; logged = c.self.inside.logged; place = c.self.inside.place } in
    record { low = c.self.invariant.low; high = c.self.invariant.high; logger = tt; held = none_lost c.self.inside.logged; lost = few_lost s c.in-Open.batch c.in-Open.is c.in-Err.lost c.in-Err.ensures.lost.0 c.self.invariant.held }
