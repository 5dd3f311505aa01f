-- The archive is opened, where it isn't open.
use Rattle.std.proofs.Common.{Result, Ok, Err, ◌≡◌, inl, inr, refl, sym, ap, ◌∙◌}
use Rattle.std.specs.Prelude.{OnOk}
use Rattle.logger_core.proofs.Calls.{no_call}
use Rattle.logging_session.specs.declared.place.Place.TheVariants.{Found, Open, Lost, Failed}
use Rattle.logging_session.specs.Answers.{ComesBackBy}
use Rattle.logging_session.specs.Keeping.{IsOpen, IsWorking, Carried}
use Rattle.logging_session.proofs.Placed.{failed_closed, failed_not_open, found_is, found_not_closed, found_not_open, lost_closed, lost_not_open, open_is, open_not_closed, open_not_found, same_count}
use Rattle.logging_session.proofs.Sessions.{kept_comes, opens_no_more}
use Rattle.logging_session.proofs.session.Session.open_for.Goals as goal

on_ok : {T E : Type 0} (r : Result T E) (P Q : Type 0) → (P → Q) → OnOk r P → OnOk r Q
on_ok (Ok v) P Q f p = f p
on_ok (Err e) P Q f p = tt

pub open_found-requires : goal.open_found-requires
open_found-requires g c =
    let s : Carried = record { label = c.self.inside.label; limit = c.self.inside.limit; logged = c.self.inside.logged; place = c.self.inside.place } in
    let is : s.place ≡ Found c.in-Found.field-0 = c.in-Found.is in
    record { found = found_is c.args.self.now c.in-Found.field-0 (sym (ap (λ (t : Carried). t.place) c.self.view_is) ∙ is) }

pub returns-in-Found : goal.returns-in-Found
returns-in-Found g c =
    let s : Carried = record { label = c.self.inside.label; limit = c.self.inside.limit; logged = c.self.inside.logged; place = c.self.inside.place } in
    let old = c.args.self.now in
    let a = c.in-Found.field-0 in
    let is : s.place ≡ Found a = c.in-Found.is in
    let was : old.place ≡ Found a = sym (ap (λ (t : Carried). t.place) c.self.view_is) ∙ is in
    record {
      done = λ tells left events k. c.open_found.ensures.done tells left events k;
      any_moment = λ tells left events k. c.open_found.ensures.any_moment tells left events k;
      refused = λ tells left events k. c.open_found.ensures.refused tells left events k;
      closed = λ h. found_not_closed old a was h;
      stays = λ h. found_not_open old a was h;
      counts = λ found tells left events k. c.open_found.ensures.counts tells left events k;
      held = c.open_found.ensures.held;
      labelled = c.open_found.ensures.labelled;
      untouched = c.open_found.ensures.untouched;
      open_ = on_ok c.open_found.result (IsOpen c.open_found.new.self) (IsWorking old × IsOpen c.open_found.new.self) (λ open_. (inl (found_is old a was), open_)) c.open_found.ensures.open_;
      cause = c.open_found.ensures.cause;
      same = c.open_found.ensures.same;
      later = c.open_found.ensures.later;
      quiet = c.open_found.ensures.quiet;
    }

pub returns-in-Open : goal.returns-in-Open
returns-in-Open g c =
    let d = g.D.Disk in
    let s : Carried = record { label = c.self.inside.label; limit = c.self.inside.limit; logged = c.self.inside.logged; place = c.self.inside.place } in
    let old = c.args.self.now in
    let held = d.held c.args.disk.now in
    let logger = c.in-Open.field-0 in
    let is : s.place ≡ Open logger = c.in-Open.is in
    let was : old.place ≡ Open logger = sym (ap (λ (t : Carried). t.place) c.self.view_is) ∙ is in
    record {
      done = λ tells left events k. opens_no_more left events old held k logger was c.args.stamp;
      any_moment = λ tells left events k. no_call d g.met.D.Disk.only_now c.args.disk.now (ComesBackBy events left) (kept_comes left events old held k);
      refused = λ tells left events k. tt;
      closed = λ h. open_not_closed old logger was h;
      stays = λ h. (refl, refl, refl);
      counts = λ found tells left events k. open_not_found old logger was found;
      held = refl;
      labelled = λ h. refl;
      untouched = tt;
      open_ = (inr (open_is old logger was), open_is old logger was);
      cause = tt;
      same = (refl, refl, refl);
      later = same_count (d.faults c.args.disk.now);
      quiet = refl;
    }

pub returns-in-Lost : goal.returns-in-Lost
returns-in-Lost g c =
    let d = g.D.Disk in
    let s : Carried = record { label = c.self.inside.label; limit = c.self.inside.limit; logged = c.self.inside.logged; place = c.self.inside.place } in
    let old = c.args.self.now in
    let held = d.held c.args.disk.now in
    let is : s.place ≡ Lost = c.in-Lost.is in
    let was : old.place ≡ Lost = sym (ap (λ (t : Carried). t.place) c.self.view_is) ∙ is in
    record {
      done = λ tells left events k. tt;
      any_moment = λ tells left events k. no_call d g.met.D.Disk.only_now c.args.disk.now (ComesBackBy events left) (kept_comes left events old held k);
      refused = λ tells left events k other. k;
      closed = λ h. (refl, refl, refl);
      stays = λ h. lost_not_open old was h;
      counts = λ found tells left events k. tt;
      held = tt;
      labelled = λ h. refl;
      untouched = λ other. refl;
      open_ = tt;
      cause = (lost_closed old was, refl);
      same = (refl, refl, refl);
      later = same_count (d.faults c.args.disk.now);
      quiet = tt;
    }

pub returns-in-Failed : goal.returns-in-Failed
returns-in-Failed g c =
    let d = g.D.Disk in
    let s : Carried = record { label = c.self.inside.label; limit = c.self.inside.limit; logged = c.self.inside.logged; place = c.self.inside.place } in
    let old = c.args.self.now in
    let held = d.held c.args.disk.now in
    let lost = c.in-Failed.field-0 in
    let is : s.place ≡ Failed lost = c.in-Failed.is in
    let was : old.place ≡ Failed lost = sym (ap (λ (t : Carried). t.place) c.self.view_is) ∙ is in
    record {
      done = λ tells left events k. tt;
      any_moment = λ tells left events k. no_call d g.met.D.Disk.only_now c.args.disk.now (ComesBackBy events left) (kept_comes left events old held k);
      refused = λ tells left events k other. k;
      closed = λ h. (refl, refl, refl);
      stays = λ h. failed_not_open old lost was h;
      counts = λ found tells left events k. tt;
      held = tt;
      labelled = λ h. refl;
      untouched = λ other. refl;
      open_ = tt;
      cause = (failed_closed old lost was, refl);
      same = (refl, refl, refl);
      later = same_count (d.faults c.args.disk.now);
      quiet = tt;
    }
