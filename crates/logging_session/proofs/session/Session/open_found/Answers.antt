-- The archive is opened that recovery left.
use Rattle.std.proofs.Common.{◌≡◌, [], refl, sym, ap, ◌∙◌, subst}
use Rattle.pcp_model.specs.Disk.{contents_of}
use Rattle.pcp_outside.proofs.Crash.{weaker}
use Rattle.logger_core.specs.Held.{counts_of}
use Rattle.logger_core.specs.Holding.{HeldBack}
use Rattle.logging_session.specs.declared.place.Place.TheVariants.{Found, Lost, Open}
use Rattle.logging_session.specs.Answers.{ComesBackBy, CountsAll, WantsMemory}
use Rattle.logging_session.specs.ComingBack.{ComesBackTo}
use Rattle.logging_session.specs.Keeping.{Carried, HasLabel, Keeps, held_in}
use Rattle.logging_session.specs.Written.{starting}
use Rattle.logging_session.proofs.Counting.{opened_counts}
use Rattle.logging_session.proofs.Placed.{found_is, lost_answers, open_answers, open_rose}
use Rattle.logging_session.proofs.Sessions.{found_comes, loses, opens, when_found, with_place}
use Rattle.logging_session.proofs.session.Session.open_found.Goals as goal

pub returns-in-Ok : goal.returns-in-Ok
returns-in-Ok g c =
    let d = g.D.Disk in
    let s : Carried = record { label = c.self.inside.label; limit = c.self.inside.limit; logged = c.self.inside.logged; place = c.self.inside.place } in
    let old = c.args.self.now in
    let held = d.held c.args.disk.now in
    let a = c.in-Found.archive in
    let after = d.held c.open.new.disk in
    let logger = c.in-Ok.logger in
    let b = c.of.result in
    let is : s.place ≡ Found a = sym c.replace.ensures.value ∙ c.in-Found.is in
    let was : old.place ≡ Found a = sym (ap (λ (t : Carried). t.place) c.self.view_is) ∙ is in
    record {
      done = λ tells left events k.
          opens left events s held (subst (λ (t : Carried). Keeps left events t held) (sym c.self.view_is) k) a c.args.stamp logger b after is (c.in-Ok.ensures.opened tells (when_found left events old held k a was).0) (λ m l. c.of.ensures.holding m after l)
          (ap (λ (x : HeldBack). x.kept.closed) c.of.ensures.same ∙ c.in-Ok.ensures.open_.0, ap (λ (x : HeldBack). x.kept.limit) c.of.ensures.same ∙ c.in-Ok.ensures.open_.1) (ap (λ (x : HeldBack). x.planned) c.of.ensures.same);
      any_moment = λ tells left events k.
          weaker d.moment d.left_since d.held c.args.disk.now c.open.new.disk (ComesBackTo [] 0 (contents_of held)) (ComesBackBy events left) (c.open.ensures.any_moment tells (when_found left events old held k a was).0) (found_comes left events old held k a was);
      refused = λ tells left events k. tt;
      counts = λ tells left events k.
          subst (λ (x : HeldBack). CountsAll (Open x)) (sym c.of.ensures.same) (refl, opened_counts (starting s.label c.args.stamp) (contents_of held) logger after (c.in-Ok.ensures.opened tells (when_found left events old held k a was).0));
      held = ap (λ (x : HeldBack). counts_of x.runs) c.of.ensures.same ∙ sym (ap held_in was);
      labelled = λ h. c.open.ensures.labelled (subst HasLabel was h);
      untouched = tt;
      open_ = tt;
      cause = tt;
      same = (ap (λ (t : Carried). t.label) c.self.view_is, ap (λ (t : Carried). t.limit) c.self.view_is, ap (λ (t : Carried). t.logged) c.self.view_is);
      later = c.open.ensures.later;
      quiet = c.in-Ok.ensures.quiet;
    }

pub returns-in-NoMemory : goal.returns-in-NoMemory
returns-in-NoMemory g c =
    let d = g.D.Disk in
    let s : Carried = record { label = c.self.inside.label; limit = c.self.inside.limit; logged = c.self.inside.logged; place = c.self.inside.place } in
    let old = c.args.self.now in
    let held = d.held c.args.disk.now in
    let a = c.in-Found.archive in
    let is : s.place ≡ Found a = sym c.replace.ensures.value ∙ c.in-Found.is in
    let was : old.place ≡ Found a = sym (ap (λ (t : Carried). t.place) c.self.view_is) ∙ is in
    record {
      done = λ tells left events k. tt;
      any_moment = λ tells left events k.
          weaker d.moment d.left_since d.held c.args.disk.now c.open.new.disk (ComesBackTo [] 0 (contents_of held)) (ComesBackBy events left) (c.open.ensures.any_moment tells (when_found left events old held k a was).0) (found_comes left events old held k a was);
      refused = λ tells left events k other. loses left events s held (subst (λ (t : Carried). Keeps left events t held) (sym c.self.view_is) k) a (d.held c.open.new.disk) is (ap d.held (c.in-Err.ensures.untouched c.in-NoMemory.is));
      counts = λ tells left events k. tt;
      held = tt;
      labelled = λ h. c.open.ensures.labelled (subst HasLabel was h);
      untouched = λ other. c.in-Err.ensures.untouched c.in-NoMemory.is;
      open_ = tt;
      cause = lost_answers old (with_place s Lost) (d.faults c.args.disk.now) (d.faults c.open.new.disk) c.in-Err.fault c.in-NoMemory.is (found_is old a was) tt (subst WantsMemory (sym was) (c.in-Err.ensures.cause c.in-NoMemory.is));
      same = (ap (λ (t : Carried). t.label) c.self.view_is, ap (λ (t : Carried). t.limit) c.self.view_is, ap (λ (t : Carried). t.logged) c.self.view_is);
      later = c.open.ensures.later;
      quiet = tt;
    }

pub returns-in_default-fault : goal.returns-in_default-fault
returns-in_default-fault g c =
    let d = g.D.Disk in
    let s : Carried = record { label = c.self.inside.label; limit = c.self.inside.limit; logged = c.self.inside.logged; place = c.self.inside.place } in
    let old = c.args.self.now in
    let held = d.held c.args.disk.now in
    let a = c.in-Found.archive in
    let is : s.place ≡ Found a = sym c.replace.ensures.value ∙ c.in-Found.is in
    let was : old.place ≡ Found a = sym (ap (λ (t : Carried). t.place) c.self.view_is) ∙ is in
    record {
      done = λ tells left events k. tt;
      any_moment = λ tells left events k.
          weaker d.moment d.left_since d.held c.args.disk.now c.open.new.disk (ComesBackTo [] 0 (contents_of held)) (ComesBackBy events left) (c.open.ensures.any_moment tells (when_found left events old held k a was).0) (found_comes left events old held k a was);
      refused = λ tells left events k other. open_rose {A = Keeps left events (with_place s c.replace.new.dest) (d.held c.open.new.disk)} (d.faults c.args.disk.now) (d.faults c.open.new.disk) c.in-Err.fault c.in-Err.ensures.fault c.in_default-fault.not-NoMemory other;
      counts = λ tells left events k. tt;
      held = tt;
      labelled = λ h. c.open.ensures.labelled (subst HasLabel was h);
      untouched = λ other. open_rose {A = c.open.new.disk ≡ c.args.disk.now} (d.faults c.args.disk.now) (d.faults c.open.new.disk) c.in-Err.fault c.in-Err.ensures.fault c.in_default-fault.not-NoMemory other;
      open_ = tt;
      cause = open_answers old (with_place s c.replace.new.dest) (d.faults c.args.disk.now) (d.faults c.open.new.disk) c.in-Err.fault (found_is old a was) c.replace.ensures.after c.in-Err.ensures.fault c.in_default-fault.not-NoMemory;
      same = (ap (λ (t : Carried). t.label) c.self.view_is, ap (λ (t : Carried). t.limit) c.self.view_is, ap (λ (t : Carried). t.logged) c.self.view_is);
      later = c.open.ensures.later;
      quiet = tt;
    }
