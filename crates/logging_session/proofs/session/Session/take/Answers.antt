-- The result is handed to the logger, which holds it.
use Rattle.std.proofs.Common.{◌≡◌, ◌+◌, sym, ap, ◌∙◌, subst, arith}
use Rattle.std.specs.Prelude.{min}
use Rattle.logger_core.specs.Holding.{HeldBack}
use Rattle.logger_core.specs.Held.{counts_of}
use Rattle.logging_session.specs.declared.place.Place.{Place}
use Rattle.logging_session.specs.declared.place.Place.TheVariants.{Open}
use Rattle.logging_session.specs.Answers.{CountsOn, MayTake}
use Rattle.logging_session.specs.Keeping.{Carried, Keeps, held_in}
use Rattle.logging_session.specs.Written.{Report}
use Rattle.logging_session.proofs.Counting.{counts_by}
use Rattle.logging_session.proofs.Placed.{hold_answers, none_lost, one_more_held, open_may_log}
use Rattle.logging_session.proofs.Sessions.{holds, put_back, take_fails, when_open, with_place}
use Rattle.logging_session.proofs.session.Session.take.Goals as goal

pub returns-in-Ok : goal.returns-in-Ok
returns-in-Ok c =
    let s : Carried = record { label = c.self.inside.label; limit = c.self.inside.limit; logged = c.self.inside.logged; place = c.self.inside.place } in
    let old = c.args.self.now in
    let b = c.in-Open.batch in
    let now = c.hold.new.self in
    let r : Report = record { result = c.args.answer.now; facts = c.args.facts.now } in
    let is : s.place ≡ Open b = c.in-Open.is in
    let was : old.place ≡ Open b = sym (ap (λ (t : Carried). t.place) c.self.view_is) ∙ is in
    let ok = c.in-Ok.ensures in
    record {
      done = λ enough left events held k.
          holds left events s held (subst (λ (t : Carried). Keeps left events t held) (sym c.self.view_is) k) r b now c.saturating_add-self-inside.result is ok.loggable.1 (λ m pending o h. ok.held m pending o held h enough)
          ok.counted.3 ok.counted.4 c.saturating_add-self-inside.ensures;
      fault = λ enough left events held k. tt;
      counts = subst (λ (p : Place). CountsOn r p (Open now)) (sym was) (counts_by b now r.result r.facts ok.planned);
      holds = ok.counted.0 ∙ ap (λ (p : Place). held_in p + 1) (sym was);
      loggable = subst (λ (p : Place). MayTake p r) (sym was) ok.loggable.1;
      open_ = tt;
      cause = tt;
      counted = c.saturating_add-self-inside.ensures ∙ ap (λ (t : Carried). min (t.logged + 1) 18446744073709551615) c.self.view_is;
      uncounted = tt;
      same = (ap (λ (t : Carried). t.label) c.self.view_is, ap (λ (t : Carried). t.limit) c.self.view_is);
    }

pub returns-in-Err : goal.returns-in-Err
returns-in-Err c =
    let s : Carried = record { label = c.self.inside.label; limit = c.self.inside.limit; logged = c.self.inside.logged; place = c.self.inside.place } in
    let old = c.args.self.now in
    let b = c.in-Open.batch in
    let now = c.hold.new.self in
    let r : Report = record { result = c.args.answer.now; facts = c.args.facts.now } in
    let is : s.place ≡ Open b = c.in-Open.is in
    let was : old.place ≡ Open b = sym (ap (λ (t : Carried). t.place) c.self.view_is) ∙ is in
    let may = open_may_log s b is c.self.invariant.logger in
    let e = c.in-Err.fault in
    let same : with_place s (Open now) ≡ old = put_back s old (Open now) c.self.view_is (is ∙ ap (λ (x : HeldBack). Open x) (sym c.in-Err.ensures.still)) in
    record {
      done = λ enough left events held k. tt;
      fault = λ enough left events held k. take_fails left old.limit events r k.stand b held (when_open left events old held k b was) e c.in-Err.ensures.fault;
      counts = tt;
      holds = tt;
      loggable = tt;
      open_ = tt;
      cause = hold_answers old (with_place s (Open now)) b r.result r.facts e may.0 c.in-Err.ensures.fault same was;
      counted = tt;
      uncounted = ap (λ (t : Carried). t.logged) c.self.view_is;
      same = (ap (λ (t : Carried). t.label) c.self.view_is, ap (λ (t : Carried). t.limit) c.self.view_is);
    }

pub invariant_of-self : goal.invariant_of-self
invariant_of-self c =
    let s : Carried = record { label = c.self.inside.label; limit = c.self.inside.limit; logged = c.self.inside.logged; place = c.self.inside.place } in
    let old = c.args.self.now in
    let b = c.in-Open.batch in
    let is : s.place ≡ Open b = c.in-Open.is in
    let was : old.place ≡ Open b = sym (ap (λ (t : Carried). t.place) c.self.view_is) ∙ is in
    let may = open_may_log s b is c.self.invariant.logger in
    let ok = c.in-Ok.ensures in
    record {
      low = c.self.invariant.low;
      high = c.self.invariant.high;
      logger = (ok.counted.4, ok.counted.3 ∙ may.1);
      held = one_more_held s b c.hold.new.self old.place c.saturating_add-self-inside.result is was c.requires.room ok.counted.0 c.self.invariant.held c.saturating_add-self-inside.ensures;
      lost = none_lost c.saturating_add-self-inside.result;
    }

pub invariant_of-self-in-Err : goal.invariant_of-self-in-Err
invariant_of-self-in-Err c =
    let s : Carried = record { label = c.self.inside.label; limit = c.self.inside.limit; logged = c.self.inside.logged; place = c.self.inside.place } in
    let b = c.in-Open.batch in
    let is : s.place ≡ Open b = c.in-Open.is in
    let may = open_may_log s b is c.self.invariant.logger in
    let still = c.in-Err.ensures.still in
    record {
      low = c.self.invariant.low;
      high = c.self.invariant.high;
      logger = (ap (λ (x : HeldBack). x.kept.closed) still ∙ may.0, ap (λ (x : HeldBack). x.kept.limit) still ∙ may.1);
      held = omega (arith, ap (λ (x : HeldBack). counts_of x.runs) still, ap held_in is, c.self.invariant.held);
      lost = none_lost c.self.inside.logged;
    }
