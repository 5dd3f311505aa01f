-- What was logged is flushed.
use Rattle.std.proofs.Common.{◌≡◌, inr, List, Result, Ok, Err, refl, sym, ap, ◌∙◌, subst}
use Rattle.std.specs.Prelude.{OnOk}
use Rattle.std.proofs.lemmas.Result.{MatchResult-weaker}
use Rattle.pcp_model.specs.Disk.{contents_of}
use Rattle.logger_core.proofs.Calls.{no_call}
use Rattle.logging_session.specs.Answers.{ComesBackBy}
use Rattle.logging_session.specs.Course.{HasKept}
use Rattle.logging_session.specs.Events.{Event, behind}
use Rattle.logging_session.specs.Keeping.{AreWhole, Carried, IsFailed, IsWorking, Keeps}
use Rattle.logging_session.proofs.Course.{kept_not_failed, not_closed_by}
use Rattle.logging_session.proofs.Events.{closing_none, closing_some}
use Rattle.logging_session.proofs.Passing.{not_the_disk}
use Rattle.logging_session.proofs.Placed.{nothing_logged, same_count, working_not_failed}
use Rattle.logging_session.proofs.Sessions.{kept_comes, kept_none, kept_settled, kept_some, kept_whole}
use Rattle.logging_session.proofs.session.Session.close.Goals as goal

on_ok : {T E : Type 0} (r : Result T E) (P Q : Type 0) → (P → Q) → OnOk r P → OnOk r Q
on_ok (Ok v) P Q f p = f p
on_ok (Err e) P Q f p = tt

pub returns-then-has_failed : goal.returns-then-has_failed
returns-then-has_failed g c =
    let d = g.D.Disk in
    let failed = c.has_failed.ensures.yes c.if-has_failed.true in
    record {
      done = λ tells left events k. tt;
      settled = λ tells left events k. tt;
      whole = λ tells left events k whole. tt;
      any_moment = λ tells left events k. no_call d g.met.D.Disk.only_now c.args.disk.now (ComesBackBy events left) (kept_comes left events c.args.self.now (d.held c.args.disk.now) k);
      went = λ tells left events start h. kept_not_failed left events c.args.self.now (d.held c.args.disk.now) h.keeps failed;
      passed = λ tells left events start h. not_the_disk;
      failed = λ h. (refl, refl, refl);
      idle = λ none other. absurd (other failed);
      open_ = tt;
      none = tt;
      stays = tt;
      cause = (inr failed, refl);
      same = (refl, refl, refl);
      later = same_count (d.faults c.args.disk.now);
      quiet = tt;
      untouched = λ other. refl;
    }

pub returns-then-self-eq0 : goal.returns-then-self-eq0
returns-then-self-eq0 g c =
    let d = g.D.Disk in
    let old = c.args.self.now in
    let held = d.held c.args.disk.now in
    let other = c.has_failed.ensures.no c.if-has_failed.false in
    let none : old.logged ≡ 0 = sym (ap (λ (t : Carried). t.logged) c.self.view_is) ∙ c.if-self-eq0.true in
    record {
      done = λ tells left events k. subst (λ (es : List Event). Keeps left es old held) (sym (closing_none events (kept_none left events old held k none))) k;
      settled = λ tells left events k. kept_settled left events old held k none;
      whole = λ tells left events k whole. kept_whole left events old held k whole;
      any_moment = λ tells left events k. no_call d g.met.D.Disk.only_now c.args.disk.now (ComesBackBy events left) (kept_comes left events old held k);
      went = λ tells left events start h. subst (λ (es : List Event). HasKept d left es start old c.args.disk.now) (sym (closing_none events (kept_none left events old held h.keeps none))) h;
      passed = λ tells left events start h. tt;
      failed = λ h. absurd (other h);
      idle = λ none other. (refl, refl, refl);
      open_ = other;
      none = nothing_logged c.self.inside.place old.place c.self.inside.logged c.self.invariant.held c.if-self-eq0.true (ap (λ (t : Carried). t.place) c.self.view_is);
      stays = λ h. h;
      cause = tt;
      same = (refl, refl, refl);
      later = same_count (d.faults c.args.disk.now);
      quiet = refl;
      untouched = tt;
    }

pub returns : goal.returns
returns g c =
    let d = g.D.Disk in
    let old = c.args.self.now in
    let new = c.flush.new.self in
    let held = d.held c.args.disk.now in
    let after = d.held c.flush.new.disk in
    let other = c.has_failed.ensures.no c.if-has_failed.false in
    let some : old.logged ≡ 0 → ⊥ = λ none. absurd (c.if-self-eq0.false (ap (λ (t : Carried). t.logged) c.self.view_is ∙ none)) in
    record {
      done = λ tells left events k. subst (λ (es : List Event). OnOk c.flush.result (Keeps left es new after)) (sym (closing_some events (kept_some left events old held k some))) (c.flush.ensures.done tells left events k);
      settled = λ tells left events k. c.flush.ensures.settled tells left events k;
      whole = λ tells left events k whole.
          on_ok c.flush.result (Keeps left (behind events Event.flushed) new after) (AreWhole (contents_of after)) (λ now. kept_whole left (behind events Event.flushed) new after now whole) (c.flush.ensures.done tells left events k);
      any_moment = λ tells left events k. c.flush.ensures.any_moment tells left events k;
      went = λ tells left events start h.
          let more = kept_some left events old held h.keeps some in
          MatchResult-weaker c.flush.result (c.flush.ensures.went tells left events start h)
          (λ v now. subst (λ (es : List Event). HasKept d left es start new c.flush.new.disk) (sym (closing_some events more)) now)
          (λ e fails. not_closed_by d left g.met.D.Disk.only_now events start c.args.disk.now c.flush.new.disk old new h more e fails);
      passed = c.flush.ensures.passed;
      failed = λ h. absurd (other h);
      idle = λ none also. absurd (some none);
      open_ = on_ok c.flush.result (IsWorking old × IsWorking new) (IsFailed new → ⊥) (λ w. working_not_failed new.place w.1) c.flush.ensures.working;
      none = c.flush.ensures.none;
      stays = c.flush.ensures.open_;
      cause = c.flush.ensures.cause;
      same = c.flush.ensures.same;
      later = c.flush.ensures.later;
      quiet = c.flush.ensures.quiet;
      untouched = c.flush.ensures.untouched;
    }
