-- At each return the reader's verdict is the grammar's.
use Rattle.std.proofs.Common.{◌≡◌, ℕ, ◌<◌, length, take, Some, true, false, List, arith, sym, ap, ◌∙◌, subst}
use Rattle.std.proofs.lemmas.List.{take_all}
use Rattle.log_schedule.specs.Configuration.{IsConfiguration, IsFault}
use Rattle.log_schedule.specs.Refusals.{IsRefusal}
use Rattle.log_schedule.specs.Scanning.{Found, run, at_start, is_between}
use Rattle.log_schedule.specs.declared.stage.Stage.TheVariants as stages
use Rattle.log_schedule.proofs.Verdicts.{fault_at, fault_end, fault_refuses, is_read, only_read, one_more, is_between_true}
use Rattle.log_schedule.proofs.config.Config.read.Goals as goal

-- the byte that isn't taken is the fault
taken_fault : (c : goal.After-drop-found-inside-in_default-2) → IsFault c.args.text.now c.loop-at.at
taken_fault c =
    let within : c.loop-at.at < length c.args.text.now = omega arith in
    fault_at c.args.text.now c.loop-at.at c.loop-at.stage c.loop-at.found within c.loop-at.invariant.good c.loop-at.invariant.leads (sym c.in_default.ensures.value)

pub returns-in_default-clause-fault : goal.returns-in_default-clause-fault
returns-in_default-clause-fault c = subst (IsRefusal c.args.text.now) (sym c.fault.ensures) (taken_fault c)

pub returns-in_default-clause-all : goal.returns-in_default-clause-all
returns-in_default-clause-all c groups whole = absurd (fault_refuses c.args.text.now c.loop-at.at (taken_fault c) groups whole)

pub loop-at-preserved : goal.loop-at-preserved
loop-at-preserved c =
    let within : c.loop-at.at < length c.args.text.now = omega arith in
    record {
      good = c.in-Some.ensures.stage;
      leads = one_more c.args.text.now c.loop-at.at c.loop-at.stage c.loop-at.found (c.in-Some.next, c.in-Some.act) within c.loop-at.invariant.leads (sym c.in-Some.ensures.value)
          ∙ ap (λ (f : Found). Some (c.in-Some.next, f)) (sym c.in_ok-change.ensures);
    }

-- a text that ends inside a statement is too short
short_fault : (c : goal.After-drop-found-inside-then-not-is_between-3) → IsFault c.args.text.now (length c.args.text.now)
short_fault c =
    let text = c.args.text.now in
    let all : take c.loop-at.at text ≡ text = take_all c.loop-at.at text c.loop-at-test.false in
    fault_end text c.loop-at.stage c.loop-at.found c.loop-at.invariant.good
    (subst (λ (bs : List ℕ). run at_start bs ≡ Some (c.loop-at.stage, c.loop-at.found)) all c.loop-at.invariant.leads)
    (λ (at : is_between c.loop-at.stage ≡ true). let both : false ≡ true = c.if-not-is_between.ensures ∙ at in cc both)

pub returns-then-not-is_between-clause-fault : goal.returns-then-not-is_between-clause-fault
returns-then-not-is_between-clause-fault c = subst (IsRefusal c.args.text.now) (sym c.fault-then-not-is_between.ensures) (short_fault c)

pub returns-then-not-is_between-clause-all : goal.returns-then-not-is_between-clause-all
returns-then-not-is_between-clause-all c groups whole = absurd (fault_refuses c.args.text.now (length c.args.text.now) (short_fault c) groups whole)

-- the whole text leads between statements
whole_leads : (c : goal.After-into_groups) → run at_start c.args.text.now ≡ Some (stages.Between, c.loop-at.found)
whole_leads c =
    let text = c.args.text.now in
    let all : take c.loop-at.at text ≡ text = take_all c.loop-at.at text c.loop-at-test.false in
    sym (ap (run at_start) all) ∙ c.loop-at.invariant.leads ∙ ap (λ p. Some (p, c.loop-at.found)) (is_between_true c.loop-at.stage (sym c.if-not-is_between.ensures))

pub returns-clause-read : goal.returns-clause-read
returns-clause-read c = subst (IsConfiguration c.args.text.now) (sym c.into_groups.ensures) (is_read c.args.text.now c.loop-at.found (whole_leads c))

pub returns-clause-all : goal.returns-clause-all
returns-clause-all c groups whole = c.into_groups.ensures ∙ only_read c.args.text.now c.loop-at.found groups (whole_leads c) whole
