-- What holds of a session by where its archive stands, over any disk.
use Rattle.std.proofs.Common.{◌≡◌, ◌≢◌, ◌⊎◌, inl, inr, ⊎_elim, ℕ, ◌+◌, ◌<◌, ◌≤◌, min, false, [], refl, sym, ap, subst, arith}
use Rattle.pcp_base.specs.declared.result.PmResult.{PmResult}
use Rattle.archive_meta.specs.declared.facts.Facts.{Facts}
use Rattle.archive_recovery.specs.declared.outcome.Archive.{Archive}
use Rattle.logger_core.specs.declared.fault.LogFault.{LogFault}
use Rattle.logger_core.specs.declared.fault.LogFault.TheVariants.{Closed, Live, Large, NotLater, Changed, Full, NoMemory, DiskFault}
use Rattle.logger_core.specs.Held.{counts_of}
use Rattle.logger_core.specs.Holding.{HeldBack, HoldMayAnswer}
use Rattle.logger_core.specs.Refusals.{CreateMayAnswer}
use Rattle.logging_session.specs.declared.place.Place.{Place}
use Rattle.logging_session.specs.declared.place.Place.TheVariants.{Found, Open, Lost, Failed}
use Rattle.logging_session.specs.Answers.{IsFor, MayTake, OpenMayAnswer, TakeMayAnswer, WantsMemory}
use Rattle.logging_session.specs.Written.{Report}
use Rattle.logging_session.specs.Keeping.{Carried, HasFailed, HasFound, HasLogger, HasLost, IsClosed, IsFailed, IsFound, IsLost, IsOpen, MayLog, held_in}
use Rattle.logging_session.proofs.Logged.{not_closed}

pub neither : {A : Type 0} → ⊥ ⊎ ⊥ → A
neither h = ⊎_elim (λ (no : ⊥). absurd no) (λ (no : ⊥). absurd no) h

module _ (s : Carried) (archive : Archive) (is : s.place ≡ Found archive) where
  pub found_is : IsFound s
  found_is = subst HasFound (sym is) tt

  pub found_not_open : {A : Type 0} → IsOpen s → A
  found_not_open open_ = absurd (subst HasLogger is open_)

  pub found_not_closed : {A : Type 0} → IsClosed s → A
  found_not_closed closed = neither (subst (λ (p : Place). HasLost p ⊎ HasFailed p) is closed)

module _ (s : Carried) (b : HeldBack) (is : s.place ≡ Open b) where
  pub open_is : IsOpen s
  open_is = subst HasLogger (sym is) tt

  pub open_not_found : {A : Type 0} → IsFound s → A
  open_not_found found = absurd (subst HasFound is found)

  pub open_not_closed : {A : Type 0} → IsClosed s → A
  open_not_closed closed = neither (subst (λ (p : Place). HasLost p ⊎ HasFailed p) is closed)

  pub open_may_log : MayLog s.limit s.place → (b.kept.closed ≡ false) × (b.kept.limit ≡ s.limit)
  open_may_log may = subst (MayLog s.limit) is may

module _ (s : Carried) (is : s.place ≡ Lost) where
  pub lost_is : IsLost s
  lost_is = subst HasLost (sym is) tt

  pub lost_closed : IsClosed s
  lost_closed = inl lost_is

  pub lost_not_found : {A : Type 0} → IsFound s → A
  lost_not_found found = absurd (subst HasFound is found)

  pub lost_not_open : {A : Type 0} → IsOpen s → A
  lost_not_open open_ = absurd (subst HasLogger is open_)

module _ (s : Carried) (lost : ℕ) (is : s.place ≡ Failed lost) where
  pub failed_is : IsFailed s
  failed_is = subst HasFailed (sym is) tt

  pub failed_closed : IsClosed s
  failed_closed = inr failed_is

  pub failed_not_found : {A : Type 0} → IsFound s → A
  failed_not_found found = absurd (subst HasFound is found)

  pub failed_not_open : {A : Type 0} → IsOpen s → A
  failed_not_open open_ = absurd (subst HasLogger is open_)

pub closed_not_working : {A : Type 0} (p : Place) → HasLost p ⊎ HasFailed p → HasFound p ⊎ HasLogger p → A
closed_not_working (Found archive) closed working = neither closed
closed_not_working (Open b) closed working = neither closed
closed_not_working Lost closed working = neither working
closed_not_working (Failed lost) closed working = neither working

pub working_not_failed : (p : Place) → HasFound p ⊎ HasLogger p → HasFailed p → ⊥
working_not_failed (Found archive) working failed = failed
working_not_failed (Open b) working failed = failed
working_not_failed Lost working failed = failed
working_not_failed (Failed lost) working failed = neither working

-- ---- what a logger answers

pub lost_answers : (old lost : Carried) (before after : ℕ) (e : LogFault) → e ≡ NoMemory → IsFound old → IsLost lost → WantsMemory old.place → OpenMayAnswer old lost before after e
lost_answers old lost before after e is found now why = subst (λ (f : LogFault). OpenMayAnswer old lost before after f) (sym is) (found, now, why)

-- a creation is refused for want of memory, or by the disk
pub open_answers : (old failed : Carried) (before after : ℕ) (e : LogFault) → IsFound old → failed.place ≡ Failed 0 → CreateMayAnswer before after e → e ≢ NoMemory → OpenMayAnswer old failed before after e
open_answers old failed before after Closed found is may other = absurd may
open_answers old failed before after (Live volume) found is may other = absurd may
open_answers old failed before after (Large bytes) found is may other = absurd may
open_answers old failed before after (NotLater last) found is may other = absurd may
open_answers old failed before after (Changed pmid) found is may other = absurd may
open_answers old failed before after (Full file bytes) found is may other = absurd may
open_answers old failed before after NoMemory found is may other = absurd (other refl)
open_answers old failed before after DiskFault found is may other = (found, is, may)

-- but for want of memory only the disk refuses it
pub open_rose : {A : Type 0} (before after : ℕ) (e : LogFault) → CreateMayAnswer before after e → e ≢ NoMemory → e ≢ DiskFault → A
open_rose before after Closed may other also = absurd may
open_rose before after (Live volume) may other also = absurd may
open_rose before after (Large bytes) may other also = absurd may
open_rose before after (NotLater last) may other also = absurd may
open_rose before after (Changed pmid) may other also = absurd may
open_rose before after (Full file bytes) may other also = absurd may
open_rose before after NoMemory may other also = absurd (other refl)
open_rose before after DiskFault may other also = absurd (also refl)

-- why an open archive doesn't hold a result
pub hold_answers : (old new : Carried) (b : HeldBack) (answer : PmResult) (facts : Facts) (e : LogFault) → b.kept.closed ≡ false → HoldMayAnswer b answer facts e → new ≡ old → old.place ≡ Open b → TakeMayAnswer (record { result = answer; facts = facts }) old new e
hold_answers old new b answer facts Closed usable may same was = not_closed b.kept.closed may usable
hold_answers old new b answer facts (Live volume) usable may same was = absurd may.1
hold_answers old new b answer facts (Large bytes) usable may same was = (same, subst (λ (p : Place). IsFor p (record { result = answer; facts = facts }) (Large bytes)) (sym was) may.1)
hold_answers old new b answer facts (NotLater last) usable may same was = (same, subst (λ (p : Place). IsFor p (record { result = answer; facts = facts }) (NotLater last)) (sym was) may.1)
hold_answers old new b answer facts (Changed pmid) usable may same was = (same, subst (λ (p : Place). IsFor p (record { result = answer; facts = facts }) (Changed pmid)) (sym was) may.1)
hold_answers old new b answer facts (Full file bytes) usable may same was = (same, subst (λ (p : Place). IsFor p (record { result = answer; facts = facts }) (Full file bytes)) (sym was) may.1)
hold_answers old new b answer facts NoMemory usable may same was = same
hold_answers old new b answer facts DiskFault usable may same was = absurd may.1

-- ---- how many are held and lost

pub none_lost : (n : ℕ) → 0 ≤ n
none_lost n = omega arith

pub nothing_held : (b : HeldBack) (n : ℕ) → b.runs ≡ [] → counts_of b.runs ≤ n
nothing_held b n none = omega (arith, ap counts_of none)

module _ (s : Carried) (b : HeldBack) (is : s.place ≡ Open b) (lost : ℕ) (few : lost ≤ counts_of b.runs) where
  pub fewer_than : lost ≤ held_in s.place
  fewer_than = omega (arith, few, ap held_in is)

  pub few_lost : held_in s.place ≤ s.logged → lost ≤ s.logged
  few_lost held = omega (arith, fewer_than, held)

pub one_more_held : (s : Carried) (b now : HeldBack) (p : Place) (n : ℕ) → s.place ≡ Open b → p ≡ Open b → held_in p < 64 → counts_of now.runs ≡ counts_of b.runs + 1 → held_in s.place ≤ s.logged → n ≡ min (s.logged + 1) 18446744073709551615 → counts_of now.runs ≤ n
one_more_held s b now p n is was room more held count = omega (arith, ap held_in is, ap held_in was, room, more, held, count)

-- where nothing was logged nothing is held
pub nothing_logged : (p q : Place) (n : ℕ) → held_in p ≤ n → n ≡ 0 → p ≡ q → held_in q ≡ 0
nothing_logged p q n few none same = omega (arith, few, none, ap held_in same)

pub same_count : (n : ℕ) → n ≤ n
same_count n = omega arith

-- what isn't logged isn't held
place_unheld : (p q : Place) → HasLost q ⊎ HasFailed q → held_in q ≤ held_in p
place_unheld p (Found archive) closed = neither closed
place_unheld p (Open b) closed = neither closed
place_unheld p Lost closed = omega arith
place_unheld p (Failed lost) closed = omega arith

still_held : (old new : Carried) → new ≡ old → held_in new.place ≤ held_in old.place
still_held old new same = omega (arith, ap (λ (s : Carried). held_in s.place) same)

failed_unheld : (p q : Place) → q ≡ Failed 0 → held_in q ≤ held_in p
failed_unheld p q is = omega (arith, ap held_in is)

pub open_unheld : (old new : Carried) (before after : ℕ) (e : LogFault) → OpenMayAnswer old new before after e → held_in new.place ≤ held_in old.place
open_unheld old new before after Closed may = still_held old new may.1
open_unheld old new before after (Live volume) may = absurd may
open_unheld old new before after (Large bytes) may = absurd may
open_unheld old new before after (NotLater last) may = absurd may
open_unheld old new before after (Changed pmid) may = absurd may
open_unheld old new before after (Full file bytes) may = absurd may
open_unheld old new before after NoMemory may = place_unheld old.place new.place (inl may.1)
open_unheld old new before after DiskFault may = failed_unheld old.place new.place may.1

pub take_unheld : (r : Report) (old new : Carried) (e : LogFault) (n : ℕ) → held_in old.place ≡ n → TakeMayAnswer r old new e → held_in new.place ≤ n
take_unheld r old new Closed n is may = absurd may
take_unheld r old new (Live volume) n is may = absurd may
take_unheld r old new (Large bytes) n is may = omega (arith, still_held old new may.0, is)
take_unheld r old new (NotLater last) n is may = omega (arith, still_held old new may.0, is)
take_unheld r old new (Changed pmid) n is may = omega (arith, still_held old new may.0, is)
take_unheld r old new (Full file bytes) n is may = omega (arith, still_held old new may.0, is)
take_unheld r old new NoMemory n is may = omega (arith, still_held old new may, is)
take_unheld r old new DiskFault n is may = absurd may

-- what an open session took it could take before, where it was open before
pub taken_before : (p q : Place) (r : Report) → (HasLogger p → q ≡ p) → MayTake q r → MayTake p r
taken_before (Found archive) q r same may = tt
taken_before (Open b) q r same may = subst (λ (t : Place). MayTake t r) (same tt) may
taken_before Lost q r same may = tt
taken_before (Failed lost) q r same may = tt
