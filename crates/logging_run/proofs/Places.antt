-- Where the archive of a session stands, and what a call that is refused leaves of it.
use Rattle.std.proofs.Common.{◌≡◌, ◌≢◌, ◌⊎◌, inl, inr, ℕ, ◌≤◌, refl, sym, ap, subst, arith}
use Rattle.pcp_outside.specs.Causes.{Rose}
use Rattle.logger_core.specs.declared.fault.LogFault.{LogFault}
use Rattle.logger_core.specs.declared.fault.LogFault.TheVariants.{Closed, Live, Large, NotLater, Changed, Full, NoMemory, DiskFault}
use Rattle.logging_session.specs.declared.place.Place.{Place}
use Rattle.logging_session.specs.declared.place.Place.TheVariants.{Found, Open, Lost, Failed}
use Rattle.logging_session.specs.Answers.{FlushMayAnswer, LogMayAnswer, StaysOpen}
use Rattle.logging_session.specs.Keeping.{Carried, HasFailed, HasFound, HasLogger, HasLost, IsClosed, IsFailed, IsFound, IsLost, IsOpen, IsWorking, held_in, lost_in}
use Rattle.logging_session.specs.Written.{Report}
use Rattle.logging_session.proofs.Placed.{neither}

-- ---- by where it stands

working_open : (place : Place) → HasFound place ⊎ HasLogger place → HasLost place ⊎ HasFailed place → ⊥
working_open (Found archive) working closed = neither closed
working_open (Open kept) working closed = neither closed
working_open Lost working closed = neither working
working_open (Failed lost) working closed = neither working

lost_fails_not : (place : Place) → HasLost place → HasFailed place → ⊥
lost_fails_not (Found archive) lost failed = failed
lost_fails_not (Open kept) lost failed = failed
lost_fails_not Lost lost failed = failed
lost_fails_not (Failed many) lost failed = lost

lost_opens_not : (place : Place) → HasLost place → HasLogger place → ⊥
lost_opens_not (Found archive) lost open_ = open_
lost_opens_not (Open kept) lost open_ = lost
lost_opens_not Lost lost open_ = open_
lost_opens_not (Failed many) lost open_ = open_

found_opens_not : (place : Place) → HasFound place → HasLogger place → ⊥
found_opens_not (Found archive) found open_ = open_
found_opens_not (Open kept) found open_ = found
found_opens_not Lost found open_ = open_
found_opens_not (Failed many) found open_ = open_

place_unlost : (place : Place) → (HasFailed place → ⊥) → lost_in place ≡ 0
place_unlost (Found archive) unfailed = refl
place_unlost (Open kept) unfailed = refl
place_unlost Lost unfailed = refl
place_unlost (Failed lost) unfailed = absurd (unfailed tt)

place_unheld : (place : Place) → HasLost place ⊎ HasFailed place → held_in place ≡ 0
place_unheld (Found archive) closed = neither closed
place_unheld (Open kept) closed = neither closed
place_unheld Lost closed = refl
place_unheld (Failed lost) closed = refl

found_holds_none : (place : Place) → HasFound place → held_in place ≡ 0
found_holds_none (Found archive) found = refl
found_holds_none (Open kept) found = absurd found
found_holds_none Lost found = refl
found_holds_none (Failed lost) found = refl

pub working_unfailed : (s : Carried) → IsWorking s → IsFailed s → ⊥
working_unfailed s working failed = working_open s.place working (inr failed)

pub lost_unfailed : (s : Carried) → IsLost s → IsFailed s → ⊥
lost_unfailed s lost failed = lost_fails_not s.place lost failed

pub lost_unopened : (s : Carried) → IsLost s → IsOpen s → ⊥
lost_unopened s lost open_ = lost_opens_not s.place lost open_

pub found_unopened : (s : Carried) → IsFound s → IsOpen s → ⊥
found_unopened s found open_ = found_opens_not s.place found open_

pub found_unheld : (s : Carried) → IsFound s → held_in s.place ≡ 0
found_unheld s found = found_holds_none s.place found

-- nothing is lost unless the disk failed, and then nothing is held
pub unfailed_few : (s : Carried) (n : ℕ) → (IsFailed s → ⊥) → lost_in s.place ≤ n
unfailed_few s n unfailed = omega (arith, place_unlost s.place unfailed)

pub working_few : (s : Carried) (n : ℕ) → IsWorking s → lost_in s.place ≤ n
working_few s n working = unfailed_few s n (working_unfailed s working)

-- ---- a write, a flush or a sync that is refused

module _ (old new : Carried) (before after : ℕ) where
  pub flush_unclosed : (fault : LogFault) → IsWorking old → FlushMayAnswer old new before after fault → fault ≡ Closed → ⊥
  flush_unclosed fault working may is = working_open old.place working (subst (λ (e : LogFault). FlushMayAnswer old new before after e) is may).0

  -- it closes the session
  flush_closes : (fault : LogFault) → FlushMayAnswer old new before after fault → IsClosed new
  flush_closes Closed may = subst IsClosed (sym may.1) may.0
  flush_closes (Live volume) may = absurd may
  flush_closes (Large bytes) may = absurd may
  flush_closes (NotLater last) may = absurd may
  flush_closes (Changed pmid) may = absurd may
  flush_closes (Full file bytes) may = absurd may
  flush_closes NoMemory may = absurd may
  flush_closes DiskFault may = inr may.1

  pub flush_unheld : (fault : LogFault) → FlushMayAnswer old new before after fault → held_in new.place ≡ 0
  flush_unheld fault may = place_unheld new.place (flush_closes fault may)

  -- where it wasn't closed it was refused by the disk, which lost at most what was held
  pub flush_fails : (fault : LogFault) → (fault ≡ Closed → ⊥) → FlushMayAnswer old new before after fault → (fault ≡ DiskFault) × IsFailed new × (lost_in new.place ≤ held_in old.place) × Rose before after
  flush_fails Closed open_ may = absurd (open_ refl)
  flush_fails (Live volume) open_ may = absurd may
  flush_fails (Large bytes) open_ may = absurd may
  flush_fails (NotLater last) open_ may = absurd may
  flush_fails (Changed pmid) open_ may = absurd may
  flush_fails (Full file bytes) open_ may = absurd may
  flush_fails NoMemory open_ may = absurd may
  flush_fails DiskFault open_ may = (refl, may.1, may.2, may.3)

  -- whatever it was
  pub flush_may : (fault : LogFault) → FlushMayAnswer old new before after fault → IsClosed old ⊎ Rose before after
  flush_may Closed may = inl may.0
  flush_may (Live volume) may = absurd may
  flush_may (Large bytes) may = absurd may
  flush_may (NotLater last) may = absurd may
  flush_may (Changed pmid) may = absurd may
  flush_may (Full file bytes) may = absurd may
  flush_may NoMemory may = absurd may
  flush_may DiskFault may = inr may.3

  pub flush_few : (fault : LogFault) → (IsFailed old → ⊥) → FlushMayAnswer old new before after fault → lost_in new.place ≤ held_in old.place
  flush_few Closed unfailed may = subst (λ (s : Carried). lost_in s.place ≤ held_in old.place) (sym may.1) (unfailed_few old (held_in old.place) unfailed)
  flush_few (Live volume) unfailed may = absurd may
  flush_few (Large bytes) unfailed may = absurd may
  flush_few (NotLater last) unfailed may = absurd may
  flush_few (Changed pmid) unfailed may = absurd may
  flush_few (Full file bytes) unfailed may = absurd may
  flush_few NoMemory unfailed may = absurd may
  flush_few DiskFault unfailed may = may.2

-- a session that isn't closed since the disk failed is closed since memory was refused
pub closed_lost : (s : Carried) → (IsFailed s → ⊥) → IsClosed s → IsOpen s → ⊥
closed_lost s unfailed (inl lost) open_ = lost_unopened s lost open_
closed_lost s unfailed (inr failed) open_ = unfailed failed

-- ---- a result that isn't logged

module _ (r : Report) (old new : Carried) (before after : ℕ) where
  pub log_unclosed : (fault : LogFault) → IsWorking old → LogMayAnswer r old new before after fault → fault ≡ Closed → ⊥
  log_unclosed fault working may is = working_open old.place working (subst (λ (e : LogFault). LogMayAnswer r old new before after e) is may).0

  stays_unfailed : StaysOpen old new → IsFailed new → ⊥
  stays_unfailed stays failed = working_unfailed new (inr stays.1) failed

  -- unless the disk failed it goes on
  pub log_unfailed : (fault : LogFault) → (fault ≡ Closed → ⊥) → LogMayAnswer r old new before after fault → fault ≢ DiskFault → IsFailed new → ⊥
  log_unfailed Closed open_ may other failed = open_ refl
  log_unfailed (Live volume) open_ may other failed = absurd may
  log_unfailed (Large bytes) open_ may other failed = stays_unfailed may.0 failed
  log_unfailed (NotLater last) open_ may other failed = stays_unfailed may.0 failed
  log_unfailed (Changed pmid) open_ may other failed = stays_unfailed may.0 failed
  log_unfailed (Full file bytes) open_ may other failed = stays_unfailed may.0 failed
  log_unfailed NoMemory open_ (inl (found, lost, wants)) other failed = lost_unfailed new lost failed
  log_unfailed NoMemory open_ (inr stays) other failed = stays_unfailed stays failed
  log_unfailed DiskFault open_ may other failed = other refl

  -- nothing is lost: the disk fails only where the archive was to be opened
  pub log_few : (fault : LogFault) (n : ℕ) → (fault ≡ Closed → ⊥) → LogMayAnswer r old new before after fault → lost_in new.place ≤ n
  log_few Closed n open_ may = absurd (open_ refl)
  log_few (Live volume) n open_ may = absurd may
  log_few (Large bytes) n open_ may = unfailed_few new n (stays_unfailed may.0)
  log_few (NotLater last) n open_ may = unfailed_few new n (stays_unfailed may.0)
  log_few (Changed pmid) n open_ may = unfailed_few new n (stays_unfailed may.0)
  log_few (Full file bytes) n open_ may = unfailed_few new n (stays_unfailed may.0)
  log_few NoMemory n open_ (inl (found, lost, wants)) = unfailed_few new n (lost_unfailed new lost)
  log_few NoMemory n open_ (inr stays) = unfailed_few new n (stays_unfailed stays)
  log_few DiskFault n open_ may = let none : lost_in new.place ≡ 0 = ap lost_in may.1 in omega (arith, none)

pub rose_later : (before mid after : ℕ) → before ≤ mid → Rose mid after → Rose before after
rose_later before mid after earlier (inl rose) = inl (omega (arith, earlier, rose))
rose_later before mid after earlier (inr full) = inr full
