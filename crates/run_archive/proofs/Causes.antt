-- Each ending has its cause.
use Rattle.std.proofs.Common.{◌≡◌, ◌≢◌, ◌⊎◌, inl, inr, ℕ, ◌≤◌, refl, sym, ap, subst, arith}
use Rattle.pcp_base.specs.declared.file.FileId.TheVariants.{Meta, Index, Volume}
use Rattle.pcp_outside.specs.Causes.{Rose}
use Rattle.pcp_outside.specs.declared.clocks.Clock.{Ghosts as ClockGhosts}
use Rattle.pcp_outside.specs.declared.disk.Disk.{Ghosts as DiskGhosts}
use Rattle.region_rule.specs.Seats.{Token}
use Rattle.logger_core.specs.declared.fault.LogFault.{LogFault}
use Rattle.logger_core.specs.declared.fault.LogFault.TheVariants.{Closed, Live, Large, NotLater, Changed, Full, NoMemory, DiskFault}
use Rattle.logging_session.specs.declared.place.Place.{Place}
use Rattle.logging_session.specs.declared.place.Place.TheVariants.{Found, Open, Lost, Failed}
use Rattle.logging_session.specs.Answers.{FlushMayAnswer, LogMayAnswer, StaysOpen}
use Rattle.logging_session.specs.Keeping.{Carried, HasFailed, HasFound, HasLogger, HasLost, IsClosed, IsFailed, IsWorking, held_in, lost_in}
use Rattle.logging_session.specs.Written.{Report}
use Rattle.logging_session.proofs.Placed.{neither}
use Rattle.script_runs.specs.declared.ending.Ending.{Ending}
use Rattle.script_runs.specs.declared.ending.Ending.TheVariants as ends
use Rattle.run_archive.specs.Endings.{ending_after}
use Rattle.run_archive.specs.Logging.{Hides}
use Rattle.run_archive.specs.Sampling.{HasEnded, MayRefuse, MayStop}
use Rattle.std.specs.Prelude.{List}

-- ---- a session, by where its archive stands

working_open : (place : Place) → HasFound place ⊎ HasLogger place → HasLost place ⊎ HasFailed place → ⊥
working_open (Found archive) working closed = neither closed
working_open (Open kept) working closed = neither closed
working_open Lost working closed = neither working
working_open (Failed lost) working closed = neither working

lost_unfailed : (place : Place) → HasLost place → HasFailed place → ⊥
lost_unfailed (Found archive) lost failed = failed
lost_unfailed (Open kept) lost failed = failed
lost_unfailed Lost lost failed = failed
lost_unfailed (Failed many) lost failed = lost

pub working_unfailed : (s : Carried) → IsWorking s → IsFailed s → ⊥
working_unfailed s working failed = working_open s.place working (inr failed)

-- nothing is lost unless the disk failed, and then nothing is held
place_unlost : (place : Place) → (HasFailed place → ⊥) → lost_in place ≡ 0
place_unlost (Found archive) unfailed = refl
place_unlost (Open kept) unfailed = refl
place_unlost Lost unfailed = refl
place_unlost (Failed lost) unfailed = absurd (unfailed tt)

place_unheld : (place : Place) → HasLost place ⊎ HasFailed place → held_in place ≡ 0
place_unheld (Found archive) closed = neither closed
place_unheld (Open kept) closed = neither closed
place_unheld Lost closed = refl
place_unheld (Failed lost) closed = refl

pub unfailed_unlost : (s : Carried) → (IsFailed s → ⊥) → lost_in s.place ≡ 0
unfailed_unlost s unfailed = place_unlost s.place unfailed

pub working_unlost : (s : Carried) → IsWorking s → lost_in s.place ≡ 0
working_unlost s working = unfailed_unlost s (working_unfailed s working)

pub closed_unheld : (s : Carried) → IsClosed s → held_in s.place ≡ 0
closed_unheld s closed = place_unheld s.place closed

-- so of what is held only what was held before may be lost
pub unfailed_few : (s : Carried) (n : ℕ) → (IsFailed s → ⊥) → lost_in s.place ≤ n
unfailed_few s n unfailed = omega (arith, unfailed_unlost s unfailed)

pub working_few : (s : Carried) (n : ℕ) → IsWorking s → lost_in s.place ≤ n
working_few s n working = omega (arith, working_unlost s working)

-- ---- what a session refuses

module _ (r : Report) (old new : Carried) (before after : ℕ) where
  pub working_unclosed : (fault : LogFault) → IsWorking old → LogMayAnswer r old new before after fault → fault ≡ Closed → ⊥
  working_unclosed Closed working may is = working_open old.place working may.0
  working_unclosed (Live volume) working may is = cc
  working_unclosed (Large bytes) working may is = cc
  working_unclosed (NotLater last) working may is = cc
  working_unclosed (Changed pmid) working may is = cc
  working_unclosed (Full file bytes) working may is = cc
  working_unclosed NoMemory working may is = cc
  working_unclosed DiskFault working may is = cc

  pub told_may : (fault : LogFault) → IsWorking old → LogMayAnswer r old new before after fault → MayRefuse before after (ending_after fault)
  told_may Closed working may = absurd (working_open old.place working may.0)
  told_may (Live volume) working may = absurd may
  told_may (Large bytes) working may = tt
  told_may (NotLater last) working may = tt
  told_may (Changed pmid) working may = tt
  told_may (Full Meta bytes) working may = tt
  told_may (Full Index bytes) working may = tt
  told_may (Full (Volume number) bytes) working may = tt
  told_may NoMemory working may = tt
  told_may DiskFault working may = may.2

  stays_unfailed : StaysOpen old new → IsFailed new → ⊥
  stays_unfailed stays failed = working_unfailed new (inr stays.1) failed

  -- unless the disk failed it goes on
  pub told_unfailed : (fault : LogFault) → LogMayAnswer r old new before after fault → ending_after fault ≢ ends.DiskFault → IsFailed new → ⊥
  told_unfailed Closed may other failed = other refl
  told_unfailed (Live volume) may other failed = absurd may
  told_unfailed (Large bytes) may other failed = stays_unfailed may.0 failed
  told_unfailed (NotLater last) may other failed = stays_unfailed may.0 failed
  told_unfailed (Changed pmid) may other failed = stays_unfailed may.0 failed
  told_unfailed (Full file bytes) may other failed = stays_unfailed may.0 failed
  told_unfailed NoMemory (inl (found, lost, wants)) other failed = lost_unfailed new.place lost failed
  told_unfailed NoMemory (inr stays) other failed = stays_unfailed stays failed
  told_unfailed DiskFault may other failed = other refl

  -- nothing is lost of it: the disk fails only where the archive was to be opened
  pub told_few : (fault : LogFault) (n : ℕ) → IsWorking old → LogMayAnswer r old new before after fault → lost_in new.place ≤ n
  told_few Closed n working may = absurd (working_open old.place working may.0)
  told_few (Live volume) n working may = absurd may
  told_few (Large bytes) n working may = unfailed_few new n (stays_unfailed may.0)
  told_few (NotLater last) n working may = unfailed_few new n (stays_unfailed may.0)
  told_few (Changed pmid) n working may = unfailed_few new n (stays_unfailed may.0)
  told_few (Full file bytes) n working may = unfailed_few new n (stays_unfailed may.0)
  told_few NoMemory n working (inl (found, lost, wants)) = unfailed_few new n (lost_unfailed new.place lost)
  told_few NoMemory n working (inr stays) = unfailed_few new n (stays_unfailed stays)
  told_few DiskFault n working may = let none : lost_in new.place ≡ 0 = ap lost_in may.1 in omega (arith, none)

-- a flush that is refused for another reason than that it is closed was refused by the disk
pub flush_rose : (old new : Carried) (before after : ℕ) (fault : LogFault) → (fault ≡ Closed → ⊥) → FlushMayAnswer old new before after fault → Rose before after
flush_rose old new before after Closed open_ may = absurd (open_ refl)
flush_rose old new before after (Live volume) open_ may = absurd may
flush_rose old new before after (Large bytes) open_ may = absurd may
flush_rose old new before after (NotLater last) open_ may = absurd may
flush_rose old new before after (Changed pmid) open_ may = absurd may
flush_rose old new before after (Full file bytes) open_ may = absurd may
flush_rose old new before after NoMemory open_ may = absurd may
flush_rose old new before after DiskFault open_ may = may.3

-- which lost at most what was held, and closed it
pub flush_few : (old new : Carried) (before after : ℕ) (fault : LogFault) → (fault ≡ Closed → ⊥) → FlushMayAnswer old new before after fault → lost_in new.place ≤ held_in old.place
flush_few old new before after Closed open_ may = absurd (open_ refl)
flush_few old new before after (Live volume) open_ may = absurd may
flush_few old new before after (Large bytes) open_ may = absurd may
flush_few old new before after (NotLater last) open_ may = absurd may
flush_few old new before after (Changed pmid) open_ may = absurd may
flush_few old new before after (Full file bytes) open_ may = absurd may
flush_few old new before after NoMemory open_ may = absurd may
flush_few old new before after DiskFault open_ may = may.2

-- a session that answered so is closed
flush_closes : (old new : Carried) (before after : ℕ) (fault : LogFault) → FlushMayAnswer old new before after fault → IsClosed new
flush_closes old new before after Closed may = subst IsClosed (sym may.1) may.0
flush_closes old new before after (Live volume) may = absurd may
flush_closes old new before after (Large bytes) may = absurd may
flush_closes old new before after (NotLater last) may = absurd may
flush_closes old new before after (Changed pmid) may = absurd may
flush_closes old new before after (Full file bytes) may = absurd may
flush_closes old new before after NoMemory may = absurd may
flush_closes old new before after DiskFault may = inr may.1

pub flush_unheld : (old new : Carried) (before after : ℕ) (fault : LogFault) → FlushMayAnswer old new before after fault → held_in new.place ≡ 0
flush_unheld old new before after fault may = closed_unheld new (flush_closes old new before after fault may)

pub flush_unclosed : (old new : Carried) (before after : ℕ) (fault : LogFault) → IsWorking old → FlushMayAnswer old new before after fault → fault ≡ Closed → ⊥
flush_unclosed old new before after fault working may is =
    let closed : IsClosed old = (subst (λ (e : LogFault). FlushMayAnswer old new before after e) is may).0 in working_open old.place working closed

-- what isn't shown
pub hides_may : (seat : List Token) (pmids : List ℕ) (ending : Ending) (later : List Token) (before after : ℕ) → Hides seat pmids ending later → MayRefuse before after ending
hides_may seat pmids ending later before after (inl (many, stays, is)) = subst (λ (e : Ending). MayRefuse before after e) (sym is) tt
hides_may seat pmids ending later before after (inr is) = subst (λ (e : Ending). MayRefuse before after e) (sym is) tt

pub rose_earlier : (before mid after : ℕ) → before ≤ mid → Rose mid after → Rose before after
rose_earlier before mid after later (inl rose) = inl (omega (arith, later, rose))
rose_earlier before mid after later (inr full) = inr full

refuses_earlier : (before mid after : ℕ) (ending : Ending) → before ≤ mid → MayRefuse mid after ending → MayRefuse before after ending
refuses_earlier before mid after ends.DiskFault later may = rose_earlier before mid after later may
refuses_earlier before mid after ends.Done later may = absurd may
refuses_earlier before mid after (ends.Condition line) later may = absurd may
refuses_earlier before mid after (ends.NotArchive file at) later may = absurd may
refuses_earlier before mid after (ends.Compressed file) later may = absurd may
refuses_earlier before mid after (ends.Limit what number) later may = tt
refuses_earlier before mid after (ends.ClockEnd samples) later may = absurd may
refuses_earlier before mid after (ends.ClockFault samples) later may = absurd may
refuses_earlier before mid after ends.NoMemory later may = tt
refuses_earlier before mid after (ends.NotLater last) later may = tt
refuses_earlier before mid after (ends.Changed pmid) later may = tt

module _ {C D : Type 0} (c : ClockGhosts C) (d : DiskGhosts D) where
  -- what a sample refuses at its moment stops sampling
  pub refuses_stops : (old new : D) (before after : C) (ending : Ending) → MayRefuse (d.faults old) (d.faults new) ending → MayStop c d old new before after ending
  refuses_stops old new before after ends.DiskFault may = may
  refuses_stops old new before after ends.Done may = may
  refuses_stops old new before after (ends.Condition line) may = may
  refuses_stops old new before after (ends.NotArchive file at) may = may
  refuses_stops old new before after (ends.Compressed file) may = may
  refuses_stops old new before after (ends.Limit what number) may = tt
  refuses_stops old new before after (ends.ClockEnd samples) may = absurd may
  refuses_stops old new before after (ends.ClockFault samples) may = absurd may
  refuses_stops old new before after ends.NoMemory may = tt
  refuses_stops old new before after (ends.NotLater last) may = tt
  refuses_stops old new before after (ends.Changed pmid) may = tt

  -- the clock gave no moment
  pub no_moment_stops : (old new : D) (before after : C) (left : ℕ) (ending : Ending) → ((ending ≡ ends.ClockEnd left) × HasEnded c after) ⊎ ((ending ≡ ends.ClockFault left) × Rose (c.faults before) (c.faults after)) → MayStop c d old new before after ending
  no_moment_stops old new before after left ending (inl (is, ended)) = subst (λ (e : Ending). MayStop c d old new before after e) (sym is) ended
  no_moment_stops old new before after left ending (inr (is, rose)) = subst (λ (e : Ending). MayStop c d old new before after e) (sym is) rose

  pub stops_earlier : (first old new : D) (start before after : C) (ending : Ending) → d.faults first ≤ d.faults old → c.faults start ≤ c.faults before → MayStop c d old new before after ending → MayStop c d first new start after ending
  stops_earlier first old new start before after ends.DiskFault disk clock may = rose_earlier (d.faults first) (d.faults old) (d.faults new) disk may
  stops_earlier first old new start before after ends.Done disk clock may = may
  stops_earlier first old new start before after (ends.Condition line) disk clock may = may
  stops_earlier first old new start before after (ends.NotArchive file at) disk clock may = may
  stops_earlier first old new start before after (ends.Compressed file) disk clock may = may
  stops_earlier first old new start before after (ends.Limit what number) disk clock may = tt
  stops_earlier first old new start before after (ends.ClockEnd samples) disk clock may = may
  stops_earlier first old new start before after (ends.ClockFault samples) disk clock may = rose_earlier (c.faults start) (c.faults before) (c.faults after) clock may
  stops_earlier first old new start before after ends.NoMemory disk clock may = tt
  stops_earlier first old new start before after (ends.NotLater last) disk clock may = tt
  stops_earlier first old new start before after (ends.Changed pmid) disk clock may = tt
