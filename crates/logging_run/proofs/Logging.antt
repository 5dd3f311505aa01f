-- A result that isn't logged.
use Rattle.std.proofs.Common.{◌≡◌, ◌≢◌, ◌⊎◌, inl, inr, ℕ, ◌≤◌, List, [], ◌∷◌, ◌++◌, length, refl, sym, ap, ◌∙◌, subst, arith}
use Rattle.pcp_base.specs.Time.{Moment}
use Rattle.pcp_model.specs.Disk.{CrashImage, Files, Holdings, contents_of}
use Rattle.pcp_model.specs.LabelFields.{LabelFields}
use Rattle.pcp_outside.specs.Causes.{shown_count}
use Rattle.pcp_outside.specs.declared.disk.Disk.{Ghosts as DiskGhosts}
use Rattle.logger_core.specs.declared.fault.LogFault.{LogFault}
use Rattle.logger_core.specs.declared.fault.LogFault.TheVariants.{Closed, Live, Large, NotLater, Changed, Full, NoMemory, DiskFault}
use Rattle.logging_session.specs.declared.place.Place.{Place}
use Rattle.logging_session.specs.declared.place.Place.TheVariants.{Found, Open, Lost, Failed}
use Rattle.logging_session.specs.Answers.{LogMayAnswer, StaysOpen}
use Rattle.logging_session.specs.Course.{HasKept, HasNotLogged, HasPassedHeld, HasTurnedAway}
use Rattle.logging_session.specs.Events.{Event, LeadFrom, opening}
use Rattle.logging_session.specs.Keeping.{Carried, HasFailed, HasLogger, HasLost, IsFailed, IsLost, IsOpen, IsPlace}
use Rattle.logging_session.specs.Written.{Refuses, Report, Stand}
use Rattle.logging_session.proofs.Events.{opening_is}
use Rattle.logging_run.specs.declared.fault.RunFault.TheVariants as faults
use Rattle.logging_run.specs.Handing.{Handed, events_of, reports_of}
use Rattle.logging_run.specs.Refusals.{MayRefuse, refusal_of}
use Rattle.logging_run.specs.Running.{GoesBy, IsTurnedAway, Rests, Stops, TurnsAway}
use Rattle.logging_run.proofs.Events.{grows, many_grow}
use Rattle.logging_run.proofs.Places.{found_unopened, lost_unfailed, rose_later, working_unfailed}
use Rattle.logging_run.proofs.Standing.{fails_on, rests_on}

-- why it isn't
pub may_earlier : (r : Report) (old new : Carried) (before after first : ℕ) → first ≤ before → (fault : LogFault) → (fault ≡ Closed → ⊥) → LogMayAnswer r old new before after fault → MayRefuse r new first after (refusal_of fault)
may_earlier r old new before after first earlier Closed open_ may = absurd (open_ refl)
may_earlier r old new before after first earlier (Live volume) open_ may = absurd may
may_earlier r old new before after first earlier (Large bytes) open_ may = may.1
may_earlier r old new before after first earlier (NotLater last) open_ may = may.1
may_earlier r old new before after first earlier (Changed pmid) open_ may = may.1
may_earlier r old new before after first earlier (Full file bytes) open_ may = may.1
may_earlier r old new before after first earlier NoMemory open_ may = tt
may_earlier r old new before after first earlier DiskFault open_ may = rose_later first before after earlier may.2

pub refused_failing : (fault : LogFault) → fault ≡ DiskFault → refusal_of fault ≡ faults.DiskFault
refused_failing fault is = ap refusal_of is

-- ---- where the archive stands once memory was refused

opened_same : (l : LabelFields) (left : Files) (limit : ℕ) (events : List Event) (stand : Stand) (place : Place) (held : Holdings) (stamp : Moment) → HasLogger place → LeadFrom l limit left events stand → IsPlace l left limit events stand place held → opening stamp events ≡ events
opened_same l left limit events (Stand.opened w) (Open b) held stamp open_ lead is = opening_is l limit left events w stamp lead
opened_same l left limit events (Stand.found files) (Open b) held stamp open_ lead is = absurd is
opened_same l left limit events stand (Found archive) held stamp open_ lead is = absurd open_
opened_same l left limit events stand Lost held stamp open_ lead is = absurd open_
opened_same l left limit events stand (Failed lost) held stamp open_ lead is = absurd open_

some_opened : (stamp : Moment) (events : List Event) → opening stamp events ≡ [] → ⊥
some_opened stamp [] is = cc
some_opened stamp (e ∷ events) is = cc

lost_found : (l : LabelFields) (left : Files) (limit : ℕ) (events : List Event) (stand : Stand) (place : Place) (held : Holdings) → HasLost place → IsPlace l left limit events stand place held → events ≡ []
lost_found l left limit events (Stand.found files) Lost held lost is = is.none
lost_found l left limit events (Stand.opened w) Lost held lost is = absurd is
lost_found l left limit events stand (Found archive) held lost is = absurd lost
lost_found l left limit events stand (Open b) held lost is = absurd lost
lost_found l left limit events stand (Failed many) held lost is = absurd lost

module _ {D : Type 0} (d : DiskGhosts D) (left : Files) (events : List Event) (stamp : Moment) (st : D) (is : Carried) (new : D) where
  abbrev Kept : List Event → Type 0
  Kept es = HasKept d left es st is new

  -- it wasn't opened
  lost_kept : IsLost is → Kept events ⊎ Kept (opening stamp events) → Kept events
  lost_kept lost (inl kept) = kept
  lost_kept lost (inr kept) = absurd (some_opened stamp events (lost_found is.label left is.limit (opening stamp events) kept.keeps.stand is.place (d.held new) lost kept.keeps.place))

  -- it is open
  open_kept : IsOpen is → Kept events ⊎ Kept (opening stamp events) → Kept (opening stamp events)
  open_kept open_ (inl kept) = subst Kept (sym (opened_same is.label left is.limit events kept.keeps.stand is.place (d.held new) stamp open_ kept.keeps.lead kept.keeps.place)) kept
  open_kept open_ (inr kept) = kept

module _ {D : Type 0} (d : DiskGhosts D) (only_now : (disk : D) (c : Files) → d.left_since disk (d.moment disk) c → CrashImage (d.held disk) c) (limit : ℕ) (start : D) (handed : List Handed) (r : Report) (run is : Carried) (old new : D)
    (rests : Rests d limit handed run start old) (label : is.label ≡ run.label) (limit_is : is.limit ≡ run.limit) (same : is.logged ≡ run.logged) where
  abbrev with_refused : List Handed
  with_refused = handed ++ Handed.refused r ∷ []

  many : length (reports_of with_refused) ≡ length (reports_of handed)
  many = let more = many_grow handed (Handed.refused r) in omega (arith, more)

  -- the archive is opened for it
  opened_rests : IsOpen is → d.faults new ≡ d.faults old → (d.tells → (left : Files) (st : D) → HasKept d left (events_of handed) st run old → HasKept d left (opening r.result.stamp (events_of handed)) st is new) → Rests d limit with_refused is start new
  opened_rests open_ quiet goes = rests_on d only_now limit start handed run is old new rests label limit_is with_refused (working_unfailed is (inr open_)) (λ closed. absurd (closed open_))
      (same ∙ rests.counted ∙ ap (λ (n : ℕ). shown_count n) (sym many)) quiet
      (λ tells left st k. subst (λ (es : List Event). HasKept d left es st is new) (sym (grows handed (Handed.refused r))) (goes tells left st k))

  away_as : (left : Files) (fault : LogFault) (st : D) → HasTurnedAway d left (events_of handed) r st run is new fault → (b : GoesBy d limit handed run start old) → left ≡ contents_of (d.held b.middle) → IsTurnedAway limit (contents_of (d.held start)) (events_of handed) r fault
  away_as left fault st h b here = record {
    left = contents_of (d.held b.middle);
    recovered = record { reading = b.recovered.was.reading; was = b.recovered.was.was; recovered = b.recovered.was.recovered };
    w = h.w;
    lead = subst (λ (l : LabelFields). LeadFrom l limit (contents_of (d.held b.middle)) (opening r.result.stamp (events_of handed)) (Stand.opened h.w)) rests.label
        (subst (λ (n : ℕ). LeadFrom run.label n (contents_of (d.held b.middle)) (opening r.result.stamp (events_of handed)) (Stand.opened h.w)) rests.limit_is
        (subst (λ (f : Files). LeadFrom run.label run.limit f (opening r.result.stamp (events_of handed)) (Stand.opened h.w)) here h.lead));
    refuses = subst (λ (n : ℕ). Refuses n r h.w fault) rests.limit_is h.refuses;
  }

  -- and turns it away
  turned : (fault : LogFault) → StaysOpen run is → d.faults new ≡ d.faults old → (d.tells → (left : Files) (st : D) → HasKept d left (events_of handed) st run old → HasTurnedAway d left (events_of handed) r st run is new fault) → TurnsAway d limit handed r is start new fault
  turned fault stays quiet goes = record {
    runs = record { rests = opened_rests stays.1 quiet (λ tells left st k. (goes tells left st k).kept); working = inr stays.1 };
    away = λ tells.
        let b : GoesBy d limit handed run start old = rests.told tells in
        let left : Files = contents_of (d.held b.middle) in
        away_as left fault b.middle (goes tells left b.middle b.kept) b refl;
  }

  still_rests : (IsFailed is → ⊥) → ((IsOpen is → ⊥) → is.logged ≡ 0) → d.faults new ≡ d.faults old → (d.tells → (left : Files) (st : D) → HasKept d left (events_of handed) st run old → HasKept d left (events_of handed) st is new) → Rests d limit handed is start new
  still_rests unfailed unopened quiet goes = rests_on d only_now limit start handed run is old new rests label limit_is handed unfailed unopened (same ∙ rests.counted) quiet goes

  abbrev pub Refused : LogFault → Type 0
  Refused fault = d.tells → (left : Files) (st : D) → HasKept d left (events_of handed) st run old → HasNotLogged d left (events_of handed) r st run is new fault

  abbrev pub Passed : LogFault → Type 0
  Passed fault = d.tells → (left : Files) (st : D) → HasKept d left (events_of handed) st run old → fault ≡ DiskFault → HasPassedHeld d left (events_of handed) st is new

  wants : LogMayAnswer r run is (d.faults old) (d.faults new) NoMemory → d.faults new ≡ d.faults old → Refused NoMemory → Stops d limit handed r is start new faults.NoMemory
  wants (inl (found, lost, why)) quiet goes = inl (still_rests (lost_unfailed is lost) (λ closed. same ∙ rests.unopened (found_unopened run found)) quiet (λ tells left st k. lost_kept d left (events_of handed) r.result.stamp st is new lost (goes tells left st k)))
  wants (inr stays) quiet goes = inr (opened_rests stays.1 quiet (λ tells left st k. open_kept d left (events_of handed) r.result.stamp st is new stays.1 (goes tells left st k)))

  fails : LogMayAnswer r run is (d.faults old) (d.faults new) DiskFault → Refused DiskFault → Passed DiskFault → Stops d limit handed r is start new faults.DiskFault
  fails may goes passed = inl (fails_on d only_now limit start handed run is old new rests label limit_is (subst HasFailed (sym may.1) tt) may.2 goes (λ tells left st k. passed tells left st k refl))

  pub stops_so : (fault : LogFault) → (fault ≡ Closed → ⊥) → LogMayAnswer r run is (d.faults old) (d.faults new) fault → (fault ≢ DiskFault → d.faults new ≡ d.faults old) → Refused fault → Passed fault → Stops d limit handed r is start new (refusal_of fault)
  stops_so Closed open_ may still goes passed = absurd (open_ refl)
  stops_so (Live volume) open_ may still goes passed = absurd may
  stops_so (Large bytes) open_ may still goes passed = turned (Large bytes) may.0 (still (λ e. cc)) goes
  stops_so (NotLater last) open_ may still goes passed = turned (NotLater last) may.0 (still (λ e. cc)) goes
  stops_so (Changed pmid) open_ may still goes passed = turned (Changed pmid) may.0 (still (λ e. cc)) goes
  stops_so (Full file bytes) open_ may still goes passed = turned (Full file bytes) may.0 (still (λ e. cc)) goes
  stops_so NoMemory open_ may still goes passed = wants may (still (λ e. cc)) goes
  stops_so DiskFault open_ may still goes passed = fails may goes passed
