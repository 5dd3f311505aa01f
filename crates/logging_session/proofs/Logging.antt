-- What `log` answers: the archive is opened, and handed the result.
use Rattle.std.proofs.Common.{◌≡◌, ◌≢◌, inl, inr, ℕ, List, sym, ◌∙◌, subst}
use Rattle.pcp_model.specs.Disk.{Files, Holdings}
use Rattle.pcp_model.specs.LabelFields.{LabelFields}
use Rattle.logger_core.specs.declared.fault.LogFault.{LogFault}
use Rattle.logger_core.specs.declared.fault.LogFault.TheVariants.{Closed, Live, Large, NotLater, Changed, Full, NoMemory, DiskFault}
use Rattle.logging_session.specs.Answers.{IsFor, LogFails, LogMayAnswer, OpenMayAnswer, StaysOpen, TakeFails, TakeMayAnswer, TurnsAway}
use Rattle.logging_session.specs.Events.{Event, LeadFrom, opening}
use Rattle.logging_session.specs.Keeping.{Carried, HasFailed, HasLogger, HasLost, IsLost, IsOpen, IsWorking, Keeps}
use Rattle.logging_session.specs.declared.place.Place.{Place}
use Rattle.logging_session.specs.declared.place.Place.TheVariants.{Found, Open, Lost, Failed}
use Rattle.logging_session.specs.Written.{Refuses, Report, Stand, Written}

-- ---- the archive isn't opened

failed_here : (p : Place) → p ≡ Failed 0 → HasFailed p
failed_here p is = subst HasFailed (sym is) tt

pub open_fails : (left : Files) (events : List Event) (r : Report) (old new : Carried) (held : Holdings) (before after : ℕ) (e : LogFault) → OpenMayAnswer old new before after e → (e ≢ DiskFault → Keeps left events new held) → LogFails left events r old new held e
open_fails left events r old new held before after Closed may keeps = (may.0, keeps (λ e. cc))
open_fails left events r old new held before after (Live volume) may keeps = absurd may
open_fails left events r old new held before after (Large bytes) may keeps = absurd may
open_fails left events r old new held before after (NotLater last) may keeps = absurd may
open_fails left events r old new held before after (Changed pmid) may keeps = absurd may
open_fails left events r old new held before after (Full file bytes) may keeps = absurd may
open_fails left events r old new held before after NoMemory may keeps = inl (may.0, may.1, keeps (λ e. cc))
open_fails left events r old new held before after DiskFault may keeps = (may.0, failed_here new.place may.1)

pub open_may : (r : Report) (old new : Carried) (before after : ℕ) (e : LogFault) → OpenMayAnswer old new before after e → LogMayAnswer r old new before after e
open_may r old new before after Closed may = may
open_may r old new before after (Live volume) may = absurd may
open_may r old new before after (Large bytes) may = absurd may
open_may r old new before after (NotLater last) may = absurd may
open_may r old new before after (Changed pmid) may = absurd may
open_may r old new before after (Full file bytes) may = absurd may
open_may r old new before after NoMemory may = inl may
open_may r old new before after DiskFault may = may

-- ---- and then it doesn't take the result

stays_open : (old middle new : Carried) → IsWorking old → IsOpen middle → (IsOpen old → middle ≡ old) → new ≡ middle → StaysOpen old new
stays_open old middle new working open_ stays same = (working, subst IsOpen (sym same) open_, λ was. same ∙ stays was)

pub take_may : (r : Report) (old middle new : Carried) (before after : ℕ) (e : LogFault) → IsWorking old → IsOpen middle → (IsOpen old → middle ≡ old) → TakeMayAnswer r middle new e → LogMayAnswer r old new before after e
take_may r old middle new before after Closed working open_ stays may = absurd may
take_may r old middle new before after (Live volume) working open_ stays may = absurd may
take_may r old middle new before after (Large bytes) working open_ stays may = (stays_open old middle new working open_ stays may.0, subst (λ (t : Carried). IsFor t.place r (Large bytes)) (sym may.0) may.1)
take_may r old middle new before after (NotLater last) working open_ stays may = (stays_open old middle new working open_ stays may.0, subst (λ (t : Carried). IsFor t.place r (NotLater last)) (sym may.0) may.1)
take_may r old middle new before after (Changed pmid) working open_ stays may = (stays_open old middle new working open_ stays may.0, subst (λ (t : Carried). IsFor t.place r (Changed pmid)) (sym may.0) may.1)
take_may r old middle new before after (Full file bytes) working open_ stays may = (stays_open old middle new working open_ stays may.0, subst (λ (t : Carried). IsFor t.place r (Full file bytes)) (sym may.0) may.1)
take_may r old middle new before after NoMemory working open_ stays may = inr (stays_open old middle new working open_ stays may)
take_may r old middle new before after DiskFault working open_ stays may = absurd may

-- a session that is open isn't lost by it
open_not_lost : {A : Type 0} (p : Place) → HasLogger p → HasLost p → A
open_not_lost (Found archive) open_ lost = absurd open_
open_not_lost (Open b) open_ lost = absurd lost
open_not_lost Lost open_ lost = absurd open_
open_not_lost (Failed k) open_ lost = absurd open_

same_not_lost : {A : Type 0} (middle new : Carried) → IsOpen middle → new ≡ middle → IsLost new → A
same_not_lost middle new open_ same lost = open_not_lost middle.place open_ (subst IsLost same lost)

pub take_not_lost : {A : Type 0} (r : Report) (middle new : Carried) (e : LogFault) → IsOpen middle → TakeMayAnswer r middle new e → IsLost new → A
take_not_lost r middle new Closed open_ may lost = absurd may
take_not_lost r middle new (Live volume) open_ may lost = absurd may
take_not_lost r middle new (Large bytes) open_ may lost = same_not_lost middle new open_ may.0 lost
take_not_lost r middle new (NotLater last) open_ may lost = same_not_lost middle new open_ may.0 lost
take_not_lost r middle new (Changed pmid) open_ may lost = same_not_lost middle new open_ may.0 lost
take_not_lost r middle new (Full file bytes) open_ may lost = same_not_lost middle new open_ may.0 lost
take_not_lost r middle new NoMemory open_ may lost = same_not_lost middle new open_ may lost
take_not_lost r middle new DiskFault open_ may lost = absurd may

module _ (left : Files) (events : List Event) (r : Report) (middle new : Carried) (held : Holdings) (k : Keeps left (opening r.result.stamp events) middle held) (open_ : IsOpen middle) where
  turned : (e : LogFault) → new ≡ middle → (w : Written) × (k.stand ≡ Stand.opened w) × Refuses middle.limit r w e → TurnsAway left (opening r.result.stamp events) r e new held
  turned e same t =
      let away : TurnsAway left (opening r.result.stamp events) r e middle held = record { keeps = k; w = t.0; stands = t.1; refuses = t.2 } in
      subst (λ (c : Carried). TurnsAway left (opening r.result.stamp events) r e c held) (sym same) away

  pub log_fails : (old : Carried) (e : LogFault) → TakeMayAnswer r middle new e → TakeFails k.stand middle.limit r e → LogFails left events r old new held e
  log_fails old Closed may fails = absurd may
  log_fails old (Live volume) may fails = absurd may
  log_fails old (Large bytes) may fails = turned (Large bytes) may.0 fails
  log_fails old (NotLater last) may fails = turned (NotLater last) may.0 fails
  log_fails old (Changed pmid) may fails = turned (Changed pmid) may.0 fails
  log_fails old (Full file bytes) may fails = turned (Full file bytes) may.0 fails
  log_fails old NoMemory may fails = inr (subst IsOpen (sym may) open_, subst (λ (c : Carried). Keeps left (opening r.result.stamp events) c held) (sym may) k)
  log_fails old DiskFault may fails = absurd may

  -- the same session but for where it stands
  pub opened_leads : (old : Carried) → middle.label ≡ old.label → middle.limit ≡ old.limit → (w : Written) → k.stand ≡ Stand.opened w → LeadFrom old.label old.limit left (opening r.result.stamp events) (Stand.opened w)
  opened_leads old label limit w is =
      subst (λ (l : LabelFields). LeadFrom l old.limit left (opening r.result.stamp events) (Stand.opened w)) label
      (subst (λ (n : ℕ). LeadFrom middle.label n left (opening r.result.stamp events) (Stand.opened w)) limit
      (subst (λ (s : Stand). LeadFrom middle.label middle.limit left (opening r.result.stamp events) s) is k.lead))
