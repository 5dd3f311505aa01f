-- What the calls of a session answer, what stands after each answer, and what a crash leaves meanwhile.
use Rattle.std.specs.Prelude.{◌≡◌, ◌⊎◌, ℕ, ◌+◌, ◌≤◌, Bool, true, false, List}
use Rattle.pcp_model.specs.Disk.{Files, Holdings}
use Rattle.pcp_model.specs.Payload.{payload_length}
use Rattle.pcp_outside.specs.Causes.{Rose, shown_count}
use Rattle.pcp_outside.specs.declared.disk.Disk.{Ghosts as DiskGhosts}
use Rattle.logger_core.specs.declared.ends.Ends.{Ends}
use Rattle.logger_core.specs.declared.fault.LogFault.{LogFault}
use Rattle.logger_core.specs.declared.fault.LogFault.TheVariants.{Closed, Live, Large, NotLater, Changed, Full, NoMemory, DiskFault}
use Rattle.logger_core.specs.Going.{IsFlushed, all_acknowledged, counting_all}
use Rattle.logger_core.specs.Grouping.{Told}
use Rattle.logger_core.specs.Held.{counts_of}
use Rattle.logger_core.specs.Holding.{HeldBack}
use Rattle.logger_core.specs.Logging.{IsLoggable, IsRefused}
use Rattle.logger_core.specs.LogSteps.{crosses}
use Rattle.logger_core.specs.Meant.{IsLogger, Kept, Meant}
use Rattle.logger_core.specs.Passing.{HasPassedRuns}
use Rattle.logging_session.specs.declared.place.Place.{Place}
use Rattle.logging_session.specs.declared.place.Place.TheVariants.{Failed, Found, Open}
use Rattle.logging_session.specs.ComingBack.{ComesBackTo}
use Rattle.logging_session.specs.Events.{Event, acknowledged_by, items_by, opening}
use Rattle.logging_session.specs.Keeping.{Carried, IsClosed, IsFailed, IsFound, IsLost, IsOpen, IsWorking, Keeps, held_in, lost_in}
use Rattle.logging_session.specs.Opening.{MayWantMemory}
use Rattle.logging_session.specs.Written.{Refuses, Report, Stand, Written}

-- A crash leaves the items of the start and the first ones of these events, all that they acknowledge among them
abbrev pub ComesBackBy : List Event → Files → Files → Type 0
ComesBackBy events left image = ComesBackTo (items_by events) (acknowledged_by events) left image

-- The archive that these events left, which is open, doesn't take the result.
pub record TurnsAway (left : Files) (events : List Event) (r : Report) (fault : LogFault) (s : Carried) (held : Holdings) : Type 0 where
  pub keeps : Keeps left events s held
  pub w : Written
  pub stands : keeps.stand ≡ Stand.opened w
  pub refuses : Refuses s.limit r w fault

-- Which refusal `log` answers, and what then stands: what was opened for the result stays open.
abbrev pub LogFails : Files → List Event → Report → Carried → Carried → Holdings → LogFault → Type 0
LogFails left events r old new held Closed = IsClosed old × Keeps left events new held
LogFails left events r old new held (Live volume) = ⊥
LogFails left events r old new held (Large bytes) = TurnsAway left (opening r.result.stamp events) r (Large bytes) new held
LogFails left events r old new held (NotLater last) = TurnsAway left (opening r.result.stamp events) r (NotLater last) new held
LogFails left events r old new held (Changed pmid) = TurnsAway left (opening r.result.stamp events) r (Changed pmid) new held
LogFails left events r old new held (Full file bytes) = TurnsAway left (opening r.result.stamp events) r (Full file bytes) new held
LogFails left events r old new held NoMemory = (IsFound old × IsLost new × Keeps left events new held) ⊎ (IsOpen new × Keeps left (opening r.result.stamp events) new held)
LogFails left events r old new held DiskFault = IsFound old × IsFailed new

-- ---- over any disk

-- it is open, and as it was where it was open before
abbrev pub StaysOpen : Carried → Carried → Type 0
StaysOpen old new = IsWorking old × IsOpen new × (IsOpen old → new ≡ old)

-- the logger that goes on with the archive turns the result away for this reason
abbrev pub IsFor : Place → Report → LogFault → Type 0
IsFor (Open b) r fault = IsRefused b.kept.records b.planned b.kept.limit r.result r.facts fault
IsFor place r fault = ⊥

-- where one goes on with it, it may log the result
abbrev pub MayTake : Place → Report → Type 0
MayTake (Open b) r = IsLoggable b.kept.records b.planned b.kept.limit r.result r.facts
MayTake place r = Unit {0}

-- the archive that recovery left may want memory to be opened
abbrev pub WantsMemory : Place → Type 0
WantsMemory (Found archive) = MayWantMemory archive
WantsMemory place = ⊥

-- Which refusal `log` answers of a session, and what it leaves of it: only a fault of the disk, whose count then rose, and want of memory
-- while the archive is opened end the session. What turns a result away has its cause in the logger that then stands, as its archive will be
-- once what is held is written.
abbrev pub LogMayAnswer : Report → Carried → Carried → ℕ → ℕ → LogFault → Type 0
LogMayAnswer r old new before after Closed = IsClosed old × (new ≡ old)
LogMayAnswer r old new before after (Live volume) = ⊥
LogMayAnswer r old new before after NoMemory = (IsFound old × IsLost new × WantsMemory old.place) ⊎ StaysOpen old new
LogMayAnswer r old new before after DiskFault = IsFound old × (new.place ≡ Failed 0) × Rose before after
LogMayAnswer r old new before after fault = StaysOpen old new × IsFor new.place r fault

-- How the numbers go on with a result, those of the archive as it will be once what is held is written: where its record crosses the volume
-- limit the next volume is written, and all that was logged before is acknowledged; else the volume is the same one, and as many are.
abbrev pub CountsBy : Bool → Ends → Ends → Type 0
CountsBy true old new = (new.volume ≡ old.volume + 1) × (new.acknowledged ≡ old.logged) × (new.logged ≡ shown_count (old.logged + 1))
CountsBy false old new = (new.volume ≡ old.volume) × (new.acknowledged ≡ old.acknowledged) × (new.logged ≡ shown_count (old.logged + 1))

-- So many are acknowledged exactly: of an archive that is opened for the result, all others.
abbrev pub CountsOn : Report → Place → Place → Type 0
CountsOn r (Open old) (Open new) = CountsBy (crosses old.kept.limit old.planned.length (payload_length r.result + 8)) old.planned new.planned
CountsOn r (Found archive) (Open new) = new.planned.logged ≡ shown_count (new.planned.acknowledged + 1)
CountsOn r old new = Unit {0}

-- A write, a flush, a sync or the close is refused where the session is closed, or by the disk, which closes it: of what was held so much is
-- lost.
abbrev pub FlushMayAnswer : Carried → Carried → ℕ → ℕ → LogFault → Type 0
FlushMayAnswer old new before after Closed = IsClosed old × (new ≡ old)
FlushMayAnswer old new before after DiskFault = IsOpen old × IsFailed new × (lost_in new.place ≤ held_in old.place) × Rose before after
FlushMayAnswer old new before after fault = ⊥

-- ---- the step of a flush and of a sync

-- A logger that has written all made it sure: with the entry that is then due, or with none, where nothing of it changes but how many are
-- acknowledged.
abbrev pub IsMadeSure : Bool → Meant → Kept → Kept → Holdings → Type 0
IsMadeSure true m old now held = IsFlushed m old now held
IsMadeSure false m old now held = IsLogger (all_acknowledged m) now held × (now ≡ counting_all old)

-- Where the disk failed so many of the results that were held are lost: at some moment it held exactly what the others lead to.
pub record HasPassedBut {D : Type 0} (d : DiskGhosts D) (m : Meant) (b : HeldBack) (pending : List Told) (lost : ℕ) (old new : D) : Type 0 where
  pub written : ℕ
  pub others : written + lost ≡ counts_of b.runs
  pub passed : HasPassedRuns d m b pending written old new

-- ---- the steps of `log`

-- the archive is opened, where it wasn't
abbrev pub OpenMayAnswer : Carried → Carried → ℕ → ℕ → LogFault → Type 0
OpenMayAnswer old new before after Closed = IsClosed old × (new ≡ old)
OpenMayAnswer old new before after NoMemory = IsFound old × IsLost new × WantsMemory old.place
OpenMayAnswer old new before after DiskFault = IsFound old × (new.place ≡ Failed 0) × Rose before after
OpenMayAnswer old new before after fault = ⊥

-- all that it has is acknowledged
abbrev pub CountsAll : Place → Type 0
CountsAll (Open b) = (b.planned ≡ b.kept.ends) × (b.kept.ends.acknowledged ≡ b.kept.ends.logged)
CountsAll place = Unit {0}

-- and then judges and holds the result
abbrev pub TakeMayAnswer : Report → Carried → Carried → LogFault → Type 0
TakeMayAnswer r old new Closed = ⊥
TakeMayAnswer r old new (Live volume) = ⊥
TakeMayAnswer r old new DiskFault = ⊥
TakeMayAnswer r old new NoMemory = new ≡ old
TakeMayAnswer r old new fault = (new ≡ old) × IsFor old.place r fault

-- an archive that is open refuses the result
abbrev pub TakeFails : Stand → ℕ → Report → LogFault → Type 0
TakeFails stand limit r Closed = ⊥
TakeFails stand limit r (Live volume) = ⊥
TakeFails stand limit r NoMemory = Unit {0}
TakeFails stand limit r DiskFault = ⊥
TakeFails stand limit r fault = (w : Written) × (stand ≡ Stand.opened w) × Refuses limit r w fault
