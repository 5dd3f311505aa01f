-- Several results that are logged together: the files and the items are those of one after another.
use Rattle.std.specs.Prelude.{◌≡◌, ◌⊎◌, ℕ, ◌+◌, ◌<◌, ◌≤◌, true, false, List, [], ◌∷◌, ◌++◌, length, take, drop, slice_get, Some}
use Rattle.std.specs.List.{AllByRecursion}
use Rattle.pcp_base.specs.Results.{Fits}
use Rattle.pcp_base.specs.declared.file.FileId.{FileId}
use Rattle.pcp_base.specs.declared.result.Item.{Item}
use Rattle.pcp_base.specs.declared.result.Item.TheVariants.{Sample}
use Rattle.pcp_base.specs.declared.result.PmResult.{PmResult}
use Rattle.pcp_model.specs.declared.records.MetaRecord.{MetaRecord}
use Rattle.pcp_model.specs.Disk.{Files, Holdings, bytes_of}
use Rattle.pcp_model.specs.Laws.{IsLonger}
use Rattle.pcp_model.specs.Payload.{payload_length}
use Rattle.pcp_outside.specs.Causes.{Rose}
use Rattle.archive_meta.specs.declared.facts.Facts.{Facts}
use Rattle.archive_meta.specs.Enough.{AreEnough}
use Rattle.archive_meta.specs.Missing.{framed_records}
use Rattle.logger_core.specs.declared.ends.Ends.{Ends}
use Rattle.logger_core.specs.declared.fault.LogFault.{LogFault}
use Rattle.logger_core.specs.declared.fault.LogFault.TheVariants.{Closed, Live, Large, NotLater, Changed, Full, NoMemory, DiskFault}
use Rattle.logger_core.specs.Going.{HoldsNoMore, acknowledged_before}
use Rattle.logger_core.specs.Logging.{IsLogged, IsLoggable, IsRefused, closed_with}
use Rattle.logger_core.specs.LogSteps.{LogStep, base_number, crosses, entries_put}
use Rattle.logger_core.specs.Meant.{Meant, Kept, IsLogger, stood_in}
use Rattle.logger_core.specs.Planning.{planned_ends}

-- a result, and the facts that describe it
abbrev pub Told : Type 0
Told = PmResult × Facts

-- a result with at least one set, each of which fits
abbrev pub MayBeAsked : Told → Type 0
MayBeAsked g = (0 < length g.0.sets) × AllByRecursion Fits g.0.sets

-- the facts of each are enough
abbrev pub AreAllEnough : List Told → Type 0
AreAllEnough group = AllByRecursion (λ g. AreEnough g.1 g.0.sets) group

abbrev pub samples_of : List Told → List Item
samples_of [] = []
samples_of (g ∷ group) = Sample g.0 ∷ samples_of group

-- ---- one after another

-- One result was logged: what was meant becomes this, and this volume is then written.
pub record LogsOne (m : Meant) (number limit : ℕ) (answer : PmResult) (facts : Facts) (n : Meant) (next : ℕ) : Type 0 where
  pub started : n.start ≡ m.start
  pub gone_is : n.gone ≡ m.gone
  pub greatest_is : n.greatest ≡ Some answer.stamp
  pub step : LogStep m.files m.contents number m.greatest (stood_in m) limit answer facts n.files
  pub longer : IsLonger m.contents n.contents step.missing (entries_put step.crossing m.files m.contents number m.greatest (stood_in m)) (Sample answer ∷ [])
  pub still : m.acknowledged ≤ n.acknowledged
  pub acknowledged_is : n.acknowledged ≡ acknowledged_before step.crossing m
  pub next_is : next ≡ base_number step.crossing number

-- the results of a group were logged, each behind the one before it
abbrev pub LogsAll : Meant → ℕ → ℕ → List Told → Meant → ℕ → Type 0
LogsAll m number limit [] n next = (n ≡ m) × (next ≡ number)
LogsAll m number limit (g ∷ group) n next = (mid : Meant) × (at : ℕ) × LogsOne m number limit g.0 g.1 mid at × LogsAll mid at limit group n next

-- a logger keeps the archive with all of them
pub record AreLogged (m : Meant) (old now : Kept) (group : List Told) (held : Holdings) : Type 0 where
  pub new : Meant
  pub all : LogsAll m old.ends.volume old.limit group new now.ends.volume
  pub is : IsLogger new now held

-- ---- which may be logged, by the numbers alone

-- Each may be logged where it comes. Then the records of Meta and the ends of the files are these.
abbrev pub AreLoggable : List MetaRecord → Ends → ℕ → List Told → List MetaRecord → Ends → Type 0
AreLoggable records e limit [] now after = (now ≡ records) × (after ≡ e)
AreLoggable records e limit (g ∷ group) now after =
    (is : IsLoggable records e limit g.0 g.1)
    × AreLoggable (records ++ is.missing) (planned_ends (crosses limit e.length (payload_length g.0 + 8)) (length (framed_records is.missing)) (payload_length g.0 + 8) g.0.stamp e) limit group now after

-- ---- refusals

-- Those before this one were logged, and it is refused where it comes.
pub record IsRefusedAt (old now : Kept) (group : List Told) (before after k : ℕ) (fault : LogFault) : Type 0 where
  pub open_ : old.closed ≡ false
  pub one : Told
  pub is : slice_get group k ≡ Some one
  pub loggable : AreLoggable old.records old.ends old.limit (take k group) now.records now.ends
  pub refused : IsRefused now.records now.ends old.limit one.0 one.1 fault
  pub same : now ≡ record { label = old.label; records = now.records; ends = now.ends; limit = old.limit; closed = false }
  pub quiet : after ≡ before

-- A run of results begins with this one: it is the first, or goes into the next volume.
pub record BeginsRun (records : List MetaRecord) (e : Ends) (limit : ℕ) (group : List Told) (k : ℕ) : Type 0 where
  pub one : Told
  pub is : slice_get group k ≡ Some one
  pub now : List MetaRecord
  pub after : Ends
  pub loggable : AreLoggable records e limit (take k group) now after
  pub this : IsLoggable now after limit one.0 one.1
  pub first : (k ≡ 0) ⊎ (crosses limit after.length (payload_length one.0 + 8) ≡ true)

-- Which refusal comes with which number, and what it leaves of the logger.
abbrev pub GroupMayAnswer : Kept → Kept → List Told → ℕ → ℕ → ℕ → LogFault → Type 0
GroupMayAnswer old now group before after k Closed = (k ≡ 0) × (old.closed ≡ true) × (now ≡ old)
GroupMayAnswer old now group before after k (Live volume) = ⊥
GroupMayAnswer old now group before after k (Large bytes) = IsRefusedAt old now group before after k (Large bytes)
GroupMayAnswer old now group before after k (NotLater last) = IsRefusedAt old now group before after k (NotLater last)
GroupMayAnswer old now group before after k (Changed pmid) = IsRefusedAt old now group before after k (Changed pmid)
GroupMayAnswer old now group before after k (Full file bytes) = IsRefusedAt old now group before after k (Full file bytes)
GroupMayAnswer old now group before after k NoMemory = (k ≡ 0) × (old.closed ≡ false) × (now ≡ old)
GroupMayAnswer old now group before after k DiskFault = (old.closed ≡ false) × (now ≡ closed_with old now.records) × Rose before after × BeginsRun old.records old.ends old.limit group k

-- the disk holds all bytes of these files, and perhaps more behind them
abbrev pub HoldsAll : Files → Holdings → Type 0
HoldsAll files held = (file : FileId) → (more : List ℕ) × (bytes_of (held file) ≡ files file ++ more)

-- These results may be written as one run behind this archive, which is this one then: only the first may go into the next volume.
pub record AreOneRun (m : Meant) (number limit : ℕ) (group : List Told) (n : Meant) : Type 0 where
  pub first : Told
  pub rest : List Told
  pub are : group ≡ first ∷ rest
  pub mid : Meant
  pub at : ℕ
  pub one : LogsOne m number limit first.0 first.1 mid at
  pub all : LogsAll mid at limit rest n at

-- The first so many were written: all that is then meant stands on the disk, and no more than a beginning of what the one run behind
-- them would leave.
pub record AreWritten (m : Meant) (number limit : ℕ) (group : List Told) (k : ℕ) (held : Holdings) : Type 0 where
  pub new : Meant
  pub next : ℕ
  pub all : LogsAll m number limit (take k group) new next
  pub stand : HoldsAll new.files held
  pub run : List Told
  pub others : List Told
  pub behind : drop k group ≡ run ++ others
  pub after : Meant
  pub would : AreOneRun new next limit run after
  pub most : HoldsNoMore after.files held

-- What a refusal leaves: those before the refused one, logged; or where the disk failed, written.
abbrev pub LeavesFirst : Meant → Kept → Kept → List Told → Holdings → ℕ → LogFault → Type 0
LeavesFirst m old now group held k Closed = Unit {0}
LeavesFirst m old now group held k (Live volume) = ⊥
LeavesFirst m old now group held k (Large bytes) = AreLogged m old now (take k group) held
LeavesFirst m old now group held k (NotLater last) = AreLogged m old now (take k group) held
LeavesFirst m old now group held k (Changed pmid) = AreLogged m old now (take k group) held
LeavesFirst m old now group held k (Full file bytes) = AreLogged m old now (take k group) held
LeavesFirst m old now group held k NoMemory = IsLogger m now held
LeavesFirst m old now group held k DiskFault = AreWritten m old.ends.volume old.limit group k held

-- A group of one is logged as one result is.
abbrev pub GroupOfOneIsLogged : Type 0
GroupOfOneIsLogged = (m : Meant) (old now : Kept) (answer : PmResult) (facts : Facts) (held : Holdings) → AreLogged m old now ((answer, facts) ∷ []) held → IsLogged m old now answer facts held
