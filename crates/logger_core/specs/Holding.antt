-- A logger that holds results to be written together, and what its archive will be once they are.
use Rattle.std.specs.Prelude.{◌≡◌, ◌⊎◌, ℕ, ◌+◌, ◌<◌, ◌≤◌, true, false, List, [], ◌∷◌, ◌++◌, length}
use Rattle.pcp_base.specs.declared.file.FileId.{FileId}
use Rattle.pcp_base.specs.declared.result.PmResult.{PmResult}
use Rattle.pcp_model.specs.Disk.{Files, Holdings}
use Rattle.pcp_model.specs.Payload.{payload_length}
use Rattle.archive_meta.specs.declared.facts.Facts.{Facts}
use Rattle.pcp_outside.specs.Causes.{Rose}
use Rattle.logger_core.specs.declared.ends.Ends.{Ends}
use Rattle.logger_core.specs.declared.fault.LogFault.{LogFault}
use Rattle.logger_core.specs.declared.fault.LogFault.TheVariants.{Closed, DiskFault}
use Rattle.logger_core.specs.declared.groups.Group.{Group}
use Rattle.logger_core.specs.declared.groups.Run.{Run}
use Rattle.logger_core.specs.Going.{AreSmall}
use Rattle.logger_core.specs.Grouping.{Told, LogsOne, LogsAll, AreAllEnough, AreWritten, BeginsRun, samples_of}
use Rattle.logger_core.specs.Held.{AreRuns, AreRunsBounded, IsHeldMore, after_runs, counts_of, items_length, runs_acknowledged, runs_files}
use Rattle.logger_core.specs.Keeps.{is_sure}
use Rattle.logger_core.specs.Logging.{IsRefused}
use Rattle.logger_core.specs.Meant.{Meant, Kept, AreEnds, IsAt, IsLogger, Stands, items_in}
use Rattle.logger_core.specs.Refusals.{closed_copy}

-- What such a logger is seen as: the logger, which knows the metadata of what is held, the runs that are held, and where the files
-- end once these are written.
pub record HeldBack : Type 0 where
  pub kept : Kept
  pub runs : List Run
  pub planned : Ends

-- None is held, or fewer than 64 are, and their records with this one's take at most 4,194,304 bytes.
abbrev pub HasRoomBeside : List Run → PmResult → Type 0
HasRoomBeside runs answer = (runs ≡ []) ⊎ ((counts_of runs < 64) × (items_length runs + (payload_length answer + 8) ≤ 4194304))

-- what holds of every one
pub record IsBatch (kept : Kept) (runs : List Run) (planned : Ends) : Type 0 where
  pub small : AreSmall planned
  pub few : counts_of runs ≤ 64
  pub bounded : AreRunsBounded kept.ends runs
  pub planned_is : planned ≡ after_runs kept.ends runs
  pub some : counts_of runs ≡ 0 → runs ≡ []

-- ---- what the archive will be

-- a disk on which every byte of these files is sure
abbrev pub all_sure : Files → Holdings
all_sure files file = is_sure (files file)

-- The logger keeps this archive on the disk. These results are held, and once they are written that one is meant, of which the files
-- that are held are all but written.
pub record IsHolding (m : Meant) (b : HeldBack) (pending : List Told) (o : Meant) (held : Holdings) : Type 0 where
  pub at : IsAt m b.kept.ends held
  pub label_is : m.contents.label ≡ b.kept.label
  pub runs : AreRuns m.contents.records b.kept.ends b.kept.limit b.runs pending b.kept.records b.planned
  pub enough : AreAllEnough pending
  pub all : LogsAll m b.kept.ends.volume b.kept.limit pending o b.planned.volume
  pub started : o.start ≡ m.start
  pub gone_is : o.gone ≡ m.gone
  pub label_same : o.contents.label ≡ m.contents.label
  pub records_are : o.contents.records ≡ b.kept.records
  pub items_are : items_in o ≡ items_in m ++ samples_of pending
  pub still : m.acknowledged ≤ o.acknowledged
  pub acknowledged_is : o.acknowledged ≡ runs_acknowledged b.runs (length (items_in m)) m.acknowledged
  pub files_are : (file : FileId) → o.files file ≡ runs_files m.contents.label b.kept.ends b.runs m.files file
  -- were its files all on the disk, wholly sure, a logger could go on with them
  pub stands : Stands o b.planned.volume (all_sure o.files)
  pub ends : AreEnds o b.planned

-- ---- steps

-- a logger judged one result where the files will end: its metadata know of it then
pub record IsHeldBy (old now : Kept) (before after : Group) (answer : PmResult) (facts : Facts) : Type 0 where
  pub open_ : old.closed ≡ false
  pub more : IsHeldMore old.records before old.limit answer facts now.records after
  pub same : now ≡ record { label = old.label; records = now.records; ends = old.ends; limit = old.limit; closed = old.closed }

-- the same logger, with where the files end then
abbrev pub ending_at : Ends → Kept → Kept
ending_at e l = record { label = l.label; records = l.records; ends = e; limit = l.limit; closed = l.closed }

-- Where a group isn't written the logger is closed, or the disk failed, which closes it; the group is as it was.
abbrev pub GroupStops : Kept → Kept → Group → Group → ℕ → ℕ → ℕ → LogFault → Type 0
GroupStops old now before after start end k Closed = (k ≡ 0) × (old.closed ≡ true) × (now ≡ old) × (after ≡ before)
GroupStops old now before after start end k DiskFault = (old.closed ≡ false) × (now ≡ closed_copy old) × (after ≡ before) × (k < counts_of before.runs) × Rose start end
GroupStops old now before after start end k fault = ⊥

-- ---- calls

-- one result more is held
pub record HoldsMore (m : Meant) (old new : HeldBack) (pending : List Told) (answer : PmResult) (facts : Facts) (o : Meant) (held : Holdings) : Type 0 where
  pub next : Meant
  pub one : LogsOne o old.planned.volume old.kept.limit answer facts next new.planned.volume
  pub is : IsHolding m new (pending ++ (answer, facts) ∷ []) next held

-- why a result isn't held: what turns it away where the files will end
abbrev pub HoldMayAnswer : HeldBack → PmResult → Facts → LogFault → Type 0
HoldMayAnswer b answer facts Closed = b.kept.closed ≡ true
HoldMayAnswer b answer facts fault = (b.kept.closed ≡ false) × IsRefused b.kept.records b.planned b.kept.limit answer facts fault

-- a fault of the disk closes the logger, and leaves what is held
abbrev pub closed_back : HeldBack → HeldBack
closed_back b = record { kept = closed_copy b.kept; runs = b.runs; planned = b.planned }

-- all that was held is written, and the logger goes on behind it
abbrev pub written_back : HeldBack → HeldBack
written_back b = record { kept = ending_at b.planned b.kept; runs = []; planned = b.planned }

-- A write is refused where the logger is closed, or by the disk, which closes it; the number counts the results that were written.
abbrev pub WriteMayAnswer : HeldBack → HeldBack → ℕ → ℕ → ℕ → LogFault → Type 0
WriteMayAnswer old new before after k Closed = (k ≡ 0) × (old.kept.closed ≡ true) × (new ≡ old)
WriteMayAnswer old new before after k DiskFault = (old.kept.closed ≡ false) × (new ≡ closed_back old) × (k < counts_of old.runs) × Rose before after
WriteMayAnswer old new before after k fault = ⊥

-- Where the disk failed, the first so many are written, and no more than one run behind them, which begins there.
pub record IsStopped (m : Meant) (old : HeldBack) (pending : List Told) (held : Holdings) (k : ℕ) : Type 0 where
  pub written : AreWritten m old.kept.ends.volume old.kept.limit pending k held
  pub begins : BeginsRun m.contents.records old.kept.ends old.kept.limit pending k

-- ---- nothing held

-- a logger is one that holds nothing
abbrev pub LoggerHoldsNothing : Type 0
LoggerHoldsNothing = (m : Meant) (b : HeldBack) (held : Holdings) → IsLogger m b.kept held → b.runs ≡ [] → b.planned ≡ b.kept.ends → IsHolding m b [] m held

-- and one that holds nothing is a logger
abbrev pub HoldingNothingIsALogger : Type 0
HoldingNothingIsALogger = (m o : Meant) (b : HeldBack) (held : Holdings) → IsHolding m b [] o held → IsLogger m b.kept held × (o ≡ m)
