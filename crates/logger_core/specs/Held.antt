-- Results that are held to be written, in runs.
use Rattle.std.specs.Prelude.{◌≡◌, ℕ, ◌+◌, ◌<◌, ◌≤◌, Bool, true, false, if◌then◌else◌, List, [], ◌∷◌, ◌++◌, length, take, slice_get, Option, None, Some}
use Rattle.std.specs.List.{AllByRecursion}
use Rattle.pcp_base.specs.Time.{Moment}
use Rattle.pcp_base.specs.declared.file.FileId.{FileId}
use Rattle.pcp_base.specs.declared.result.Item.{Item}
use Rattle.pcp_base.specs.declared.result.PmResult.{PmResult}
use Rattle.pcp_model.specs.declared.records.MetaRecord.{MetaRecord}
use Rattle.pcp_model.specs.Disk.{Files, Holdings}
use Rattle.pcp_model.specs.LabelFields.{LabelFields}
use Rattle.pcp_model.specs.Laws.{IsLonger}
use Rattle.pcp_model.specs.Payload.{payload_length}
use Rattle.archive_meta.specs.declared.facts.Facts.{Facts}
use Rattle.archive_meta.specs.Records.{Adds}
use Rattle.logger_core.specs.declared.ends.Ends.{Ends}
use Rattle.logger_core.specs.declared.fault.LogFault.{LogFault}
use Rattle.logger_core.specs.declared.fault.LogFault.TheVariants.{Closed, Live, Large, NotLater, Changed, Full, NoMemory, DiskFault}
use Rattle.logger_core.specs.declared.groups.Group.{Group}
use Rattle.logger_core.specs.declared.groups.Judged.{Judged}
use Rattle.logger_core.specs.declared.groups.Run.{Run}
use Rattle.logger_core.specs.declared.preparing.Made.{Made}
use Rattle.logger_core.specs.Going.{AreSmall, acknowledged_before}
use Rattle.logger_core.specs.Grouping.{Told, LogsAll, AreAllEnough, AreLoggable, samples_of}
use Rattle.logger_core.specs.Logging.{IsMadeOf, IsRefused}
use Rattle.logger_core.specs.LogSteps.{base_files, crosses, entries_put, with_next, with_run}
use Rattle.logger_core.specs.Meant.{Meant, Kept, AreEnds, IsAt, items_in, stood_in}
use Rattle.logger_core.specs.Planning.{due_at, ran_ends, ready_ends}
use Rattle.logger_core.specs.Runs.{IsRunToCome, IsLastStamp}
use Rattle.logger_core.specs.Steps.{with_entry}

-- the run of one result
abbrev pub run_of : Made → Moment → Run
run_of made t = record { crossing = made.crossing; records = made.records; items = made.item; count = 1; stamp = t }

-- a run with one result more
abbrev pub joined_run : Run → Made → Moment → Run
joined_run r made t = record { crossing = r.crossing; records = r.records ++ made.records; items = r.items ++ made.item; count = r.count + 1; stamp = t }

-- runs with one result more, which begins a run where it goes into the next volume
abbrev pub with_made : List Run → Made → Moment → List Run
with_made [] made t = run_of made t ∷ []
with_made (r ∷ []) made t = if made.crossing then r ∷ run_of made t ∷ [] else joined_run r made t ∷ []
with_made (r ∷ s ∷ runs) made t = r ∷ with_made (s ∷ runs) made t

-- how many results the runs hold
abbrev pub counts_of : List Run → ℕ
counts_of [] = 0
counts_of (r ∷ runs) = r.count + counts_of runs

-- the ends once a run is written, and those once all are
abbrev pub after_run : Ends → Run → Ends
after_run e run = ran_ends (length run.records) (length run.items) run.count run.stamp (ready_ends run.crossing e)

-- where the files end once all of these runs are written
abbrev pub after_runs : Ends → List Run → Ends
after_runs e [] = e
after_runs e (run ∷ runs) = after_runs (after_run e run) runs

-- how many bytes the records of the held results take
abbrev pub items_length : List Run → ℕ
items_length [] = 0
items_length (run ∷ runs) = length run.items + items_length runs

-- ---- what runs leave

-- the files before a run: a switch, where the next volume is opened for it
abbrev pub ready_files : LabelFields → Bool → Ends → Files → Files
ready_files l crossing e files = if crossing then with_next l (e.volume + 1) e.greatest (with_entry (due_at e) files) else files

-- the files behind a run
abbrev pub run_files : LabelFields → Ends → Run → Files → Files
run_files l e run files = with_run (ready_ends run.crossing e).volume run.records run.items (ready_files l run.crossing e files)

-- the files behind runs
abbrev pub runs_files : LabelFields → Ends → List Run → Files → Files
runs_files l e [] files = files
runs_files l e (run ∷ runs) files = runs_files l (after_run e run) runs (run_files l e run files)

-- how many items are acknowledged behind runs: a switch acknowledges all that stood before it
abbrev pub runs_acknowledged : List Run → ℕ → ℕ → ℕ
runs_acknowledged [] items acknowledged = acknowledged
runs_acknowledged (run ∷ runs) items acknowledged = runs_acknowledged runs (items + run.count) (if run.crossing then items else acknowledged)

-- a run has a result, and no count of bytes comes near what 64 bits hold
pub record IsRunBounded (e : Ends) (run : Run) : Type 0 where
  pub some : 0 < run.count
  pub next : run.crossing ≡ true → e.volume + 1 < 2147483648
  pub meta : e.meta + length run.records < 9223372036854775808
  pub room : (ready_ends run.crossing e).length + length run.items < 9223372036854775808

abbrev pub AreRunsBounded : Ends → List Run → Type 0
AreRunsBounded e [] = Unit {0}
AreRunsBounded e (run ∷ runs) = IsRunBounded e run × AreRunsBounded (after_run e run) runs

-- the archive in whose last volume a run has its place: the same, or after a switch
pub record IsBase (m : Meant) (e : Ends) (crossing : Bool) (n : Meant) : Type 0 where
  pub started : n.start ≡ m.start
  pub gone_is : n.gone ≡ m.gone
  pub greatest_is : n.greatest ≡ m.greatest
  pub label_same : n.contents.label ≡ m.contents.label
  pub records_same : n.contents.records ≡ m.contents.records
  pub entries_are : n.contents.entries ≡ m.contents.entries ++ entries_put crossing m.files m.contents e.volume m.greatest (stood_in m)
  pub items_same : items_in n ≡ items_in m
  pub still : m.acknowledged ≤ n.acknowledged
  pub acknowledged_is : n.acknowledged ≡ acknowledged_before crossing m
  pub files_are : (file : FileId) → n.files file ≡ base_files crossing m.files m.contents e.volume m.greatest (stood_in m) file

-- with these records and items behind it, the last of them stamped so
pub record Grown (n : Meant) (records : List MetaRecord) (items : List Item) (stamp : Moment) (files : Files) (o : Meant) : Type 0 where
  pub started : o.start ≡ n.start
  pub acknowledged_is : o.acknowledged ≡ n.acknowledged
  pub gone_is : o.gone ≡ n.gone
  pub greatest_is : o.greatest ≡ Some stamp
  pub longer : IsLonger n.contents o.contents records [] items
  pub files_are : (file : FileId) → o.files file ≡ files file

-- A run may be written behind this archive, and its results are then logged one behind another.
pub record MayRun (m n : Meant) (number next limit : ℕ) (run : Run) (group : List Told) (now : List MetaRecord) : Type 0 where
  pub records : List MetaRecord
  pub come : IsRunToCome n records (samples_of group) run.records run.items
  pub last : IsLastStamp n records (samples_of group) run.stamp
  pub now_is : now ≡ n.contents.records ++ records
  pub all : (o : Meant) → Grown n records (samples_of group) run.stamp (with_run next run.records run.items n.files) o → LogsAll m number limit group o next

-- a run of these results
pub record IsRunOf (records : List MetaRecord) (e : Ends) (limit : ℕ) (run : Run) (group : List Told) (now : List MetaRecord) (after : Ends) : Type 0 where
  pub count_is : run.count ≡ length group
  pub bounded : IsRunBounded e run
  pub after_is : after ≡ after_run e run
  pub small : AreSmall after
  pub loggable : AreLoggable records e limit group now after
  pub first : Told
  pub is : slice_get group 0 ≡ Some first
  pub crossing_is : run.crossing ≡ crosses limit e.length (payload_length first.0 + 8)
  pub may : (m n : Meant) → AreEnds m e → m.contents.records ≡ records → AreAllEnough group → IsBase m e run.crossing n → AreEnds n (ready_ends run.crossing e)
      → MayRun m n e.volume (ready_ends run.crossing e).volume limit run group now

-- each of them goes into the next volume
abbrev pub AllCross : List Run → Type 0
AllCross runs = AllByRecursion (λ (r : Run). r.crossing ≡ true) runs

-- runs of these results, one behind another
abbrev pub AreRuns : List MetaRecord → Ends → ℕ → List Run → List Told → List MetaRecord → Ends → Type 0
AreRuns records e limit [] group now after = (group ≡ []) × (now ≡ records) × (after ≡ e)
AreRuns records e limit (run ∷ runs) group now after =
    (first : List Told) × (rest : List Told) × (group ≡ first ++ rest) × (mid : List MetaRecord) × (at : Ends) × IsRunOf records e limit run first mid at × AllCross runs × AreRuns mid at limit runs rest now after

-- runs were written
pub record RunWritten (m : Meant) (e next : Ends) (limit : ℕ) (runs : List Run) (group : List Told) (now : List MetaRecord) (held : Holdings) : Type 0 where
  pub new : Meant
  pub started : new.start ≡ m.start
  pub gone_is : new.gone ≡ m.gone
  pub label_same : new.contents.label ≡ m.contents.label
  pub records_are : new.contents.records ≡ now
  pub items_are : items_in new ≡ items_in m ++ samples_of group
  pub still : m.acknowledged ≤ new.acknowledged
  pub acknowledged_is : new.acknowledged ≡ runs_acknowledged runs (length (items_in m)) m.acknowledged
  pub files_are : (file : FileId) → new.files file ≡ runs_files m.contents.label e runs m.files file
  pub all : LogsAll m e.volume limit group new next.volume
  pub at : IsAt new next held

-- ---- judging

-- one result more is held
pub record IsHeldMore (records : List MetaRecord) (old : Group) (limit : ℕ) (answer : PmResult) (facts : Facts) (now : List MetaRecord) (new : Group) : Type 0 where
  pub made : Made
  pub is : IsMadeOf records old.planned limit answer facts made
  pub added : Adds records made.records now
  pub runs_are : new.runs ≡ with_made old.runs made answer.stamp
  pub planned_is : new.planned ≡ after_run old.planned (run_of made answer.stamp)

-- the first refused result, and why it may not be logged
pub record IsFirstRefused (limit : ℕ) (all : List Told) (now : List MetaRecord) (after : Ends) (k : ℕ) (fault : LogFault) : Type 0 where
  pub one : Told
  pub is : slice_get all k ≡ Some one
  pub refused : IsRefused now after limit one.0 one.1 fault

-- those before the first refused one are held, behind others
pub record AreHeldBefore (records : List MetaRecord) (e : Ends) (limit : ℕ) (done all : List Told) (now : List MetaRecord) (group : Group) (k : ℕ) (fault : LogFault) : Type 0 where
  pub runs : AreRuns records e limit group.runs (done ++ take k all) now group.planned
  pub refusal : IsFirstRefused limit all now group.planned k fault

-- Where memory ran out nothing is said of what is held, and the metadata begin with those that were known.
abbrev pub IsRefusedAfter : List MetaRecord → Ends → ℕ → List Told → List Told → List MetaRecord → Group → ℕ → LogFault → Type 0
IsRefusedAfter records e limit done all now group k Closed = ⊥
IsRefusedAfter records e limit done all now group k (Live volume) = ⊥
IsRefusedAfter records e limit done all now group k (Large bytes) = AreHeldBefore records e limit done all now group k (Large bytes)
IsRefusedAfter records e limit done all now group k (NotLater last) = AreHeldBefore records e limit done all now group k (NotLater last)
IsRefusedAfter records e limit done all now group k (Changed pmid) = AreHeldBefore records e limit done all now group k (Changed pmid)
IsRefusedAfter records e limit done all now group k (Full file bytes) = AreHeldBefore records e limit done all now group k (Full file bytes)
IsRefusedAfter records e limit done all now group k NoMemory = take (length records) now ≡ records
IsRefusedAfter records e limit done all now group k DiskFault = ⊥

-- which of them are held
abbrev pub held_of : Option (ℕ × LogFault) → List Told → List Told
held_of None all = all
held_of (Some r) all = take r.0 all

-- as above, and memory sufficed
abbrev pub IsSettledSo : List MetaRecord → Ends → ℕ → List Told → List MetaRecord → Group → ℕ → LogFault → Type 0
IsSettledSo records e limit all now group k Closed = ⊥
IsSettledSo records e limit all now group k (Live volume) = ⊥
IsSettledSo records e limit all now group k (Large bytes) = AreHeldBefore records e limit [] all now group k (Large bytes)
IsSettledSo records e limit all now group k (NotLater last) = AreHeldBefore records e limit [] all now group k (NotLater last)
IsSettledSo records e limit all now group k (Changed pmid) = AreHeldBefore records e limit [] all now group k (Changed pmid)
IsSettledSo records e limit all now group k (Full file bytes) = AreHeldBefore records e limit [] all now group k (Full file bytes)
IsSettledSo records e limit all now group k NoMemory = ⊥
IsSettledSo records e limit all now group k DiskFault = ⊥

abbrev pub AreSettled : List MetaRecord → Ends → ℕ → List Told → List MetaRecord → Group → Option (ℕ × LogFault) → Type 0
AreSettled records e limit all now group None = AreRuns records e limit group.runs all now group.planned
AreSettled records e limit all now group (Some r) = IsSettledSo records e limit all now group r.0 r.1

-- a logger judged the results of a group: its metadata know of those that are held
pub record IsJudgedBy (old now : Kept) (all : List Told) (judged : Judged) : Type 0 where
  pub open_ : old.closed ≡ false
  pub settled : AreSettled old.records old.ends old.limit all now.records judged.group judged.refused
  pub same : now ≡ record { label = old.label; records = now.records; ends = old.ends; limit = old.limit; closed = old.closed }

-- or it couldn't, and is as it was
abbrev pub JudgeMayAnswer : Kept → Kept → ℕ → LogFault → Type 0
JudgeMayAnswer old now k Closed = (k ≡ 0) × (old.closed ≡ true) × (now ≡ old)
JudgeMayAnswer old now k (Live volume) = ⊥
JudgeMayAnswer old now k (Large bytes) = ⊥
JudgeMayAnswer old now k (NotLater last) = ⊥
JudgeMayAnswer old now k (Changed pmid) = ⊥
JudgeMayAnswer old now k (Full file bytes) = ⊥
JudgeMayAnswer old now k NoMemory = (k ≡ 0) × (old.closed ≡ false) × (now ≡ old)
JudgeMayAnswer old now k DiskFault = ⊥
