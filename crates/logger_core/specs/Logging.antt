-- When a result may be logged, and which refusal comes where it may not, in their order.
use Rattle.std.specs.Prelude.{◌≡◌, ◌⊎◌, ℕ, ◌+◌, ◌<◌, ◌≤◌, true, false, List, [], ◌∷◌, ◌++◌, length, min, Option, None, Some}
use Rattle.pcp_base.specs.Time.{Moment, microseconds}
use Rattle.pcp_base.specs.declared.file.FileId.{FileId}
use Rattle.pcp_base.specs.declared.file.FileId.TheVariants.{Meta, Index, Volume}
use Rattle.pcp_base.specs.declared.result.Item.TheVariants.{Sample}
use Rattle.pcp_base.specs.declared.result.PmResult.{PmResult}
use Rattle.pcp_model.specs.declared.records.MetaRecord.{MetaRecord}
use Rattle.pcp_model.specs.Disk.{Holdings}
use Rattle.pcp_model.specs.Frame.{frame}
use Rattle.pcp_model.specs.Payload.{payload, payload_length, ResultInRange}
use Rattle.pcp_outside.specs.Causes.{Rose}
use Rattle.archive_meta.specs.declared.facts.Changed.{Changed as Change}
use Rattle.archive_meta.specs.declared.facts.Facts.{Facts}
use Rattle.archive_meta.specs.declared.facts.RecordsFault.TheVariants.{Large as TooLarge}
use Rattle.archive_meta.specs.Facts.{FitSets, IsFirstChange}
use Rattle.archive_meta.specs.Records.{Adds}
use Rattle.archive_meta.specs.Missing.{AreMissing, AreMade, IsRecordsFault, framed_records, large_length}
use Rattle.logger_core.specs.declared.ends.Ends.{Ends}
use Rattle.logger_core.specs.declared.fault.LogFault.{LogFault}
use Rattle.logger_core.specs.declared.fault.LogFault.TheVariants.{Closed, Live, Large, NotLater, Changed, Full, NoMemory, DiskFault}
use Rattle.logger_core.specs.declared.preparing.Made.{Made}
use Rattle.logger_core.specs.Going.{acknowledged_before}
use Rattle.logger_core.specs.LogSteps.{LogStep, crosses}
use Rattle.logger_core.specs.Meant.{Meant, Kept, IsLogger, items_in, stood_in}

-- a moment is after the greatest stamp, if there is one
abbrev pub IsLater : Option Moment → Moment → Type 0
IsLater None t = Unit {0}
IsLater (Some last) t = microseconds last < microseconds t

-- the records that are missing can all be framed
abbrev pub AreFramed : List MetaRecord → PmResult → Facts → Type 0
AreFramed records answer facts = (missing : List MetaRecord) × AreMissing records facts answer missing × (large_length missing ≡ None)

-- Meta and the index stay below 2^31 bytes, and where the record crosses the limit the next volume's number is below 10,000
pub record HasPlace (e : Ends) (limit records record_length : ℕ) : Type 0 where
  pub meta : e.meta + records ≤ 2147483647
  pub index : e.index + 40 ≤ 2147483647
  pub volume : crosses limit e.length record_length ≡ true → e.volume + 1 < 10000

-- the first of these files that has no place
abbrev pub IsFull : Ends → ℕ → ℕ → ℕ → FileId → ℕ → Type 0
IsFull e limit records record_length Meta bytes = (2147483647 < e.meta + records) × (bytes ≡ e.meta + records)
IsFull e limit records record_length Index bytes = (e.meta + records ≤ 2147483647) × (2147483647 < e.index + 40) × (bytes ≡ e.index + 40)
IsFull e limit records record_length (Volume n) bytes =
    (e.meta + records ≤ 2147483647) × (e.index + 40 ≤ 2147483647) × (crosses limit e.length record_length ≡ true) × (n ≡ e.volume + 1) × (10000 ≤ n) × (bytes ≡ 10000)

-- the missing records of a result are such, and have no place
abbrev pub HasNoPlace : List MetaRecord → Ends → ℕ → PmResult → Facts → FileId → ℕ → Type 0
HasNoPlace records e limit answer facts file bytes =
    (missing : List MetaRecord) × AreMissing records facts answer missing × (large_length missing ≡ None) × IsFull e limit (length (framed_records missing)) (payload_length answer + 8) file bytes

-- Which refusal comes of a logger that is open: each where nothing that is looked at before it refuses.
abbrev pub IsRefused : List MetaRecord → Ends → ℕ → PmResult → Facts → LogFault → Type 0
IsRefused records e limit answer facts Closed = ⊥
IsRefused records e limit answer facts (Live volume) = ⊥
IsRefused records e limit answer facts (Large bytes) =
    ((16777208 < payload_length answer) × (bytes ≡ min (payload_length answer + 8) 18446744073709551615))
    ⊎ ((payload_length answer ≤ 16777208) × IsRecordsFault records facts answer (TooLarge bytes))
IsRefused records e limit answer facts (NotLater last) =
    (payload_length answer ≤ 16777208) × AreFramed records answer facts × (e.greatest ≡ Some last) × (microseconds answer.stamp ≤ microseconds last)
IsRefused records e limit answer facts (Changed pmid) =
    (payload_length answer ≤ 16777208) × AreFramed records answer facts × IsLater e.greatest answer.stamp × ((change : Change) × IsFirstChange records facts.metrics answer.sets change × (pmid ≡ change.pmid))
IsRefused records e limit answer facts (Full file bytes) =
    (payload_length answer ≤ 16777208) × IsLater e.greatest answer.stamp × FitSets records facts.metrics answer.sets × HasNoPlace records e limit answer facts file bytes
IsRefused records e limit answer facts NoMemory = Unit {0}
IsRefused records e limit answer facts DiskFault = ⊥

-- what is made of a result that may be logged
pub record IsMadeOf (records : List MetaRecord) (e : Ends) (limit : ℕ) (answer : PmResult) (facts : Facts) (made : Made) : Type 0 where
  pub framed : payload_length answer ≤ 16777208
  pub metadata : AreMade records facts answer made.records
  pub later : IsLater e.greatest answer.stamp
  pub fit : FitSets records facts.metrics answer.sets
  pub place : HasPlace e limit (length made.records) (payload_length answer + 8)
  pub crossing_is : made.crossing ≡ crosses limit e.length (payload_length answer + 8)
  pub item_is : made.item ≡ frame (payload answer)
  pub item_length : length made.item ≡ payload_length answer + 8
  pub range : ResultInRange answer

-- A result was logged: the files are those after it, the records of Meta that were missing stand behind the others, and all
-- items of before stand before it. It is not acknowledged; where the archive went on in the next volume, all items of before are.
pub record IsLogged (m : Meant) (old now : Kept) (answer : PmResult) (facts : Facts) (held : Holdings) : Type 0 where
  pub new : Meant
  pub started : new.start ≡ m.start
  pub gone_is : new.gone ≡ m.gone
  pub greatest_is : new.greatest ≡ Some answer.stamp
  pub step : LogStep m.files m.contents old.ends.volume m.greatest (stood_in m) old.limit answer facts new.files
  pub said : new.contents.records ≡ m.contents.records ++ step.missing
  pub items_are : items_in new ≡ items_in m ++ Sample answer ∷ []
  pub still : m.acknowledged ≤ new.acknowledged
  pub acknowledged_is : new.acknowledged ≡ acknowledged_before step.crossing m
  pub is : IsLogger new now held

-- a result may be logged
pub record IsLoggable (records : List MetaRecord) (e : Ends) (limit : ℕ) (answer : PmResult) (facts : Facts) : Type 0 where
  pub framed : payload_length answer ≤ 16777208
  pub later : IsLater e.greatest answer.stamp
  pub fit : FitSets records facts.metrics answer.sets
  pub missing : List MetaRecord
  pub needed : AreMissing records facts answer missing
  pub fits : large_length missing ≡ None
  pub place : HasPlace e limit (length (framed_records missing)) (payload_length answer + 8)

-- Which refusal comes before the first write: each leaves the logger as it was.
abbrev pub PrepareMayAnswer : Kept → Kept → PmResult → Facts → LogFault → Type 0
PrepareMayAnswer old new answer facts Closed = (old.closed ≡ true) × (new ≡ old)
PrepareMayAnswer old new answer facts (Live volume) = ⊥
PrepareMayAnswer old new answer facts (Large bytes) = (old.closed ≡ false) × (new ≡ old) × IsRefused old.records old.ends old.limit answer facts (Large bytes)
PrepareMayAnswer old new answer facts (NotLater last) = (old.closed ≡ false) × (new ≡ old) × IsRefused old.records old.ends old.limit answer facts (NotLater last)
PrepareMayAnswer old new answer facts (Changed pmid) = (old.closed ≡ false) × (new ≡ old) × IsRefused old.records old.ends old.limit answer facts (Changed pmid)
PrepareMayAnswer old new answer facts (Full file bytes) = (old.closed ≡ false) × (new ≡ old) × IsRefused old.records old.ends old.limit answer facts (Full file bytes)
PrepareMayAnswer old new answer facts NoMemory = (old.closed ≡ false) × (new ≡ old)
PrepareMayAnswer old new answer facts DiskFault = ⊥

-- all that is written is made, and the metadata know of it
pub record IsPrepared (old now : Kept) (answer : PmResult) (facts : Facts) (made : Made) : Type 0 where
  pub open_ : old.closed ≡ false
  pub is : IsMadeOf old.records old.ends old.limit answer facts made
  pub added : Adds old.records made.records now.records
  pub same : now ≡ record { label = old.label; records = now.records; ends = old.ends; limit = old.limit; closed = old.closed }

-- a logger that was closed, whose metadata may be those of the result that was not written
abbrev pub closed_with : Kept → List MetaRecord → Kept
closed_with l records = record { label = l.label; records = records; ends = l.ends; limit = l.limit; closed = true }

-- Which refusal `log` answers, and what it leaves: all but a fault of the disk leave the logger as it was.
abbrev pub LogMayAnswer : Kept → Kept → PmResult → Facts → ℕ → ℕ → LogFault → Type 0
LogMayAnswer old new answer facts before after Closed = PrepareMayAnswer old new answer facts Closed
LogMayAnswer old new answer facts before after (Live volume) = ⊥
LogMayAnswer old new answer facts before after (Large bytes) = PrepareMayAnswer old new answer facts (Large bytes)
LogMayAnswer old new answer facts before after (NotLater last) = PrepareMayAnswer old new answer facts (NotLater last)
LogMayAnswer old new answer facts before after (Changed pmid) = PrepareMayAnswer old new answer facts (Changed pmid)
LogMayAnswer old new answer facts before after (Full file bytes) = PrepareMayAnswer old new answer facts (Full file bytes)
LogMayAnswer old new answer facts before after NoMemory = PrepareMayAnswer old new answer facts NoMemory
LogMayAnswer old new answer facts before after DiskFault = (old.closed ≡ false) × IsLoggable old.records old.ends old.limit answer facts × (new ≡ closed_with old new.records) × Rose before after
