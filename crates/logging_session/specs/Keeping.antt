-- What a session keeps of its archive, and what the disk then holds: what recovery left, until it is opened, and from then on a logger
-- of what was opened, with the results that it holds to be written.
use Rattle.std.specs.Prelude.{◌≡◌, ◌⊎◌, ℕ, ◌+◌, ◌≤◌, false, List, [], ◌∷◌, ◌++◌, length, map, Contains, None}
use Rattle.std.specs.List.{AllByRecursion}
use Rattle.pcp_base.specs.declared.file.FileId.{FileId}
use Rattle.pcp_base.specs.declared.result.Item.{Item}
use Rattle.pcp_base.specs.declared.result.PmResult.{PmResult}
use Rattle.pcp_model.specs.Archive.{ArchiveReading, Reads, items_of}
use Rattle.pcp_model.specs.Disk.{Files, Holdings, IsSettled, contents_of}
use Rattle.pcp_model.specs.LabelFields.{LabelFields}
use Rattle.pcp_model.specs.Laws.{EndsWhole}
use Rattle.pcp_model.specs.Recovered.{Recovers}
use Rattle.pcp_outside.specs.Causes.{shown_count}
use Rattle.logger_core.specs.Grouping.{LogsOne, Told}
use Rattle.logger_core.specs.Held.{counts_of}
use Rattle.logger_core.specs.Holding.{HasRoomBeside, HeldBack, IsHolding}
use Rattle.logger_core.specs.Meant.{Meant}
use Rattle.logger_core.specs.Reopening.{IsLeft}
use Rattle.logger_core.specs.Steps.{greatest_in}
use Rattle.logging_session.specs.declared.place.Place.{Place}
use Rattle.logging_session.specs.declared.place.Place.TheVariants.{Found, Open, Lost, Failed}
use Rattle.logging_session.specs.Events.{Event, LeadFrom, items_by, acknowledged_by, logged_all}
use Rattle.logging_session.specs.Written.{Logs, OpensFound, Report, Stand, Written}

-- What a session is seen as: the label of an archive that it would make (but for its moment), the volume limit, how many results it
-- logged, and where its archive stands: as recovery left it; with a logger that goes on with it; or nothing more is logged, since
-- memory was refused when it was to be opened, or the disk failed, which lost so many results that were held.
pub record Carried : Type 0 where
  pub label : LabelFields
  pub limit : ℕ
  pub logged : ℕ
  pub place : Place

-- a logger that is kept may log, and has the session's volume limit
abbrev pub MayLog : ℕ → Place → Type 0
MayLog limit (Found archive) = Unit {0}
MayLog limit (Open b) = (b.kept.closed ≡ false) × (b.kept.limit ≡ limit)
MayLog limit Lost = Unit {0}
MayLog limit (Failed lost) = Unit {0}

-- how many results are held to be written
abbrev pub held_in : Place → ℕ
held_in (Open b) = counts_of b.runs
held_in place = 0

-- how many that were held are lost, since the disk failed: the first of them may stand
abbrev pub lost_in : Place → ℕ
lost_in (Failed lost) = lost
lost_in place = 0

-- what holds of every session
pub record IsSession (limit logged : ℕ) (place : Place) : Type 0 where
  pub low : 1024 ≤ limit
  pub high : limit ≤ 1073741824
  pub logger : MayLog limit place
  pub held : held_in place ≤ logged
  pub lost : lost_in place ≤ logged

-- a result may be held beside those that are
abbrev pub HasRoomIn : Place → PmResult → Type 0
HasRoomIn (Open b) answer = HasRoomBeside b.runs answer
HasRoomIn place answer = Unit {0}

-- what a logger means of an archive that was opened first: no volume was retired
abbrev pub meant_of : Written → Written → ℕ → Meant
meant_of first w acknowledged = record {
  start = record { files = first.files; reading = ArchiveReading.archive first.contents };
  files = w.files;
  contents = w.contents;
  acknowledged = acknowledged;
  gone = 0;
  greatest = greatest_in w.contents;
}

-- every byte is sure
abbrev pub AllSure : Holdings → Type 0
AllSure held = (file : FileId) → (held file).rest ≡ []

-- none of these items stands among others
abbrev pub AreApart : List Item → List Item → Type 0
AreApart others items = AllByRecursion (λ x. Contains others x → ⊥) items

-- a result with its facts, as a logger is told them
abbrev pub told_of : List Report → List Told
told_of reports = map (λ (r : Report). (r.result, r.facts)) reports

-- Each of these results is logged behind the ones before it, and a logger that goes on with the first of these archives means it so.
abbrev pub LogsEach : ℕ → Written → Written → ℕ → List Report → Written → ℕ → Type 0
LogsEach limit first w sure [] last all = (last ≡ w) × (all ≡ sure)
LogsEach limit first w sure (r ∷ reports) last all =
    (mid : Written) × (now : ℕ) × Logs limit r w mid × LogsOne (meant_of first w sure) w.volume limit r.result r.facts (meant_of first mid now) mid.volume × LogsEach limit first mid now reports last all

-- Over what recovery left an archive was opened, into which a logger has logged these items since, each with a stamp of its own; all that
-- stood before are acknowledged, and at least so many of them. The last results may be held yet: the disk then holds what was written
-- before them.
pub record IsGoing (l : LabelFields) (left : Files) (limit : ℕ) (events : List Event) (w : Written) (b : HeldBack) (held : Holdings) : Type 0 where
  pub label : LabelFields
  pub first : Written
  pub opens : OpensFound label left first.files first.contents
  -- what is written, and how many of its items are acknowledged
  pub written : Written
  pub acknowledged : ℕ
  pub pending : List Report
  -- how many will be once the others are written too
  pub later : ℕ
  pub is : IsHolding (meant_of first written acknowledged) b (told_of pending) (meant_of first w later) held
  pub volume : b.planned.volume ≡ w.volume
  pub open_ : b.kept.closed ≡ false
  pub limit_is : b.kept.limit ≡ limit
  pub items_are : items_of w.contents.volumes ≡ items_of first.contents.volumes ++ items_by events
  pub apart : AreApart (items_of first.contents.volumes) (items_by events)
  pub enough : length (items_of first.contents.volumes) + acknowledged_by events ≤ acknowledged
  -- the events but for the results that are held led to what is written, and these lead on from there
  pub front : List Event
  pub behind : events ≡ front ++ logged_all pending
  pub led : LeadFrom l limit left front (Stand.opened written)
  pub last : EndsWhole written.files written.contents written.volume
  pub each : LogsEach limit first written acknowledged pending w later
  -- where nothing was logged all is settled
  pub settled : items_by events ≡ [] → IsSettled held

-- as recovery left it: nothing was done
pub record IsUntouched (left : Files) (events : List Event) (files : Files) (held : Holdings) : Type 0 where
  pub stands : contents_of held ≡ left
  pub same : files ≡ left
  pub none : events ≡ []
  pub sure : AllSure held

abbrev pub IsPlace : LabelFields → Files → ℕ → List Event → Stand → Place → Holdings → Type 0
IsPlace l left limit events (Stand.found files) (Found archive) held = IsLeft archive held × IsUntouched left events files held
IsPlace l left limit events (Stand.found files) Lost held = IsUntouched left events files held
IsPlace l left limit events (Stand.opened w) (Open b) held = IsGoing l left limit events w b held
IsPlace l left limit events stand place held = ⊥

-- Over what recovery left, these events led to the files that stand on the disk once all is written that is held, with so many results
-- logged.
pub record Keeps (left : Files) (events : List Event) (s : Carried) (held : Holdings) : Type 0 where
  pub stand : Stand
  pub lead : LeadFrom s.label s.limit left events stand
  pub place : IsPlace s.label left s.limit events stand s.place held
  pub counted : s.logged ≡ shown_count (length (items_by events))

-- ---- over any disk

abbrev pub HasFound : Place → Type 0
HasFound (Found archive) = Unit {0}
HasFound place = ⊥

-- the archive isn't opened yet
abbrev pub IsFound : Carried → Type 0
IsFound s = HasFound s.place

-- and has a label, so that it is opened as it stands
abbrev pub HasLabel : Place → Type 0
HasLabel (Found archive) = archive.label ≡ None → ⊥
HasLabel place = ⊥

abbrev pub IsLabelled : Carried → Type 0
IsLabelled s = HasLabel s.place

abbrev pub HasLogger : Place → Type 0
HasLogger (Open b) = Unit {0}
HasLogger place = ⊥

-- a logger goes on with the archive
abbrev pub IsOpen : Carried → Type 0
IsOpen s = HasLogger s.place

abbrev pub HasLost : Place → Type 0
HasLost Lost = Unit {0}
HasLost place = ⊥

-- memory was refused when the archive was to be opened
abbrev pub IsLost : Carried → Type 0
IsLost s = HasLost s.place

abbrev pub HasFailed : Place → Type 0
HasFailed (Failed lost) = Unit {0}
HasFailed place = ⊥

-- the disk failed
abbrev pub IsFailed : Carried → Type 0
IsFailed s = HasFailed s.place

-- it may log
abbrev pub IsWorking : Carried → Type 0
IsWorking s = HasFound s.place ⊎ HasLogger s.place

-- nothing more is logged
abbrev pub IsClosed : Carried → Type 0
IsClosed s = HasLost s.place ⊎ HasFailed s.place

-- recovery changes nothing of the files
abbrev pub AreWhole : Files → Type 0
AreWhole files = (reading : ArchiveReading) × Reads files reading × Recovers files reading files
