-- What is decided of a readable archive.
use Rattle.std.specs.Prelude.{◌≡◌, ℕ, ◌<◌, ◌≤◌, true, List, length, Option, Some, None}
use Rattle.std.specs.List.{AllByRecursion}
use Rattle.pcp_base.specs.Time.{Moment, microseconds}
use Rattle.pcp_base.specs.declared.file.FileId.TheVariants.{Meta}
use Rattle.pcp_model.specs.declared.records.Entry.{Entry}
use Rattle.pcp_model.specs.Archive.{ArchiveContents, items_of}
use Rattle.pcp_model.specs.Disk.{Files}
use Rattle.pcp_model.specs.Sound.{NeverFalls, IsSoundEntry}
use Rattle.pcp_outside.specs.Causes.{shown_count}
use Rattle.archive_check.specs.declared.pointing.Look.{Look}
use Rattle.archive_check.specs.declared.fault.CheckFault.{CheckFault}
use Rattle.archive_check.specs.declared.fault.CheckFault.TheVariants.{Items, Boundary, Late, Reader}
use Rattle.archive_check.specs.declared.verdict.Verdict.{Verdict}
use Rattle.archive_check.specs.declared.verdict.Verdict.TheVariants.{Sound, Unsound}
use Rattle.archive_check.specs.Breaches.{MissesBoundary, IsTooEarly, IsBreachOf}
use Rattle.archive_check.specs.Looked.{look_of, misses, is_late, EntryKnown, IsRead, IsSeen}
use Rattle.archive_check.specs.Marks.{Known}
use Rattle.archive_check.specs.Sought.{IsFirstAfter, IsFirstItemAfter}

-- the first of Meta where that time is after the moment, else of the volumes
pub record IsStampAfter (files : Files) (vs : List (ℕ × ℕ)) (domain : ℕ) (t : Moment) (found : Option Moment) : Type 0 where
  pub of_meta : microseconds t < domain → IsFirstAfter Meta (files Meta) t found
  pub of_volumes : domain ≤ microseconds t → IsFirstItemAfter files vs t found

-- what is known of the entry makes this its breach
abbrev pub IsMissedAt : Files → ℕ → Entry → CheckFault → Type 0
IsMissedAt files position e (Items first second) = ⊥
IsMissedAt files position e (Boundary at file below above) = (at ≡ position) × MissesBoundary files e file below above
IsMissedAt files position e (Late at stamp) = ⊥
IsMissedAt files position e (Reader fault) = ⊥

abbrev pub IsMissing : Files → ℕ → Entry → Look → CheckFault → Type 0
IsMissing files position e seen fault = (c : ArchiveContents) (vs : List (ℕ × ℕ)) (entries : List Entry) (top : Option ℕ) (known : Known) → IsRead files c vs entries → EntryKnown files c top known e → seen ≡ look_of known top e → misses seen ≡ true
    → IsMissedAt files position e fault

abbrev pub IsEarlyAt : Files → ArchiveContents → ℕ → Entry → CheckFault → Type 0
IsEarlyAt files c position e (Items first second) = ⊥
IsEarlyAt files c position e (Boundary at file below above) = ⊥
IsEarlyAt files c position e (Late at stamp) = (at ≡ position) × IsTooEarly files c e stamp
IsEarlyAt files c position e (Reader fault) = ⊥

abbrev pub IsEarly : Files → List (ℕ × ℕ) → ℕ → Entry → Look → CheckFault → Type 0
IsEarly files vs position e seen fault = (c : ArchiveContents) (entries : List Entry) (top : Option ℕ) (known : Known) → IsRead files c vs entries → EntryKnown files c top known e → seen ≡ look_of known top e → is_late seen e.stamp ≡ true
    → IsEarlyAt files c position e fault

-- the first breach of an entry, where the items don't fall
abbrev pub IsEntryFault : Files → ArchiveContents → Option CheckFault → Type 0
IsEntryFault files c None = AllByRecursion (IsSoundEntry files c) c.entries
IsEntryFault files c (Some fault) = NeverFalls (items_of c.volumes) → IsBreachOf files c fault

abbrev pub IsFound : Files → List (ℕ × ℕ) → List Entry → Known → Option CheckFault → Type 0
IsFound files vs entries known found = (c : ArchiveContents) → IsSeen files c vs entries known → IsEntryFault files c found

abbrev pub IsJudgedAs : Files → ArchiveContents → Verdict → Type 0
IsJudgedAs files c (Sound count) = (count ≡ shown_count (length (items_of c.volumes))) × NeverFalls (items_of c.volumes) × AllByRecursion (IsSoundEntry files c) c.entries
IsJudgedAs files c (Unsound fault) = IsBreachOf files c fault

abbrev pub IsVerdict : Files → List (ℕ × ℕ) → List Entry → Verdict → Type 0
IsVerdict files vs entries verdict = (c : ArchiveContents) → IsRead files c vs entries → IsJudgedAs files c verdict

-- a breach is told, whatever the files are
abbrev pub IsTold : CheckFault → Type 0
IsTold (Items first second) = Unit {0}
IsTold (Boundary at file below above) = Unit {0}
IsTold (Late at stamp) = Unit {0}
IsTold (Reader fault) = ⊥

abbrev pub IsToldOf : Option CheckFault → Type 0
IsToldOf None = Unit {0}
IsToldOf (Some fault) = IsTold fault

abbrev pub IsToldBy : Verdict → Type 0
IsToldBy (Sound count) = Unit {0}
IsToldBy (Unsound fault) = IsTold fault
