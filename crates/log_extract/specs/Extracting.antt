-- What an extract makes of two sources and an output (pmlogextract(1)).
use Rattle.std.specs.Prelude.{◌≡◌, ◌⊎◌, ℕ, List, [], ◌∷◌, ◌++◌, length, Result, Ok, Err}
use Rattle.pcp_model.specs.Archive.{Readable}
use Rattle.pcp_model.specs.Disk.{CrashImage, contents_of}
use Rattle.pcp_outside.specs.Causes.{Rose, shown_count}
use Rattle.pcp_outside.specs.Devices.{LeavesOnly}
use Rattle.pcp_outside.specs.declared.disk.Disk.{Ghosts as DiskGhosts}
use Rattle.archive_check.specs.declared.fault.CheckFault.{CheckFault}
use Rattle.archive_loading.specs.Looks.{Looks}
use Rattle.logger_core.specs.declared.fault.LogFault.{LogFault}
use Rattle.logger_core.specs.declared.fault.LogFault.TheVariants as logs
use Rattle.logging_session.specs.Written.{Report}
use Rattle.logging_run.specs.declared.fault.RunFault.{RunFault}
use Rattle.logging_run.specs.declared.fault.RunFault.TheVariants as runs
use Rattle.logging_run.specs.Closing.{Close, Ran}
use Rattle.logging_run.specs.Handing.{Handed, each_held, events_of}
use Rattle.logging_run.specs.Running.{IsTurnedAway}
use Rattle.log_extract.specs.declared.fault.ExtractFault.{ExtractFault}
use Rattle.log_extract.specs.declared.fault.ExtractFault.TheVariants.{Archive, Merge, Source as Unread}
use Rattle.log_extract.specs.Judging.{Judged, judged}
use Rattle.log_extract.specs.Logging.{AreQuiet, BeginWith, BreaksOff, IsMisfit, IsNextOf, OtherIsQuiet}
use Rattle.log_extract.specs.Sources.{IsSource, IsTurnedBack, Source}

-- two sources and an output, each before and after
pub record ExtractSide (A B D : Type 0) : Type 1 where
  pub first : DiskGhosts A
  pub first_was : A
  pub first_is : A
  pub second : DiskGhosts B
  pub second_was : B
  pub second_is : B
  pub disk : DiskGhosts D
  pub disk_was : D
  pub disk_is : D

abbrev pub extract_side : {A B D : Type 0} → DiskGhosts A → A → A → DiskGhosts B → B → B → DiskGhosts D → D → D → ExtractSide A B D
extract_side first first_was first_is second second_was second_is disk disk_was disk_is = record {
  first = first;
  first_was = first_was;
  first_is = first_is;
  second = second;
  second_was = second_was;
  second_is = second_is;
  disk = disk;
  disk_was = disk_was;
  disk_is = disk_is;
}

-- a disk holds a sound archive
abbrev pub IsPassed : {D : Type 0} → DiskGhosts D → D → Type 0
IsPassed d disk = d.tells → (source : Source) × IsSource d disk source

module _ {A B D : Type 0} (p : ExtractSide A B D) where
  -- the sources are as they were
  pub record LeavesSources : Type 0 where
    pub first : Looks p.first p.first_was p.first_is
    pub second : Looks p.second p.second_was p.second_is

  -- ---- which calls of the sources' disks failed

  abbrev pub AreStill : Type 0
  AreStill = AreQuiet p.first p.second p.first_was p.first_is p.second_was p.second_is

  abbrev pub OtherIsStill : ℕ → Type 0
  OtherIsStill number = OtherIsQuiet p.first p.second p.first_was p.first_is p.second_was p.second_is number

  -- the reading of a source broke off
  pub record HasBrokenOff : Type 0 where
    pub number : ℕ
    pub fault : CheckFault
    pub breaks : BreaksOff p.first p.second p.first_was p.first_is p.second_was p.second_is number fault
    pub other : OtherIsStill number

  -- None failed, but for a source that is named; or that isn't, since the output's disk failed behind it.
  abbrev pub IsQuiet : Result ℕ ExtractFault → Type 0
  IsQuiet (Ok count) = AreStill
  IsQuiet (Err (Unread number fault)) = OtherIsStill number
  IsQuiet (Err (Merge fault)) = AreStill
  IsQuiet (Err (Archive fault)) = AreStill ⊎ ((fault ≡ runs.DiskFault) × HasBrokenOff)

  -- ---- before the output is touched

  -- A source isn't passed, the second only where the first was.
  abbrev pub IsUnread : ℕ → CheckFault → Type 0
  IsUnread number fault =
      ((number ≡ 1) × IsTurnedBack p.first p.first_was p.first_is fault)
      ⊎ ((number ≡ 2) × IsPassed p.first p.first_was × IsTurnedBack p.second p.second_was p.second_is fault)

  abbrev pub IsRefused : Result ℕ ExtractFault → Type 0
  IsRefused (Ok count) = ⊥
  IsRefused (Err (Unread number fault)) = IsUnread number fault × (p.disk_is ≡ p.disk_was) × OtherIsStill number
  IsRefused (Err (Merge fault)) = ⊥
  IsRefused (Err (Archive fault)) = ⊥

  -- ---- the run

  module _ (limit : ℕ) (reports : List Report) (last : List Handed) (close : Close) where
    -- the output wasn't recovered
    pub record IsUnbegun (fault : RunFault) : Type 0 where
      pub none : reports ≡ []
      pub unhanded : last ≡ []
      pub closed : close ≡ Close.unrecovered fault

    -- what was logged was flushed, and no call of the output's disk failed
    pub record IsFlushed : Type 0 where
      pub closed : close ≡ Close.flushed
      pub quiet : p.disk.faults p.disk_is ≡ p.disk.faults p.disk_was

    -- nothing but the reports was handed in
    abbrev pub EndsBehind : Type 0
    EndsBehind = (last ≡ []) × IsFlushed

    -- The archive to which these reports lead, opened for the next one where it wasn't open, doesn't take it, for this reason.
    pub record TurnsAway (fault : LogFault) : Type 0 where
      pub r : Report
      pub handed : last ≡ Handed.refused r ∷ []
      pub flushed : IsFlushed
      pub away : p.disk.tells → IsTurnedAway limit (contents_of (p.disk.held p.disk_was)) (events_of (each_held reports)) r fault

    -- memory was refused for the next one, also behind the opening of the archive
    pub record IsRefusedMemory : Type 0 where
      pub handed : (last ≡ []) ⊎ ((r : Report) × (last ≡ Handed.refused r ∷ []))
      pub flushed : IsFlushed

    -- the output's disk failed once it was recovered
    abbrev pub HasFailed : Type 0
    HasFailed = (lost : ℕ) × (close ≡ Close.failed lost)

    abbrev pub StopsFor : RunFault → Type 0
    StopsFor (runs.Compressed file) = IsUnbegun (runs.Compressed file)
    StopsFor (runs.NotArchive file at) = IsUnbegun (runs.NotArchive file at)
    StopsFor (runs.Large bytes) = TurnsAway (logs.Large bytes)
    StopsFor (runs.NotLater stamp) = TurnsAway (logs.NotLater stamp)
    StopsFor (runs.Changed pmid) = TurnsAway (logs.Changed pmid)
    StopsFor (runs.Full file bytes) = TurnsAway (logs.Full file bytes)
    StopsFor runs.NoMemory = IsUnbegun runs.NoMemory ⊎ IsRefusedMemory
    StopsFor runs.DiskFault = Rose (p.disk.faults p.disk_was) (p.disk.faults p.disk_is) × (IsUnbegun runs.DiskFault ⊎ HasFailed)

    -- Why it ended so. A disk that fails while what was logged is flushed stands before whatever else ended it.
    abbrev pub Why : Result ℕ ExtractFault → Type 0
    Why (Ok count) = (count ≡ shown_count (length reports)) × EndsBehind
    Why (Err (Unread number fault)) = BreaksOff p.first p.second p.first_was p.first_is p.second_was p.second_is number fault × EndsBehind
    Why (Err (Merge fault)) = EndsBehind
    Why (Err (Archive fault)) = StopsFor fault

  -- what was handed in last and isn't logged is of the next item
  abbrev pub ComesNext : List Handed → List Judged → Type 0
  ComesNext [] more = Unit {0}
  ComesNext (Handed.sure r ∷ handed) more = ⊥
  ComesNext (Handed.held r ∷ handed) more = (handed ≡ []) × IsNextOf (Judged.fits r) more
  ComesNext (Handed.refused r ∷ handed) more = (handed ≡ []) × IsNextOf (Judged.fits r) more

  -- what is left of the merge where it ended so
  abbrev pub EndsAt : Result ℕ ExtractFault → List Judged → Type 0
  EndsAt (Ok count) more = more ≡ []
  EndsAt (Err (Unread number fault)) more = Unit {0}
  EndsAt (Err (Merge fault)) more = IsMisfit fault more
  EndsAt (Err (Archive fault)) more = Unit {0}

  -- the items of the sources' merge were logged so far
  pub record HasMerged (reports : List Report) (last : List Handed) (result : Result ℕ ExtractFault) : Type 0 where
    pub first : Source
    pub second : Source
    pub first_is : IsSource p.first p.first_was first
    pub second_is : IsSource p.second p.second_was second
    pub more : List Judged
    pub begin : BeginWith (judged first second) reports more
    pub next : ComesNext last more
    pub ends : EndsAt result more

  -- Both sources were passed and the output's files recovered; then the items of the merge were logged, each held to be written with others, up to
  -- the first that is refused; and at the end what was logged was flushed.
  pub record Extracted (limit : ℕ) (result : Result ℕ ExtractFault) : Type 0 where
    pub first_passed : IsPassed p.first p.first_was
    pub second_passed : IsPassed p.second p.second_was
    pub reports : List Report
    pub last : List Handed
    pub close : Close
    pub merged : p.first.tells → p.second.tells → HasMerged reports last result
    pub ran : p.disk.tells → Ran p.disk limit (each_held reports ++ last) p.disk_was p.disk_is close
    pub why : Why limit reports last close result
    pub quiet : IsQuiet result
    -- where the output's files aren't readable nothing is written
    pub unread : p.disk.tells → (Readable (contents_of (p.disk.held p.disk_was)) → ⊥) → LeavesOnly p.disk.moment p.disk.left_since p.disk_was p.disk_is (CrashImage (p.disk.held p.disk_was))

  pub record Extracts (limit : ℕ) (result : Result ℕ ExtractFault) : Type 0 where
    pub sources : LeavesSources
    pub came : IsRefused result ⊎ Extracted limit result
