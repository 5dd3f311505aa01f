-- What a call needs to be done, and what stands in its way: sources that are sound, files that can be read, items that can be described and that the
-- archive takes, and no count that rises.
use Rattle.std.specs.Prelude.{◌≡◌, ◌≢◌, ◌⊎◌, ℕ, List, [], ◌∷◌, ◌++◌, Some, None}
use Rattle.pcp_base.specs.declared.file.FileId.{FileId}
use Rattle.pcp_model.specs.Archive.{Readable}
use Rattle.pcp_model.specs.Disk.{Files, contents_of}
use Rattle.pcp_outside.specs.Causes.{Rose}
use Rattle.pcp_outside.specs.Sides.{SinkSide}
use Rattle.pcp_outside.specs.declared.disk.Disk.{Ghosts as DiskGhosts}
use Rattle.archive_merge.specs.declared.fault.MergeFault.{MergeFault}
use Rattle.logger_core.specs.declared.fault.LogFault.{LogFault}
use Rattle.logger_core.specs.declared.fault.LogFault.TheVariants as logs
use Rattle.logging_session.specs.Written.{Report}
use Rattle.logging_run.specs.Handing.{each_held, events_of}
use Rattle.logging_run.specs.Running.{IsTurnedAway}
use Rattle.log_extract.specs.Judging.{Judged, judged}
use Rattle.log_extract.specs.Logging.{BeginWith}
use Rattle.log_extract.specs.Sources.{IsSource, Source}
use Rattle.pm_words.specs.Sides.{IsUnread}
use Rattle.pm_extracting.specs.Ends.{CallSide, Orders}

-- ---- one disk

-- it can be told, and holds a sound archive of which no file stands wrapped
abbrev pub IsSoundSource : {D : Type 0} → DiskGhosts D → D → Type 0
IsSoundSource d disk = d.tells × (source : Source) × IsSource d disk source

-- a file stands wrapped, or the files are no archive
abbrev pub IsBarred : {D : Type 0} → DiskGhosts D → D → Type 0
IsBarred d disk = ((file : FileId) × (d.wrapped_file disk ≡ Some file)) ⊎ IsUnread d disk

-- ---- the items

-- over what recovery leaves of these files the archive takes each of these items, logged one behind another
abbrev pub TakesEach : ℕ → Files → List Report → Type 0
TakesEach limit start reports =
    (before : List Report) (r : Report) (rest : List Report) (fault : LogFault) → fault ≢ logs.NoMemory → reports ≡ before ++ r ∷ rest
    → IsTurnedAway limit start (events_of (each_held before)) r fault → ⊥

module _ {A B D : Type 0} (c : CallSide A B D) (k : SinkSide) where
  -- The sources are sound, the files can be read and none stands wrapped, the archive takes these items, and no count rose.
  pub record IsClear (volume : ℕ) (reports : List Report) : Type 0 where
    pub first_tells : c.extract.first.tells
    pub second_tells : c.extract.second.tells
    pub first : Source
    pub second : Source
    pub first_is : IsSource c.extract.first c.extract.first_was first
    pub second_is : IsSource c.extract.second c.extract.second_was second
    pub files : c.extract.disk.tells
    pub unwrapped : c.extract.disk.wrapped_file c.extract.disk_was ≡ None
    pub readable : Readable (contents_of (c.extract.disk.held c.extract.disk_was))
    pub takes : TakesEach volume (contents_of (c.extract.disk.held c.extract.disk_was)) reports
    pub first_kept : Rose (c.extract.first.faults c.extract.first_was) (c.extract.first.faults c.extract.first_is) → ⊥
    pub second_kept : Rose (c.extract.second.faults c.extract.second_was) (c.extract.second.faults c.extract.second_is) → ⊥
    pub disk_kept : Rose (c.extract.disk.faults c.extract.disk_was) (c.extract.disk.faults c.extract.disk_is) → ⊥
    pub sink_kept : Rose k.faults k.faults_after → ⊥

  -- these items come first of the merge, and behind them comes this
  pub record IsClearUpTo (reports : List Report) (more : List Judged) : Type 0 where
    pub volume : ℕ
    pub orders : Orders c.words volume
    pub clear : IsClear volume reports
    pub begin : BeginWith (judged clear.first clear.second) reports more

  -- each item of the merge can be described, the archive takes it, and nothing stands in the way
  pub record IsGoodExtract : Type 0 where
    pub reports : List Report
    pub all : IsClearUpTo reports []

  -- The archive takes the first items of the merge and not the one behind them, for this reason, and nothing else stands in the way.
  pub record IsUntakenItem (fault : LogFault) : Type 0 where
    pub before : List Report
    pub r : Report
    pub more : List Judged
    pub up_to : IsClearUpTo before (Judged.fits r ∷ more)
    pub away : IsTurnedAway up_to.volume (contents_of (c.extract.disk.held c.extract.disk_was)) (events_of (each_held before)) r fault

  -- The archive takes the first items of the merge, the one behind them can't be described, for this reason, and nothing else stands in the way.
  pub record IsUnfitItem (fault : MergeFault) : Type 0 where
    pub before : List Report
    pub more : List Judged
    pub up_to : IsClearUpTo before (Judged.misfit fault ∷ more)
