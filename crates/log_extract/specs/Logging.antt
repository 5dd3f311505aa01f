-- How the items of a merge are logged, one behind another, and where that stops.
use Rattle.std.specs.Prelude.{◌≡◌, ◌⊎◌, ℕ, List, [], ◌∷◌, ◌++◌, Result, Ok, Err}
use Rattle.pcp_base.specs.declared.result.PmResult.{PmResult}
use Rattle.pcp_model.specs.Disk.{contents_of}
use Rattle.pcp_outside.specs.declared.disk.Disk.{Ghosts as DiskGhosts}
use Rattle.logging_session.specs.Keeping.{Carried}
use Rattle.logging_session.specs.Written.{Report}
use Rattle.logging_run.specs.Handing.{each_held}
use Rattle.logging_run.specs.Running.{Runs, Stops}
use Rattle.archive_check.specs.declared.fault.CheckFault.{CheckFault}
use Rattle.archive_merge.specs.declared.fault.MergeFault.{MergeFault}
use Rattle.archive_merge.specs.declared.fault.MergeFault.TheVariants.{NoMemory}
use Rattle.archive_merge.specs.Merging.{at_each}
use Rattle.archive_merge.specs.Order.{Rises}
use Rattle.log_extract.specs.declared.cursor.Cursor.{Cursor}
use Rattle.log_extract.specs.declared.fault.ExtractFault.{ExtractFault}
use Rattle.log_extract.specs.declared.fault.ExtractFault.TheVariants.{Archive, Merge, Source}
use Rattle.log_extract.specs.Cursors.{Leaves}
use Rattle.log_extract.specs.Judging.{Judged, all_fit, judge}
use Rattle.log_extract.specs.Sources.{IsBrokenOff}

-- these come first of all
abbrev pub BeginWith : List Judged → List Report → List Judged → Type 0
BeginWith all reports more = all ≡ all_fit reports ++ more

-- of what comes next, this is the first
abbrev pub IsNextOf : Judged → List Judged → Type 0
IsNextOf j more = (later : List Judged) × (more ≡ j ∷ later)

-- a refusal of the next item by the merge
abbrev pub IsMisfit : MergeFault → List Judged → Type 0
IsMisfit fault more = (fault ≡ NoMemory) ⊎ IsNextOf (Judged.misfit fault) more

module _ {D : Type 0} (d : DiskGhosts D) (limit : ℕ) (run : Carried) (start disk : D) where
  -- these reports are logged, each held to be written with others
  abbrev pub HasLogged : List Report → Type 0
  HasLogged reports = Runs d limit (each_held reports) run start disk

  -- so far these reports are logged, and one more; or that stopped
  abbrev pub LogsNext : List Report → Judged → Result (Unit {0}) ExtractFault → Type 0
  LogsNext reports j (Ok done) = (r : Report) × (j ≡ Judged.fits r) × HasLogged (reports ++ r ∷ [])
  LogsNext reports j (Err (Merge fault)) = ((fault ≡ NoMemory) ⊎ (j ≡ Judged.misfit fault)) × HasLogged reports
  LogsNext reports j (Err (Archive fault)) = (r : Report) × (j ≡ Judged.fits r) × Stops d limit (each_held reports) r run start disk fault
  LogsNext reports j (Err (Source number fault)) = ⊥

  -- Of results that are left, of which this comes: all of it was logged; or the first ones were, and then it stopped.
  abbrev pub LogsAll : (List PmResult → List PmResult → Type 0) → (List PmResult → List PmResult → List Judged) → Result (Unit {0}) ExtractFault → Type 0
  LogsAll Left comes (Ok done) = (reports : List Report) × HasLogged reports × ((xs ys : List PmResult) → Left xs ys → BeginWith (comes xs ys) reports [])
  LogsAll Left comes (Err (Merge fault)) =
      (reports : List Report) × HasLogged reports × ((xs ys : List PmResult) → Left xs ys → (more : List Judged) × BeginWith (comes xs ys) reports more × IsMisfit fault more)
  LogsAll Left comes (Err (Archive fault)) =
      (reports : List Report) × (r : Report) × Stops d limit (each_held reports) r run start disk fault
      × ((xs ys : List PmResult) → Left xs ys → (more : List Judged) × BeginWith (comes xs ys) reports more × IsNextOf (Judged.fits r) more)
  LogsAll Left comes (Err (Source number fault)) = (reports : List Report) × HasLogged reports × ((xs ys : List PmResult) → Left xs ys → (more : List Judged) × BeginWith (comes xs ys) reports more)

-- two sources that tell, from which these results are left
pub record AreLeft {A B : Type 0} (a : DiskGhosts A) (b : DiskGhosts B) (first : A) (second : B) (ours theirs : Cursor) (xs ys : List PmResult) : Type 0 where
  pub first_tells : a.tells
  pub second_tells : b.tells
  pub first_left : Leaves (contents_of (a.held first)) ours xs
  pub second_left : Leaves (contents_of (b.held second)) theirs ys
  pub first_rises : Rises xs
  pub second_rises : Rises ys

-- what comes of each stamp that is left
abbrev pub judged_left : Cursor → Cursor → List PmResult → List PmResult → List Judged
judged_left ours theirs xs ys = at_each (judge ours.reader.records theirs.reader.records) xs ys

-- a source's reading broke off
abbrev pub BreaksOff : {A B : Type 0} → DiskGhosts A → DiskGhosts B → A → A → B → B → ℕ → CheckFault → Type 0
BreaksOff a b first_was first_is second_was second_is number fault = ((number ≡ 1) × IsBrokenOff a first_was first_is fault) ⊎ ((number ≡ 2) × IsBrokenOff b second_was second_is fault)

-- a fault of the sources is such a one, and others may come
abbrev pub BlamesSources : {A B : Type 0} → DiskGhosts A → DiskGhosts B → A → A → B → B → ExtractFault → Type 0
BlamesSources a b first_was first_is second_was second_is (Source number fault) = BreaksOff a b first_was first_is second_was second_is number fault
BlamesSources a b first_was first_is second_was second_is (Merge fault) = Unit {0}
BlamesSources a b first_was first_is second_was second_is (Archive fault) = Unit {0}

-- no call of a source's disk failed
pub record AreQuiet {A B : Type 0} (a : DiskGhosts A) (b : DiskGhosts B) (first_was first_is : A) (second_was second_is : B) : Type 0 where
  pub first : a.faults first_is ≡ a.faults first_was
  pub second : b.faults second_is ≡ b.faults second_was

-- none of the other source's, where the reading of one broke off
abbrev pub OtherIsQuiet : {A B : Type 0} → DiskGhosts A → DiskGhosts B → A → A → B → B → ℕ → Type 0
OtherIsQuiet a b first_was first_is second_was second_is number = ((number ≡ 1) × (b.faults second_is ≡ b.faults second_was)) ⊎ ((number ≡ 2) × (a.faults first_is ≡ a.faults first_was))

-- none but of the source that is named, where one is
abbrev pub QuietBut : {A B : Type 0} → DiskGhosts A → DiskGhosts B → A → A → B → B → ExtractFault → Type 0
QuietBut a b first_was first_is second_was second_is (Source number fault) = OtherIsQuiet a b first_was first_is second_was second_is number
QuietBut a b first_was first_is second_was second_is (Merge fault) = AreQuiet a b first_was first_is second_was second_is
QuietBut a b first_was first_is second_was second_is (Archive fault) = AreQuiet a b first_was first_is second_was second_is

-- no other comes
abbrev pub IsOfSource : ExtractFault → Type 0
IsOfSource (Source number fault) = Unit {0}
IsOfSource (Merge fault) = ⊥
IsOfSource (Archive fault) = ⊥

abbrev pub IsOfItem : ExtractFault → Type 0
IsOfItem (Source number fault) = ⊥
IsOfItem (Merge fault) = Unit {0}
IsOfItem (Archive fault) = Unit {0}
