-- How a disk goes on with a session: what it holds behind its opening, its flushes and its syncs, and what a crash leaves from then on.
use Rattle.std.specs.Prelude.{◌≡◌, ◌⊎◌, ℕ, List, [], ◌++◌, length}
use Rattle.pcp_base.specs.declared.file.FileId.{FileId}
use Rattle.pcp_base.specs.declared.result.Item.{Item}
use Rattle.pcp_model.specs.Disk.{Files, contents_of}
use Rattle.pcp_model.specs.LabelFields.{LabelFields}
use Rattle.pcp_outside.specs.Devices.{LeavesOnly}
use Rattle.pcp_outside.specs.declared.disk.Disk.{Ghosts as DiskGhosts}
use Rattle.logger_core.specs.declared.fault.LogFault.{LogFault}
use Rattle.logger_core.specs.declared.fault.LogFault.TheVariants.{Closed, Live, Large, NotLater, Changed, Full, NoMemory, DiskFault}
use Rattle.logging_session.specs.ComingBack.{ComesBackTo}
use Rattle.logging_session.specs.Events.{EndsLogged, Event, LeadFrom, acknowledged_by, items_by, logged_all, opening}
use Rattle.logging_session.specs.Keeping.{Carried, IsClosed, Keeps, held_in, lost_in}
use Rattle.logging_session.specs.Written.{Refuses, Report, Stand, Written, files_of}

-- over what recovery left these events lead to these files
pub record LeadsTo (l : LabelFields) (limit : ℕ) (left : Files) (events : List Event) (files : Files) : Type 0 where
  pub stand : Stand
  pub lead : LeadFrom l limit left events stand
  pub are : (file : FileId) → files file ≡ files_of stand file

module _ {D : Type 0} (d : DiskGhosts D) (l : LabelFields) (limit : ℕ) (left : Files) where
  -- At some moment since then the disk held what these events led to. A crash before that moment leaves the first ones of their items, and one
  -- from that moment on the first ones of all items, all that the events acknowledge among them.
  pub record HasPassed (events : List Event) (items : List Item) (old new : D) : Type 0 where
    pub at : D
    pub before : LeavesOnly d.moment d.left_since old at (ComesBackTo (items_by events) 0 left)
    pub files : LeadsTo l limit left events (contents_of (d.held at))
    pub since : LeavesOnly d.moment d.left_since at new (ComesBackTo items (acknowledged_by events) left)

  -- So it was before the first of these events, behind the opening, and behind each flush and sync. Results are written several at a time, so
  -- that nothing is said of a moment behind each of them. The items are those of the events, and perhaps more that were on their way.
  abbrev pub WentBy : List Event → List Item → D → D → Type 0
  WentBy events more old new = (front rest : List Event) → events ≡ front ++ rest → (EndsLogged front → ⊥) → HasPassed front (items_by events ++ more) old new

-- Of the results that these events logged, so many of the last are held and weren't on their way: a crash since then leaves the first ones of
-- the items before them.
abbrev pub WereHeld : {D : Type 0} → DiskGhosts D → Files → List Event → ℕ → D → D → Type 0
WereHeld d left events n start disk = (front : List Event) (held : List Report) → events ≡ front ++ logged_all held → length held ≡ n → LeavesOnly d.moment d.left_since start disk (ComesBackTo (items_by front) 0 left)

-- what a session keeps, and how the disk came to it from that moment on
pub record HasKept {D : Type 0} (d : DiskGhosts D) (left : Files) (events : List Event) (start : D) (s : Carried) (disk : D) : Type 0 where
  pub keeps : Keeps left events s (d.held disk)
  pub went : WentBy d s.label s.limit left events [] start disk
  pub held : WereHeld d left events (held_in s.place) start disk

-- Where the disk failed it held, at some moment, exactly what the events lead to without the last results that they logged, as many as are
-- lost.
pub record HasPassedHeld {D : Type 0} (d : DiskGhosts D) (left : Files) (events : List Event) (start : D) (s : Carried) (disk : D) : Type 0 where
  pub done : List Event
  pub lost : List Report
  pub is : events ≡ done ++ logged_all lost
  pub many : length lost ≡ lost_in s.place
  pub passed : HasPassed d s.label s.limit left done (items_by events) start disk

module _ {D : Type 0} (d : DiskGhosts D) (left : Files) (events : List Event) (r : Report) (start : D) (old new : Carried) (disk : D) where
  -- the archive was opened for the result, and turns it away
  pub record HasTurnedAway (fault : LogFault) : Type 0 where
    pub kept : HasKept d left (opening r.result.stamp events) start new disk
    pub w : Written
    pub lead : LeadFrom old.label old.limit left (opening r.result.stamp events) (Stand.opened w)
    pub refuses : Refuses old.limit r w fault

  -- What a result leaves that isn't logged. The disk fails only where the archive was to be opened for it.
  abbrev pub HasNotLogged : LogFault → Type 0
  HasNotLogged Closed = IsClosed old × HasKept d left events start new disk
  HasNotLogged (Live volume) = ⊥
  HasNotLogged (Large bytes) = HasTurnedAway (Large bytes)
  HasNotLogged (NotLater last) = HasTurnedAway (NotLater last)
  HasNotLogged (Changed pmid) = HasTurnedAway (Changed pmid)
  HasNotLogged (Full file bytes) = HasTurnedAway (Full file bytes)
  HasNotLogged NoMemory = HasKept d left events start new disk ⊎ HasKept d left (opening r.result.stamp events) start new disk
  HasNotLogged DiskFault = WentBy d old.label old.limit left events [] start disk

-- What a write, a flush or a sync leaves that is refused: a closed session as it was, and where the disk failed all that there was, of which
-- what was held may have been on its way.
module _ {D : Type 0} (d : DiskGhosts D) (left : Files) (events : List Event) (start : D) (old new : Carried) (disk : D) where
  abbrev pub HasNotFlushed : LogFault → Type 0
  HasNotFlushed Closed = IsClosed old × HasKept d left events start new disk
  HasNotFlushed DiskFault = WentBy d old.label old.limit left events [] start disk
  HasNotFlushed fault = ⊥

-- The close of a session that is kept is refused by the disk alone.
module _ {D : Type 0} (d : DiskGhosts D) (left : Files) (events : List Event) (start : D) (old : Carried) (disk : D) where
  abbrev pub HasNotClosed : LogFault → Type 0
  HasNotClosed fault = (fault ≡ DiskFault) × WentBy d old.label old.limit left events [] start disk
