-- `dump` writes the label of an archive and its items, to the end of the last volume; of a creation that was stopped, that there
-- is no archive.
use Rattle.std.specs.Prelude.{◌≡◌, ◌⊎◌, ℕ, Bool, true, false, List, [], ◌∷◌, ◌++◌, Option, Some, None, codes, decimal}
use Rattle.pcp_base.specs.declared.result.Item.{Item}
use Rattle.pcp_model.specs.Disk.{Files}
use Rattle.pcp_model.specs.LabelFields.{LabelFields}
use Rattle.archive_reader.specs.Laws.{IsReadAs}
use Rattle.archive_loading.specs.Loaded.{Loaded}
use Rattle.archive_reader.specs.Walks.{volumes_from, StepsOver, IsEnd, IsBad, Leads, AllFrom, StopsAt}
use Rattle.archive_reader.specs.declared.places.Place.{Place}
use Rattle.pm_print.specs.Items.{item_text, items_text}
use Rattle.pm_words.specs.declared.refusal.Refusal.{Refusal}
use Rattle.pm_words.specs.declared.refusal.Refusal.TheVariants.{NotArchive}
use Rattle.pm_tasks.specs.Archives.{IsLoaded, TurnedAfter, looks, takes_any}
use Rattle.pm_words.specs.Meaning.{Meaning}
use Rattle.pcp_outside.specs.Sides.{SinkSide}
use Rattle.pm_words.specs.Sides.{DiskSide, Found, files_found}
use Rattle.pm_words.specs.Streams.{IsFront, IsSent}

-- `archive PID HOST ZONE`, or `archive none`
abbrev pub label_line : Option LabelFields → List ℕ
label_line None = codes "archive none\n"
label_line (Some l) = codes "archive " ++ (decimal l.pid ++ (32 ∷ (l.host ++ (32 ∷ (l.zone ++ 10 ∷ [])))))

abbrev pub dump_text : Loaded → List Item → List ℕ
dump_text r items = label_line r.label ++ items_text r.records items

-- the records of the volumes, to the end of the last, are those of these items
abbrev pub HasItems : Files → Loaded → List Item → Type 0
HasItems files r items = AllFrom files r.volumes 132 items

-- a record of a volume, the first such, is no item's
abbrev pub BadRecord : Loaded → Found → Refusal → Type 0
BadRecord r found (NotArchive file at) = (items : List Item) × StopsAt found.files r.volumes 132 items file at
BadRecord r found _ = ⊥

-- files are turned away where they aren't loaded, or where a record is no item's
abbrev pub IsTurnedAway : Found → Refusal → Type 0
IsTurnedAway found e = TurnedAfter BadRecord found e

-- the files are readable, and their items are written
abbrev pub IsOutput : Found → List ℕ → Type 0
IsOutput found text = (r : Loaded) × IsLoaded found r × (items : List Item) × HasItems found.files r items × IsReadAs found.files r.records items
    × (text ≡ dump_text r items)

-- some records of the volumes, from the first on, are those of these items
abbrev pub BeginsWith : Files → Loaded → List Item → Type 0
BeginsWith files r items = (last : List (ℕ × ℕ)) × (to : ℕ) × Leads files r.volumes 132 items last to

-- before it is stopped it may have written a front of the label and of the items that the archive begins with
abbrev pub HasBegun : Found → List ℕ → Type 0
HasBegun found front = (front ≡ []) ⊎ ((r : Loaded) × IsLoaded found r × (items : List Item) × BeginsWith found.files r items × IsFront front (dump_text r items))

abbrev pub IsFrontOutput : DiskSide → List ℕ → Type 0
IsFrontOutput d front = d.tells → HasBegun (files_found d) front

abbrev pub dump : Meaning
dump = looks IsTurnedAway IsOutput IsFrontOutput takes_any

-- Of one step: an item's record follows and its text was put, or none follows
abbrev pub HasNext : Files → Loaded → Place → Place → List ℕ → List ℕ → Bool → Type 0
HasNext files r p q before after true =
    (x : Item) × StepsOver files (volumes_from p.volume r.volumes) p.offset x (volumes_from q.volume r.volumes) q.offset × (after ≡ before ++ item_text r.records x)
HasNext files r p q before after false = IsEnd files (volumes_from p.volume r.volumes) p.offset × (after ≡ before)

-- the next record is no item's
abbrev pub BadNext : Loaded → Place → Found → Refusal → Type 0
BadNext r p found (NotArchive file at) = IsBad found.files (volumes_from p.volume r.volumes) p.offset file at
BadNext r p found _ = ⊥

-- Of all steps: the texts of all items stand behind what was there; the front of that went to the sink, and the rest waits.
pub record HasPut (tells : Type 0) (files : Files) (r : Loaded) (before : List ℕ) (k : SinkSide) (failed : Bool) (waits : List ℕ) : Type 0 where
  pub front : List ℕ
  pub sent : IsSent k front failed
  pub all : tells → (items : List Item) × HasItems files r items × (front ++ waits ≡ before ++ items_text r.records items)

-- or of some steps: a front of the texts of some items went to the sink
pub record HasPutSome (tells : Type 0) (files : Files) (r : Loaded) (before : List ℕ) (k : SinkSide) (failed : Bool) : Type 0 where
  pub front : List ℕ
  pub sent : IsSent k front failed
  pub some : tells → (items : List Item) × BeginsWith files r items × IsFront front (before ++ items_text r.records items)

-- of the whole text, a front went to the sink, and the rest waits
pub record HasSaid (k : SinkSide) (failed : Bool) (d : DiskSide) (waits : List ℕ) : Type 0 where
  pub front : List ℕ
  pub sent : IsSent k front failed
  pub whole : d.tells → IsOutput (files_found d) (front ++ waits)

-- or what was begun went there
pub record HasStopped (k : SinkSide) (failed : Bool) (d : DiskSide) : Type 0 where
  pub front : List ℕ
  pub sent : IsSent k front failed
  pub so_far : IsFrontOutput d front
