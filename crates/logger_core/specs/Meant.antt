-- How what a logger keeps between two calls is tied to its files: everything that is meant is written, and Meta is sure.
use Rattle.std.specs.Prelude.{◌≡◌, ℕ, ◌+◌, ◌≤◌, Bool, ◌||◌, nat_lt, List, [], length, Option, IfSome}
use Rattle.pcp_base.specs.Time.{Moment, IsMoment}
use Rattle.pcp_base.specs.declared.file.FileId.{FileId}
use Rattle.pcp_base.specs.declared.file.FileId.TheVariants.{Meta, Index, Volume}
use Rattle.pcp_base.specs.declared.result.Item.{Item}
use Rattle.pcp_model.specs.declared.records.MetaRecord.{MetaRecord}
use Rattle.pcp_model.specs.Archive.{ArchiveContents, items_of}
use Rattle.pcp_model.specs.Disk.{Files, Holdings, bytes_of}
use Rattle.pcp_model.specs.LabelFields.{LabelFields}
use Rattle.pcp_outside.specs.Causes.{shown_count}
use Rattle.logger_core.specs.declared.ends.Ends.{Ends}
use Rattle.logger_core.specs.Keeps.{Start, Keeps}
use Rattle.logger_core.specs.Laws.{Survives}
use Rattle.logger_core.specs.Steps.{IsAbove, IsGreatest, greatest_in, has_item, last_entry}

-- What a logger means its archive to be: how it stood when it was opened, the files, what they are read as, and how many of its items are
-- acknowledged. Items of volumes that were retired are gone; they are counted, and the greatest stamp, with which the next result is
-- compared, doesn't fall with them.
pub record Meant : Type 0 where
  pub start : Start
  pub files : Files
  pub contents : ArchiveContents
  pub acknowledged : ℕ
  pub gone : ℕ
  pub greatest : Option Moment

-- the items that stand
abbrev pub items_in : Meant → List Item
items_in m = items_of m.contents.volumes

-- an item stands, or stood in a volume that was retired
abbrev pub stood_in : Meant → Bool
stood_in m = nat_lt 0 m.gone || has_item m.contents

-- what it keeps in numbers is so
pub record AreEnds (m : Meant) (e : Ends) : Type 0 where
  pub meta : e.meta ≡ length (m.files Meta)
  pub index : e.index ≡ length (m.files Index)
  pub length_is : e.length ≡ length (m.files (Volume e.volume))
  pub greatest : e.greatest ≡ m.greatest
  -- nothing is stamped after it; while no item is gone it is the greatest stamp that the files give
  pub moment : IfSome m.greatest IsMoment
  pub above : IsAbove m.contents m.greatest
  pub found : m.gone ≡ 0 → IsGreatest m.contents m.greatest
  pub entry : e.entry ≡ last_entry m.contents.entries
  pub logged : e.logged ≡ shown_count (m.gone + length (items_in m))
  pub acknowledged_is : e.acknowledged ≡ shown_count (m.gone + m.acknowledged)

-- between two calls of the disk: the files keep what is meant, all of it is written, and Meta and the labels of the index and of the
-- volume that is written are sure
pub record Stands (m : Meant) (number : ℕ) (held : Holdings) : Type 0 where
  pub keeps : Keeps m.start m.files m.contents number (length m.contents.records) m.acknowledged held
  pub written : (file : FileId) → bytes_of (held file) ≡ m.files file
  pub sure : (held Meta).rest ≡ []
  pub indexed : 132 ≤ length (held Index).sure
  pub headed : 132 ≤ length (held (Volume number)).sure

pub record IsAt (m : Meant) (e : Ends) (held : Holdings) : Type 0 where
  pub stands : Stands m e.volume held
  pub ends : AreEnds m e

-- the first of these items, all acknowledged ones among them, with their metadata
abbrev pub SurvivesOf : Meant → Files → Type 0
SurvivesOf m image = Survives m.start (items_in m) m.acknowledged image

-- what a logger is seen as
pub record Kept : Type 0 where
  pub label : LabelFields
  pub records : List MetaRecord
  pub ends : Ends
  pub limit : ℕ
  pub closed : Bool

-- a logger that isn't closed keeps this archive
pub record IsLogger (m : Meant) (l : Kept) (held : Holdings) : Type 0 where
  pub at : IsAt m l.ends held
  pub label_is : m.contents.label ≡ l.label
  pub records_are : m.contents.records ≡ l.records

-- While no item is gone the greatest stamp is as the files give it.
abbrev pub GreatestIsGiven : Type 0
GreatestIsGiven = (m : Meant) (e : Ends) (held : Holdings) → IsAt m e held → m.gone ≡ 0 → m.greatest ≡ greatest_in m.contents
