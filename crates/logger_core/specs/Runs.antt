-- A run of items that may be logged, and what it makes of what a logger means.
use Rattle.std.specs.Prelude.{◌≡◌, ℕ, ◌≤◌, Bool, List, [], ◌∷◌, ◌++◌}
use Rattle.std.specs.List.{AllByRecursion}
use Rattle.pcp_base.specs.Time.{Moment, IsMoment}
use Rattle.pcp_base.specs.declared.file.FileId.{FileId}
use Rattle.pcp_base.specs.declared.result.Item.{Item}
use Rattle.pcp_model.specs.declared.records.MetaRecord.{MetaRecord}
use Rattle.pcp_model.specs.Archive.{AreRead}
use Rattle.pcp_model.specs.Described.{Described}
use Rattle.pcp_model.specs.Disk.{Files, Holdings}
use Rattle.pcp_model.specs.Frame.{frames}
use Rattle.pcp_model.specs.Payload.{IsItem, stamp_of}
use Rattle.pcp_model.specs.Sound.{NoItemAfter, NoDomainAfter}
use Rattle.logger_core.specs.declared.ends.Ends.{Ends}
use Rattle.logger_core.specs.Going.{acknowledged_before}
use Rattle.logger_core.specs.Laws.{AreRecordsToCome, Survives}
use Rattle.logger_core.specs.LogSteps.{base_files, base_number, entries_put}
use Rattle.logger_core.specs.Meant.{Meant, items_in, stood_in, IsAt}
use Rattle.logger_core.specs.Steps.{NoEntryAfter}

-- each is stamped not before any that stands before it
abbrev pub Rise : List Item → List Item → Type 0
Rise xs [] = Unit {0}
Rise xs (y ∷ ys) = NoItemAfter (stamp_of y) xs × Rise (xs ++ y ∷ []) ys

-- items that may stand behind those that do: metadata that are sure describe them
pub record AreItemsToCome (m : Meant) (payloads : List (List ℕ)) (items : List Item) : Type 0 where
  pub read : AreRead IsItem payloads items
  pub described : AllByRecursion (Described m.contents.records) items
  pub rise : Rise (items_in m) items

-- The metadata of the items contradict none and leave all described; with them each of the items is. They rise, and nothing
-- is stamped after the last of them.
pub record IsRunToCome (m : Meant) (records : List MetaRecord) (items : List Item) (meta_bytes item_bytes : List ℕ) : Type 0 where
  pub meta_payloads : List (List ℕ)
  pub meta_is : meta_bytes ≡ frames meta_payloads
  pub come : AreRecordsToCome m.start m.contents meta_payloads records
  pub payloads : List (List ℕ)
  pub items_are : item_bytes ≡ frames payloads
  pub read : AreRead IsItem payloads items
  pub described : AllByRecursion (Described (m.contents.records ++ records)) items
  pub rise : Rise (items_in m) items

-- so is this the greatest stamp
pub record IsLastStamp (m : Meant) (records : List MetaRecord) (items : List Item) (t : Moment) : Type 0 where
  pub first : List Item
  pub last : Item
  pub are : items ≡ first ++ last ∷ []
  pub stamped : stamp_of last ≡ t
  pub moment : IsMoment t
  pub before : NoItemAfter t (items_in m ++ items)
  pub domains : NoDomainAfter t (m.contents.records ++ records)
  pub entries : NoEntryAfter t m.contents.entries

-- a volume in which the record has its place: the one that was written, or the next
pub record IsReady (m : Meant) (e after : Ends) (crossing : Bool) (held : Holdings) : Type 0 where
  pub new : Meant
  pub started : new.start ≡ m.start
  pub gone_is : new.gone ≡ m.gone
  pub greatest_is : new.greatest ≡ m.greatest
  pub label_same : new.contents.label ≡ m.contents.label
  pub records_same : new.contents.records ≡ m.contents.records
  pub entries_are : new.contents.entries ≡ m.contents.entries ++ entries_put crossing m.files m.contents e.volume m.greatest (stood_in m)
  pub items_same : items_in new ≡ items_in m
  pub still : m.acknowledged ≤ new.acknowledged
  pub acknowledged_is : new.acknowledged ≡ acknowledged_before crossing m
  pub files_are : (file : FileId) → new.files file ≡ base_files crossing m.files m.contents e.volume m.greatest (stood_in m) file
  pub number : after.volume ≡ base_number crossing e.volume
  pub at : IsAt new after held

-- the first of these items and more, all acknowledged ones among them
abbrev pub SurvivesWith : Meant → List Item → Files → Type 0
SurvivesWith m more image = Survives m.start (items_in m ++ more) m.acknowledged image
