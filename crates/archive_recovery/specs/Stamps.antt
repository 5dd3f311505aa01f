-- The latest stamp of an archive: of the records of its instance domains, of the index's entries, and of its items.
use Rattle.std.specs.Prelude.{List, ◌++◌, map}
use Rattle.pcp_base.specs.Time.{Moment}
use Rattle.pcp_base.specs.declared.result.Item.{Item}
use Rattle.pcp_model.specs.declared.records.Entry.{Entry}
use Rattle.pcp_model.specs.Archive.{ArchiveContents, items_of}
use Rattle.pcp_model.specs.Payload.{stamp_of}
pub use Rattle.archive_loading.specs.Stamps.{domain_stamps, IsLatest, IsLatestOn}

abbrev pub entry_stamps : List Entry → List Moment
entry_stamps entries = map (λ (e : Entry). e.stamp) entries

abbrev pub item_stamps : List Item → List Moment
item_stamps items = map stamp_of items

-- all of them, file by file
abbrev pub stamps_in : ArchiveContents → List Moment
stamps_in c = domain_stamps c.records ++ entry_stamps c.entries ++ item_stamps (items_of c.volumes)
