-- What reading a whole archive finds, before anything is changed.
use Rattle.std.specs.Prelude.{◌≡◌, ℕ, pos, negsuc, ◌<◌, List, [], ◌++◌, length, take, IfSome, Option}
use Rattle.pcp_base.specs.declared.file.FileId.TheVariants.{Meta, Index, Volume}
use Rattle.pcp_base.specs.Time.{Moment}
use Rattle.pcp_base.specs.declared.result.Item.{Item}
use Rattle.pcp_model.specs.declared.records.MetaRecord.{MetaRecord}
use Rattle.pcp_model.specs.declared.records.Entry.{Entry}
use Rattle.pcp_model.specs.Archive.{IsIndex, IsStoppedCreation, items_of}
use Rattle.pcp_model.specs.Disk.{Files}
use Rattle.pcp_model.specs.LabelFields.{LabelFields}
use Rattle.pcp_model.specs.Labels.{IsLabel, BeginsLabel, label}
use Rattle.pcp_model.specs.Recovered.{labelled_volumes}
use Rattle.archive_loading.specs.Loaded.{contents_with}
use Rattle.archive_loading.specs.Metadata.{AreAllRecords}
use Rattle.archive_recovery.specs.declared.mending.Last.{Last}
use Rattle.archive_recovery.specs.declared.mending.Tail.{Tail}
use Rattle.archive_recovery.specs.declared.stamps.Tally.{Tally}
use Rattle.archive_recovery.specs.declared.survey.Sighted.{Sighted}
use Rattle.archive_recovery.specs.declared.survey.Survey.{Survey}
use Rattle.archive_recovery.specs.declared.survey.Survey.TheVariants.{Begun, Archive}
use Rattle.archive_recovery.specs.Damage.{Found}
use Rattle.archive_recovery.specs.Stamps.{domain_stamps, entry_stamps, stamps_in, IsLatest}
use Rattle.archive_recovery.specs.Volumes.{Ascend, IsTopOf}

-- Meta, and the latest stamp in it
pub record MetaStands (files : Files) (l : LabelFields) (records : List MetaRecord) (tail : Tail) (last : Option Moment) : Type 0 where
  pub has_label : IsLabel (take 132 (files Meta)) l (negsuc 0)
  pub all : AreAllRecords (files Meta) records tail.end last
  pub size : tail.length ≡ length (files Meta)

-- and the index, with the latest stamp in both, before any item is counted
pub record HeadStands (files : Files) (l : LabelFields) (records : List MetaRecord) (tail : Tail) (tally : Tally) (entries : List Entry) (size : ℕ) : Type 0 where
  pub of_meta : Option Moment
  pub meta : MetaStands files l records tail of_meta
  pub index : IsIndex (files Index) (contents_with l [] entries [])
  pub is_size : size ≡ length (files Index)
  pub latest : IsLatest (domain_stamps records ++ entry_stamps entries) tally.last
  pub none : tally.items ≡ 0

-- the archive, what there is to mend, and what is told of it
pub record IsSighted (files : Files) (s : Sighted) : Type 0 where
  pub volumes : List (ℕ × List Item)
  pub found : Found files (contents_with s.label s.meta s.index volumes) s.damage (label s.label (negsuc 1)) (label s.label (pos 0))
  pub meta_size : s.damage.meta.length ≡ length (files Meta)
  pub index_size : s.damage.index_length ≡ length (files Index)
  pub last_size : IfSome s.damage.last (λ (l : Last). l.length ≡ length (files (Volume l.number)))
  pub ascend : Ascend (labelled_volumes files volumes)
  pub top_is : IsTopOf files s.label (labelled_volumes files volumes) s.top
  pub counted : s.tally.items ≡ length (items_of volumes)
  pub latest : IsLatest (stamps_in (contents_with s.label s.meta s.index volumes)) s.tally.last

-- Meta is less than its label
abbrev pub IsBegun : Files → ℕ → Type 0
IsBegun files size = (size ≡ length (files Meta)) × ((l : LabelFields) × BeginsLabel (files Meta) l (negsuc 0))

abbrev pub IsSurvey : Files → Survey → Type 0
IsSurvey files (Begun size) = (size ≡ length (files Meta)) × IsStoppedCreation files
IsSurvey files (Archive s) = IsSighted files s

-- a number that a volume may have
abbrev pub SightIsLow : Sighted → Type 0
SightIsLow s = IfSome s.damage.last (λ (l : Last). l.number < 4294967295)

abbrev pub SurveyIsLow : Survey → Type 0
SurveyIsLow (Begun size) = Unit {0}
SurveyIsLow (Archive s) = SightIsLow s
