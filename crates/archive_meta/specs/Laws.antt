-- What holds of records, over all bytes.
use Rattle.std.specs.Prelude.{◌≡◌, ℕ, List, ◌++◌}
use Rattle.pcp_base.specs.declared.result.PmResult.{PmResult}
use Rattle.pcp_base.specs.declared.result.Item.TheVariants.{Sample}
use Rattle.pcp_model.specs.declared.records.MetaRecord.{MetaRecord}
use Rattle.pcp_model.specs.Described.{Described}
use Rattle.archive_meta.specs.declared.facts.Facts.{Facts}
use Rattle.archive_meta.specs.Enough.{AreEnough}
use Rattle.archive_meta.specs.Facts.{FitSets}
use Rattle.archive_meta.specs.Missing.{AreMissing}
use Rattle.archive_meta.specs.Records.{AreRecords}

-- bytes behind bytes are the records of both, and no bytes are two lists of records
pub record RecordsGoOn : Type 0 where
  pub both : (a b : List ℕ) (xs ys : List MetaRecord) → AreRecords a xs → AreRecords b ys → AreRecords (a ++ b) (xs ++ ys)
  pub once : (a : List ℕ) (xs ys : List MetaRecord) → AreRecords a xs → AreRecords a ys → xs ≡ ys

-- with the records that are missing a result is described, where its facts are enough and fit what is kept
abbrev pub MissingRecordsDescribe : Type 0
MissingRecordsDescribe = (records missing : List MetaRecord) (facts : Facts) (answer : PmResult) → FitSets records facts.metrics answer.sets → AreEnough facts answer.sets
    → AreMissing records facts answer missing → Described (records ++ missing) (Sample answer)
