-- What is made of a result and may be written, and what its writing leaves.
use Rattle.std.specs.Prelude.{◌≡◌, ℕ, ◌+◌, ◌<◌, ◌≤◌, true, false, List, [], ◌∷◌, ◌++◌, length, Some}
use Rattle.pcp_base.specs.declared.result.Item.TheVariants.{Sample}
use Rattle.pcp_base.specs.declared.result.PmResult.{PmResult}
use Rattle.pcp_model.specs.declared.records.MetaRecord.{MetaRecord}
use Rattle.pcp_model.specs.Disk.{Holdings}
use Rattle.archive_meta.specs.declared.facts.Facts.{Facts}
use Rattle.archive_meta.specs.Enough.{AreEnough}
use Rattle.archive_meta.specs.Records.{Adds}
use Rattle.logger_core.specs.declared.ends.Ends.{Ends}
use Rattle.logger_core.specs.declared.preparing.Made.{Made}
use Rattle.logger_core.specs.Going.{acknowledged_before}
use Rattle.logger_core.specs.Logging.{IsMadeOf}
use Rattle.logger_core.specs.LogSteps.{LogStep}
use Rattle.logger_core.specs.Meant.{Meant, IsAt, items_in, stood_in}

-- no count of bytes comes near what 64 bits hold
pub record IsBounded (e : Ends) (made : Made) : Type 0 where
  pub next : made.crossing ≡ true → e.volume + 1 < 2147483648
  pub meta : e.meta + length made.records < 9223372036854775808
  pub item : length made.item < 4294967296
  pub room : made.crossing ≡ false → e.length + length made.item < 9223372036854775808

-- what was made is of this result, its metadata contradict none, and its facts are enough
pub record MayBeWritten (m : Meant) (e : Ends) (limit : ℕ) (answer : PmResult) (facts : Facts) (after : List MetaRecord) (made : Made) : Type 0 where
  pub is : IsMadeOf m.contents.records e limit answer facts made
  pub some : 0 < length answer.sets
  pub enough : AreEnough facts answer.sets
  pub added : Adds m.contents.records made.records after

pub record ItemWritten (m : Meant) (e now : Ends) (limit : ℕ) (answer : PmResult) (facts : Facts) (after : List MetaRecord) (held : Holdings) : Type 0 where
  pub new : Meant
  pub started : new.start ≡ m.start
  pub gone_is : new.gone ≡ m.gone
  pub greatest_is : new.greatest ≡ Some answer.stamp
  pub step : LogStep m.files m.contents e.volume m.greatest (stood_in m) limit answer facts new.files
  pub said : new.contents.records ≡ m.contents.records ++ step.missing
  pub items_are : items_in new ≡ items_in m ++ Sample answer ∷ []
  pub still : m.acknowledged ≤ new.acknowledged
  pub acknowledged_is : new.acknowledged ≡ acknowledged_before step.crossing m
  pub label_same : new.contents.label ≡ m.contents.label
  pub records_are : new.contents.records ≡ after
  pub at : IsAt new now held
