-- What holds between writing and reading, over all values.
use Rattle.std.specs.Prelude.{◌≡◌, ℕ, List, Ok}
use Rattle.std.specs.List.{AllByRecursion}
use Rattle.pcp_model.specs.declared.records.Entry.{Entry}
use Rattle.pcp_model.specs.Records.{entries, FitsEntry}
use Rattle.temporal_index.specs.Entries.{index_of, AreEntries, IsFirstFault}

-- what is written is read again
abbrev pub WrittenIndexIsRead : Type 0
WrittenIndexIsRead = (es : List Entry) → AllByRecursion FitsEntry es → index_of (entries es) ≡ Ok es

-- bytes are entries, or there is one first fault
pub record StopsOnce (bytes : List ℕ) : Type 0 where
  pub one : (i j : ℕ) → IsFirstFault bytes i → IsFirstFault bytes j → i ≡ j
  pub either : (i : ℕ) (es : List Entry) → IsFirstFault bytes i → AreEntries bytes es → ⊥

abbrev pub IndexStopsOnce : Type 0
IndexStopsOnce = (bytes : List ℕ) → StopsOnce bytes
