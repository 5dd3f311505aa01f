-- The rows of an image's values by item and instance, by their numbers: these stay as long as the form does, and each row's
-- content is read from the words.
use Rattle.std.specs.Prelude.{◌≡◌, ℕ, ℤ, suc, negsuc, ◌==◌, if◌then◌else◌, List, [], ◌∷◌, fold, map, Option, None, Some, unwrap_or, length, slice_index}
use Rattle.std.specs.Ordering.{nat_cmp, int_cmp}
use Rattle.std.specs.BTreeMap.{BTreeMap, get, insert_entry}
use Rattle.mmv_layout.specs.Entries.{value_at}
use Rattle.mmv_layout.specs.Images.{IsImage}
use Rattle.mmv_layout.specs.declared.rows.Content.{Content}
use Rattle.mmv_layout.specs.declared.rows.MetricRow.{MetricRow}
use Rattle.mmv_layout.specs.declared.rows.IndomRow.{IndomRow}
use Rattle.mmv_layout.specs.declared.rows.Slot.{Slot}
use Rattle.mmv_layout.specs.declared.rows.ValueRow.{ValueRow}
use Rattle.mmv_layout.specs.Form.{slots_of}
use Rattle.mmv_layout.specs.Rows.{content_of, layout_of}
use Rattle.fetch_answers.specs.Indexes.{HasPlaces}
use Rattle.fetch_answers.specs.Values.{ByInstance}

-- the numbers of rows by instance
abbrev pub ByNumber : Type 0
ByNumber = List (ℤ × ℕ)

-- the item and the instance of a value
abbrev pub Subject : Type 0
Subject = ℕ × Option ℤ

abbrev pub subject_of : ValueRow → Subject
subject_of row = (row.item, row.instance)

-- what a list has, with the number of each
abbrev pub enumeration : {X : Type 0} → ℕ → List X → List (ℕ × X)
enumeration n [] = []
enumeration n (x ∷ xs) = (n, x) ∷ enumeration (suc n) xs

-- numbers of an item with one more row, if it is of the item
abbrev pub with_number : ℕ → ByNumber → ℕ × Subject → ByNumber
with_number item numbers row = if row.1.0 == item then insert_entry int_cmp numbers (unwrap_or row.1.1 (negsuc 0)) row.0 else numbers

abbrev pub numbers_at : Option (BTreeMap ℤ ℕ) → ByNumber
numbers_at None = []
numbers_at (Some table) = table.entries

-- a table has the rows of each item by instance
abbrev pub HasNumbers : BTreeMap ℕ (BTreeMap ℤ ℕ) → List (ℕ × Subject) → Type 0
HasNumbers table rows = (item : ℕ) → numbers_at (get nat_cmp table item) ≡ fold (with_number item) [] rows

-- the content of a row, and those of rows by instance
abbrev pub content_at : List ℕ → ℕ → Content
content_at words number = content_of words (value_at words number)

abbrev pub contents_at : List ℕ → ByNumber → ByInstance
contents_at words numbers = map (λ row. (row.0, content_at words row.1)) numbers

-- the value words of words that are an image
abbrev pub value_words : List ℕ → List ℕ
value_words words = map (λ (slot : Slot). slot.word) (slots_of words)

-- what is kept of an image beside its words
pub record IsTold (words : List ℕ) (generation : ℕ) (indexes room : List ℕ) (flags : ℕ) (indoms : List IndomRow) (metrics : List MetricRow) (places : BTreeMap ℕ ℕ) (numbers : BTreeMap ℕ (BTreeMap ℤ ℕ)) : Type 0 where
  pub image : IsImage words
  pub generation_is : generation ≡ slice_index words 1
  pub indexes_are : indexes ≡ value_words words
  pub room_is : length room ≡ length indexes
  pub flags_are : flags ≡ (layout_of words).flags
  pub indoms_are : indoms ≡ (layout_of words).indoms
  pub metrics_are : metrics ≡ (layout_of words).metrics
  pub places_by_item : HasPlaces places metrics
  pub numbers_by_item : HasNumbers numbers (enumeration 0 (map subject_of (layout_of words).values))
