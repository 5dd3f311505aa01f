-- What lines add to the counters, and what a pass did that counted them.
use Rattle.std.specs.Prelude.{◌≡◌, ℕ, List, [], ◌∷◌, ◌++◌, ◌/◌, map, take, drop, Option, Some, None, length, find, flat_map, filter_map, slice_index, Contains}
use Rattle.std.specs.Borrow.{Bor}
use Rattle.mmv_layout.specs.declared.rows.Slot.{Slot}
use Rattle.mmv_layout.specs.Form.{is_slot_of, slots_of, IsSlotOf}
use Rattle.region_core.specs.declared.act.Act.{Act}
use Rattle.region_core.specs.declared.act.Act.TheVariants.{Add}
use Rattle.region_core.specs.declared.act.Entry.{Entry}
use Rattle.region_rule.specs.declared.view.View.{View}
use Rattle.region_core.specs.Journal.{state, own, IsJournal}
use Rattle.region_rule.specs.Calls.{Detaches}
use Rattle.region_rule.specs.Views.{opening_of}
use Rattle.region_rule.specs.Seats.{MadeRegion, Token}
use Rattle.region_words.specs.Calls.{form_seen}
use Rattle.region_words.specs.Images.{mmv}
use Rattle.region_example.specs.declared.level.Level.{Level}
use Rattle.region_example.specs.Levels.{level_of, instance_of}

-- these are the passes of this region, which has no other
abbrev pub AreOf : MadeRegion → Token × Token → Type 0
AreOf region passes = (passes.0.region ≡ region) × (passes.1.region ≡ region) × (region.passes ≡ 2) × (passes.0.view.number ≡ 0) × (passes.1.view.number ≡ 1)

-- the word of a slot that was found
abbrev pub word_in : Option Slot → ℕ
word_in None = 0
word_in (Some slot) = slot.word

-- the word that holds the value of an item for a level
abbrev pub word_of : List Slot → ℕ → Level → ℕ
word_of slots item level = word_in (find (is_slot_of item (instance_of level)) slots)

-- a line adds 1 to the lines of its level, and its length to the bytes
abbrev pub adds_of : List Slot → Bor (List ℕ) → List (ℕ × ℕ)
adds_of slots line = (word_of slots 1 (level_of line.now), 1) ∷ (word_of slots 2 (level_of line.now), length line.now) ∷ []

-- the word to which an entry adds, and how much
abbrev pub add_by : Act → Option (ℕ × ℕ)
add_by (Add word amount) = Some (word, amount)
add_by _ = None

-- all that a pass has added
abbrev pub added : View → List (ℕ × ℕ)
added v = filter_map (λ (e : Entry). add_by e.act) v.own

-- The pass went inside, added what these lines add under the layout that it found there, and left
pub record Counts (lines : List (Bor (List ℕ))) (v w : View) : Type 0 where
  pub inside : View
  pub adds : added inside ≡ added v ++ flat_map (adds_of (form_seen inside).slots) lines
  pub leaves : Detaches mmv inside w

-- the amounts alone
abbrev pub amounts : View → List ℕ
amounts v = map (λ (a : ℕ × ℕ). a.1) (added v)

-- 1 for each line, and its length
abbrev pub amounts_of : List (Bor (List ℕ)) → List ℕ
amounts_of lines = flat_map (λ (line : Bor (List ℕ)). 1 ∷ length line.now ∷ []) lines

-- half of the lines of a batch, and the other half
abbrev pub front : List (Bor (List ℕ)) → List (Bor (List ℕ))
front lines = take (length lines / 2) lines

abbrev pub back : List (Bor (List ℕ)) → List (Bor (List ℕ))
back lines = drop (length lines / 2) lines

-- between the old passes and the new ones, the first added the amounts of one half of the lines, and the second those of the other
abbrev pub CountsHalves : List (Bor (List ℕ)) → Token × Token → Token × Token → Type 0
CountsHalves lines old new = (amounts new.0.view ≡ amounts old.0.view ++ amounts_of (front lines)) × (amounts new.1.view ≡ amounts old.1.view ++ amounts_of (back lines))

-- and those of these batches in all
abbrev pub HasCounted : List (Bor (List (Bor (List ℕ)))) → View → View → Type 0
HasCounted batches v w =
    (amounts v ≡ flat_map (λ (batch : Bor (List (Bor (List ℕ)))). amounts_of (front batch.now)) batches)
    × (amounts w ≡ flat_map (λ (batch : Bor (List (Bor (List ℕ)))). amounts_of (back batch.now)) batches)

-- The words are those at the end of a legal journal that has all entries of both passes
pub record ShowsAll (v w : View) (words : List ℕ) : Type 0 where
  pub log : List Entry
  pub journal : IsJournal mmv v.start v.passes log
  pub first : own v.number log ≡ v.own
  pub second : own w.number log ≡ w.own
  pub words_are : words ≡ (state (opening_of v) log).words

-- the image shows this value of an item for a level
pub record ShowsCount (image : List ℕ) (item : ℕ) (level : Level) (value : ℕ) : Type 0 where
  pub slot : Slot
  pub among : Contains (slots_of image) slot
  pub is : IsSlotOf item (instance_of level) slot
  pub value_is : value ≡ slice_index image slot.word

-- The image has the words that all entries of both passes leave, and these added the amounts of all lines, each half by half
abbrev pub IsCounted : List (Bor (List (Bor (List ℕ)))) → List ℕ → Type 0
IsCounted batches image = (v : View) × (w : View) × HasCounted batches v w × ShowsAll v w image
