-- A slot that is found among those of what a stint has seen: its word lies in the region, and takes every number.
use Rattle.std.proofs.Common.{◌≡◌, ℕ, Bool, List, Some, All, ◌<◌, find, ap, sym, ◌∙◌, subst}
use Rattle.std.specs.List.{position_or_len}
use Rattle.std.proofs.lemmas.List.Folds.{find_at}
use Rattle.std.proofs.lemmas.Option.{slice_get_within, get_or_from_slice_get}
use Rattle.mmv_layout.specs.declared.rows.Slot.{Slot}
use Rattle.region_rule.specs.declared.view.View.{View}
use Rattle.region_rule.specs.Calls.{TakesAll}
use Rattle.region_words.specs.Images.{mmv}
use Rattle.region_words.specs.Calls.{form_seen, IsNumber}
use Rattle.region_words.proofs.Inside.{number_taken}

pub found_below : (slots seen : List Slot) (p : Slot → Bool) (slot : Slot) (n : ℕ) → All (λ (s : Slot). s.word < n) slots → seen ≡ slots → Some slot ≡ find p seen → slot.word < n
found_below slots seen p slot n all same found =
    let there = sym (find_at p slots) ∙ (ap (λ (l : List Slot). find p l) (sym same) ∙ sym found) in
    subst (λ (s : Slot). s.word < n) (get_or_from_slice_get slots (position_or_len p slots) slot slot there) (all (position_or_len p slots) slot (slice_get_within slots (position_or_len p slots) slot there))

pub found_takes : (v : View) (slots : List Slot) (p : Slot → Bool) (slot : Slot) → slots ≡ (form_seen v).slots → Some slot ≡ find p slots → IsNumber slot.kind → TakesAll mmv v slot.word
found_takes v slots p slot seen found number = number_taken v slots (position_or_len p slots) slot seen (sym (find_at p slots) ∙ sym found) number
