use Rattle.std.proofs.Common.{◌≡◌, ◌+◌, ◌-◌, ◌<◌, ◌≤◌, ℕ, slice_index, length}
use Rattle.std.specs.Slots.{slots_items}
use Rattle.region_rule.proofs.region.copy_words.Given as goal

abbrev pub invariant-loop-index : goal.invariant-loop-index
invariant-loop-index l = (length l.words.items ≡ length l.initial.words.items) × (l.index ≤ length l.words.items) × ((k : ℕ) → k < l.index → slice_index l.words.items k ≡ slice_index (slots_items l.closed.words) (k + 1))

abbrev pub decreases-loop-index : goal.decreases-loop-index
decreases-loop-index l = length l.words.items - l.index
