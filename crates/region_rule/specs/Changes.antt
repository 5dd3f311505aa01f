-- A change of the layout: what it stores and in which order, and what is true while it is under way.
use Rattle.std.specs.Prelude.{◌≡◌, ◌≢◌, ℕ, suc, ◌+◌, ◌-◌, ◌^◌, ◌<◌, ◌≤◌, ◌==◌, ◌⊎◌, List, [], ◌∷◌, ◌++◌, All, length, drop, max, slice_index, if◌then◌else◌}
use Rattle.region_core.specs.declared.mode.Mode.TheVariants.{Changing}
use Rattle.region_core.specs.declared.act.Act.{Act}
use Rattle.region_core.specs.declared.act.Act.TheVariants.{Load, Take, Begin, Put, End, Free}
use Rattle.region_core.specs.Shape.{Shaping, IsWord}
use Rattle.region_core.specs.State.{g1, g2, IsIn}
use Rattle.region_core.specs.Journal.{own, IsJournal}
use Rattle.region_rule.specs.declared.view.View.{View}
use Rattle.region_rule.specs.declared.fault.ChangeFault.{ChangeFault}
use Rattle.region_rule.specs.declared.fault.ChangeFault.TheVariants.{TooLarge, Busy, Spent}
use Rattle.region_rule.specs.Views.{now}
use Rattle.region_rule.specs.Steps.{Extends}
use Rattle.region_rule.specs.Seats.{Token}

-- a change: its pass, its generation, its image, and the next word that it stores
pub record Relaying : Type 0 where
  pub token : Token
  pub generation : ℕ
  pub image : List ℕ
  pub next : ℕ

-- the words are stored from 0 on, but for the two generations
abbrev pub next_after : ℕ → ℕ
next_after w = if w == 0 then 3 else w + 1

-- how many words are left to store
abbrev pub left_from : ℕ → List ℕ → ℕ
left_from next image = if next == 0 then length image - 2 else length image - next

abbrev pub left_of : Relaying → ℕ
left_of change = left_from change.next change.image

-- stores of these words, from word w on
abbrev pub puts_at : ℕ → List ℕ → List Act
puts_at w [] = []
puts_at w (x ∷ xs) = Put w x ∷ puts_at (suc w) xs

-- the stores that are left
abbrev pub puts_left : ℕ → List ℕ → List Act
puts_left next image = if next == 0 then Put 0 (slice_index image 0) ∷ puts_at 3 (drop 3 image) else puts_at next (drop next image)

-- one act after the other, each found what it found
abbrev pub Acts : Shaping → View → List Act → View → Type 0
Acts S v [] w = w ≡ v
Acts S v (act ∷ acts) w = (n : ℕ) × (u : View) × Extends S v act n u × Acts S u acts w

-- What is true while a change is under way: its pass is changing, the first generation is the new one and the second another,
-- and the words before the next one are the image's
pub record UnderWay (S : Shaping) (v : View) (image : List ℕ) (next n : ℕ) : Type 0 where
  pub changing : v.mode ≡ Changing
  pub there : IsIn v.mode (now v) v.number
  pub had : own v.number v.seen ≡ v.own
  pub journal : IsJournal S v.start v.passes v.seen
  pub fit : All IsWord v.start
  pub fits : IsWord n
  pub is_image : S.IsImage image
  pub room : length image ≤ length v.start
  pub first : g1 (now v) ≡ n
  pub second : g2 (now v) ≢ n
  pub next_is : (next ≡ 0) ⊎ (3 ≤ next)
  pub most : next ≤ length image
  pub written : (w : ℕ) → w < next → w ≢ 1 → w ≢ 2 → slice_index (now v).words w ≡ slice_index image w

-- The change has begun: its pass found the gate at 0 and the first generation below the last number, which became the greater
-- of the moment and the old one plus 1
pub record Starts (S : Shaping) (v : View) (capacity : ℕ) (image : List ℕ) (moment : ℕ) (change : Relaying) : Type 0 where
  pub room : length image ≤ capacity
  pub taken : View
  pub takes : Extends S v Take 0 taken
  pub old : ℕ
  pub loaded : View
  pub loads : Extends S taken (Load 1) old loaded
  pub not_spent : old < 2 ^ 64 - 1
  pub generation : change.generation ≡ max moment (old + 1)
  pub begins : Extends S loaded (Begin change.generation) change.generation change.token.view
  pub image_is : change.image ≡ image
  pub first_word : change.next ≡ 0

-- why no change began: there are too many words; or the gate was not 0; or no generation is left, and the gate is free again
abbrev pub Fails : Shaping → View → ℕ → List ℕ → View → ChangeFault → Type 0
Fails S v capacity image w (TooLarge need room) = (capacity < length image) × (need ≡ length image) × (room ≡ capacity) × (w ≡ v)
Fails S v capacity image w (Busy gate) = (length image ≤ capacity) × (gate ≢ 0) × Extends S v Take gate w
Fails S v capacity image w (Spent generation) =
    (length image ≤ capacity) × (generation ≡ 2 ^ 64 - 1)
    × ((taken : View) × (loaded : View) × (gate : ℕ) × Extends S v Take 0 taken × Extends S taken (Load 1) generation loaded × Extends S loaded Free gate w)

-- the next word was stored, if one was left
pub record Stores (S : Shaping) (old new : Relaying) : Type 0 where
  pub generation : new.generation ≡ old.generation
  pub image : new.image ≡ old.image
  pub none_left : left_of old ≡ 0 → new ≡ old
  pub next : 0 < left_of old → new.next ≡ next_after old.next
  pub puts : 0 < left_of old → Extends S old.token.view (Put old.next (slice_index old.image old.next)) (slice_index old.image old.next) new.token.view

-- all stores that are left, then the second generation, then the gate
abbrev pub last_acts : Relaying → List Act
last_acts change = puts_left change.next change.image ++ (End change.generation ∷ Free ∷ [])
