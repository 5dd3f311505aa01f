-- The state of a region, and the ten acts: where each is allowed, and what it does.
use Rattle.std.specs.Prelude.{◌≡◌, ◌≢◌, ℕ, ◌+◌, ◌-◌, ◌%◌, ◌^◌, ◌<◌, ◌==◌, ◌⊎◌, Bool, true, false, List, ◌++◌, length, nat_lt, if◌then◌else◌, replicate, slice_index, slice_set}
use mathlib.Core.Option.{some}
use lib.ListN.{get_elem?}
use Rattle.region_core.specs.declared.mode.Mode.{Mode}
use Rattle.region_core.specs.declared.mode.Mode.TheVariants.{Idle, Attached, Bounced, Changing}
use Rattle.region_core.specs.declared.act.Act.{Act}
use Rattle.region_core.specs.declared.act.Act.TheVariants.{Load, Swap, Add, Enter, Leave, Take, Begin, Put, End, Free}
use Rattle.region_core.specs.Shape.{Shaping, IsWord}

-- the image words up to the capacity, the gate, and a mode for each pass number
pub record State : Type 0 where
  pub words : List ℕ
  pub gate : ℕ
  pub modes : List Mode

-- an image word, and 0 past the capacity
abbrev pub word : State → ℕ → ℕ
word s w = slice_index s.words w

-- the first generation, which a change raises before its other stores
abbrev pub g1 : State → ℕ
g1 s = word s 1

-- the second generation, which it raises after them
abbrev pub g2 : State → ℕ
g2 s = word s 2

-- the two generations agree
abbrev pub IsStable : State → Type 0
IsStable s = g1 s ≡ g2 s

-- pass k is there, and in this mode
abbrev pub IsIn : Mode → State → ℕ → Type 0
IsIn m s k = get_elem? s.modes k ≡ some m

-- a number that is added to a word, modulo 2^64
abbrev pub plus : ℕ → ℕ → ℕ
plus n d = (n + d) % 2 ^ 64

-- an image, and zeros behind it up to the capacity
abbrev pub with_zeros : List ℕ → ℕ → List ℕ
with_zeros image capacity = image ++ replicate (capacity - length image) 0

-- the state at a region's making: these words, nobody at the gate, and each pass idle
abbrev pub opening : List ℕ → ℕ → State
opening words passes = record { words = words; gate = 0; modes = replicate passes Idle }

-- one word has this value
abbrev pub with_word : State → ℕ → ℕ → State
with_word s w v = record { words = slice_set s.words w v; gate = s.gate; modes = s.modes }

-- the gate has moved to this number, and pass k to this mode
abbrev pub with_mode : State → ℕ → ℕ → Mode → State
with_mode s gate k m = record { words = s.words; gate = gate; modes = slice_set s.modes k m }

-- who comes while the gate is below 2^63 is inside
abbrev pub entry_mode : Bool → Mode
entry_mode true = Attached
entry_mode false = Bounced

-- the gate is taken where it was 0
abbrev pub after_take : State → ℕ → Bool → State
after_take s k free = record { words = s.words; gate = if free then 2 ^ 63 else s.gate; modes = if free then slice_set s.modes k Changing else s.modes }

-- what an act of pass k does
abbrev pub after : State → ℕ → Act → State
after s k (Load w) = s
after s k (Swap w v) = with_word s w v
after s k (Add w d) = with_word s w (plus (word s w) d)
after s k Enter = with_mode s (s.gate + 1) k (entry_mode (nat_lt s.gate (2 ^ 63)))
after s k Leave = with_mode s (s.gate - 1) k Idle
after s k Take = after_take s k (s.gate == 0)
after s k (Begin n) = with_word s 1 n
after s k (Put w v) = with_word s w v
after s k (End n) = with_word s 2 n
after s k Free = with_mode s (s.gate - 2 ^ 63) k Idle

-- the mode of a pass after an act of its own, which found this gate
abbrev pub next_mode : ℕ → Mode → Act → Mode
next_mode gate m Enter = entry_mode (nat_lt gate (2 ^ 63))
next_mode gate m Leave = Idle
next_mode gate m Take = if gate == 0 then Changing else m
next_mode gate m Free = Idle
next_mode gate m _ = m

-- where an act of pass k is allowed, as far as modes, generations and the capacity tell
abbrev pub IsOpen : State → ℕ → Act → Type 0
IsOpen s k (Load w) = (k < length s.modes) × (w < length s.words)
IsOpen s k (Swap w v) = IsIn Attached s k × (w < length s.words) × IsWord v
IsOpen s k (Add w d) = IsIn Attached s k × (w < length s.words) × IsWord d
IsOpen s k Enter = IsIn Idle s k
IsOpen s k Leave = IsIn Attached s k ⊎ IsIn Bounced s k
IsOpen s k Take = IsIn Idle s k
IsOpen s k (Begin n) = IsIn Changing s k × IsStable s × (g1 s < n) × IsWord n
IsOpen s k (Put w v) = IsIn Changing s k × (g1 s ≢ g2 s) × (w ≢ 1) × (w ≢ 2) × (w < length s.words) × IsWord v
IsOpen s k (End n) = IsIn Changing s k × (g1 s ≡ n) × (g2 s ≢ n)
IsOpen s k Free = IsIn Changing s k × IsStable s

module _ (S : Shaping) where
  -- what the form of the words asks besides: a value that the word takes, a number word for an add, and an image where a change ends
  abbrev pub Suits : State → Act → Type 0
  Suits s (Swap w v) = S.Takes (S.form s.words) w v
  Suits s (Add w d) = (v : ℕ) → IsWord v → S.Takes (S.form s.words) w v
  Suits s (End n) = S.IsImage (slice_set s.words 2 n)
  Suits s _ = Unit {0}

  -- the act of pass k is allowed in this state
  pub record IsAllowed (s : State) (k : ℕ) (act : Act) : Type 0 where
    pub ready : IsOpen s k act
    pub suits : Suits s act
