-- What the gate counts: the passes inside or bounced, and 2^63 where one is changing.
use Rattle.std.specs.Prelude.{◌≡◌, ℕ, ◌+◌, ◌*◌, ◌^◌, ◌<◌, ◌≤◌, ◌⊎◌, List, [], ◌∷◌, length}
use Rattle.region_core.specs.declared.mode.Mode.{Mode}
use Rattle.region_core.specs.declared.mode.Mode.TheVariants.{Idle, Attached, Bounced, Changing}

-- the sum of f over a list
abbrev pub total : {X : Type 0} → (X → ℕ) → List X → ℕ
total f [] = 0
total f (x ∷ xs) = f x + total f xs

-- 1 for a pass that is inside
abbrev pub one_if_inside : Mode → ℕ
one_if_inside Idle = 0
one_if_inside Attached = 1
one_if_inside Bounced = 0
one_if_inside Changing = 0

-- 1 for a pass that was bounced
abbrev pub one_if_bounced : Mode → ℕ
one_if_bounced Idle = 0
one_if_bounced Attached = 0
one_if_bounced Bounced = 1
one_if_bounced Changing = 0

-- 1 for a pass that is changing
abbrev pub one_if_changing : Mode → ℕ
one_if_changing Idle = 0
one_if_changing Attached = 0
one_if_changing Bounced = 0
one_if_changing Changing = 1

-- the gate of a region whose passes are in these modes
pub record IsGated (gate : ℕ) (modes : List Mode) : Type 0 where
  pub few : length modes < 2 ^ 32
  pub counts : gate ≡ total one_if_inside modes + total one_if_bounced modes + 2 ^ 63 * total one_if_changing modes
  pub single : total one_if_changing modes ≤ 1
  pub apart : (total one_if_changing modes ≡ 0) ⊎ (total one_if_inside modes ≡ 0)
