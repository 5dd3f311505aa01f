-- What a pass that waited did before.
use Rattle.std.specs.Prelude.{◌≡◌, ◌≢◌, ℕ, zero, suc, List}
use Rattle.region_core.specs.declared.act.Act.TheVariants.{Take}
use Rattle.region_core.specs.Shape.{Shaping}
use Rattle.region_rule.specs.declared.view.View.{View}
use Rattle.region_rule.specs.declared.fault.ChangeFault.{ChangeFault}
use Rattle.region_rule.specs.declared.fault.ChangeFault.TheVariants.{TooLarge, Busy, Spent}
use Rattle.region_rule.specs.Steps.{Extends}
use Rattle.region_rule.specs.Calls.{Attaches, Bounces}
use Rattle.region_rule.specs.Changes.{Relaying, Starts, Fails}

-- so many attaches, each of which was bounced
abbrev pub BouncesTimes : Shaping → ℕ → View → View → Type 0
BouncesTimes S zero v w = w ≡ v
BouncesTimes S (suc n) v w = (u : View) × (gate : ℕ) × BouncesTimes S n v u × Bounces S u gate w

-- then one that was not
pub record AttachesAtLast (S : Shaping) (v w : View) : Type 0 where
  pub tries : ℕ
  pub before : View
  pub bounces : BouncesTimes S tries v before
  pub attaches : Attaches S before w

-- so many takes, each of which found the gate not 0
abbrev pub BusyTimes : Shaping → ℕ → View → View → Type 0
BusyTimes S zero v w = w ≡ v
BusyTimes S (suc n) v w = (u : View) × (gate : ℕ) × BusyTimes S n v u × (gate ≢ 0) × Extends S u Take gate w

-- then one that did not
pub record StartsAtLast (S : Shaping) (v : View) (capacity : ℕ) (image : List ℕ) (moment : ℕ) (change : Relaying) : Type 0 where
  pub tries : ℕ
  pub before : View
  pub busy : BusyTimes S tries v before
  pub starts : Starts S before capacity image moment change

abbrev pub IsNotBusy : ChangeFault → Type 0
IsNotBusy (TooLarge need room) = Unit {0}
IsNotBusy (Busy gate) = ⊥
IsNotBusy (Spent generation) = Unit {0}

-- too many words are refused before any take
abbrev pub IsAtOnce : ℕ → ChangeFault → Type 0
IsAtOnce tries (TooLarge need room) = tries ≡ 0
IsAtOnce tries (Busy gate) = Unit {0}
IsAtOnce tries (Spent generation) = Unit {0}

-- or the change was refused for another reason
pub record FailsAtLast (S : Shaping) (v : View) (capacity : ℕ) (image : List ℕ) (w : View) (fault : ChangeFault) : Type 0 where
  pub tries : ℕ
  pub before : View
  pub busy : BusyTimes S tries v before
  pub fails : Fails S before capacity image w fault
  pub another : IsNotBusy fault
  pub at_once : IsAtOnce tries fault
