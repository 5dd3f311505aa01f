-- A seat ends the passes of a script: it keeps what each of them made.
use Rattle.std.specs.Prelude.{◌≡◌, ℕ, List, [], ◌∷◌, All, length, slice_get, Some}
use Rattle.std.specs.Global.{Vec}
use Rattle.region_rule.specs.declared.view.View.{View}
use Rattle.region_rule.specs.Calls.{Gathers}
use Rattle.region_rule.specs.Seats.{Token}
use Rattle.region_words.specs.Images.{mmv}
use Rattle.fetch_engine.specs.declared.server.Mounted.{Mounted}
use Rattle.fetch_engine.specs.Servers.{IsRegionAt}

-- these passes were ended, one after another
abbrev pub GathersAll : View → List Token → View → Type 0
GathersAll v [] w = w ≡ v
GathersAll v (pass ∷ passes) w = (u : View) × Gathers mmv v pass.view u × GathersAll u passes w

-- the seat's pass of a region has ended the passes of a list
pub record HasGathered (passes : List Token) (old new : Token) : Type 0 where
  pub gathers : GathersAll old.view passes new.view
  pub region : new.region ≡ old.region

-- so it is in each region, in ascending cluster
pub record HaveGathered (lists : List (Vec Token)) (old new : List Token) : Type 0 where
  pub as_many : length new ≡ length old
  pub each : (j : ℕ) (list : Vec Token) (before after : Token) → slice_get lists j ≡ Some list → slice_get old j ≡ Some before → slice_get new j ≡ Some after
      → HasGathered list.items before after

-- the passes of each list are of the region at its position
abbrev pub AreHere : List Mounted → List (Vec Token) → Type 0
AreHere server lists = (j : ℕ) (list : Vec Token) → slice_get lists j ≡ Some list → All (λ (pass : Token). IsRegionAt server j pass.region) list.items

-- what is left of lists whose passes were all ended: one without a pass for each region
abbrev pub AreUsedUp : List Mounted → List (Vec Token) → Type 0
AreUsedUp server lists = (length lists ≡ length server) × ((j : ℕ) (list : Vec Token) → slice_get lists j ≡ Some list → list.items ≡ [])
