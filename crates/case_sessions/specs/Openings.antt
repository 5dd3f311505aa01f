-- The regions of a script that were opened for cases.
use Rattle.std.specs.Prelude.{◌≡◌, ℕ, List, slice_get, IfSome, Some}
use Rattle.std.specs.Global.{Vec}
use Rattle.region_rule.specs.Seats.{Token}
use Rattle.fetch_engine.specs.Servers.{IsRegionAt, IsSeated}
use Rattle.fetch_engine.specs.declared.server.Mounted.{Mounted}
use Rattle.case_sessions.specs.declared.opening.Changer.{Changer}
use Rattle.case_sessions.specs.declared.opening.Opening.{Opening}

-- these passes are of the region at a position
abbrev pub AreOf : List Mounted → ℕ → List Token → Type 0
AreOf rows at own = (k : ℕ) (token : Token) → slice_get own k ≡ Some token → IsRegionAt rows at token.region

-- the passes of each list are of the region at the list's position
abbrev pub ArePasses : List Mounted → List (Vec Token) → Type 0
ArePasses rows passes = (j : ℕ) (own : Vec Token) → slice_get passes j ≡ Some own → AreOf rows j own.items

-- its pass is of the region at its place
abbrev pub CanChange : List Mounted → Changer → Type 0
CanChange rows changer = IsRegionAt rows changer.at changer.pass.region

-- the seat, and the pass that may change a region, are of the regions
pub record IsOpening (opening : Opening) : Type 0 where
  pub seated : IsSeated opening.server opening.seat.tokens
  pub changer : IfSome opening.changer (CanChange opening.server)
