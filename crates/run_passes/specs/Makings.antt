-- How opening a script's regions goes: they are made one by one, and their passes are dealt to the seats.
use Rattle.std.specs.Prelude.{◌≡◌, ℕ, ◌+◌, ◌≤◌, List, [], ◌∷◌, ◌++◌, length, map, replicate, slice_get, All, Some, IsPermutation}
use Rattle.std.specs.Global.{Vec}
use Rattle.std.specs.List.{AllZip}
use Rattle.std.specs.List.Sorted.{IsNonDecreasingBy}
use Rattle.region_rule.specs.Calls.{fresh_from}
use Rattle.region_rule.specs.Seats.{Token}
use Rattle.fetch_engine.specs.Servers.{IsSeated, regions_of}
use Rattle.fetch_engine.specs.declared.server.Mounted.{Mounted}
use Rattle.run_script.specs.declared.script.RegionRow.{RegionRow}
use Rattle.run_script.specs.declared.script.Script.{Script}
use Rattle.run_passes.specs.declared.opening.making.Made.{Made}
use Rattle.run_passes.specs.Crews.{Serves}

-- Making the regions

-- a region was made for a row: the first passes are the script's, and the others those of the seats
pub record IsMadeFor (script : Script) (seats : ℕ) (row : RegionRow) (made : Made) : Type 0 where
  pub serves : Serves script seats row made.mounted
  pub low : made.mounted.cluster ≤ 4095
  pub as_many : length made.own.items ≡ row.passes
  pub fresh : made.own.items ++ made.seated.items ≡ fresh_from made.mounted.region 0 (row.passes + seats)

-- one for each row, in ascending cluster
pub record AreMadeInOrder (script : Script) (seats : ℕ) (made : List Made) : Type 0 where
  pub given : List Made
  pub each : AllZip (IsMadeFor script seats) script.regions given
  pub same : IsPermutation given made
  pub rise : IsNonDecreasingBy (λ (m : Made). m.mounted.cluster) made

-- Dealing their passes to the seats

-- a region has one pass for each seat
abbrev pub HasEach : ℕ → Made → Type 0
HasEach seats made = regions_of made.seated.items ≡ replicate seats made.mounted.region

abbrev pub lists_of : List (Vec Token) → List (List Token)
lists_of hands = map (λ (hand : Vec Token). hand.items) hands

abbrev pub AreEmpty : ℕ → List (Vec Token) → Type 0
AreEmpty seats hands = lists_of hands ≡ replicate seats []

-- each list has one pass more
abbrev pub one_more : List (List Token) → List Token → List (List Token)
one_more [] passes = []
one_more (hand ∷ hands) [] = []
one_more (hand ∷ hands) (pass ∷ passes) = (hand ++ pass ∷ []) ∷ one_more hands passes

-- each seat has been dealt a pass of each region, in the order of the regions
pub record IsDealt (seats : ℕ) (made : List Made) (mounted : List Mounted) (passes : List (Vec Token)) (hands : List (List Token)) : Type 0 where
  pub regions : mounted ≡ map (λ (m : Made). m.mounted) made
  pub own : passes ≡ map (λ (m : Made). m.own) made
  pub as_many : length hands ≡ seats
  pub seated : All (IsSeated mounted) hands
  pub each : (j : ℕ) (m : Made) → slice_get made j ≡ Some m → map Some m.seated.items ≡ map (λ (hand : List Token). slice_get hand j) hands
