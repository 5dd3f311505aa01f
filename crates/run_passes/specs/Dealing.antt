-- How the passes of regions are dealt to writers, and given back.
use Rattle.std.specs.Prelude.{◌≡◌, ℕ, ◌+◌, ◌<◌, ◌≤◌, List, [], ◌∷◌, ◌++◌, fold, length, map, replicate, slice_get, slice_set, Option, Some, None, vec_capacity}
use Rattle.std.specs.Global.{Vec}
use Rattle.region_rule.specs.Seats.{Token}
use Rattle.run_passes.specs.Hands.{KnownHand}

-- a writer for each number of which a region has a pass, with a place for its pass of each region, and none yet
pub record HavePlaces (lists : List (Vec Token)) (hands : List KnownHand) : Type 0 where
  pub enough : (j : ℕ) (list : Vec Token) → slice_get lists j ≡ Some list → length list.items ≤ length hands
  pub each : (k : ℕ) (hand : KnownHand) → slice_get hands k ≡ Some hand → (hand.number ≡ k) × (hand.passes ≡ replicate (length lists) None)

-- a pass is put into the place at a position, if there is one
abbrev pub placed : ℕ → Option Token → List (Option Token) → List (Option Token)
placed at None passes = passes
placed at (Some pass) passes = slice_set passes at (Some pass)

-- each writer got its pass of the region at a position, if the region has one
pub record IsDealt (at : ℕ) (list : List Token) (old new : List KnownHand) : Type 0 where
  pub as_many : length new ≡ length old
  pub each : (k : ℕ) (was done : KnownHand) → slice_get old k ≡ Some was → slice_get new k ≡ Some done → (done.number ≡ was.number) × (done.passes ≡ placed at (slice_get list k) was.passes)

-- writer k has the k-th pass of each region
abbrev pub column : ℕ → List (Vec Token) → List (Option Token)
column k lists = map (λ (list : Vec Token). slice_get list.items k) lists

pub record AreDealt (lists : List (Vec Token)) (hands : List KnownHand) : Type 0 where
  pub enough : (j : ℕ) (list : Vec Token) → slice_get lists j ≡ Some list → length list.items ≤ length hands
  pub each : (k : ℕ) (hand : KnownHand) → slice_get hands k ≡ Some hand → (hand.number ≡ k) × (hand.passes ≡ column k lists)

-- each list has no pass any more, and room for those that it had
pub record AreEmptied (old new : List (Vec Token)) : Type 0 where
  pub as_many : length new ≡ length old
  pub each : (j : ℕ) (was left : Vec Token) → slice_get old j ≡ Some was → slice_get new j ≡ Some left → (length left.items ≡ 0) × (length was.items ≤ vec_capacity left)

-- Giving back

abbrev pub some_of : Option Token → List Token
some_of None = []
some_of (Some pass) = pass ∷ []

abbrev pub lists_of : List (Vec Token) → List (List Token)
lists_of lists = map (λ (list : Vec Token). list.items) lists

abbrev pub with_back : List (List Token) → List (Option Token) → List (List Token)
with_back [] passes = []
with_back (list ∷ lists) [] = list ∷ with_back lists []
with_back (list ∷ lists) (pass ∷ passes) = (list ++ some_of pass) ∷ with_back lists passes

abbrev pub all_back : List (List Token) → List KnownHand → List (List Token)
all_back lists hands = fold (λ lists hand. with_back lists hand.passes) lists hands

-- a list has room for the pass that a writer has of its region
abbrev pub HaveRoom : List (Vec Token) → List (Option Token) → Type 0
HaveRoom lists passes = (j : ℕ) (list : Vec Token) (pass : Token) → slice_get lists j ≡ Some list → slice_get passes j ≡ Some (Some pass) → length list.items < vec_capacity list

-- the lists have a writer's passes behind, and room for as many as before
pub record AreLaidBack (old : List (Vec Token)) (passes : List (Option Token)) (new : List (Vec Token)) : Type 0 where
  pub lists_are : lists_of new ≡ with_back (lists_of old) passes
  pub room : (j : ℕ) (was done : Vec Token) → slice_get old j ≡ Some was → slice_get new j ≡ Some done → vec_capacity done ≡ vec_capacity was

-- the passes that writers have of the region at a position
abbrev pub cell : Option (Option Token) → List Token
cell None = []
cell (Some pass) = some_of pass

abbrev pub cells : ℕ → List KnownHand → List Token
cells j [] = []
cells j (hand ∷ hands) = cell (slice_get hand.passes j) ++ cells j hands

-- the lists have room for all of them
pub record HaveRoomFor (lists : List (Vec Token)) (hands : List KnownHand) : Type 0 where
  pub few : (k : ℕ) (hand : KnownHand) → slice_get hands k ≡ Some hand → length hand.passes ≤ length lists
  pub room : (j : ℕ) (list : Vec Token) → slice_get lists j ≡ Some list → length list.items + length (cells j hands) ≤ vec_capacity list
