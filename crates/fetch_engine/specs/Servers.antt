-- Regions that are served under their clusters and FILEs, and the seat that has a pass of each.
use Rattle.std.specs.Prelude.{◌≡◌, ℕ, ◌+◌, ◌<◌, ◌≤◌, Bool, ◌||◌, not, nat_lt, ◌==◌, if◌then◌else◌, List, [], ◌∷◌, ◌++◌, map, length, slice_get, slice_set, All, Option, Some, None, bytes_eq, IsPermutation}
use Rattle.std.specs.List.{list_any}
use Rattle.pcp_base.specs.Names.{spells_component}
use Rattle.region_core.specs.declared.mode.Mode.TheVariants.{Idle}
use Rattle.region_rule.specs.Seats.{Token, IsSame, MadeRegion}
use Rattle.fetch_answers.specs.declared.names.Named.{Named}
use Rattle.fetch_engine.specs.declared.server.Mounted.{Mounted}
use Rattle.fetch_engine.specs.declared.server.ServerFault.{ServerFault}
use Rattle.fetch_engine.specs.declared.server.ServerFault.TheVariants.{TooMany, Cluster, File}

-- some region has this cluster, or this FILE
abbrev pub has_cluster : List Mounted → ℕ → Bool
has_cluster rows cluster = list_any (λ row. row.cluster == cluster) rows

abbrev pub has_file : List Mounted → List ℕ → Bool
has_file rows file = list_any (λ row. bytes_eq row.file file) rows

-- a region's cluster is above 4095, or that of a region before it
abbrev pub has_wrong_cluster : List Mounted → Mounted → Bool
has_wrong_cluster before row = nat_lt 4095 row.cluster || has_cluster before row.cluster

-- its FILE is no component of a name, or that of a region before it
abbrev pub has_wrong_file : List Mounted → Mounted → Bool
has_wrong_file before row = not (spells_component row.file) || has_file before row.file

-- the first wrong cluster, and the position of the first wrong FILE, behind the regions before
abbrev pub wrong_cluster : List Mounted → List Mounted → Option ℕ
wrong_cluster before [] = None
wrong_cluster before (row ∷ rows) = if has_wrong_cluster before row then Some row.cluster else wrong_cluster (before ++ row ∷ []) rows

abbrev pub wrong_file : List Mounted → List Mounted → Option ℕ
wrong_file before [] = None
wrong_file before (row ∷ rows) = if has_wrong_file before row then Some (length before) else wrong_file (before ++ row ∷ []) rows

abbrev pub fault_of_file : Option ℕ → Option ServerFault
fault_of_file None = None
fault_of_file (Some index) = Some (File index)

abbrev pub fault_of_cluster : Option ServerFault → Option ℕ → Option ServerFault
fault_of_cluster otherwise None = otherwise
fault_of_cluster otherwise (Some cluster) = Some (Cluster cluster)

-- why regions can't be served: there are too many, then the first wrong cluster, then the first wrong FILE
abbrev pub server_fault : List Mounted → Option ServerFault
server_fault rows =
    if nat_lt 64 (length rows) then Some (TooMany (length rows)) else fault_of_cluster (fault_of_file (wrong_file [] rows)) (wrong_cluster [] rows)

-- clusters ascend
abbrev pub RowsAscendFrom : ℕ → List Mounted → Type 0
RowsAscendFrom least [] = Unit {0}
RowsAscendFrom least (row ∷ rows) = (least ≤ row.cluster) × RowsAscendFrom (row.cluster + 1) rows

-- at most 64 regions, in ascending cluster
pub record IsServer (rows : List Mounted) : Type 0 where
  pub few : length rows ≤ 64
  pub clusters : All (λ row. row.cluster < 4096) rows
  pub ascend : RowsAscendFrom 0 rows

-- the same regions, in ascending cluster
pub record IsServerOf (given rows : List Mounted) : Type 0 where
  pub faultless : server_fault given ≡ None
  pub same : IsPermutation given rows
  pub server : IsServer rows

-- what contracts see of a seat: a pass of each region, in ascending cluster; what is kept of each: nothing, or the words of
-- the image that was read last; and the name space that is kept, if there is one
pub record Seated : Type 0 where
  pub tokens : List Token
  pub kept : List (Option (List ℕ))
  pub named : Option Named

-- a seat of which nothing is kept yet
abbrev pub none_kept : List Mounted → List (Option (List ℕ))
none_kept rows = map (λ (row : Mounted). None) rows

abbrev pub regions_of : List Token → List MadeRegion
regions_of tokens = map (λ (token : Token). token.region) tokens

abbrev pub regions_in : List Mounted → List MadeRegion
regions_in rows = map (λ (row : Mounted). row.region) rows

-- the passes are of these regions, one of each
abbrev pub IsSeated : List Mounted → List Token → Type 0
IsSeated rows tokens = regions_of tokens ≡ regions_in rows

-- the region at this position is this one
abbrev pub IsRegionAt : List Mounted → ℕ → MadeRegion → Type 0
IsRegionAt rows index region = slice_get (regions_in rows) index ≡ Some region

-- the pass at this position has changed so, and no other one
pub record ChangesAt (index : ℕ) (old new : List Token) (how : Token → Token → Type 0) : Type 0 where
  pub before : Token
  pub after : Token
  pub was : slice_get old index ≡ Some before
  pub is : new ≡ slice_set old index after
  pub changed : how before after
  pub stays : IsSame Idle Idle before after
