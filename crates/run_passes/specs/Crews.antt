-- The passes of a script's regions and the logger's: what each has seen, and how that stands to a run as a fold.
use Rattle.std.specs.Prelude.{◌≡◌, ℕ, Bool, ◌+◌, ◌<◌, ◌≤◌, List, length, map, slice_get, Some}
use Rattle.std.specs.Global.{Vec}
use Rattle.mmv_layout.specs.Contents.{cluster_in}
use Rattle.region_core.specs.declared.mode.Mode.TheVariants.{Idle}
use Rattle.region_core.specs.Gate.{total}
use Rattle.region_core.specs.State.{with_zeros}
use Rattle.region_rule.specs.Views.{opening_of, now}
use Rattle.region_rule.specs.Seats.{MadeRegion, Token}
use Rattle.fetch_engine.specs.Servers.{IsSeated, IsServer}
use Rattle.fetch_engine.specs.declared.server.Mounted.{Mounted}
use Rattle.run_script.specs.declared.script.RegionRow.{RegionRow}
use Rattle.run_script.specs.declared.script.Script.{Script}
use Rattle.run_script.specs.Rules.{KeepsRules}
use Rattle.script_runs.specs.Journals.{without_looks}
use Rattle.script_runs.specs.Regions.{ScriptRegion, words_at}
use Rattle.script_runs.specs.Runs.{is_idle}
use Rattle.run_passes.specs.declared.worker.Worker.{Worker}
use Rattle.run_passes.specs.Workers.{IsPassOf, IsWorker, view_of, doing_of}
use Rattle.run_passes.specs.declared.running.Running.{Running}

-- The regions of a script

-- the cluster of the image that a region opens on, under which it is served
abbrev pub cluster_of : Script → RegionRow → ℕ
cluster_of script row = cluster_in (words_at script.images row.image)

-- a region was made on its image, with the passes of the script and one for each seat
pub record Serves (script : Script) (seats : ℕ) (row : RegionRow) (mounted : Mounted) : Type 0 where
  pub file : mounted.file ≡ row.file
  pub cluster : mounted.cluster ≡ cluster_of script row
  pub words : mounted.region.words ≡ with_zeros (words_at script.images row.image) row.capacity
  pub passes : mounted.region.passes ≡ row.passes + seats

-- the regions of a script are served, and no other one
pub record ServesScript (script : Script) (seats : ℕ) (server : List Mounted) : Type 0 where
  pub in_order : IsServer server
  pub as_many : length server ≡ length script.regions
  pub each : (i : ℕ) (row : RegionRow) → slice_get script.regions i ≡ Some row
      → (j : ℕ) × (mounted : Mounted) × (slice_get server j ≡ Some mounted) × Serves script seats row mounted

-- a region of the script is served at this position
pub record IsPlace (script : Script) (server : List Mounted) (region at : ℕ) : Type 0 where
  pub row : RegionRow
  pub is : slice_get script.regions region ≡ Some row
  pub mounted : Mounted
  pub there : slice_get server at ≡ Some mounted
  pub serves : Serves script 1 row mounted

-- Passes

-- it does nothing
abbrev pub rests : Worker → Bool
rests worker = is_idle (doing_of worker)

-- how many entries passes made
abbrev pub made_by : List Worker → ℕ
made_by crew = total (λ worker. length (view_of worker).own) crew

-- The passes of a script in a region, by their numbers, and the logger's, which has the last one and has seen all that they made
pub record IsCrew (region : MadeRegion) (crew : List Worker) (logger : Token) : Type 0 where
  pub passes : region.passes ≡ length crew + 1
  pub some : 0 < length crew
  pub each : (k : ℕ) (worker : Worker) → slice_get crew k ≡ Some worker → IsWorker region k worker
  pub behind : (k : ℕ) (worker : Worker) → slice_get crew k ≡ Some worker → length (view_of worker).seen ≤ length logger.view.seen
  pub last : IsPassOf region (length crew) Idle logger
  pub made : made_by crew + length logger.view.own ≤ length logger.view.seen

-- nobody else acts: the logger has seen as many entries as these passes made
abbrev pub IsAlone : List Worker → Token → Type 0
IsAlone crew logger = made_by crew + length logger.view.own ≡ length logger.view.seen

-- what the logger has seen is a region's run as a fold, and each pass does what it does there
pub record Stands (r : ScriptRegion) (crew : List Worker) (logger : Token) : Type 0 where
  pub state : r.state ≡ now logger.view
  pub log : r.log ≡ without_looks (opening_of logger.view) (length crew) logger.view.seen
  pub doing : r.doing ≡ map doing_of crew

-- and it is that of this region
pub record IsFollowed (r : ScriptRegion) (mounted : Mounted) (crew : List Worker) (logger : Token) : Type 0 where
  pub file : r.file ≡ mounted.file
  pub cluster : r.cluster ≡ mounted.cluster
  pub stands : Stands r crew logger

-- All regions of a server, in ascending cluster

abbrev pub clusters_in : List Mounted → List ℕ
clusters_in server = map (λ (mounted : Mounted). mounted.cluster) server

-- each region has its cluster and passes
pub record IsAtWork (server : List Mounted) (running : Running) : Type 0 where
  pub clusters : running.clusters.items ≡ clusters_in server
  pub as_many : length running.crews.items ≡ length server

-- this holds of each region with its passes
abbrev pub AtCrews : (Mounted → List Worker → Token → Type 0) → List Mounted → List (Vec Worker) → List Token → Type 0
AtCrews P server crews seat = (j : ℕ) (mounted : Mounted) (crew : Vec Worker) (logger : Token)
    → slice_get server j ≡ Some mounted → slice_get crews j ≡ Some crew → slice_get seat j ≡ Some logger → P mounted crew.items logger

-- each region has the passes of its script, and one of the seat
pub record IsManned (server : List Mounted) (running : Running) (seat : List Token) : Type 0 where
  pub in_order : IsServer server
  pub clusters : running.clusters.items ≡ clusters_in server
  pub as_many : length running.crews.items ≡ length server
  pub seated : IsSeated server seat
  pub crews : AtCrews (λ mounted crew logger. IsCrew mounted.region crew logger) server running.crews.items seat

-- nobody else acts on any region
abbrev pub Alone : Running → List Token → Type 0
Alone running seat = (j : ℕ) (crew : Vec Worker) (logger : Token) → slice_get running.crews.items j ≡ Some crew → slice_get seat j ≡ Some logger → IsAlone crew.items logger

-- the passes stand where a run as a fold stands
pub record Follows (script : Script) (server : List Mounted) (running : Running) (seat : List Token) (regions : List ScriptRegion) : Type 0 where
  pub rules : KeepsRules script
  pub serves : ServesScript script 1 server
  pub as_many : length regions ≡ length script.regions
  pub each : (i : ℕ) (row : RegionRow) (r : ScriptRegion) → slice_get script.regions i ≡ Some row → slice_get regions i ≡ Some r
      → AtCrews (λ mounted crew logger. mounted.cluster ≡ cluster_of script row → IsFollowed r mounted crew logger) server running.crews.items seat
