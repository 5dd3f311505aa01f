-- One call of one pass, with what it learns before and what the logger's pass learns behind it.
use Rattle.std.specs.Prelude.{◌≡◌, ℕ, List, length, slice_get, slice_set, Option, Some, None, Result, Ok, Err, MatchResult}
use Rattle.pcp_base.specs.declared.memory.NoMemory.{NoMemory}
use Rattle.region_rule.specs.declared.view.View.{View}
use Rattle.region_rule.specs.Calls.{Learns}
use Rattle.region_rule.specs.Seats.{MadeRegion, Token}
use Rattle.region_words.specs.Images.{mmv}
use Rattle.fetch_engine.specs.Servers.{IsRegionAt}
use Rattle.fetch_engine.specs.declared.server.Mounted.{Mounted}
use Rattle.script_runs.specs.Regions.{ScriptRegion, doing_of as does_in}
use Rattle.run_passes.specs.declared.said.Said.{Said}
use Rattle.run_passes.specs.declared.worker.Worker.{Worker}
use Rattle.run_passes.specs.Workers.{IsWorker, view_of, doing_of}
use Rattle.run_passes.specs.Works.{Step, Works, Rests, line_of}
use Rattle.run_passes.specs.Crews.{IsCrew, IsAlone, Stands}

-- what a call answers: the line of a step, that its condition failed, or that memory was refused
abbrev pub Answer : Type 0
Answer = Result (Option Said) NoMemory

-- the pass of a number learned what was seen, and made its call
pub record TakesTurn (region : MadeRegion) (k : ℕ) (step : Step) (seen : View) (old new : List Worker) (note : View) (answer : Answer) : Type 0 where
  pub was : Worker
  pub there : slice_get old k ≡ Some was
  pub ready : Worker
  pub learns : Learns mmv (view_of was) seen (view_of ready)
  pub doing : doing_of ready ≡ doing_of was
  pub readied : (j : ℕ) → IsWorker region j was → IsWorker region j ready
  pub done : Worker
  pub is : new ≡ slice_set old k done
  pub works : MatchResult answer (λ line. Works region step ready done line) (λ _. Rests region ready done)
  pub note_is : note.seen ≡ (view_of done).seen

-- what became of the fold's region: the step was done, or its condition failed, or nothing was done
abbrev pub Took : Step → ScriptRegion → ℕ → (ScriptRegion → Type 0) → Answer → Type 0
Took step r k Standing (Ok (Some line)) = (next : ScriptRegion) × (step r k (does_in r k) ≡ Some (next, line_of line)) × (next.file ≡ r.file) × (next.cluster ≡ r.cluster) × Standing next
Took step r k Standing (Ok None) = (step r k (does_in r k) ≡ None) × Standing r
Took step r k Standing (Err _) = Standing r

-- a pass of a crew did its step, and the logger's pass has seen it
pub record Acts (region : MadeRegion) (k : ℕ) (step : Step) (old new : List Worker) (before after : Token) (answer : Answer) : Type 0 where
  pub crew : IsCrew region new after
  pub as_many : length new ≡ length old
  pub alone : IsAlone new after → IsAlone old before
  pub took : IsAlone new after → (r : ScriptRegion) → Stands r old before → Took step r k (λ next. Stands next new after) answer

-- the same at a position of a server
pub record ActsAt (server : List Mounted) (at k : ℕ) (step : Step) (old new : List Worker) (seat later : List Token) (answer : Answer) : Type 0 where
  pub region : MadeRegion
  pub placed : IsRegionAt server at region
  pub before : Token
  pub was : slice_get seat at ≡ Some before
  pub after : Token
  pub is : later ≡ slice_set seat at after
  pub acts : Acts region k step old new before after answer

-- a crew of the region at a position, and the seat's pass there
pub record IsCrewAt (server : List Mounted) (at : ℕ) (crew : List Worker) (seat : List Token) : Type 0 where
  pub region : MadeRegion
  pub placed : IsRegionAt server at region
  pub logger : Token
  pub there : slice_get seat at ≡ Some logger
  pub is_crew : IsCrew region crew logger
