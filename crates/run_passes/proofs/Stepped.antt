-- A step that a writer ran, or that memory stopped.
use Rattle.std.proofs.Common.{◌≡◌, ℕ, ◌<◌, List, [], ◌∷◌, length, Some, Result, Ok, Err}
use Rattle.std.specs.Prelude.{MatchResult, OnOk}
use Rattle.std.proofs.lemmas.Option.{slice_get_within}
use Rattle.pcp_base.specs.declared.memory.NoMemory.{NoMemory}
use Rattle.region_rule.specs.Seats.{MadeRegion}
use Rattle.fetch_engine.specs.declared.server.Mounted.{Mounted}
use Rattle.run_script.specs.Rules.{KeepsRules, IsPlaced}
use Rattle.run_script.specs.declared.script.Line.{Line}
use Rattle.run_script.specs.declared.script.Script.{Script}
use Rattle.run_passes.specs.Crews.{ServesScript}
use Rattle.run_passes.specs.declared.writer.Writer.{Writer}
use Rattle.run_script.specs.Recording.{place_of}
use Rattle.run_passes.specs.Writers.{RunsLine, StaysWriter}
use Rattle.run_passes.specs.Hands.{ActsAt, ArePresent, AreWriters, HaveRun, IsServedAt, StayAway}
use Rattle.run_passes.proofs.Lined.{names_pass}
use Rattle.run_passes.proofs.WriterPlaces.{away_then, present_then, run_then, writers_then}

abbrev pub Ran : {A : Type 0} → List Mounted → List (List ℕ × List ℕ) → Line → ℕ → List Writer → List Writer → Result A NoMemory → Type 0
Ran server images line at old new r = MatchResult r (λ _. ActsAt server at old new (λ region was done. RunsLine region images line was done)) (λ _. ActsAt server at old new StaysWriter)

run_stays : (images : List (List ℕ × List ℕ)) (line : Line) (region : MadeRegion) (was done : Writer) → RunsLine region images line was done → StaysWriter region was done
run_stays images line region was done d = d.stays

pub acts_stay : {A : Type 0} (server : List Mounted) (images : List (List ℕ × List ℕ)) (line : Line) (at : ℕ) (old new : List Writer) (r : Result A NoMemory) → Ran server images line at old new r → ActsAt server at old new StaysWriter
acts_stay server images line at old new (Ok x) a = record { mounted = a.mounted; there = a.there; was = a.was; before = a.before; done = a.done; is = a.is; how = a.how.stays }
acts_stay server images line at old new (Err e) a = a

-- the region that a line names is there
pub region_there : (script : Script) (line : Line) (i k : ℕ) → IsPlaced script.images script.regions line → place_of line ≡ Some (i, k) → i < length script.regions
region_there script line i k placed named = let h = names_pass script.images script.regions line i k placed named in slice_get_within script.regions i h.0 h.1

stays_as : (region : MadeRegion) (was done : Writer) → StaysWriter region was done → StaysWriter region was done
stays_as region was done s = s

module _ {A : Type 0} (script : Script) (server : List Mounted) (seats : ℕ) (keeps : KeepsRules script) (serves : ServesScript script seats server) (number i at : ℕ) (place : IsServedAt script server i at) (line : Line) (named : place_of line ≡ Some (i, number))
    (old new : List Writer) (writers_are : AreWriters server number old) (present : ArePresent script server number old) (placed : IsPlaced script.images script.regions line) (r : Result A NoMemory) (ran : Ran server script.images line at old new r) where
  acts : ActsAt server at old new StaysWriter
  acts = acts_stay server script.images line at old new r ran

  pub step_writers : AreWriters server number new
  step_writers = writers_then script server seats keeps serves number i at place line named old writers_are present new StaysWriter acts stays_as placed

  pub step_present : ArePresent script server number new
  step_present = present_then script server seats keeps serves number i at place line named old writers_are present new StaysWriter acts stays_as placed

  pub step_away : StayAway old new
  step_away = away_then script server seats keeps serves number i at place line named old writers_are present new StaysWriter acts stays_as placed

  pub step_run : OnOk r (HaveRun script server number ((0, line) ∷ []) old new)
  step_run = by_answer r ran
    where
      by_answer : (q : Result A NoMemory) → Ran server script.images line at old new q → OnOk q (HaveRun script server number ((0, line) ∷ []) old new)
      by_answer (Ok x) a =
          run_then script server seats keeps serves number i at place line named old writers_are present new (λ region was done. RunsLine region script.images line was done) a (run_stays script.images line) placed (λ region was done d. d)
      by_answer (Err e) a = tt
