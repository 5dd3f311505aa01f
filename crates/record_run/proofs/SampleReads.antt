-- What a sample of the regions of a run tells on which nobody else acts.
use Rattle.std.proofs.Common.{◌≡◌, suc, List, [], ◌∷◌, map, All, subst, arith}
use Rattle.region_rule.specs.Seats.{Token}
use Rattle.fetch_answers.specs.Readings.{RegionReading}
use Rattle.fetch_engine.specs.Visits.{AreLoaded, AreRead, IsVisit, Visit}
use Rattle.fetch_engine.specs.declared.server.Mounted.{Mounted}
use Rattle.run_script.specs.declared.script.Script.{Script}
use Rattle.run_passes.specs.declared.running.Running.{Running}
use Rattle.run_passes.specs.Crews.{Alone, Follows, IsManned}
use Rattle.run_passes.specs.Loaded.{ReadsAs}
use Rattle.run_passes.proofs.ReadingRuns.{loaded_stay_manned, readings_are_states}
use Rattle.script_runs.specs.Regions.{ScriptRegion}
use Rattle.run_archive.specs.Samples.{IsTaken, SampleTaken}

visits_loaded : (visits : List Visit) → All IsVisit visits → AreLoaded (map (λ (v : Visit). v.before) visits) (map (λ (v : Visit). v.after) visits)
visits_loaded [] each = tt
visits_loaded (visit ∷ visits) each = ((each 0 visit (omega arith)).read.loaded, visits_loaded visits (λ i other below. each (suc i) other (omega (arith, below))))

-- readings are loads
read_loaded : (server : List Mounted) (old : List Token) (readings : List RegionReading) (new : List Token) → AreRead server old readings new → AreLoaded old new
read_loaded server old readings new read =
    subst (λ (olds : List Token). AreLoaded olds new) read.old_are
    (subst (λ (news : List Token). AreLoaded (map (λ (v : Visit). v.before) read.visits) news) read.new_are (visits_loaded read.visits read.each))

-- what was read for names, and for values, tells what the run shows
pub record Reads (script : Script) (server : List Mounted) (running : Running) (after : List Token) (regions : List ScriptRegion) (names values : List RegionReading) : Type 0 where
  pub follows : Follows script server running after regions
  pub names_read : ReadsAs names regions
  pub values_read : ReadsAs values regions

pub sample_reads : (script : Script) (server : List Mounted) (running : Running) (before after : List Token) (regions : List ScriptRegion) (sample : SampleTaken) → sample.before ≡ before → sample.after ≡ after → IsTaken server sample
    → IsManned server running before → Alone running after → Follows script server running before regions → Reads script server running after regions sample.names sample.values
sample_reads script server running before after regions sample first last taken manned alone follows =
    let named : AreRead server before sample.names sample.between = subst (λ (tokens : List Token). AreRead server tokens sample.names sample.between) first taken.named in
    let read : AreRead server sample.between sample.values after = subst (λ (tokens : List Token). AreRead server sample.between sample.values tokens) last taken.read in
    let loaded : AreLoaded before sample.between = read_loaded server before sample.names sample.between named in
    let loaded_on : AreLoaded sample.between after = read_loaded server sample.between sample.values after read in
    let middle : IsManned server running sample.between = (loaded_stay_manned server running before sample.between manned loaded).0 in
    let alone_there : Alone running sample.between = (loaded_stay_manned server running sample.between after middle loaded_on).1 alone in
    let there = readings_are_states script server running before sample.between regions manned loaded alone_there follows in
    let here = readings_are_states script server running sample.between after regions middle loaded_on alone there.0 in
    record { follows = here.0; names_read = there.1 sample.names named; values_read = here.1 sample.values read }
