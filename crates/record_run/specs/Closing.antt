-- What the last sample of a recording shows: of each region exactly what its words say once every writer has ended.
use Rattle.std.specs.Prelude.{◌≡◌, ℕ, List, [], ◌∷◌, ◌++◌, Option, Some, None}
use Rattle.std.specs.List.{AllZip}
use Rattle.pcp_base.specs.Time.{Moment}
use Rattle.mmv_layout.specs.Rows.{layout_of}
use Rattle.region_core.specs.Journal.{state}
use Rattle.region_rule.specs.Seats.{Token}
use Rattle.fetch_answers.specs.Readings.{RegionReading}
use Rattle.fetch_answers.specs.declared.fetch.Fetched.{Fetched}
use Rattle.fetch_engine.specs.Servers.{IsSeated}
use Rattle.fetch_engine.specs.Visits.{names_in}
use Rattle.fetch_engine.specs.declared.server.Mounted.{Mounted}
use Rattle.log_schedule.specs.declared.config.Group.{Group}
use Rattle.run_archive.specs.Shown.{result_for}
use Rattle.run_script.specs.Rules.{KeepsRules}
use Rattle.run_script.specs.declared.script.Script.{Script}
use Rattle.run_passes.specs.Alike.{ReadAlike}
use Rattle.run_passes.specs.Crews.{ServesScript}
use Rattle.script_runs.specs.Groups.{Plan}
use Rattle.script_runs.specs.Steps.{fetched_from}
use Rattle.script_runs.specs.declared.ending.Ending.TheVariants as ends
use Rattle.run_archive.specs.Samples.{SampleTaken}
use Rattle.run_archive.specs.Shown.{AreShown, pmids_by, with_result}
use Rattle.record_run.specs.Beside.{Beside, IsSampled, start_of}

-- the words of a region at the end of its journal, which is what the seat's pass has seen
abbrev pub closing_words : Mounted → Token → List ℕ
closing_words mounted token = (state (start_of mounted) token.view.seen).words

-- its file, its cluster, and what these words say: it isn't missed
abbrev pub closing_of : Mounted → Token → RegionReading
closing_of mounted token = record { file = mounted.file; cluster = mounted.cluster; layout = Some (layout_of (closing_words mounted token)) }

-- that of each region, in ascending cluster
abbrev pub closing : List Mounted → List Token → List RegionReading
closing [] seat = []
closing (mounted ∷ server) [] = []
closing (mounted ∷ server) (token ∷ seat) = closing_of mounted token ∷ closing server seat

-- what is logged of such readings at a moment: the metrics that the due groups ask for by their names, and nothing where none is asked for
abbrev pub logged_of : List Group → Option (List Plan) → List RegionReading → Moment → List Fetched
logged_of groups plans readings now = with_result (result_for (pmids_by groups plans readings now) (fetched_from readings (pmids_by groups plans readings now) now)) []

-- The last sample is that of the last moment. Its reading for names and its reading for values show what the regions' last words say:
-- one form, and each value word as it stands in the end. So it answers every metric as these words do. The results end with what is
-- logged of these words, behind what the samples beside the writers logged.
pub record LastIsExact (script : Script) (server : List Mounted) (first final : List Token) (moments : List Moment) (results : List Fetched) (sampled : IsSampled script server first final ends.Done moments results) : Type 0 where
  pub sample : SampleTaken
  pub is : sampled.behind ≡ sample ∷ []
  pub earlier : List Moment
  pub at_last : moments ≡ earlier ++ sample.stamp ∷ []
  pub named : AllZip ReadAlike sample.names (closing server final)
  pub read : AllZip ReadAlike sample.values (closing server final)
  pub names : names_in sample.names ≡ names_in (closing server final)
  pub answers : (pmids : List ℕ) (now : Moment) → fetched_from sample.values pmids now ≡ fetched_from (closing server final) pmids now
  pub before : List Fetched
  pub plans : Option (List Plan)
  pub shown_before : AreShown script.config.groups None sampled.beside before plans
  pub ends_with : results ≡ before ++ logged_of script.config.groups plans (closing server final) sample.stamp

-- So it is of a recording that came to its end, on regions that a seat has a pass of each of
abbrev pub LastSampleIsExact : Type 0
LastSampleIsExact = (script : Script) (server : List Mounted) (first final : List Token) (moments : List Moment) (results : List Fetched)
    → KeepsRules script → ServesScript script 1 server → IsSeated server final
    → (b : Beside script server first final ends.Done moments results) → LastIsExact script server first final moments results b.sampled
