-- Where a run stands between its lines, against the run as a fold: over any disk its passes, its groups and what is written; and over a
-- disk that tells, its archive.
use Rattle.std.specs.Prelude.{◌≡◌, ◌⊎◌, ℕ, ◌<◌, List, [], ◌∷◌, ◌++◌, length}
use Rattle.pcp_base.specs.declared.result.Item.{Item}
use Rattle.pcp_model.specs.Disk.{Files}
use Rattle.pcp_outside.specs.declared.disk.Disk.{Ghosts as DiskGhosts}
use Rattle.region_rule.specs.Seats.{Token}
use Rattle.fetch_engine.specs.declared.server.Mounted.{Mounted}
use Rattle.logging_session.specs.Events.{Event, LeadFrom, items_by, logged_all, opening, with_report}
use Rattle.logging_session.specs.Written.{Report, Stand}
use Rattle.run_script.specs.declared.script.Line.{Line}
use Rattle.run_script.specs.declared.script.Script.{Script}
use Rattle.run_passes.specs.Crews.{Follows}
use Rattle.script_runs.specs.declared.ending.Ending.{Ending}
use Rattle.script_runs.specs.declared.ending.Ending.TheVariants as ends
use Rattle.script_runs.specs.Archives.{report_of, run_label}
use Rattle.script_runs.specs.Runs.{Does, EndsLine, FailsBehind, Halts, LineDoes, Next, RanFirst, Shows, shown}
use Rattle.script_runs.specs.Steps.{GoesOn, RunState}
use Rattle.run_archive.specs.Kept.{HasDone, KeepsRun}
use Rattle.record_run.specs.declared.run.Run.{Run}

-- Behind so many lines, in this state: a mark stands where the line of a tick begins which logged this result, and behind which these were
-- logged, and nothing was flushed.
pub record IsMarked (script : Script) (lines : ℕ) (t : RunState) (mark : ℕ) (r : Report) (more : List Report) : Type 0 where
  pub count : ℕ
  pub state : RunState
  pub ran : RanFirst script count state
  pub on : count < lines
  pub next : Next script count (λ at line. (x : Shows script state line) × (r ≡ report_of (shown x)) × (t.events ≡ opening x.now state.events ++ logged_all (r ∷ more)))
  pub mark_is : mark ≡ length state.output
  pub rest : List ℕ
  pub output : t.output ≡ state.output ++ rest

-- marks of results, the last ones that were logged
abbrev pub AreMarked : Script → ℕ → RunState → List ℕ → List Report → Type 0
AreMarked script lines t [] reports = reports ≡ []
AreMarked script lines t (mark ∷ marks) [] = ⊥
AreMarked script lines t (mark ∷ marks) (r ∷ reports) = IsMarked script lines t mark r reports × AreMarked script lines t marks reports

-- the passes stand where the fold does, and so much is written and logged
pub record Follow (script : Script) (server : List Mounted) (run : Run) (seat : List Token) (s : RunState) : Type 0 where
  pub follows : Follows script server run.running seat s.regions
  pub output : run.out.items ≡ s.output
  pub counted : run.sampler.session.logged ≡ length (items_by s.events)

-- and the groups too
pub record Stands (script : Script) (server : List Mounted) (run : Run) (seat : List Token) (s : RunState) : Type 0 where
  pub follow : Follow script server run seat s
  pub plans : run.sampler.plans ≡ s.plans

-- The marks are those of the last ticks that logged a result, of those whose results are held at least.
pub record Marks (script : Script) (run : Run) (lines : ℕ) (s : RunState) : Type 0 where
  pub reports : List Report
  pub are : AreMarked script lines s run.marks.items reports

-- A tick that logged what it shows put the mark of its line: behind the others, or alone, where what was held before it was written.
pub record PutsMark (script : Script) (s : RunState) (line : Line) (t : RunState) (old new : List ℕ) : Type 0 where
  pub x : Shows script s line
  pub logged : t.events ≡ with_report s.events (report_of (shown x))
  pub others : List ℕ
  pub kept : (others ≡ old) ⊎ (others ≡ [])
  pub marks : new ≡ others ++ length s.output ∷ []

-- What a line leaves of the marks: none, or all where it did nothing to the archive, or the mark that it put is the last one.
abbrev pub GoOn : Script → RunState → Line → RunState → List ℕ → List ℕ → Type 0
GoOn script s line t old new = (new ≡ []) ⊎ (((t.events ≡ s.events) × (new ≡ old)) ⊎ PutsMark script s line t old new)

-- events lead to files
abbrev pub Leads : ℕ → Files → List Event → Type 0
Leads limit left events = (stand : Stand) × LeadFrom run_label limit left events stand

-- What a run did whose lines were run so far: where the disk failed, what they did, or the archive was opened for the next line. None of it is
-- told to be lost yet.
abbrev pub DoesBehind : Script → ℕ → Files → ℕ → RunState → Ending → List Event → List Item → Type 0
DoesBehind script limit left count s ends.DiskFault events more = FailsBehind script count s events × (more ≡ [])
DoesBehind script limit left count s ending events more = Does script limit left count s count s ending events more

module _ {D : Type 0} (d : DiskGhosts D) (script : Script) (server : List Mounted) (s : RunState) (was is : Run) (seat : List Token) (old new : D) where
  -- A line was run, to this state.
  pub record GoesTo (line : Line) : Type 0 where
    pub next : RunState
    pub goes : GoesOn script s line next
    pub stands : Stands script server is seat next
    pub marks : GoOn script s line next was.marks.items is.marks.items
    pub kept : d.tells → (left : Files) (start : D) → KeepsRun d left s.events start was.sampler.session old → KeepsRun d left next.events start is.sampler.session new

  -- It ended the run: on the regions nothing was done, and nothing is written of it.
  pub record HaltsAt (number : ℕ) (line : Line) (ending : Ending) : Type 0 where
    pub stands : Follow script server is seat s
    pub why : EndsLine script s number line ending
    pub told : d.tells → (left : Files) (start : D) → KeepsRun d left s.events start was.sampler.session old
        → HasDone d left start is.sampler.session new ending (λ events more. LineDoes script was.sampler.session.limit left s line ending events more × Leads was.sampler.session.limit left events)

-- Lines were run one after another from the first on, up to an end.
module _ {D : Type 0} (d : DiskGhosts D) (script : Script) (server : List Mounted) (was is : Run) (seat : List Token) (old new : D) where
  pub record CameTo (ending : Ending) : Type 0 where
    pub count : ℕ
    pub last : RunState
    pub ran : RanFirst script count last
    pub halts : Halts script count last ending
    pub stands : Follow script server is seat last
    pub marks : Marks script is count last
    pub told : d.tells → (left : Files) (start : D) → KeepsRun d left [] start was.sampler.session old
        → HasDone d left start is.sampler.session new ending (λ events more. DoesBehind script was.sampler.session.limit left count last ending events more × Leads was.sampler.session.limit left events)
