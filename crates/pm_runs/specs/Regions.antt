-- The regions that a command leaves on which it ran a script.
use Rattle.std.specs.Prelude.{◌≡◌, ◌⊎◌, ℕ, List, [], ◌++◌, length, slice_get, Option, Some, None, Result, Ok, Err}
use Rattle.pcp_model.specs.Disk.{contents_of}
use Rattle.pcp_outside.specs.declared.disk.Disk.{Ghosts as DiskGhosts}
use Rattle.fetch_engine.specs.Servers.{IsSeated, Seated}
use Rattle.run_script.specs.declared.script.Script.{Script}
use Rattle.script_runs.specs.declared.ending.Ending.TheVariants as ends
use Rattle.run_passes.specs.Crews.{ServesScript}
use Rattle.run_passes.specs.declared.opening.Opened.{Opened}
use Rattle.run_archive.specs.declared.replayed.Replayed.{Replayed}
use Rattle.record_run.specs.Replays.{IsReplay}
use Rattle.pm_words.specs.declared.refusal.Refusal.{Refusal}
use Rattle.pm_words.specs.Refusals.{ending_refusal}
use Rattle.pm_words.specs.Sides.{DiskSide, disk_side}
use Rattle.pm_runs.specs.Runners.{Runner, OfScript}

-- What a command writes and answers whose run was this. Done: the run came to its end, and its results and lines are what is told. Refused: so
-- the run ended, and what was written before are its lines up to there; or it came to its end, and what is to be written of it isn't told.
abbrev pub AnswersRun : Runner → Script → DiskSide → Replayed → List ℕ → Result (List ℕ) Refusal → Type 0
AnswersRun c script d run front (Ok text) = (run.ending ≡ ends.Done) × (d.tells → c.says script run.logged run.output (contents_of d.after) (front ++ text))
AnswersRun c script d run front (Err e) = ((ending_refusal run.ending ≡ Some e) × (front ≡ c.front run.output)) ⊎ ((run.ending ≡ ends.Done) × c.untold e × (front ≡ []))

-- The regions are those of the script, read by one seat, and no list of passes is left. Its lines were run on them and nothing else, as
-- the fold says, until all was closed, and the seat has gathered every pass. Where the disk failed these may be more lines than those that
-- were written. Over a disk that tells, its files are those of the same run,
-- of which this is the answer.
pub record RanOn {D : Type 0} (g : DiskGhosts D) (c : Runner) (script : Script) (old new : D) (o : Opened) (front : List ℕ) (answer : Result (List ℕ) Refusal) : Type 0 where
  pub run : Replayed
  pub answers : AnswersRun c script (disk_side g old new) run front answer
  pub serves : ServesScript script 1 o.server
  pub passes : o.passes.items ≡ []
  pub seats : length o.seats.items ≡ 1
  pub seat : Seated
  pub seat_is : slice_get o.seats.items 0 ≡ Some seat
  pub seated : IsSeated o.server seat.tokens
  pub is : IsReplay g script c.limit o.server seat.tokens old new run

abbrev pub IfThere : Option Opened → (Opened → Type 0) → Type 0
IfThere None P = Unit {0}
IfThere (Some o) P = P o

-- the regions that are there were those of the input's script, in the run that was so answered
abbrev pub RanRegions : {D : Type 0} → DiskGhosts D → Runner → List ℕ → D → D → Option Opened → List ℕ → Result (List ℕ) Refusal → Type 0
RanRegions g c input old new opened front answer = IfThere opened (λ o. OfScript c input (λ script. RanOn g c script old new o front answer))
