-- One writer: the passes of one number in all regions, and the lines of that number.
use Rattle.std.specs.Prelude.{◌≡◌, ◌⊎◌, ℕ, ◌<◌, true, List, length, slice_get, slice_set, Option, Some, None}
use Rattle.region_core.specs.declared.act.Entry.{Entry}
use Rattle.region_core.specs.declared.mode.Mode.TheVariants.{Idle}
use Rattle.region_rule.specs.Seats.{MadeRegion, Token}
use Rattle.region_rule.specs.Views.{now}
use Rattle.fetch_engine.specs.declared.server.Mounted.{Mounted}
use Rattle.run_script.specs.Recording.{is_at, lines_of, may_come, place_of}
use Rattle.run_script.specs.declared.script.RegionRow.{RegionRow}
use Rattle.run_script.specs.declared.script.Line.{Line}
use Rattle.run_script.specs.declared.script.Script.{Script}
use Rattle.run_passes.specs.Workers.{IsPassOf}
use Rattle.run_passes.specs.Crews.{cluster_of}
use Rattle.run_passes.specs.declared.writer.Writer.{Writer}
use Rattle.run_passes.specs.declared.writer.Writer.TheVariants as writers
use Rattle.run_passes.specs.LineEntries.{Writing, LinesMake}
use Rattle.run_passes.specs.Writers.{HasRoom, IsHere, IsWriter, Grew, RunsLines, stage_of, view_of, writing_of}

-- region i of a script is served at position j
pub record IsServedAt (script : Script) (server : List Mounted) (i j : ℕ) : Type 0 where
  pub row : RegionRow
  pub is : slice_get script.regions i ≡ Some row
  pub mounted : Mounted
  pub there : slice_get server j ≡ Some mounted
  pub cluster : mounted.cluster ≡ cluster_of script row

-- each region of a script is served at its place
pub record AreServedAt (script : Script) (server : List Mounted) (places : List ℕ) : Type 0 where
  pub as_many : length places ≡ length script.regions
  pub each : (i j : ℕ) → slice_get places i ≡ Some j → IsServedAt script server i j

-- Writers at the positions of a server

-- passes of this number, in the regions that have one, and away in the others
pub record AreWriters (server : List Mounted) (number : ℕ) (list : List Writer) : Type 0 where
  pub as_many : length list ≡ length server
  pub each : (j : ℕ) (mounted : Mounted) (writer : Writer) → slice_get server j ≡ Some mounted → slice_get list j ≡ Some writer
      → (writer ≡ writers.Away) ⊎ IsWriter mounted.region number writer

-- where a region has a pass of this number, it isn't away
abbrev pub ArePresent : Script → List Mounted → ℕ → List Writer → Type 0
ArePresent script server number list = (i j : ℕ) (at : IsServedAt script server i j) (writer : Writer) → number < at.row.passes → slice_get list j ≡ Some writer → IsWriter at.mounted.region number writer

-- a line may come at the pass that it names
abbrev pub Comes : Script → List Mounted → ℕ → Line → List Writer → Type 0
Comes script server number line list = (i j : ℕ) (at : IsServedAt script server i j) (writer : Writer) → is_at i number (place_of line) ≡ true → slice_get list j ≡ Some writer
    → may_come (stage_of (writing_of writer)) line ≡ true

-- those that are away stay so, and no others are
abbrev pub StayAway : List Writer → List Writer → Type 0
StayAway old new = (j : ℕ) (was done : Writer) → slice_get old j ≡ Some was → slice_get new j ≡ Some done → (was ≡ writers.Away → done ≡ writers.Away) × (done ≡ writers.Away → was ≡ writers.Away)

-- none does anything
abbrev pub AreIdle : List Writer → Type 0
AreIdle list = (j : ℕ) (writer : Writer) → slice_get list j ≡ Some writer → writing_of writer ≡ Writing.idle

-- the writer at a position is a pass of the region there, which can run a line
abbrev pub IsReadyAt : Script → List Mounted → ℕ → Line → List Writer → Type 0
IsReadyAt script server at line list = (mounted : Mounted) (writer : Writer) → slice_get server at ≡ Some mounted → slice_get list at ≡ Some writer
    → IsHere mounted.region writer × (may_come (stage_of (writing_of writer)) line ≡ true) × HasRoom script.images line (length mounted.region.words)

-- the writer at one position ran a line, or memory was refused, and no other one changed
pub record ActsAt (server : List Mounted) (at : ℕ) (old new : List Writer) (How : MadeRegion → Writer → Writer → Type 0) : Type 0 where
  pub mounted : Mounted
  pub there : slice_get server at ≡ Some mounted
  pub was : Writer
  pub before : slice_get old at ≡ Some was
  pub done : Writer
  pub is : new ≡ slice_set old at done
  pub how : How mounted.region was done

-- each pass has run its own ones of these steps
abbrev pub HaveRun : Script → List Mounted → ℕ → List (ℕ × Line) → List Writer → List Writer → Type 0
HaveRun script server number steps old new = (i j : ℕ) (at : IsServedAt script server i j) (was done : Writer) → number < at.row.passes
    → slice_get old j ≡ Some was → slice_get new j ≡ Some done → RunsLines script.images (lines_of i number steps) was done

-- Passes taken up, and laid down again

abbrev pub writer_of : Option Token → Writer
writer_of None = writers.Away
writer_of (Some pass) = writers.Idle pass

-- what is laid down of a writer: its pass, which does nothing; and nothing of one that is away
pub record LaysDown (region : MadeRegion) (number : ℕ) (writer : Writer) (laid : Option Token) : Type 0 where
  pub pass : Token
  pub is : laid ≡ Some pass
  pub idle : IsPassOf region number Idle pass
  pub same : writing_of writer ≡ Writing.idle → pass.view ≡ view_of writer

abbrev pub LaidDown : MadeRegion → ℕ → Writer → Option Token → Type 0
LaidDown region number writers.Away laid = laid ≡ None
LaidDown region number writer laid = LaysDown region number writer laid

abbrev pub AreLaidDown : List Mounted → ℕ → List Writer → List (Option Token) → Type 0
AreLaidDown server number list passes = (j : ℕ) (mounted : Mounted) (writer : Writer) → slice_get server j ≡ Some mounted → slice_get list j ≡ Some writer
    → (pass : Option Token) × (slice_get passes j ≡ Some pass) × LaidDown mounted.region number writer pass

-- A writer's passes

-- a writer by its number, and its pass in each region that has one, in ascending cluster
pub record KnownHand : Type 0 where
  pub number : ℕ
  pub passes : List (Option Token)

abbrev pub hand_of : ℕ → List (Option Token) → KnownHand
hand_of number passes = record { number = number; passes = passes }

-- each of its passes is one of its number that does nothing
pub record IsHand (script : Script) (server : List Mounted) (hand : KnownHand) : Type 0 where
  pub as_many : length hand.passes ≡ length server
  pub each : (j : ℕ) (mounted : Mounted) (pass : Token) → slice_get server j ≡ Some mounted → slice_get hand.passes j ≡ Some (Some pass) → IsPassOf mounted.region hand.number Idle pass
  pub present : (i j : ℕ) (at : IsServedAt script server i j) → hand.number < at.row.passes → (pass : Token) × (slice_get hand.passes j ≡ Some (Some pass))

-- a pass made just the entries of these lines
pub record WritesLines (images : List (List ℕ × List ℕ)) (own_lines : List Line) (old new : Token) : Type 0 where
  pub more : List Entry
  pub grew : Grew old.view more new.view
  pub makes : LinesMake images old.view.number (now old.view) Writing.idle own_lines more Writing.idle

-- the same passes
pub record IsSameHand (old new : KnownHand) : Type 0 where
  pub number : new.number ≡ old.number
  pub as_many : length new.passes ≡ length old.passes
  pub absent : (j : ℕ) → slice_get old.passes j ≡ Some None → slice_get new.passes j ≡ Some None
  pub present : (j : ℕ) (before : Token) → slice_get old.passes j ≡ Some (Some before) → (after : Token) × (slice_get new.passes j ≡ Some (Some after))

-- each has made the entries of its own lines
abbrev pub HasWritten : Script → List Mounted → KnownHand → KnownHand → Type 0
HasWritten script server old new = (i j : ℕ) (at : IsServedAt script server i j) (was done : Token) → old.number < at.row.passes
    → slice_get old.passes j ≡ Some (Some was) → slice_get new.passes j ≡ Some (Some done) → WritesLines script.images (lines_of i old.number script.steps) was done
