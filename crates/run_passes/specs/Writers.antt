-- A pass of a writer: what it is doing, what it has seen, and what a call makes of it.
use Rattle.std.specs.Prelude.{◌≡◌, ℕ, ◌≤◌, Bool, List, ◌++◌, length, Result, Ok, Err}
use Rattle.pcp_base.specs.declared.memory.NoMemory.{NoMemory}
use Rattle.region_core.specs.declared.act.Entry.{Entry}
use Rattle.region_core.specs.declared.mode.Mode.TheVariants.{Idle, Attached, Changing}
use Rattle.region_core.specs.Journal.{own}
use Rattle.region_core.specs.State.{State, IsIn}
use Rattle.region_rule.specs.declared.view.View.{View}
use Rattle.region_rule.specs.Tokens.{spent_view}
use Rattle.region_rule.specs.Seats.{MadeRegion, Token}
use Rattle.region_rule.specs.Views.{now}
use Rattle.run_script.specs.Recording.{Stage, image_words}
use Rattle.run_script.specs.declared.script.Line.{Line}
use Rattle.run_script.specs.declared.script.Line.TheVariants as lines
use Rattle.run_passes.specs.Workers.{IsPassOf}
use Rattle.run_passes.specs.declared.writer.Writer.{Writer}
use Rattle.run_passes.specs.declared.writer.Writer.TheVariants as writers
use Rattle.run_passes.specs.LineEntries.{Writing, LineMakes, LinesMake}

-- an attached pass of this number, which is inside by what it has seen
abbrev pub IsInside : MadeRegion → ℕ → Token → Type 0
IsInside region number stint = IsPassOf region number Attached stint × IsIn Attached (now stint.view) number

-- it is a pass of this number of a region, in the mode of what it does
abbrev pub IsWriter : MadeRegion → ℕ → Writer → Type 0
IsWriter region number (writers.Idle pass) = IsPassOf region number Idle pass
IsWriter region number (writers.Inside stint) = IsInside region number stint
IsWriter region number (writers.Changing change) = IsPassOf region number Changing change.token
IsWriter region number (writers.Refused pass) = IsPassOf region number Idle pass
IsWriter region number writers.Away = ⊥

-- of some number
abbrev pub IsHere : MadeRegion → Writer → Type 0
IsHere region writer = (k : ℕ) × IsWriter region k writer

abbrev pub view_of : Writer → View
view_of (writers.Idle pass) = pass.view
view_of (writers.Inside stint) = stint.view
view_of (writers.Changing change) = change.token.view
view_of (writers.Refused pass) = pass.view
view_of writers.Away = spent_view

abbrev pub writing_of : Writer → Writing
writing_of (writers.Idle pass) = Writing.idle
writing_of (writers.Inside stint) = Writing.attached
writing_of (writers.Changing change) = Writing.changing change.image change.generation change.next
writing_of (writers.Refused pass) = Writing.refused
writing_of writers.Away = Writing.idle

-- what it does, as a script's conditions tell it
abbrev pub stage_of : Writing → Stage
stage_of Writing.idle = Stage.idle
stage_of Writing.attached = Stage.attached
stage_of (Writing.changing image n next) = Stage.changing
stage_of Writing.refused = Stage.changing

-- a view has seen these entries besides, and made those of its own number among them
pub record Grew (v : View) (more : List Entry) (w : View) : Type 0 where
  pub seen : w.seen ≡ v.seen ++ more
  pub made : w.own ≡ v.own ++ own v.number more
  pub number : w.number ≡ v.number
  pub start : w.start ≡ v.start
  pub passes : w.passes ≡ v.passes

-- What a call makes of a writer: entries of which this holds, by the number of its pass and the state before, and what it does then
pub record Did (region : MadeRegion) (P : ℕ → State → List Entry → Writing → Type 0) (old new : Writer) : Type 0 where
  pub stays : (k : ℕ) → IsWriter region k old → IsWriter region k new
  pub more : List Entry
  pub grew : Grew (view_of old) more (view_of new)
  pub is : P (view_of old).number (now (view_of old)) more (writing_of new)

-- a line of its own was run
abbrev pub RunsLine : MadeRegion → List (List ℕ × List ℕ) → Line → Writer → Writer → Type 0
RunsLine region images line old new = Did region (λ k s entries next. LineMakes images k s (writing_of old) line entries next) old new

-- memory was refused, and it can still be ended
abbrev pub StaysWriter : MadeRegion → Writer → Writer → Type 0
StaysWriter region old new = (k : ℕ) → IsWriter region k old → IsWriter region k new

-- lines of its own were run
pub record RunsLines (images : List (List ℕ × List ℕ)) (own_lines : List Line) (old new : Writer) : Type 0 where
  pub more : List Entry
  pub grew : Grew (view_of old) more (view_of new)
  pub makes : LinesMake images (view_of old).number (now (view_of old)) (writing_of old) own_lines more (writing_of new)

-- a change that a line begins has room for its image
abbrev pub HasRoom : List (List ℕ × List ℕ) → Line → ℕ → Type 0
HasRoom images (lines.Begin region pass image moment) capacity = length (image_words images image) ≤ capacity
HasRoom images line capacity = Unit {0}

-- what a store answers: whether memory sufficed
abbrev pub answer_of : Result Bool NoMemory → Result (Unit {0}) NoMemory
answer_of (Ok stored) = Ok tt
answer_of (Err fault) = Err fault
