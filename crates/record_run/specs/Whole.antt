-- The lines of a writer in a recording: each made its entries, and none is missing.
use Rattle.std.specs.Prelude.{◌≡◌, ℕ, ◌^◌, ◌<◌, ◌≤◌, List, [], ◌∷◌, ◌++◌, length, slice_get, Some, None}
use Rattle.pcp_base.specs.Time.{Moment}
use Rattle.region_core.specs.declared.act.Entry.{Entry}
use Rattle.region_core.specs.Journal.{state, own}
use Rattle.region_core.specs.State.{State}
use Rattle.region_rule.specs.Seats.{Token}
use Rattle.fetch_answers.specs.declared.fetch.Fetched.{Fetched}
use Rattle.fetch_engine.specs.declared.server.Mounted.{Mounted}
use Rattle.run_script.specs.Recording.{image_words, lines_of, refused_line}
use Rattle.run_script.specs.Rules.{KeepsRules}
use Rattle.run_script.specs.declared.script.Line.{Line}
use Rattle.run_script.specs.declared.script.Line.TheVariants as lines
use Rattle.run_script.specs.declared.script.Script.{Script}
use Rattle.run_passes.specs.Crews.{ServesScript}
use Rattle.script_runs.specs.Slots.{swap_of, add_of}
use Rattle.script_runs.specs.declared.ending.Ending.{Ending}
use Rattle.run_passes.specs.Hands.{IsServedAt}
use Rattle.run_passes.specs.LineEntries.{Writing, StoresLast, IsBeginMade, LineMakes}
use Rattle.record_run.specs.Beside.{AtJournals, Beside, WritersRan, start_of}
use Rattle.record_run.specs.Pictured.{AreImages, AreOfWords}

-- One line of pass k with all its entries: a swap and an add store what they say by the layout that stands there, and a change begins
-- under a new generation. The other lines make what they make in any case.
abbrev pub LineWrites : List (List ℕ × List ℕ) → ℕ → State → Writing → Line → List Entry → Writing → Type 0
LineWrites images k s writing (lines.Swap region pass item instance value) entries next =
    (writing ≡ Writing.attached) × StoresLast k s (λ words. swap_of words item instance value) entries × (next ≡ Writing.attached)
LineWrites images k s writing (lines.Add region pass item instance number) entries next =
    (writing ≡ Writing.attached) × StoresLast k s (λ words. add_of words item instance number) entries × (next ≡ Writing.attached)
LineWrites images k s writing (lines.Begin region pass image moment) entries next =
    (writing ≡ Writing.idle) × (n : ℕ) × IsBeginMade k s moment n entries × (next ≡ Writing.changing (image_words images image) n 0)
LineWrites images k s writing line entries next = LineMakes images k s writing line entries next

-- its lines one after another, the entries of each up to its last own one
abbrev pub LinesWrite : List (List ℕ × List ℕ) → ℕ → State → Writing → List Line → List Entry → Writing → Type 0
LinesWrite images k s writing [] entries last = (entries ≡ []) × (last ≡ writing)
LinesWrite images k s writing (line ∷ more) entries last =
    (made : List Entry) × (rest : List Entry) × (next : Writing) × (entries ≡ made ++ rest)
    × LineWrites images k s writing line made next × LinesWrite images k (state s made) next more rest last

-- In a journal pass k made the entries of these lines, each of them and nothing else, from doing nothing to doing nothing.
pub record WritesAll (images : List (List ℕ × List ℕ)) (k : ℕ) (s : State) (own_lines : List Line) (log : List Entry) : Type 0 where
  pub made : List Entry
  pub rest : List Entry
  pub is : log ≡ made ++ rest
  pub writes : LinesWrite images k s Writing.idle own_lines made Writing.idle
  pub none : own k rest ≡ []

-- so did each pass of each region of a script
abbrev pub PassesWriteAll : Script → List Mounted → List Token → Type 0
PassesWriteAll script server final = (i j : ℕ) (at : IsServedAt script server i j) (token : Token) → slice_get final j ≡ Some token
    → (k : ℕ) → k < at.row.passes → WritesAll script.images k (start_of at.mounted) (lines_of i k script.steps) token.view.seen

-- In a recording of a script that it may take, whose writers have ended, each pass made the entries of all its own lines. No
-- slot, text or kind was missing at a store, and no generation at a change. A script has at most 2^54 lines.
abbrev pub NoLineIsLost : Type 0
NoLineIsLost = (script : Script) (server : List Mounted) (first final : List Token) (ending : Ending) (moments : List Moment) (results : List Fetched)
    → KeepsRules script → refused_line script ≡ None → AreImages script → AreOfWords script → length script.steps ≤ 2 ^ 54 → ServesScript script 1 server
    → Beside script server first final ending moments results → AtJournals WritersRan script server final
    → PassesWriteAll script server final
