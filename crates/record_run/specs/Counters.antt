-- What the numbers of a region come to in a recording, as its journal tells them.
use Rattle.std.specs.Prelude.{◌≡◌, ℕ, ◌+◌, ◌%◌, ◌^◌, ◌<◌, negsuc, List, ◌∷◌, ◌++◌, length, slice_get, Contains, Some, None, unwrap_or}
use Rattle.pcp_base.specs.Time.{Moment}
use Rattle.mmv_layout.specs.declared.rows.Content.TheVariants.{Number}
use Rattle.mmv_layout.specs.declared.rows.Slot.{Slot}
use Rattle.mmv_layout.specs.declared.rows.ValueRow.{ValueRow}
use Rattle.mmv_layout.specs.Form.{slots_of}
use Rattle.mmv_layout.specs.Rows.{layout_of}
use Rattle.region_core.specs.declared.act.Act.TheVariants.{Begin}
use Rattle.region_core.specs.declared.act.Entry.{Entry}
use Rattle.region_core.specs.State.{word}
use Rattle.region_rule.specs.Seats.{Token}
use Rattle.region_rule.specs.Steps.{entry}
use Rattle.region_words.specs.Calls.{IsNumber}
use Rattle.fetch_answers.specs.declared.fetch.Fetched.{Fetched}
use Rattle.fetch_engine.specs.declared.server.Mounted.{Mounted}
use Rattle.run_script.specs.Recording.{refused_line}
use Rattle.run_script.specs.Rules.{KeepsRules}
use Rattle.run_script.specs.declared.script.Script.{Script}
use Rattle.run_passes.specs.Crews.{ServesScript}
use Rattle.script_runs.specs.declared.ending.Ending.{Ending}
use Rattle.script_runs.specs.declared.ending.Ending.TheVariants as ends
use Rattle.run_passes.specs.Hands.{IsServedAt}
use Rattle.record_run.specs.Beside.{Beside, start_of}
use Rattle.record_run.specs.Pictured.{AreImages, AreOfWords}
use Rattle.record_run.specs.Closing.{closing_words}
use Rattle.record_run.specs.Sums.{IsSum, IsStored, stored_last_in, added_since}

-- Whatever ended a recording, each word of each region is what was stored into it last plus all adds since, modulo 2^64.
abbrev pub WordsAreSums : Type 0
WordsAreSums = (script : Script) (server : List Mounted) (first final : List Token) (ending : Ending) (moments : List Moment) (results : List Fetched)
    → Beside script server first final ending moments results
    → (i j : ℕ) (at : IsServedAt script server i j) (token : Token) → slice_get final j ≡ Some token
    → (w : ℕ) → w < length at.mounted.region.words → IsSum (start_of at.mounted) token.view.seen w

-- A number that the last words of a region say: the value of an item and an instance is the number in its value word, and that is
-- what the last layout or the last swap brought plus all adds since, modulo 2^64. What was brought was stored behind every beginning of a
-- change, so it stands under the last layout; where none began, the region's opening image brought it.
pub record IsCounted (mounted : Mounted) (token : Token) (slot : Slot) : Type 0 where
  pub row : ValueRow
  pub among : Contains (layout_of (closing_words mounted token)).values row
  pub item : row.item ≡ slot.item
  pub instance : unwrap_or row.instance (negsuc 0) ≡ slot.instance
  pub value : ℕ
  pub content : row.content ≡ Number value
  pub sum : value ≡ (stored_last_in slot.word (word (start_of mounted) slot.word) token.view.seen + added_since slot.word 0 token.view.seen) % 2 ^ 64
  pub last : (k n : ℕ) (before behind : List Entry) → token.view.seen ≡ before ++ entry k (Begin n) ∷ behind → IsStored slot.word behind

-- so it is of each numeric value of each region of a script under its last layout
abbrev pub NumbersAreCounted : Script → List Mounted → List Token → Type 0
NumbersAreCounted script server final = (i j : ℕ) (at : IsServedAt script server i j) (token : Token) → slice_get final j ≡ Some token
    → (slot : Slot) → Contains (slots_of (closing_words at.mounted token)) slot → IsNumber slot.kind → IsCounted at.mounted token slot

-- Once a recording has come to its end, each number is counted.
abbrev pub CountersAreSums : Type 0
CountersAreSums = (script : Script) (server : List Mounted) (first final : List Token) (moments : List Moment) (results : List Fetched)
    → KeepsRules script → refused_line script ≡ None → AreImages script → AreOfWords script → ServesScript script 1 server
    → Beside script server first final ends.Done moments results
    → NumbersAreCounted script server final
