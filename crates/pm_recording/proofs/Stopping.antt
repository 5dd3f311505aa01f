-- What a call came to, by what its run answered.
use Rattle.std.proofs.Common.{◌≡◌, ℕ, ◌≤◌, List, length, refl, sym, ap, ◌∙◌, subst, arith, None, Ok, Err}
use Rattle.std.proofs.lemmas.List.{drop_all}
use Rattle.pcp_outside.specs.Sides.{SourceSide}
use Rattle.run_archive.specs.declared.replayed.Replayed.{Replayed}
use Rattle.run_script.specs.declared.script.Script.{Script}
use Rattle.script_runs.specs.declared.ending.Ending.{Ending}
use Rattle.script_runs.specs.declared.ending.Ending.TheVariants as ends
use Rattle.pm_words.specs.declared.refusal.Refusal.{Refusal}
use Rattle.pm_words.specs.declared.refusal.Refusal.TheVariants.{Script as Scripted, NoMemory}
use Rattle.pm_words.specs.declared.words.Call.TheVariants as calls
use Rattle.pm_words.specs.declared.words.Command.{Command}
use Rattle.pm_words.specs.declared.words.Command.TheVariants.{Record}
use Rattle.pm_words.specs.declared.words.RecordWords.{RecordWords}
use Rattle.pm_words.specs.Asking.{AsksFor, Got}
use Rattle.pm_words.specs.CommandLine.{takes_input}
use Rattle.pm_words.specs.Reading.{TookSome, WasRead}
use Rattle.pm_words.specs.Refusals.{ending_refusal}
use Rattle.pm_recording.specs.Ends.{Asks, Cause, IsOrder, Ran, count_of, logged_line, told_as}
use Rattle.pm_recording.specs.Recording.{CallSide, HasRecorded}
use Rattle.pm_recording.specs.Scripts.{Answers, script_recorded}
use Rattle.pm_recording.proofs.Endings.{counts_of}

module _ (words : List (List ℕ)) (s : SourceSide) where
  -- what a call got for a recording
  abbrev pub asks_by : (command : Command) (bytes input : List ℕ) (asked : RecordWords) → AsksFor calls.Record words s command bytes → command ≡ Record asked → input ≡ bytes → Asks words s
  asks_by command bytes input asked a is same = record {
    asked = asked;
    words_are = a.asks.words_are ∙ ap (λ (x : Command). Ok x) (a.command_is ∙ is);
    input = input;
    read = subst (λ (bytes : List ℕ). WasRead s bytes) (a.input_is ∙ sym same) (subst (λ (x : Command). Got (takes_input x) s a.asks.input) (a.command_is ∙ is) a.asks.got);
  }

  -- all of an input within the limit was taken
  pub took : Asks words s → s.tells → TookSome s
  took a tells =
      let told = a.read.told tells in
      let within : length s.left ≤ 16777216 = subst (λ (bytes : List ℕ). length bytes ≤ 16777216) told.0 a.read.within in
      (length s.left, omega arith, told.1 ∙ sym (drop_all (length s.left) s.left (omega arith)))

  pub by_script : (a : Asks words s) (e : Refusal) → Answers (script_recorded a.input) (Err e) → Cause words s e
  by_script a (Scripted fault) why = (a, why)
  by_script a NoMemory why = took a
  by_script a e why = absurd why

module _ {C D : Type 0} (c : CallSide C D) where
  abbrev pub ran_by : (asked : RecordWords) (script : Script) → IsOrder c.words c.source asked script → (told : Replayed) → HasRecorded c.run asked script told → Ran c told.ending
  ran_by asked script order told has = record {
    asks = order.asks;
    script = script;
    good = order.good;
    told = told;
    ended = refl;
    has = subst (λ (a : RecordWords). HasRecorded c.run a script told) (sym order.is_asked) has;
  }

  -- a run that is no refusal was done, and its line says how many results it logged
  pub told_done : (ending : Ending) (ran : Ran c ending) → ending_refusal ending ≡ None → Ok ran.told.output ≡ told_as (logged_line (count_of ran)) (ending_refusal ending)
  told_done ends.Done ran none = ap (λ (line : List ℕ). Ok line) (counts_of c ends.Done ran).1
  told_done ending ran none = absurd (cc)
