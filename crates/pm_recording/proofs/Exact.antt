-- A recording that was done shows the regions' last words, and these hold all that was stored and added, by the laws of a recording.
use Rattle.std.proofs.Common.{◌≡◌, inl, inr, ℕ, ◌≤◌, List, length, refl, sym, ◌∙◌, subst, arith, Option, Some, None, Result, Ok, Err}
use Rattle.std.specs.Global.{Vec}
use Rattle.fetch_engine.specs.declared.server.Mounted.{Mounted}
use Rattle.record_run.proofs.Counted.{counters_are_sums}
use Rattle.record_run.proofs.Last.{last_sample}
use Rattle.record_run.proofs.Unlost.{no_line_lost}
use Rattle.region_rule.specs.Seats.{Token}
use Rattle.run_script.specs.Reading.{script_of}
use Rattle.run_script.specs.Recording.{refused_line}
use Rattle.run_script.specs.Rules.{KeepsRules}
use Rattle.run_script.specs.declared.fault.ScriptFault.{ScriptFault}
use Rattle.run_script.specs.declared.script.Script.{Script}
use Rattle.run_script.proofs.Ruled.{scripts_are_ruled}
use Rattle.run_passes.specs.Crews.{ServesScript}
use Rattle.run_passes.specs.Lasts.{AreLast}
use Rattle.record_run.specs.Beside.{Beside, TellWriters}
use Rattle.script_runs.specs.declared.ending.Ending.{Ending}
use Rattle.script_runs.specs.declared.ending.Ending.TheVariants as ends
use Rattle.pm_recording.specs.Ends.{Ran}
use Rattle.pm_recording.specs.Exact.{AllIsCounted, LastIsShown}
use Rattle.pm_recording.specs.Recording.{CallSide}
use Rattle.pm_recording.specs.Scripts.{recordable, unless}
use Rattle.pm_recording.proofs.Few.{steps_are_few}

-- what is recorded was read, and no line of it is refused
unless_refused : (told : Result Script ScriptFault) (found script : Script) (line : Option ℕ) → told ≡ Ok found → refused_line found ≡ line → unless line found ≡ Ok script → (told ≡ Ok script) × (refused_line script ≡ None)
unless_refused told found script None was none is = let same : found ≡ script = cc in (was ∙ is, subst (λ (x : Script). refused_line x ≡ None) same none)
unless_refused told found script (Some line) was some is = absurd (cc)

recorded_so : (found : Result Script ScriptFault) (script : Script) → recordable found ≡ Ok script → (found ≡ Ok script) × (refused_line script ≡ None)
recorded_so (Ok found) script is = unless_refused (Ok found) found script (refused_line found) refl refl is
recorded_so (Err fault) script is = absurd (cc)

-- writers that were refused memory end no recording well
told_last : (script : Script) (server : List Mounted) (final : List Token) (left : List (Vec Token)) → TellWriters script server final left ends.Done → AreLast final
told_last script server final left (inl ended) = ended.last
told_last script server final left (inr (none, inl never)) = absurd (cc)
told_last script server final left (inr (none, inr never)) = absurd (cc)

module _ {C D : Type 0} (c : CallSide C D) (ran : Ran c ends.Done) where
  abbrev server : List Mounted
  server = ran.has.left.server

  serves : ServesScript ran.script 1 server
  serves =
      let was = ran.has.was in
      subst (λ (rows : List Mounted). ServesScript ran.script 1 rows) (sym was.server) (subst (λ (n : ℕ). ServesScript ran.script n was.opened.server) was.made.seats_are was.made.made.serves)

  abbrev read : (script_of ran.asks.input ≡ Ok ran.script) × (refused_line ran.script ≡ None)
  read = recorded_so (script_of ran.asks.input) ran.script ran.good

  abbrev rules : KeepsRules ran.script
  rules = scripts_are_ruled ran.asks.input ran.script read.0

  abbrev beside : Beside ran.script server ran.has.was.first.tokens ran.has.was.last.tokens ends.Done ran.has.was.recording.moments ran.has.was.recording.results
  beside = subst (λ (x : Ending). Beside ran.script server ran.has.was.first.tokens ran.has.was.last.tokens x ran.has.was.recording.moments ran.has.was.recording.results) ran.ended ran.has.was.recording.beside

  abbrev last_shown : LastIsShown c
  last_shown = record {
    ran = ran;
    beside = beside;
    exact = last_sample ran.script server ran.has.was.first.tokens ran.has.was.last.tokens ran.has.was.recording.moments ran.has.was.recording.results rules serves ran.has.was.seated beside;
  }

  pub shows_last : LastIsShown c
  shows_last = last_shown

  pub all_counted : AllIsCounted c
  all_counted =
      let was = ran.has.was in
      let steps : length ran.script.steps ≤ length ran.asks.input = steps_are_few ran.asks.input ran.script read.0 in
      let bytes : length ran.asks.input ≤ 16777216 = ran.asks.read.within in
      record {
        shown = last_shown;
        gathered = told_last ran.script server was.last.tokens ran.has.left.passes.items (subst (λ (x : Ending). TellWriters ran.script server was.last.tokens ran.has.left.passes.items x) ran.ended was.writers);
        counted = counters_are_sums ran.script server was.first.tokens was.last.tokens was.recording.moments was.recording.results rules read.1 ran.has.images ran.has.of_words serves beside;
        whole = no_line_lost ran.script server was.first.tokens was.last.tokens ends.Done was.recording.moments was.recording.results rules read.1 ran.has.images ran.has.of_words (omega (arith, steps, bytes)) serves beside
            beside.writers;
      }
