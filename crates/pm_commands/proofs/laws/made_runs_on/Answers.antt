-- A made script's run ends neither by a condition nor by too many metrics, so that it isn't refused so.
use Rattle.std.proofs.Common.{◌≡◌, ℕ, Some, ap, subst}
use Rattle.script_runs.specs.declared.ending.Ending.{Ending}
use Rattle.script_runs.specs.declared.ending.Ending.TheVariants as ends
use Rattle.script_runs.specs.declared.ending.LimitKind.{LimitKind}
use Rattle.script_runs.specs.declared.ending.LimitKind.TheVariants as kinds
use Rattle.script_runs.specs.Runs.{RanTo}
use Rattle.made_runs.proofs.Ticks.{generated_runs}
use Rattle.run_script.specs.Generated.{generated_script}
use Rattle.pm_words.specs.declared.refusal.Refusal.TheVariants.{Condition, Limit}
use Rattle.pm_words.specs.Refusals.{ending_refusal}
use Rattle.pm_commands.proofs.laws.made_runs_on.Goals as goal

by_condition : (ending : Ending) (line : ℕ) → ending_refusal ending ≡ Some (Condition line) → ending ≡ ends.Condition line
by_condition (ends.Condition other) line h = let e : other ≡ line = cc in ap (λ (n : ℕ). ends.Condition n) e
by_condition _ line h = cc

by_limit : (ending : Ending) (what : LimitKind) (number : ℕ) → ending_refusal ending ≡ Some (Limit what number) → ending ≡ ends.Limit what number
by_limit (ends.Limit kind n) what number h = cc
by_limit _ what number h = cc

pub returns : goal.returns
returns c = λ asked fits f.
    let law = generated_runs asked.number asked.ticks in
    let script = generated_script asked.number asked.ticks in (
      λ line away.
          let run : RanTo script (ends.Condition line) away.3 away.6.regions = subst (λ (e : Ending). RanTo script e away.3 away.6.regions) (by_condition away.1 line away.2.1) away.6.runs.ran in
          (law run.count run.last fits.1 run.ran).0 line run.halts,
      λ number away.
          let run : RanTo script (ends.Limit kinds.Sets number) away.3 away.6.regions = subst (λ (e : Ending). RanTo script e away.3 away.6.regions) (by_limit away.1 kinds.Sets number away.2.1) away.6.runs.ran in
          (law run.count run.last fits.1 run.ran).1 number run.halts,
    )
