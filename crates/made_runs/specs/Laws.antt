-- What the lines of a script that a number makes do to its run.
use Rattle.std.specs.Prelude.{ℕ, ◌≤◌}
use Rattle.run_script.specs.Generated.{generated_script}
use Rattle.script_runs.specs.declared.ending.Ending.TheVariants as ends
use Rattle.script_runs.specs.declared.ending.LimitKind.TheVariants as kinds
use Rattle.script_runs.specs.Runs.{Halts, RanFirst}
use Rattle.script_runs.specs.Steps.{RunState}

-- No line's condition fails, no pass is left at work behind the last line, and no tick asks for too many metrics.
abbrev pub GeneratedRuns : Type 0
GeneratedRuns = (number ticks count : ℕ) (s : RunState) → ticks ≤ 100000 → RanFirst (generated_script number ticks) count s
    → ((at : ℕ) → Halts (generated_script number ticks) count s (ends.Condition at) → ⊥)
    × ((n : ℕ) → Halts (generated_script number ticks) count s (ends.Limit kinds.Sets n) → ⊥)
