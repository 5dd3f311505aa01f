-- The pairs so far and those that are left are all of them.
use Rattle.std.proofs.Common.{◌≡◌, ◌-◌, ◌++◌}
use Rattle.result_form.specs.Shown.{shown_values}
use Rattle.result_form.proofs.owned.values_of.Given as goal

abbrev pub invariant-loop : goal.invariant-loop
invariant-loop l = l.pairs ++ shown_values (l.count - l.counter) l.left ≡ shown_values l.count l.words
