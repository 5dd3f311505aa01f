-- No list so far is longer.
use Rattle.std.specs.Prelude.{◌≡◌, ◌≤◌, ◌<◌, ℕ, length, slice_get, Some}
use Rattle.std.specs.Global.{Vec}
use Rattle.region_rule.specs.Seats.{Token}
use Rattle.run_passes.proofs.dealing.most.Given as goal

abbrev pub invariant-loop-list : goal.invariant-loop-list
invariant-loop-list l = (j : ℕ) (list : Vec Token) → j < l.list-index → slice_get l.lists j ≡ Some list → length list.items ≤ l.most
