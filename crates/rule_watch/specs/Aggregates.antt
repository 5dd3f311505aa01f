-- What is told of the values of a window, which stand in it from the oldest to the newest.
use Rattle.std.specs.Prelude.{ℤ, pos, ◌+ℤ◌, ◌-ℤ◌, List, [], ◌∷◌}
use Rattle.std.specs.Int.{int_min, int_max}
use Rattle.rule_watch.specs.declared.aggregate.Aggregate.{Aggregate}
use Rattle.rule_watch.specs.declared.aggregate.Aggregate.TheVariants as aggregates
use Rattle.rule_watch.specs.Queues.{first_of, last_of}

abbrev pub least : List ℤ → ℤ
least [] = pos 0
least (x ∷ []) = x
least (x ∷ y ∷ ys) = int_min x (least (y ∷ ys))

abbrev pub greatest : List ℤ → ℤ
greatest [] = pos 0
greatest (x ∷ []) = x
greatest (x ∷ y ∷ ys) = int_max x (greatest (y ∷ ys))

abbrev pub total : List ℤ → ℤ
total [] = pos 0
total (x ∷ xs) = x +ℤ total xs

abbrev pub aggregate_of : Aggregate → List ℤ → ℤ
aggregate_of aggregates.Min values = least values
aggregate_of aggregates.Max values = greatest values
aggregate_of aggregates.Sum values = total values
aggregate_of aggregates.Rise values = last_of values -ℤ first_of values
