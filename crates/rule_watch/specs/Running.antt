-- What is kept beside the values of a window.
use Rattle.std.specs.Prelude.{◌≡◌, ℕ, ℤ, neg_ℤ, ◌<◌, ◌≤◌, List, length, map}
use Rattle.std.specs.List.{AllByRecursion}
use Rattle.std.specs.Global.{Global}
use Rattle.std.specs.declared.collections.VecDeque.{VecDeque}
use Rattle.std.specs.VecDeque.{deque_capacity}
use Rattle.rule_watch.specs.declared.aggregate.Aggregate.{Aggregate}
use Rattle.rule_watch.specs.declared.aggregate.Aggregate.TheVariants as aggregates
use Rattle.rule_watch.specs.declared.running.Running.{Running}
use Rattle.rule_watch.specs.declared.running.Running.TheVariants as runnings
use Rattle.rule_watch.specs.Aggregates.{total}
use Rattle.rule_watch.specs.Queues.{minima}
use Rattle.rule_watch.specs.Windows.{IsValue}

abbrev pub kind_of : Running → Aggregate
kind_of (runnings.Least queue) = aggregates.Min
kind_of (runnings.Greatest queue) = aggregates.Max
kind_of (runnings.Total sum) = aggregates.Sum
kind_of runnings.Rise = aggregates.Rise

-- it belongs to these values
abbrev pub IsRunning : List ℤ → Running → Type 0
IsRunning values (runnings.Least queue) = queue.items ≡ minima values
IsRunning values (runnings.Greatest queue) = queue.items ≡ minima (map neg_ℤ values)
IsRunning values (runnings.Total sum) = sum ≡ total values
IsRunning values runnings.Rise = Unit {0}

-- it has room for so many
abbrev pub HasRoom : ℕ → Running → Type 0
HasRoom size (runnings.Least queue) = size ≤ deque_capacity queue
HasRoom size (runnings.Greatest queue) = size ≤ deque_capacity queue
HasRoom size (runnings.Total sum) = Unit {0}
HasRoom size runnings.Rise = Unit {0}

-- values, at most so many, and what is kept beside them
pub record IsWindow (size : ℕ) (values : VecDeque ℤ Global) (running : Running) : Type 0 where
  pub some : 0 < size
  pub few : size ≤ 1000
  pub within : length values.items ≤ size
  pub small : AllByRecursion IsValue values.items
  pub room : size ≤ deque_capacity values
  pub space : HasRoom size running
  pub told : IsRunning values.items running
