-- The stamp of an instance domain's payload: 2, seconds, microseconds, and whatever follows (LOGARCHIVE(5)).
use Rattle.std.specs.Prelude.{◌≡◌, ℕ, List, ◌++◌}
use Rattle.pcp_base.specs.Time.{Moment, IsMoment}
use Rattle.pcp_model.specs.Words.{word}

pub record IsStamped (payload : List ℕ) (t : Moment) : Type 0 where
  pub moment : IsMoment t
  pub rest : List ℕ
  pub is : payload ≡ word 2 ++ (word t.sec ++ (word t.usec ++ rest))
