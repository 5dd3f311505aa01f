-- Values counted one behind another.
use Rattle.std.proofs.Common.{◌≡◌, ℕ, ℤ, List, [], ◌++◌, Option, Some, None, refl, fold}
use Rattle.std.proofs.lemmas.List.Sums.{fold-append}
use Rattle.pcp_base.specs.Time.{Moment}
use Rattle.log_summary.specs.Tables.{Rows, counted}
use Rattle.log_summary.specs.Values.{Value, with_value}

-- a value in front of others is counted first
pub number_more : (rows : Rows) (pmid : ℕ) (t : Moment) (i : ℤ) (o : Option ℤ) (values : List Value)
    → fold counted rows (with_value pmid t i o values) ≡ fold counted (fold counted rows (with_value pmid t i o [])) values
number_more rows pmid t i None values = refl
number_more rows pmid t i (Some n) values = refl

pub values_more : (rows : Rows) (xs ys : List Value) → fold counted rows (xs ++ ys) ≡ fold counted (fold counted rows xs) ys
values_more rows xs ys = fold-append counted rows xs ys
