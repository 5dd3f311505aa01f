use Rattle.std.proofs.Common.{◌≡◌, sym, ap, ◌∙◌}
use Rattle.log_summary.specs.Tables.{Key, same_key}
use Rattle.log_summary.proofs.Tabled.{same_is, same_own}
use Rattle.log_summary.proofs.laws.keys_are_apart.Goals as goal

pub returns : goal.returns
returns c = λ a b. (same_is a b, λ (e : a ≡ b). ap (λ (k : Key). same_key a k) (sym e) ∙ same_own a)
