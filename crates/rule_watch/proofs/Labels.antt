-- One more rule, with a label of its own.
use Rattle.std.proofs.Common.{◌≡◌, ◌≢◌, ℕ, suc, ◌+◌, ◌<◌, false, List, [], ◌∷◌, ◌++◌, length, length-append, get_or, bytes_eq, arith}
use Rattle.std.specs.List.{All, AllPairs}
use Rattle.std.proofs.lemmas.Bool.{both_ways}
use Rattle.std.proofs.lemmas.List.Elements.{All-push, All-tail}
use Rattle.std.proofs.lemmas.List.Folds.{list_any_at}
use Rattle.std.proofs.lemmas.List.Kept.{AllPairs-cons}
use Rattle.std.proofs.lemmas.Slice.Eq.{bytes_eq-Decides}
use Rattle.rule_watch.specs.declared.rule.Rule.{Rule}
use Rattle.rule_watch.specs.Rules.{AreRules, IsWritten, has_label}
use Rattle.rule_watch.proofs.Windows.{all_with}

pub no_rules : AreRules []
no_rules = record { few = omega arith; each = tt; differ = λ i j d less below. absurd (omega arith) }

pairs_with : {X : Type 0} (R : X → X → Type 0) (xs : List X) (x : X) → AllPairs R xs → All (λ y. R y x) xs → AllPairs R (xs ++ x ∷ [])
pairs_with R [] x pairs each = λ i j d less below. absurd (omega arith)
pairs_with R (y ∷ ys) x pairs each =
    AllPairs-cons R y (ys ++ x ∷ []) (All-push (R y) ys x (λ k d below. pairs 0 (suc k) d (omega arith) (omega arith)) (each 0 y (omega arith)))
    (pairs_with R ys x (λ i j d less below. pairs (suc i) (suc j) d (omega arith) (omega arith)) (All-tail (λ z. R z x) y ys each))

others : (rules : List Rule) (label : List ℕ) → has_label rules label ≡ false → All (λ r. r.label ≢ label) rules
others rules label none k d below e =
    both_ways (has_label rules label) none (list_any_at (λ (r : Rule). bytes_eq r.label label) rules k d below ((bytes_eq-Decides (get_or rules k d).label label).1 e))

pub with_another : (rules : List Rule) (rule : Rule) → AreRules rules → IsWritten rule → has_label rules rule.label ≡ false → length rules < 64 → AreRules (rules ++ rule ∷ [])
with_another rules rule are is new room =
    let long : length (rules ++ rule ∷ []) ≡ length rules + 1 = length-append rules (rule ∷ []) in
    record {
      few = omega arith;
      each = all_with IsWritten rules rule are.each is;
      differ = pairs_with (λ (a b : Rule). a.label ≢ b.label) rules rule are.differ (others rules rule.label new);
    }
