-- What holds of each item that was written holds of all.
use Rattle.std.proofs.Common.{◌≡◌, ℕ, suc, ◌+◌, ◌-◌, ◌<◌, List, [], ◌∷◌, ◌++◌, length, drop, get_or, sym, ap, ◌∙◌, subst, append_assoc, arith}
use Rattle.std.specs.Prelude.{◌↔◌}
use Rattle.std.specs.List.{AllByRecursion}
use Rattle.pcp_base.specs.Results.{Fits}
use Rattle.pcp_base.specs.declared.result.ValueSet.{ValueSet}
use Rattle.pcp_model.specs.Words.{zeros}
use Rattle.pcp_model.specs.Payload.{SetInRange}
use Rattle.pcp_model.proofs.Payloads.{drop_item}
use Rattle.result_form.specs.Ranges.{HasNumbers}

-- one item more
pub all_on : {A : Type 0} (P : A → Type 0) (xs : List A) (i : ℕ) (x : A) → i < length xs → x ≡ get_or xs i x → P x
    → (AllByRecursion P (drop i xs) ↔ AllByRecursion P xs) → AllByRecursion P (drop (i + 1) xs) ↔ AllByRecursion P xs
all_on P xs i x h e p all =
    let next : drop i xs ≡ x ∷ drop (i + 1) xs = drop_item xs i x h e in
    (λ rest. all.0 (subst (AllByRecursion P) (sym next) (p, rest)), λ whole. (subst (AllByRecursion P) next (all.1 whole)).1)

-- sets that fit and whose numbers are in range
pub sets_in_range : (sets : List ValueSet) → AllByRecursion Fits sets → AllByRecursion HasNumbers sets → AllByRecursion SetInRange sets
sets_in_range [] fit numbers = tt
sets_in_range (set ∷ sets) fit numbers = ((numbers.0.0, fit.0, numbers.0.1), sets_in_range sets fit.1 numbers.1)

-- one zero byte more
pub zeros_on : (out whole : List ℕ) (count i : ℕ) → i < count → out ++ zeros (count - i) ≡ whole → (out ++ 0 ∷ []) ++ zeros (count - (i + 1)) ≡ whole
zeros_on out whole count i h so_far =
    let k : count - i ≡ suc (count - (i + 1)) = omega arith in
    append_assoc out (0 ∷ []) (zeros (count - (i + 1))) ∙ ap (λ n. out ++ zeros n) (sym k) ∙ so_far
