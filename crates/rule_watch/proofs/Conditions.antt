-- The conditions of a line, one after another.
use Rattle.std.proofs.Common.{◌≡◌, ℕ, zero, suc, ◌-◌, ◌<◌, List, [], ◌∷◌, ◌++◌, length, Some, None, refl, ap, ◌∙◌, arith}
use Rattle.text_lines.specs.Numbers.{◌>>=◌}
use Rattle.rule_watch.specs.declared.rule.Condition.{Condition}
use Rattle.rule_watch.specs.declared.rule.Joint.{Joint}
use Rattle.rule_watch.specs.Lines.{collect, take_joined}

-- nothing is left
pub collected : (n : ℕ) (joint : Joint) (conditions : List Condition) (bytes : List ℕ) → length bytes ≡ 0 → collect n joint conditions bytes ≡ Some conditions
unfolding collect
collected n joint conditions [] h = refl
collected n joint conditions (b ∷ bs) h = absurd (omega arith)

-- more is left than there may be
pub too_many : (n : ℕ) (joint : Joint) (conditions : List Condition) (bytes : List ℕ) → n ≡ 0 → 0 < length bytes → collect n joint conditions bytes ≡ None
unfolding collect
too_many zero joint conditions [] none some = absurd (omega arith)
too_many zero joint conditions (b ∷ bs) none some = refl
too_many (suc n) joint conditions bytes none some = absurd (omega arith)

collect_next : (n : ℕ) (joint : Joint) (conditions : List Condition) (bytes : List ℕ) → 0 < length bytes
    → collect (suc n) joint conditions bytes ≡ (take_joined joint bytes >>= (λ more. collect n joint (conditions ++ more.0 ∷ []) more.1))
unfolding collect
collect_next n joint conditions [] some = absurd (omega arith)
collect_next n joint conditions (b ∷ bs) some = refl

-- one more condition
pub collects_more : (n : ℕ) (joint : Joint) (conditions : List Condition) (bytes rest : List ℕ) (more : Condition) → 0 < n → 0 < length bytes
    → take_joined joint bytes ≡ Some (more, rest) → collect n joint conditions bytes ≡ collect (n - 1) joint (conditions ++ more ∷ []) rest
collects_more zero joint conditions bytes rest more positive some is = absurd (omega arith)
collects_more (suc n) joint conditions bytes rest more positive some is =
    let same : n ≡ suc n - 1 = omega arith in
    collect_next n joint conditions bytes some
    ∙ ap (λ o. o >>= (λ (m : Condition × List ℕ). collect n joint (conditions ++ m.0 ∷ []) m.1)) is
    ∙ ap (λ k. collect k joint (conditions ++ more ∷ []) rest) same

-- no condition is there
pub collects_none : (n : ℕ) (joint : Joint) (conditions : List Condition) (bytes : List ℕ) → 0 < length bytes → take_joined joint bytes ≡ None → collect n joint conditions bytes ≡ None
collects_none zero joint conditions bytes some none = too_many zero joint conditions bytes refl some
collects_none (suc n) joint conditions bytes some none =
    collect_next n joint conditions bytes some ∙ ap (λ o. o >>= (λ (m : Condition × List ℕ). collect n joint (conditions ++ m.0 ∷ []) m.1)) none
