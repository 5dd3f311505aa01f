-- Steps of loops over tables and lists.
use Rattle.std.proofs.Common.{◌≡◌, ℕ, ℤ, suc, ◌+◌, ◌<◌, List, [], ◌∷◌, ◌++◌, append_assoc, length, take, get_or, ap, sym, subst, ◌∙◌, arith, All}
use Rattle.std.specs.List.{flat_map}
use Rattle.std.specs.Map.{values_of}
use Rattle.std.specs.Ordering.{int_cmp}
use Rattle.std.specs.BTreeMap.{insert_entry}
use Rattle.std.proofs.lemmas.List.Sums.{fold_more}
use Rattle.mmv_layout.specs.declared.rows.Content.{Content}
use Rattle.fetch_answers.specs.Answers.{ascending}
use Rattle.fetch_answers.specs.Bounds.{FitsContent}

-- what was made and what the rest gives are the whole, also one item later
pub flat_step : {X A : Type 0} (f : X → List A) (made more : List A) (rest next : List X) (x : X) (whole : List A) → made ++ flat_map f rest ≡ whole → rest ≡ x ∷ next → more ≡ made ++ f x → more ++ flat_map f next ≡ whole
flat_step f made more rest next x whole so_far begins added =
    ap (λ m. m ++ flat_map f next) added ∙ append_assoc made (f x) (flat_map f next) ∙ ap (λ r. made ++ flat_map f r) (sym begins) ∙ so_far

-- where all values fit, those of the rest do
pub rest_fit : (rest next : List (ℤ × Content)) (x : ℤ × Content) → rest ≡ x ∷ next → All FitsContent (values_of rest) → All FitsContent (values_of next)
rest_fit rest next x begins fit = behind (subst (λ (r : List (ℤ × Content)). All FitsContent (values_of r)) begins fit)
  where
    behind : All FitsContent (values_of (x ∷ next)) → All FitsContent (values_of next)
    behind h = λ k d below. h (suc k) d (omega arith)

-- one instance more
pub ascending_step : (instances : List (ℤ × List ℕ)) (k : ℕ) (one d : ℤ × List ℕ) → k < length instances → one ≡ get_or instances k d → (old new : List (ℤ × List ℕ))
    → old ≡ ascending (take k instances) → new ≡ insert_entry int_cmp old one.0 one.1 → new ≡ ascending (take (k + 1) instances)
ascending_step instances k one d below is old new so_far added =
    added ∙ ap (λ es. insert_entry int_cmp es one.0 one.1) so_far
    ∙ ap (λ (o : ℤ × List ℕ). insert_entry int_cmp (ascending (take k instances)) o.0 o.1) is
    ∙ sym (fold_more (λ (list : List (ℤ × List ℕ)) (o : ℤ × List ℕ). insert_entry int_cmp list o.0 o.1) [] instances k d below)
