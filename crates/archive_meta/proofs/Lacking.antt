-- Which domains' records are missing, one position after another.
use Rattle.std.proofs.Common.{◌≡◌, ℕ, ℤ, ◌+◌, ◌≤◌, inl, inr, List, [], ◌∷◌, ◌++◌, length, map, drop, Some, None, refl, sym, ap, ◌∙◌, subst, append_assoc}
use Rattle.std.specs.Prelude.{option_to_list, slice_get}
use Rattle.std.specs.List.{AllByRecursion}
use Rattle.std.proofs.lemmas.List.{append-nil, drop_all, map-append}
use Rattle.pcp_base.specs.Time.{Moment}
use Rattle.pcp_model.specs.declared.records.MetaRecord.{MetaRecord}
use Rattle.pcp_model.specs.Described.{HoldsAt}
use Rattle.archive_meta.specs.Facts.{domain_of, listed_of}
use Rattle.archive_meta.specs.Missing.{values_of_keys, Lacks, listed_from, AreMissingDomains, at_positions}
use Rattle.archive_meta.proofs.Positions.{at_positions_push}
use Rattle.archive_meta.proofs.Taken.{all_taken, all_map, first_is}

module _ (records : List MetaRecord) (t : Moment) (ds : List (ℕ × List (ℤ × List ℕ))) where
  -- those so far, and those that are still left, are all
  abbrev pub SoFar : List ℕ → List ℕ → List ℕ → Type 0
  SoFar positions rest left = (more : List MetaRecord) → AreMissingDomains records t (at_positions ds rest) more
      → AreMissingDomains records t (at_positions ds positions) (map (listed_from t) (at_positions ds left) ++ more)

  module _ (positions : List ℕ) (i position : ℕ) (next_is : drop i positions ≡ position ∷ drop (i + 1) positions) (left next : List ℕ) (so_far : SoFar positions (drop i positions) left) where
    abbrev Now : List MetaRecord → Type 0
    Now all = AreMissingDomains records t (at_positions ds (drop i positions)) all

    here : (all : List MetaRecord) → AreMissingDomains records t (at_positions ds (position ∷ drop (i + 1) positions)) all → Now all
    here all h = subst (λ ps. AreMissingDomains records t (at_positions ds ps) all) (sym next_is) h

    pub lacks_here : (d : ℕ × List (ℤ × List ℕ)) → Some d ≡ slice_get ds position → Lacks records t d → next ≡ left ++ position ∷ [] → SoFar positions (drop (i + 1) positions) next
    lacks_here d found lacks is more m =
        let one : Now (listed_from t d ∷ more) = here (listed_from t d ∷ more) (subst (λ o. AreMissingDomains records t (option_to_list o ++ at_positions ds (drop (i + 1) positions)) (listed_from t d ∷ more)) found (inr (lacks, (more, refl, m)))) in
        let grown : map (listed_from t) (at_positions ds next) ≡ map (listed_from t) (at_positions ds left) ++ listed_from t d ∷ [] =
        ap (λ l. map (listed_from t) (at_positions ds l)) is ∙ ap (map (listed_from t)) (at_positions_push ds left position ∙ ap (λ o. at_positions ds left ++ option_to_list o) (sym found))
        ∙ map-append (listed_from t) (at_positions ds left) (d ∷ []) in
        subst (AreMissingDomains records t (at_positions ds positions))
        (sym (ap (λ l. l ++ more) grown ∙ append_assoc (map (listed_from t) (at_positions ds left)) (listed_from t d ∷ []) more)) (so_far (listed_from t d ∷ more) one)

    pub holds_already : (d : ℕ × List (ℤ × List ℕ)) → Some d ≡ slice_get ds position → HoldsAt records d.0 t d.1 → next ≡ left → SoFar positions (drop (i + 1) positions) next
    holds_already d found holds is more m =
        let one : Now more = here more (subst (λ o. AreMissingDomains records t (option_to_list o ++ at_positions ds (drop (i + 1) positions)) more) found (inl (holds, m))) in
        subst (λ l. AreMissingDomains records t (at_positions ds positions) (map (listed_from t) (at_positions ds l) ++ more)) (sym is) (so_far more one)

    pub nothing_here : None ≡ slice_get ds position → next ≡ left → SoFar positions (drop (i + 1) positions) next
    nothing_here found is more m =
        let one : Now more = here more (subst (λ o. AreMissingDomains records t (option_to_list o ++ at_positions ds (drop (i + 1) positions)) more) found m) in
        subst (λ l. AreMissingDomains records t (at_positions ds positions) (map (listed_from t) (at_positions ds l) ++ more)) (sym is) (so_far more one)

  pub all_so_far : (positions left : List ℕ) (i : ℕ) → length positions ≤ i → SoFar positions (drop i positions) left → AreMissingDomains records t (at_positions ds positions) (map (listed_from t) (at_positions ds left))
  all_so_far positions left i past so_far =
      subst (AreMissingDomains records t (at_positions ds positions)) (append-nil (map (listed_from t) (at_positions ds left)))
      (so_far [] (subst (λ ps. AreMissingDomains records t (at_positions ds ps) []) (sym (drop_all i positions past)) refl))

  none_lacking : (es : List (ℕ × List (ℤ × List ℕ))) → AllByRecursion (λ d. HoldsAt records d.0 t d.1) es → AreMissingDomains records t es []
  none_lacking [] a = refl
  none_lacking (e ∷ es) a = inl (a.0, none_lacking es a.1)

  -- where all hold, none is missing
  pub none_missing : (keys : List ℕ) → AllByRecursion (λ d. HoldsAt records d.0 t d.1) ds → AreMissingDomains records t (values_of_keys (listed_of ds) keys) []
  none_missing keys all =
      none_lacking (values_of_keys (listed_of ds) keys)
      (all_taken (λ d. HoldsAt records d.0 t d.1) (listed_of ds) keys (λ k d e.
      (first_is domain_of ds k d (λ x. HoldsAt records x.0 t x.1) e (all_map (λ x. HoldsAt records x.0 t x.1) (λ x. domain_of x ≡ k → HoldsAt records x.0 t x.1) ds (λ x h _. h) all)).1))
