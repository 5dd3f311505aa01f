-- What keys lead to, and where it stands.
use Rattle.std.proofs.Common.{suc, ◌≡◌, ℕ, Bool, true, false, cond, nat_eq, List, [], ◌∷◌, ◌++◌, length, map, Option, Some, None, refl, sym, ap, ◌∙◌, arith, append_assoc}
use Rattle.std.specs.Prelude.{option_to_list, slice_get}
use Rattle.std.proofs.lemmas.List.{length-append}
use Rattle.pcp_base.specs.declared.desc.Desc.{Desc}
use Rattle.pcp_base.specs.declared.result.ValueSet.{ValueSet}
use Rattle.archive_meta.specs.Facts.{has_values, first_under, metric_of, fact_of}
use Rattle.archive_meta.specs.Missing.{except_key, values_of_keys, domain_in, shown_domain, position_from, at_positions}

module _ {V : Type 0} where
  without_same : (k : ℕ) (F G : ℕ → Option V) → ((q : ℕ) → F q ≡ G q) → (q : ℕ) → except_key k F q ≡ except_key k G q
  without_same k F G h q = by (nat_eq k q)
    where
      by : (b : Bool) → cond b None (F q) ≡ cond b None (G q)
      by true = refl
      by false = h q

  -- only what keys lead to matters
  pub taken_same : (F G : ℕ → Option V) (ks : List ℕ) → ((q : ℕ) → F q ≡ G q) → values_of_keys F ks ≡ values_of_keys G ks
  taken_same F G [] h = refl
  taken_same F G (k ∷ ks) h =
      ap (λ o. option_to_list o ++ values_of_keys (except_key k F) ks) (h k)
      ∙ ap (λ l. option_to_list (G k) ++ l) (taken_same (except_key k F) (except_key k G) ks (without_same k F G h))

  abbrev pub found_in : List V → Option ℕ → Option V
  found_in vs None = None
  found_in vs (Some n) = slice_get vs n

  at_front : (vs : List V) (o : Option ℕ) (ps : List ℕ) → at_positions vs (option_to_list o ++ ps) ≡ option_to_list (found_in vs o) ++ at_positions vs ps
  at_front vs None ps = refl
  at_front vs (Some n) ps = refl

  found_without : (vs : List V) (P : ℕ → Option ℕ) (F : ℕ → Option V) (k : ℕ) → ((q : ℕ) → found_in vs (P q) ≡ F q) → (q : ℕ) → found_in vs (except_key k P q) ≡ except_key k F q
  found_without vs P F k h q = by (nat_eq k q)
    where
      by : (b : Bool) → found_in vs (cond b None (P q)) ≡ cond b None (F q)
      by true = refl
      by false = h q

  -- where keys lead to positions, what stands there is taken
  pub at_taken : (vs : List V) (P : ℕ → Option ℕ) (F : ℕ → Option V) (ks : List ℕ) → ((q : ℕ) → found_in vs (P q) ≡ F q) → at_positions vs (values_of_keys P ks) ≡ values_of_keys F ks
  at_taken vs P F [] h = refl
  at_taken vs P F (k ∷ ks) h =
      at_front vs (P k) (values_of_keys (except_key k P) ks)
      ∙ ap (λ o. option_to_list o ++ at_positions vs (values_of_keys (except_key k P) ks)) (h k)
      ∙ ap (λ l. option_to_list (F k) ++ l) (at_taken vs (except_key k P) (except_key k F) ks (found_without vs P F k h))

  front_get : (front vs : List V) (v : V) → slice_get (front ++ v ∷ vs) (length front) ≡ Some v
  front_get [] vs v = refl
  front_get (x ∷ front) vs v = front_get front vs v

  found_from : (key : V → ℕ) (front vs : List V) (at q : ℕ) → at ≡ length front → found_in (front ++ vs) (position_from at (map key vs) q) ≡ first_under key vs q
  found_from key front [] at q here = refl
  found_from key front (v ∷ vs) at q here = by (nat_eq (key v) q) (found_from key (front ++ v ∷ []) vs (suc at) q (omega (arith, length-append front (v ∷ []))))
    where
      by : (b : Bool) → found_in ((front ++ v ∷ []) ++ vs) (position_from (suc at) (map key vs) q) ≡ first_under key vs q
          → found_in (front ++ v ∷ vs) (cond b (Some at) (position_from (suc at) (map key vs) q)) ≡ cond b (Some v) (first_under key vs q)
      by true more = ap (slice_get (front ++ v ∷ vs)) here ∙ front_get front vs v
      by false more = ap (λ l. found_in l (position_from (suc at) (map key vs) q)) (sym (append_assoc front (v ∷ []) vs)) ∙ more

  -- the first under a key stands where the key does
  pub found_first : (key : V → ℕ) (vs : List V) (q : ℕ) → found_in vs (position_from 0 (map key vs) q) ≡ first_under key vs q
  found_first key vs q = found_from key [] vs 0 q refl

  pub at_positions_push : (vs : List V) (ps : List ℕ) (p : ℕ) → at_positions vs (ps ++ p ∷ []) ≡ at_positions vs ps ++ option_to_list (slice_get vs p)
  at_positions_push vs [] p = by (slice_get vs p)
    where
      by : (o : Option V) → option_to_list o ++ [] ≡ option_to_list o
      by None = refl
      by (Some v) = refl
  at_positions_push vs (x ∷ ps) p =
      ap (λ l. option_to_list (slice_get vs x) ++ l) (at_positions_push vs ps p)
      ∙ sym (append_assoc (option_to_list (slice_get vs x)) (at_positions vs ps) (option_to_list (slice_get vs p)))

-- one key more in front
pub position_more : (at : ℕ) (k : ℕ) (ks : List ℕ) (old new : ℕ → Option ℕ) → ((q : ℕ) → old q ≡ position_from (suc at) ks q) → ((q : ℕ) → new q ≡ cond (nat_eq k q) (Some at) (old q))
    → (q : ℕ) → new q ≡ position_from at (k ∷ ks) q
position_more at k ks old new h u q = u q ∙ ap (cond (nat_eq k q) (Some at)) (h q)

-- one key less
pub taken_one : (front : List ℕ) (old new : ℕ → Option ℕ) (k : ℕ) (ks total : List ℕ) → ((q : ℕ) → new q ≡ cond (nat_eq k q) None (old q)) → front ++ values_of_keys old (k ∷ ks) ≡ total → (front ++ option_to_list (old k)) ++ values_of_keys new ks ≡ total
taken_one front old new k ks total u whole =
    ap (λ l. (front ++ option_to_list (old k)) ++ l) (taken_same new (except_key k old) ks u)
    ∙ append_assoc front (option_to_list (old k)) (values_of_keys (except_key k old) ks) ∙ whole

-- the domain of a metric by its fact's position
pub shown_by : (metrics : List (Desc × List ℕ)) (set : ValueSet) (o : Option ℕ) (fact : Option (Desc × List ℕ)) → has_values set.body ≡ true → position_from 0 (map metric_of metrics) set.pmid ≡ o → found_in metrics o ≡ fact
    → domain_in fact ≡ shown_domain metrics set
shown_by metrics set o fact values here there =
    ap domain_in (sym there ∙ ap (found_in metrics) (sym here) ∙ found_first metric_of metrics set.pmid) ∙ ap (λ b. cond b (domain_in (fact_of metrics set.pmid)) []) (sym values)
