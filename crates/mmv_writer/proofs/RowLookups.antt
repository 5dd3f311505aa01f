-- Keys that grow, and what they hold.
use Rattle.std.proofs.Common.{◌≡◌, ℕ, ℤ, Bool, true, false, ◌&&◌, ◌||◌, List, [], ◌∷◌, ap, sym, ◌∙◌, refl, cond, nat_eq, Some, bytes_eq}
use Rattle.std.specs.List.{list_any}
use Rattle.std.specs.Cmp.{unsigned_ties}
use Rattle.std.specs.Ordering.{nat_cmp, int_eq, is_eq, match_ordering}
use Rattle.std.specs.declared.cmp.Ordering.{Ordering}
use Rattle.std.specs.declared.cmp.Ordering.TheVariants.{Less, Equal, Greater}
use Rattle.std.specs.Cmp.Lexicographic.{slice_cmp}
use Rattle.std.specs.BTreeMap.{BTreeMap, is_at}
use Rattle.std.specs.BTreeSet.{insert_key}
use Rattle.std.proofs.lemmas.Bool.{eqb-true}
use Rattle.std.proofs.lemmas.Map.Lookups.{exact_bytes}
use Rattle.std.proofs.lemmas.Map.Text.{is_eq-slice_cmp}
use Rattle.mmv_writer.specs.declared.keys.DomainKeys.{DomainKeys}
use Rattle.mmv_writer.specs.Keys.{domain_in, place_of, numbers_have, names_have, Adds, KeepsMembers, AddsMember, KeepsAllMembers}

-- A set of texts

module _ {K : Type 0} (items : K → List ℕ) where
  -- one of the keys reads as a text
  abbrev pub reads : List ℕ → List K → Bool
  reads q keys = list_any (is_at (λ k. slice_cmp nat_cmp q (items k))) keys

  pub reads_insert : (q : List ℕ) (key : K) (keys : List K) → reads q (insert_key (λ a b. slice_cmp nat_cmp (items a) (items b)) keys key) ≡ (bytes_eq q (items key) || reads q keys)
  reads_insert q key [] = ap (λ b. b || false) (is_eq-slice_cmp q (items key))
  reads_insert q key (x ∷ xs) = here (slice_cmp nat_cmp (items key) (items x)) refl (reads_insert q key xs)
    where
      rest : List K
      rest = insert_key (λ a b. slice_cmp nat_cmp (items a) (items b)) xs key

      twice : (a b : Bool) → (a || b) ≡ (a || (a || b))
      twice true b = refl
      twice false b = refl

      swapped : (a b c : Bool) → (a || (b || c)) ≡ (b || (a || c))
      swapped true true c = refl
      swapped true false c = refl
      swapped false b c = refl

      here : (o : Ordering) → slice_cmp nat_cmp (items key) (items x) ≡ o → reads q rest ≡ (bytes_eq q (items key) || reads q xs) → reads q (match_ordering o (key ∷ x ∷ xs) (x ∷ xs) (x ∷ rest)) ≡ (bytes_eq q (items key) || reads q (x ∷ xs))
      here Less e more = ap (λ b. b || reads q (x ∷ xs)) (is_eq-slice_cmp q (items key))
      here Equal e more =
          twice (is_eq (slice_cmp nat_cmp q (items x))) (reads q xs)
          ∙ ap (λ b. b || reads q (x ∷ xs)) (is_eq-slice_cmp q (items x) ∙ ap (bytes_eq q) (sym (exact_bytes (items key) (items x) e)))
      here Greater e more =
          ap (λ b. is_eq (slice_cmp nat_cmp q (items x)) || b) more ∙ swapped (is_eq (slice_cmp nat_cmp q (items x))) (bytes_eq q (items key)) (reads q xs)

-- what was taken out of a set, after it was put in
pub put_and_taken : (absent here : Bool) → absent ≡ false → cond here false (cond here true absent) ≡ absent
put_and_taken absent true h = sym h
put_and_taken absent false h = refl

pub cond_or : (here was : Bool) → cond here true was ≡ (here || was)
cond_or true was = refl
cond_or false was = refl

-- A map of domains

pub at_serial : (a b : ℕ) → is_eq (nat_cmp a b) ≡ nat_eq a b
at_serial a b = sym (unsigned_ties a b)

-- one domain's keys took a number and a name
pub member_added : (old new : BTreeMap ℕ DomainKeys) (serial : ℕ) (was now : DomainKeys) (id : ℤ) (name : List ℕ) → domain_in old serial ≡ Some was → ((s : ℕ) → domain_in new s ≡ cond (is_eq (nat_cmp serial s)) (Some now) (domain_in old s)) → Adds id name was now → AddsMember serial id name old new
member_added old new serial was now id name before after adds = record {
  places = λ s. ap place_of (changed s) ∙ place s (nat_eq serial s) refl;
  numbers = λ s q. ap (λ d. numbers_have d q) (changed s) ∙ number s q (nat_eq serial s) refl;
  names = λ s q. ap (λ d. names_have d q) (changed s) ∙ text s q (nat_eq serial s) refl;
}
  where
    changed : (s : ℕ) → domain_in new s ≡ cond (nat_eq serial s) (Some now) (domain_in old s)
    changed s = after s ∙ ap (λ b. cond b (Some now) (domain_in old s)) (at_serial serial s)

    same : (s : ℕ) → nat_eq serial s ≡ true → domain_in old s ≡ Some was
    same s e = ap (domain_in old) (sym (eqb-true serial s e)) ∙ before

    place : (s : ℕ) (b : Bool) → nat_eq serial s ≡ b → place_of (cond b (Some now) (domain_in old s)) ≡ place_of (domain_in old s)
    place s true e = ap Some adds.at ∙ ap place_of (sym (same s e))
    place s false e = refl

    number : (s : ℕ) (q : ℤ) (b : Bool) → nat_eq serial s ≡ b → numbers_have (cond b (Some now) (domain_in old s)) q ≡ ((b && int_eq id q) || numbers_have (domain_in old s) q)
    number s q true e = adds.numbers q ∙ ap (λ d. int_eq id q || numbers_have d q) (sym (same s e))
    number s q false e = refl

    text : (s : ℕ) (q : List ℕ) (b : Bool) → nat_eq serial s ≡ b → names_have (cond b (Some now) (domain_in old s)) q ≡ ((b && bytes_eq q name) || names_have (domain_in old s) q)
    text s q true e = adds.names q ∙ ap (λ d. bytes_eq q name || names_have d q) (sym (same s e))
    text s q false e = refl

-- one domain's keys hold what they held
pub members_held : (old new : BTreeMap ℕ DomainKeys) (serial : ℕ) (was now : DomainKeys) → domain_in old serial ≡ Some was → ((s : ℕ) → domain_in new s ≡ cond (is_eq (nat_cmp serial s)) (Some now) (domain_in old s)) → KeepsMembers was now → KeepsAllMembers old new
members_held old new serial was now before after holds = record {
  places = λ s. ap place_of (changed s) ∙ place s (nat_eq serial s) refl;
  numbers = λ s q. ap (λ d. numbers_have d q) (changed s) ∙ number s q (nat_eq serial s) refl;
  names = λ s q. ap (λ d. names_have d q) (changed s) ∙ text s q (nat_eq serial s) refl;
}
  where
    changed : (s : ℕ) → domain_in new s ≡ cond (nat_eq serial s) (Some now) (domain_in old s)
    changed s = after s ∙ ap (λ b. cond b (Some now) (domain_in old s)) (at_serial serial s)

    same : (s : ℕ) → nat_eq serial s ≡ true → domain_in old s ≡ Some was
    same s e = ap (domain_in old) (sym (eqb-true serial s e)) ∙ before

    place : (s : ℕ) (b : Bool) → nat_eq serial s ≡ b → place_of (cond b (Some now) (domain_in old s)) ≡ place_of (domain_in old s)
    place s true e = ap Some holds.at ∙ ap place_of (sym (same s e))
    place s false e = refl

    number : (s : ℕ) (q : ℤ) (b : Bool) → nat_eq serial s ≡ b → numbers_have (cond b (Some now) (domain_in old s)) q ≡ numbers_have (domain_in old s) q
    number s q true e = holds.numbers q ∙ ap (λ d. numbers_have d q) (sym (same s e))
    number s q false e = refl

    text : (s : ℕ) (q : List ℕ) (b : Bool) → nat_eq serial s ≡ b → names_have (cond b (Some now) (domain_in old s)) q ≡ names_have (domain_in old s) q
    text s q true e = holds.names q ∙ ap (λ d. names_have d q) (sym (same s e))
    text s q false e = refl

pub all_held : (domains : BTreeMap ℕ DomainKeys) → KeepsAllMembers domains domains
all_held domains = record { places = λ s. refl; numbers = λ s q. refl; names = λ s q. refl }
