-- A set of keys that grows key by key.
use Rattle.std.proofs.Common.{◌≡◌, ℕ, zero, suc, ◌+◌, Bool, true, false, not, ◌&&◌, ◌||◌, List, [], ◌∷◌, ap, ap₂, sym, ◌∙◌, refl, arith, nat_eq, bytes_eq}
use Rattle.std.specs.List.{list_any}
use Rattle.std.specs.declared.cmp.Ordering.{Ordering}
use Rattle.std.specs.Ordering.{nat_cmp, match_ordering}
use Rattle.std.specs.declared.cmp.Ordering.TheVariants.{Less, Equal, Greater}
use Rattle.std.specs.Cmp.Lexicographic.{slice_cmp}
use Rattle.std.specs.BTreeMap.{is_at}
use Rattle.std.specs.BTreeSet.{insert_key}
use Rattle.std.proofs.lemmas.Bool.Decides.{nat_tests}
use Rattle.std.proofs.lemmas.Map.Lookups.{exact_bytes}
use Rattle.std.proofs.lemmas.Map.Text.{is_eq-slice_cmp}
use Rattle.mmv_layout.specs.declared.keys.Key.{Key}
use Rattle.mmv_layout.specs.Below.{all_below, some_below}
use Rattle.mmv_layout.specs.Keys.{key_at, is_new_key}
use Rattle.mmv_layout.proofs.Below.{some_more}

equal_turned : (a b : ℕ) → nat_eq a b ≡ nat_eq b a
equal_turned a b = grind (arith, nat_tests)

pub bytes_turned : (xs ys : List ℕ) → bytes_eq xs ys ≡ bytes_eq ys xs
bytes_turned [] [] = refl
bytes_turned [] (y ∷ ys) = refl
bytes_turned (x ∷ xs) [] = refl
bytes_turned (x ∷ xs) (y ∷ ys) = ap₂ (λ a b. a && b) (equal_turned x y) (bytes_turned xs ys)

twice : (a b : Bool) → (a || b) ≡ (a || (a || b))
twice true b = refl
twice false b = refl

turned : (a b c : Bool) → (a || (b || c)) ≡ (b || (a || c))
turned true true c = refl
turned true false c = refl
turned false b c = refl

or_turned : (a b : Bool) → (a || b) ≡ (b || a)
or_turned true true = refl
or_turned true false = refl
or_turned false true = refl
or_turned false false = refl

any_same : {K : Type 0} (f g : K → Bool) → ((k : K) → f k ≡ g k) → (keys : List K) → list_any f keys ≡ list_any g keys
any_same f g h [] = refl
any_same f g h (k ∷ keys) = ap₂ (λ a b. a || b) (h k) (any_same f g h keys)

not_some : (n : ℕ) (f : ℕ → Bool) → all_below n (λ i. not (f i)) ≡ not (some_below n f)
unfolding all_below some_below
not_some zero f = refl
not_some (suc n) f = ap (λ b. b && not (f n)) (not_some n f) ∙ neither (some_below n f) (f n)
  where
    neither : (a b : Bool) → (not a && not b) ≡ not (a || b)
    neither true b = refl
    neither false b = refl

some_same : (n : ℕ) (f g : ℕ → Bool) → ((i : ℕ) → f i ≡ g i) → some_below n f ≡ some_below n g
unfolding some_below
some_same zero f g h = refl
some_same (suc n) f g h = ap₂ (λ a b. a || b) (some_same n f g h) (h n)

module _ {K : Type 0} (items : K → List ℕ) where
  -- the order of a tree of such keys
  abbrev order : K → K → Ordering
  order x y = slice_cmp nat_cmp (items x) (items y)

  -- one of the keys reads as q
  abbrev has : List ℕ → List K → Bool
  has q keys = list_any (λ k. bytes_eq q (items k)) keys

  has_insert : (q : List ℕ) (key : K) (keys : List K) → has q (insert_key order keys key) ≡ (bytes_eq q (items key) || has q keys)
  has_insert q key [] = refl
  has_insert q key (x ∷ xs) = here (order key x) refl (has_insert q key xs)
    where
      here : (o : Ordering) → slice_cmp nat_cmp (items key) (items x) ≡ o → has q (insert_key order xs key) ≡ (bytes_eq q (items key) || has q xs) → has q (match_ordering o (key ∷ x ∷ xs) (x ∷ xs) (x ∷ insert_key order xs key)) ≡ (bytes_eq q (items key) || (bytes_eq q (items x) || has q xs))
      here Less e more = refl
      here Equal e more = twice (bytes_eq q (items x)) (has q xs) ∙ ap (λ b. b || (bytes_eq q (items x) || has q xs)) (ap (bytes_eq q) (sym (exact_bytes (items key) (items x) e)))
      here Greater e more = ap (λ b. bytes_eq q (items x) || b) more ∙ turned (bytes_eq q (items x)) (bytes_eq q (items key)) (has q xs)

  -- the set finds a key where one reads as it
  found_has : (key : K) (keys : List K) → list_any (is_at (order key)) keys ≡ has (items key) keys
  found_has key keys = any_same (is_at (order key)) (λ k. bytes_eq (items key) (items k)) (λ k. is_eq-slice_cmp (items key) (items k)) keys

  -- a key is added where no earlier entry has it
  pub added_new : (words : List ℕ) (kind : Key) (i : ℕ) (key : K) (keys : List K) → items key ≡ key_at words kind i → ((q : List ℕ) → has q keys ≡ some_below i (λ j. bytes_eq q (key_at words kind j))) → not (list_any (is_at (order key)) keys) ≡ is_new_key words kind i
  unfolding is_new_key
  added_new words kind i key keys is seen =
      ap not (found_has key keys ∙ seen (items key) ∙ some_same i _ (λ j. bytes_eq (key_at words kind j) (key_at words kind i)) (λ j. ap (λ k. bytes_eq k (key_at words kind j)) is ∙ bytes_turned (key_at words kind i) (key_at words kind j)))
      ∙ sym (not_some i (λ j. bytes_eq (key_at words kind j) (key_at words kind i)))

  -- one entry more was seen
  pub seen_more : (words : List ℕ) (kind : Key) (i : ℕ) (key : K) (keys : List K) → items key ≡ key_at words kind i → ((q : List ℕ) → has q keys ≡ some_below i (λ j. bytes_eq q (key_at words kind j))) → (q : List ℕ) → has q (insert_key order keys key) ≡ some_below (i + 1) (λ j. bytes_eq q (key_at words kind j))
  seen_more words kind i key keys is seen q =
      has_insert q key keys ∙ ap₂ (λ a b. a || b) (ap (bytes_eq q) is) (seen q) ∙ or_turned (bytes_eq q (key_at words kind i)) (some_below i (λ j. bytes_eq q (key_at words kind j)))
      ∙ sym (some_more i (λ j. bytes_eq q (key_at words kind j)))
