-- Names by their numbers, and the values of a row by the numbers of their names.
use Rattle.std.proofs.Common.{◌≡◌, ◌≢◌, ℕ, ℤ, zero, suc, ◌<◌, ◌≤◌, ◌+◌, ⊎_elim, ltb, eqb, Bool, true, false, cond, ◌&&◌, ◌||◌, List, [], ◌∷◌, ◌++◌, length, length-append, map, get_or, set, Option, Some, None, refl, sym, ap, ap₂, subst, ◌∙◌, arith, append-nil}
use Rattle.std.specs.Prelude.{bytes_eq, not, position, slice_get}
use Rattle.std.specs.List.{filter, list_any, list_all, position_or_len}
use Rattle.std.specs.Option.{option_map}
use Rattle.std.specs.Ordering.{int_eq}
use Rattle.std.specs.Global.{Vec}
use Rattle.std.proofs.lemmas.Bool.{both_ways, cases_lt, eq-eqb, eqb-true, lt-ltb, ne_eqb}
use Rattle.std.proofs.lemmas.List.{get_or_append_left, length-map, map-append}
use Rattle.std.proofs.lemmas.List.Elements.{All-push}
use Rattle.std.proofs.lemmas.List.Folds.{list_any-append, list_any_at}
use Rattle.std.proofs.lemmas.List.Quantifiers.{position-Some}
use Rattle.std.proofs.lemmas.List.Sums.{position_or_len_is}
use Rattle.std.proofs.lemmas.Option.{slice_get-map, slice_get_past}
use Rattle.std.proofs.lemmas.Slice.Eq.{bytes_eq-Decides}
use Rattle.std.proofs.Math.Seq.{get_or-append_seam}
use Rattle.rule_watch.specs.declared.rule.Quantifier.{Quantifier}
use Rattle.rule_watch.specs.declared.rule.Quantifier.TheVariants as quantifiers
use Rattle.rule_watch.specs.Groups.{AreAllNumbers, AreGroups, AreNumbers, Group, KeepsNumbers, group_at, group_of, group_or_none, groups_in, names_in, numbers_of}
use Rattle.rule_watch.specs.Holding.{quantified}
use Rattle.rule_watch.specs.Rows.{Entry, Row, instances_in, is_of, values_in}
use Rattle.rule_watch.specs.Watched.{quantified_values}
use Rattle.rule_watch.specs.Windows.{IsValue}
use Rattle.rule_watch.proofs.Rows.{picked_with}

-- ---- places of names

module _ {X Y : Type 0} (f : X → Y) (t : Y → Bool) where
  prefix_map : (xs : List X) → position_or_len (λ x. t (f x)) xs ≡ position_or_len t (map f xs)
  prefix_map [] = refl
  prefix_map (x ∷ xs) = by (t (f x)) (prefix_map xs)
    where
      by : (b : Bool) → position_or_len (λ x. t (f x)) xs ≡ position_or_len t (map f xs)
          → cond (not b) (1 + position_or_len (λ x. t (f x)) xs) 0 ≡ cond (not b) (1 + position_or_len t (map f xs)) 0
      by true h = refl
      by false h = ap (λ n. 1 + n) h

  pub position_map : (xs : List X) → position (λ x. t (f x)) xs ≡ position t (map f xs)
  position_map xs = ap₂ (λ n m. cond (ltb n m) (Some n) None) (prefix_map xs) (sym (length-map xs f))

  pub any_map : (xs : List X) → list_any (λ x. t (f x)) xs ≡ list_any t (map f xs)
  any_map [] = refl
  any_map (x ∷ xs) = ap (λ b. t (f x) || b) (any_map xs)

module _ {X : Type 0} (p : X → Bool) where
  position_is : (xs : List X) (i : ℕ) (d : X) → i < length xs → p (get_or xs i d) ≡ true → ((k : ℕ) → k < i → p (get_or xs k d) ≡ false) → position p xs ≡ Some i
  position_is xs i d inside here before =
      let at : position_or_len p xs ≡ i = position_or_len_is p xs i d (omega arith) before (λ _. here) in
      ap (λ n. cond (ltb n (length xs)) (Some n) None) at ∙ ap (λ b. cond b (Some i) None) (lt-ltb i (length xs) inside)

  pub position_before : (xs ys : List X) (k : ℕ) (d : X) → position p xs ≡ Some k → position p (xs ++ ys) ≡ Some k
  position_before xs ys k d e =
      let s = position-Some p xs k d e in
      let inside : k < length xs = s.0 in
      let longer : k < length (xs ++ ys) = omega (arith, length-append xs ys) in
      position_is (xs ++ ys) k d longer (ap p (get_or_append_left xs ys d k inside) ∙ s.1)
      (λ j less. ap p (get_or_append_left xs ys d j (omega arith)) ∙ s.2 j less)

  none_before : (xs : List X) (d : X) → list_any p xs ≡ false → (k : ℕ) → k < length xs → p (get_or xs k d) ≡ false
  none_before xs d none k below = by (p (get_or xs k d)) refl
    where
      by : (b : Bool) → p (get_or xs k d) ≡ b → p (get_or xs k d) ≡ false
      by true h = absurd (both_ways (list_any p xs) none (list_any_at p xs k d below h))
      by false h = h

  pub position_behind : (xs : List X) (x : X) → list_any p xs ≡ false → p x ≡ true → position p (xs ++ x ∷ []) ≡ Some (length xs)
  position_behind xs x none here =
      let longer : length xs < length (xs ++ x ∷ []) = omega (arith, length-append xs (x ∷ [])) in
      position_is (xs ++ x ∷ []) (length xs) x longer (ap p (get_or-append_seam xs x [] x) ∙ here)
      (λ k less. ap p (get_or_append_left xs (x ∷ []) x k less) ∙ none_before xs x none k less)

same_name : (a b : List ℕ) → bytes_eq a b ≡ true → a ≡ b
same_name a b h = (bytes_eq-Decides a b).0 h

pub same_bytes : (a : List ℕ) → bytes_eq a a ≡ true
same_bytes a = (bytes_eq-Decides a a).1 refl

some_number : (a b : ℕ) → Some a ≡ Some b → a ≡ b
some_number a b e = cc

-- the name that has a number
name_at : (names : List (List ℕ)) (name : List ℕ) (k : ℕ) → position (bytes_eq name) names ≡ Some k → name ≡ get_or names k []
name_at names name k e = same_name name (get_or names k []) (position-Some (bytes_eq name) names k [] e).1

one_name : (names : List (List ℕ)) (a b : List ℕ) (k : ℕ) → position (bytes_eq a) names ≡ Some k → position (bytes_eq b) names ≡ Some k → bytes_eq a b ≡ true
one_name names a b k e f = (bytes_eq-Decides a b).1 (name_at names a k e ∙ sym (name_at names b k f))

-- ---- one name more

pub keeps_with : (names : List (List ℕ)) (name : List ℕ) → KeepsNumbers names (names ++ name ∷ [])
keeps_with names name other k e = position_before (bytes_eq other) names (name ∷ []) k [] e

-- a name that is among them
pub named_there : (names : List (List ℕ)) (name : List ℕ) → list_any (bytes_eq name) names ≡ true → (other : List ℕ) → list_any (bytes_eq other) names ≡ (list_any (bytes_eq other) names || bytes_eq other name)
named_there names name there other = by (bytes_eq other name) refl (list_any (bytes_eq other) names) refl
  where
    or_false : (a : Bool) → a ≡ (a || false)
    or_false true = refl
    or_false false = refl

    by : (b : Bool) → bytes_eq other name ≡ b → (a : Bool) → list_any (bytes_eq other) names ≡ a → list_any (bytes_eq other) names ≡ (list_any (bytes_eq other) names || bytes_eq other name)
    by true h a e =
        let is : list_any (bytes_eq other) names ≡ true = ap (λ n. list_any (bytes_eq n) names) (same_name other name h) ∙ there in
        is ∙ ap (λ x. x || bytes_eq other name) (sym is)
    by false h a e = or_false (list_any (bytes_eq other) names) ∙ ap (λ b. list_any (bytes_eq other) names || b) (sym h)

or_nothing : (b : Bool) → (b || false) ≡ b
or_nothing true = refl
or_nothing false = refl

-- a name that is not
pub named_behind : (names : List (List ℕ)) (name other : List ℕ) → list_any (bytes_eq other) (names ++ name ∷ []) ≡ (list_any (bytes_eq other) names || bytes_eq other name)
named_behind names name other = list_any-append (bytes_eq other) names (name ∷ []) ∙ ap (λ b. list_any (bytes_eq other) names || b) (or_nothing (bytes_eq other name))

pub there_at : (names : List (List ℕ)) (name : List ℕ) (k : ℕ) → position (bytes_eq name) names ≡ Some k → list_any (bytes_eq name) names ≡ true
there_at names name k e = let s = position-Some (bytes_eq name) names k [] e in list_any_at (bytes_eq name) names k [] s.0 s.1

-- a key that is put in, where no other is equal to it
pub names_with : (keys : List (Vec ℕ)) (key : Vec ℕ) → list_any (bytes_eq key.items) (names_in keys) ≡ false
    → names_in (cond (list_any (λ (k : Vec ℕ). bytes_eq key.items k.items) keys) keys (keys ++ key ∷ [])) ≡ names_in keys ++ key.items ∷ []
names_with keys key new =
    ap (λ b. names_in (cond b keys (keys ++ key ∷ []))) (any_map (λ (k : Vec ℕ). k.items) (bytes_eq key.items) keys ∙ new)
    ∙ map-append (λ (k : Vec ℕ). k.items) keys (key ∷ [])

-- ---- groups

pub groups_at : (groups : List (Vec (ℤ × ℤ))) (k : ℕ) (o : Option (Vec (ℤ × ℤ))) → o ≡ slice_get groups k → group_or_none (option_map (λ (g : Vec (ℤ × ℤ)). g.items) o) ≡ group_at (groups_in groups) k
groups_at groups k o e = ap (λ (x : Option (Vec (ℤ × ℤ))). group_or_none (option_map (λ (g : Vec (ℤ × ℤ)). g.items) x)) e ∙ ap group_or_none (sym (slice_get-map (λ (g : Vec (ℤ × ℤ)). g.items) groups k))

pub group_past : (groups : List (Vec (ℤ × ℤ))) (k : ℕ) → length groups ≤ k → group_at (groups_in groups) k ≡ []
group_past groups k past = ap group_or_none (slice_get_past (groups_in groups) k (omega (arith, length-map groups (λ (g : Vec (ℤ × ℤ)). g.items))))

group_same : (groups : List (Vec (ℤ × ℤ))) (i : ℕ) (v : Vec (ℤ × ℤ)) → i < length groups → group_at (groups_in (set groups i v)) i ≡ v.items
group_same [] i v inside = absurd (omega arith)
group_same (g ∷ gs) zero v inside = refl
group_same (g ∷ gs) (suc i) v inside = group_same gs i v (omega arith)

group_other : (groups : List (Vec (ℤ × ℤ))) (i k : ℕ) (v : Vec (ℤ × ℤ)) → i ≢ k → group_at (groups_in (set groups i v)) k ≡ group_at (groups_in groups) k
group_other [] i k v apart = refl
group_other (g ∷ gs) zero zero v apart = absurd (apart refl)
group_other (g ∷ gs) zero (suc k) v apart = refl
group_other (g ∷ gs) (suc i) zero v apart = refl
group_other (g ∷ gs) (suc i) (suc k) v apart = group_other gs i k v (λ e. apart (ap suc e))

-- another group at one place
group_set : (groups : List (Vec (ℤ × ℤ))) (i : ℕ) (v : Vec (ℤ × ℤ)) → i < length groups → (k : ℕ) → group_at (groups_in (set groups i v)) k ≡ cond (eqb i k) v.items (group_at (groups_in groups) k)
group_set groups i v inside k = by (eqb i k) refl
  where
    by : (b : Bool) → eqb i k ≡ b → group_at (groups_in (set groups i v)) k ≡ cond b v.items (group_at (groups_in groups) k)
    by true e = let same : i ≡ k = eqb-true i k e in ap (λ m. group_at (groups_in (set groups i v)) m) (sym same) ∙ group_same groups i v inside
    by false e = group_other groups i k v (λ same. both_ways (eqb i k) e (eq-eqb i k same))

group_read : (groups : List (Vec (ℤ × ℤ))) (i : ℕ) (d : Vec (ℤ × ℤ)) → i < length groups → group_at (groups_in groups) i ≡ (get_or groups i d).items
group_read [] i d inside = absurd (omega arith)
group_read (g ∷ gs) zero d inside = refl
group_read (g ∷ gs) (suc i) d inside = group_read gs i d (omega arith)

-- the groups before the next, and that one
pub empty_more : (groups : List (Vec (ℤ × ℤ))) (i : ℕ) (v : Vec (ℤ × ℤ)) → i < length groups → v.items ≡ [] → ((k : ℕ) → k < i → group_at (groups_in groups) k ≡ [])
    → (k : ℕ) → k < i + 1 → group_at (groups_in (set groups i v)) k ≡ []
empty_more groups i v inside empty before k below = group_set groups i v inside k ∙ ⊎_elim earlier last (cases_lt k i)
  where
    both : (b : Bool) → group_at (groups_in groups) k ≡ [] → cond b v.items (group_at (groups_in groups) k) ≡ []
    both true h = empty
    both false h = h

    earlier : k < i → cond (eqb i k) v.items (group_at (groups_in groups) k) ≡ []
    earlier less = both (eqb i k) (before k less)

    last : i ≤ k → cond (eqb i k) v.items (group_at (groups_in groups) k) ≡ []
    last more = let same : i ≡ k = omega arith in ap (λ b. cond b v.items (group_at (groups_in groups) k)) (eq-eqb i k same) ∙ empty

pub all_empty : (groups : List (Vec (ℤ × ℤ))) (i : ℕ) → length groups ≤ i → ((k : ℕ) → k < i → group_at (groups_in groups) k ≡ []) → (k : ℕ) → group_at (groups_in groups) k ≡ []
all_empty groups i past before k = ⊎_elim (before k) (λ more. group_past groups k (omega arith)) (cases_lt k i)

-- a value behind the others of one group
pub group_put : (groups : List (Vec (ℤ × ℤ))) (i : ℕ) (d v : Vec (ℤ × ℤ)) (value : ℤ × ℤ) → i < length groups → v.items ≡ (get_or groups i d).items ++ value ∷ []
    → (k : ℕ) → group_at (groups_in (set groups i v)) k ≡ cond (eqb i k) (group_at (groups_in groups) k ++ value ∷ []) (group_at (groups_in groups) k)
group_put groups i d v value inside is k = group_set groups i v inside k ∙ by (eqb i k) refl
  where
    by : (b : Bool) → eqb i k ≡ b → cond b v.items (group_at (groups_in groups) k) ≡ cond b (group_at (groups_in groups) k ++ value ∷ []) (group_at (groups_in groups) k)
    by true e = is ∙ ap (λ g. g ++ value ∷ []) (sym (group_read groups i d inside) ∙ ap (λ m. group_at (groups_in groups) m) (eqb-true i k e))
    by false e = refl

module _ (names : List (List ℕ)) (before : Row) (e : Entry) (old : List Group) (are : AreGroups names before old) where
  -- an entry of a name with a number
  pub put_there : (new : List Group) (number : ℕ) → position (bytes_eq e.0) names ≡ Some number → ((k : ℕ) → group_at new k ≡ cond (eqb number k) (group_at old k ++ (e.1, e.2) ∷ []) (group_at old k))
      → AreGroups names (before ++ e ∷ []) new
  put_there new number at put name k is = by (bytes_eq e.0 name) refl
    where
      by : (b : Bool) → bytes_eq e.0 name ≡ b → group_at new k ≡ group_of name (before ++ e ∷ [])
      by true h =
          let same : number ≡ k = some_number number k (sym at ∙ ap (λ n. position (bytes_eq n) names) (same_name e.0 name h) ∙ is) in
          put k
          ∙ ap (λ b. cond b (group_at old k ++ (e.1, e.2) ∷ []) (group_at old k)) (eq-eqb number k same)
          ∙ ap (λ g. g ++ (e.1, e.2) ∷ []) (are name k is)
          ∙ sym (picked_with (λ (entry : Entry). (entry.1, entry.2)) (is_of name) before e true h)
      by false h =
          let other : number ≢ k = λ same. both_ways (bytes_eq e.0 name) h (one_name names e.0 name k (at ∙ ap Some same) is) in
          put k
          ∙ ap (λ b. cond b (group_at old k ++ (e.1, e.2) ∷ []) (group_at old k)) (ne_eqb number k other)
          ∙ are name k is
          ∙ sym (picked_with (λ (entry : Entry). (entry.1, entry.2)) (is_of name) before e false h ∙ append-nil (group_of name before))

  -- an entry of another name
  pub left_out : position (bytes_eq e.0) names ≡ None → AreGroups names (before ++ e ∷ []) old
  left_out none name k is = by (bytes_eq e.0 name) refl
    where
      by : (b : Bool) → bytes_eq e.0 name ≡ b → group_at old k ≡ group_of name (before ++ e ∷ [])
      by true h =
          let no : None ≡ Some k = sym none ∙ ap (λ n. position (bytes_eq n) names) (same_name e.0 name h) ∙ is in
          absurd (none_some k no)
        where
          none_some : (n : ℕ) → None ≡ Some n → ⊥
          none_some n e = cc
      by false h = are name k is ∙ sym (picked_with (λ (entry : Entry). (entry.1, entry.2)) (is_of name) before e false h ∙ append-nil (group_of name before))

-- a value more in one group
pub numbers_with : (old new : List Group) (number : ℕ) (value : ℤ × ℤ) → ((k : ℕ) → group_at new k ≡ cond (eqb number k) (group_at old k ++ value ∷ []) (group_at old k)) → IsValue value.1
    → AreAllNumbers old → AreAllNumbers new
numbers_with old new number value put is all k = subst AreNumbers (sym (put k)) (by (eqb number k))
  where
    by : (b : Bool) → AreNumbers (cond b (group_at old k ++ value ∷ []) (group_at old k))
    by true = All-push (λ (v : ℤ × ℤ). IsValue v.1) (group_at old k) value (all k) is
    by false = all k

-- ---- a group is what a row has of a name

pub numbers_as : (name : List ℕ) (i : ℤ) (row : Row) → numbers_of i (group_of name row) ≡ values_in name i row
numbers_as name i [] = refl
numbers_as name i (e ∷ es) = of (bytes_eq e.0 name) (numbers_as name i es)
  where
    group : Group
    group = group_of name es

    values : List ℤ
    values = values_in name i es

    own : (b : Bool) → numbers_of i group ≡ values → map (λ (v : ℤ × ℤ). v.1) (cond b ((e.1, e.2) ∷ filter (λ (v : ℤ × ℤ). int_eq v.0 i) group) (filter (λ (v : ℤ × ℤ). int_eq v.0 i) group))
        ≡ map (λ (entry : Entry). entry.2) (cond b (e ∷ filter (λ (entry : Entry). bytes_eq entry.0 name && int_eq entry.1 i) es) (filter (λ (entry : Entry). bytes_eq entry.0 name && int_eq entry.1 i) es))
    own true h = ap (λ vs. e.2 ∷ vs) h
    own false h = h

    of : (b : Bool) → numbers_of i group ≡ values → numbers_of i (map (λ (entry : Entry). (entry.1, entry.2)) (cond b (e ∷ filter (is_of name) es) (filter (is_of name) es)))
        ≡ map (λ (entry : Entry). entry.2) (cond (b && int_eq e.1 i) (e ∷ filter (λ (entry : Entry). bytes_eq entry.0 name && int_eq entry.1 i) es) (filter (λ (entry : Entry). bytes_eq entry.0 name && int_eq entry.1 i) es))
    of true h = own (int_eq e.1 i) h
    of false h = h

module _ (t : ℤ → Bool) where
  any_as : (xs : List Entry) → list_any (λ (v : ℤ × ℤ). t v.0) (map (λ (entry : Entry). (entry.1, entry.2)) xs) ≡ list_any t (map (λ (entry : Entry). entry.1) xs)
  any_as [] = refl
  any_as (e ∷ es) = ap (λ b. t e.1 || b) (any_as es)

  all_as : (xs : List Entry) → list_all (λ (v : ℤ × ℤ). t v.0) (map (λ (entry : Entry). (entry.1, entry.2)) xs) ≡ list_all t (map (λ (entry : Entry). entry.1) xs)
  all_as [] = refl
  all_as (e ∷ es) = ap (λ b. t e.1 && b) (all_as es)

  pub quantified_as : (q : Quantifier) (name : List ℕ) (row : Row) → quantified_values q t (group_of name row) ≡ quantified q t (instances_in name row)
  quantified_as quantifiers.Any name row = any_as (filter (is_of name) row)
  quantified_as quantifiers.All name row =
      let picked : List Entry = filter (is_of name) row in
      ap₂ (λ n b. ltb 0 n && b) (length-map picked (λ (entry : Entry). (entry.1, entry.2)) ∙ sym (length-map picked (λ (entry : Entry). entry.1))) (all_as picked)
