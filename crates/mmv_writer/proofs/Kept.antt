-- The keys of rows hold what the rows say, also when a row more stands.
use Rattle.std.proofs.Common.{◌≡◌, ℕ, zero, suc, ◌+◌, ◌<◌, ℤ, Bool, true, false, not, ◌&&◌, ◌||◌, ◌⊎◌, inl, inr, List, [], ◌∷◌, ◌++◌, length, get_or, set, ap, ap₂, sym, subst, ◌∙◌, refl, arith, cond, nat_eq, nat_lt, Option, Some, None, is_some, bytes_eq, Vec, Global}
use Rattle.std.specs.List.{list_any, position, position_or_len, slice_get}
use Rattle.std.specs.Ordering.{nat_cmp, int_cmp, int_eq, is_eq, ordering_then}
use Rattle.std.specs.declared.cmp.Ordering.{Ordering}
use Rattle.std.specs.declared.cmp.Ordering.TheVariants.{Less, Equal, Greater}
use Rattle.std.specs.Option.{option_cmp}
use Rattle.std.specs.BTreeMap.{BTreeMap, get}
use Rattle.std.specs.BTreeSet.{BTreeSet, contains}
use Rattle.std.proofs.lemmas.Bool.{eqb-true}
use Rattle.std.proofs.lemmas.Bool.Decides.{nat_tests}
use Rattle.mmv_layout.specs.declared.rows.IndomRow.{IndomRow}
use Rattle.mmv_layout.specs.declared.rows.MetricRow.{MetricRow}
use Rattle.mmv_layout.specs.declared.rows.ValueRow.{ValueRow}
use Rattle.mmv_writer.proofs.Positions.{Passes, first_passes, get_some, same_row}
use Rattle.mmv_writer.proofs.Firsts.{any_snoc, position_snoc, position_some}
use Rattle.mmv_writer.specs.declared.keys.DomainKeys.{DomainKeys}
use Rattle.mmv_writer.specs.declared.keys.RowKeys.{RowKeys}
use Rattle.mmv_writer.specs.Rules.{has_domain, has_same_instance, has_instance, is_same_metric, fits_instance, fits_kind, fits_metric, fits_some_metric, is_same_number}
use Rattle.mmv_writer.specs.Draft.{Apart, add_instance, empty_draft}
use Rattle.mmv_writer.specs.Keys.{domain_in, place_of, numbers_have, names_have, has_name, is_named, HasDomains, HasItems, HasMetricNames, HasValues, HasKeys, value_order, AddsMember, KeepsAllMembers, fits_domain, IsEmptyDomain, AreNoKeys}
use Rattle.std.proofs.lemmas.Slice.Eq.{bytes_eq-Decides}
use Rattle.mmv_writer.proofs.RowLookups.{at_serial}

-- Positions

pub position_at : {T : Type 0} (test : T → Bool) (xs : List T) (i : ℕ) → position test xs ≡ Some i → (position_or_len test xs ≡ i) × (i < length xs)
position_at test xs i h = here (nat_lt (position_or_len test xs) (length xs)) refl h
  where
    here : (b : Bool) → nat_lt (position_or_len test xs) (length xs) ≡ b → cond b (Some (position_or_len test xs)) None ≡ Some i → (position_or_len test xs ≡ i) × (i < length xs)
    here true e f = let is : position_or_len test xs ≡ i = cc in (is, grind (arith, nat_tests))
    here false e f = cc

pub some_place : (domain : Option DomainKeys) (i : ℕ) → place_of domain ≡ Some i → is_some domain ≡ true
some_place None i h = cc
some_place (Some d) i h = refl

pub place_some : (domain : Option DomainKeys) → is_some (place_of domain) ≡ is_some domain
place_some None = refl
place_some (Some d) = refl

-- the domain with a serial is there where it has keys
pub domain_there : (domains : BTreeMap ℕ DomainKeys) (rows : List IndomRow) (serial : ℕ) → HasDomains domains rows → is_some (place_of (domain_in domains serial)) ≡ has_domain rows serial
domain_there domains rows serial keys = ap is_some (keys.places serial) ∙ position_some (λ row. nat_eq row.serial serial) rows

pub keys_there : (domains : BTreeMap ℕ DomainKeys) (rows : List IndomRow) (serial : ℕ) → HasDomains domains rows → is_some (domain_in domains serial) ≡ has_domain rows serial
keys_there domains rows serial keys = sym (place_some (domain_in domains serial)) ∙ domain_there domains rows serial keys

-- Numbers and names

either_any : {T : Type 0} (p q : T → Bool) (xs : List T) → list_any (λ x. p x || q x) xs ≡ (list_any p xs || list_any q xs)
either_any p q [] = refl
either_any p q (x ∷ xs) = ap (λ b. (p x || q x) || b) (either_any p q xs) ∙ mixed (p x) (q x) (list_any p xs) (list_any q xs)
  where
    mixed : (a b c e : Bool) → ((a || b) || (c || e)) ≡ ((a || c) || (b || e))
    mixed true b c e = refl
    mixed false true true e = refl
    mixed false true false e = refl
    mixed false false c e = refl

pub same_either : (rows : List IndomRow) (serial : ℕ) (id : ℤ) (name : List ℕ) → has_same_instance rows serial (id, name) ≡ (has_instance rows serial id || has_name rows serial name)
same_either [] serial id name = refl
same_either (row ∷ rows) serial id name =
    ap₂ (λ a b. (nat_eq row.serial serial && a) || b) (either_any (λ other. int_eq other.0 id) (λ other. bytes_eq other.1 name) row.instances) (same_either rows serial id name)
    ∙ mixed (nat_eq row.serial serial) (list_any (λ other. int_eq other.0 id) row.instances) (list_any (λ other. bytes_eq other.1 name) row.instances) (has_instance rows serial id) (has_name rows serial name)
  where
    mixed : (s a b c e : Bool) → ((s && (a || b)) || (c || e)) ≡ (((s && a) || c) || ((s && b) || e))
    mixed false a b c e = refl
    mixed true true b c e = refl
    mixed true false true true e = refl
    mixed true false true false e = refl
    mixed true false false c e = refl

-- what the keys say of a number and a name
pub found_same : (domains : BTreeMap ℕ DomainKeys) (rows : List IndomRow) (serial : ℕ) (id : ℤ) (name : List ℕ) → HasDomains domains rows → (numbers_have (domain_in domains serial) id || names_have (domain_in domains serial) name) ≡ has_same_instance rows serial (id, name)
found_same domains rows serial id name keys = ap₂ (λ a b. a || b) (keys.numbers serial id) (keys.names serial name) ∙ sym (same_either rows serial id name)

pub number_absent : (domains : BTreeMap ℕ DomainKeys) (rows : List IndomRow) (serial : ℕ) (instance : ℤ × List ℕ) → HasDomains domains rows → has_same_instance rows serial instance ≡ false → numbers_have (domain_in domains serial) instance.0 ≡ false
number_absent domains rows serial instance keys h = keys.numbers serial instance.0 ∙ first _ _ (sym (same_either rows serial instance.0 instance.1) ∙ h)
  where
    first : (a b : Bool) → (a || b) ≡ false → a ≡ false
    first true b h = cc
    first false b h = refl

-- One instance more

-- the row at the first position takes the instance
pub grown_at : (rows : List IndomRow) (serial : ℕ) (instance : ℤ × List ℕ) (i : ℕ) (d : IndomRow) → position_or_len (λ row. nat_eq row.serial serial) rows ≡ i → i < length rows
    → set rows i (record (get_or rows i d) { instances = (get_or rows i d).instances ++ instance ∷ [] }) ≡ add_instance rows serial instance
unfolding add_instance
grown_at [] serial instance i d is below = absurd (omega arith)
grown_at (row ∷ rows) serial instance i d is below = here (nat_eq row.serial serial) i (λ j e l. grown_at rows serial instance j d e l) is below
  where
    here : (b : Bool) (i : ℕ) → ((j : ℕ) → position_or_len (λ row. nat_eq row.serial serial) rows ≡ j → j < length rows → set rows j (record (get_or rows j d) { instances = (get_or rows j d).instances ++ instance ∷ [] }) ≡ add_instance rows serial instance)
        → cond (not b) (1 + position_or_len (λ row. nat_eq row.serial serial) rows) 0 ≡ i → i < length (row ∷ rows)
        → set (row ∷ rows) i (record (get_or (row ∷ rows) i d) { instances = (get_or (row ∷ rows) i d).instances ++ instance ∷ [] }) ≡ cond b (record row { instances = row.instances ++ instance ∷ [] } ∷ rows) (row ∷ add_instance rows serial instance)
    here true zero again is below = refl
    here true (suc i) again is below = absurd (omega arith)
    here false zero again is below = absurd (omega arith)
    here false (suc i) again is below = ap (λ r. row ∷ r) (again i (omega arith) (omega arith))

-- without a domain of this serial nothing grows
pub not_grown : (rows : List IndomRow) (serial : ℕ) (instance : ℤ × List ℕ) → has_domain rows serial ≡ false → add_instance rows serial instance ≡ rows
unfolding add_instance
not_grown [] serial instance h = refl
not_grown (row ∷ rows) serial instance h = here (nat_eq row.serial serial) (not_grown rows serial instance) h
  where
    here : (b : Bool) → (has_domain rows serial ≡ false → add_instance rows serial instance ≡ rows) → (b || has_domain rows serial) ≡ false → cond b (record row { instances = row.instances ++ instance ∷ [] } ∷ rows) (row ∷ add_instance rows serial instance) ≡ row ∷ rows
    here true again h = cc
    here false again h = ap (λ r. row ∷ r) (again h)

any_added : (p : ℤ × List ℕ → Bool) (rows : List IndomRow) (serial : ℕ) (instance : ℤ × List ℕ) (s : ℕ) → has_domain rows serial ≡ true
    → list_any (λ row. nat_eq row.serial s && list_any p row.instances) (add_instance rows serial instance) ≡ ((nat_eq serial s && p instance) || list_any (λ row. nat_eq row.serial s && list_any p row.instances) rows)
unfolding add_instance
any_added p [] serial instance s h = cc
any_added p (row ∷ rows) serial instance s h = here (nat_eq row.serial serial) refl (any_added p rows serial instance s) h
  where
    rest : Bool
    rest = list_any (λ row. nat_eq row.serial s && list_any p row.instances) rows

    grown : (e a b c : Bool) → ((e && (a || b)) || c) ≡ ((e && b) || ((e && a) || c))
    grown false a b c = refl
    grown true true true c = refl
    grown true true false c = refl
    grown true false true c = refl
    grown true false false c = refl

    later : (a b c : Bool) → (a || (b || c)) ≡ (b || (a || c))
    later true true c = refl
    later true false c = refl
    later false b c = refl

    here : (b : Bool) → nat_eq row.serial serial ≡ b → (has_domain rows serial ≡ true → list_any (λ row. nat_eq row.serial s && list_any p row.instances) (add_instance rows serial instance) ≡ ((nat_eq serial s && p instance) || rest)) → (b || has_domain rows serial) ≡ true
        → list_any (λ row. nat_eq row.serial s && list_any p row.instances) (cond b (record row { instances = row.instances ++ instance ∷ [] } ∷ rows) (row ∷ add_instance rows serial instance)) ≡ ((nat_eq serial s && p instance) || ((nat_eq row.serial s && list_any p row.instances) || rest))
    here true e again h =
        ap (λ b. (nat_eq row.serial s && b) || rest) (any_snoc p row.instances instance)
        ∙ grown (nat_eq row.serial s) (list_any p row.instances) (p instance) rest
        ∙ ap (λ n. (nat_eq n s && p instance) || ((nat_eq row.serial s && list_any p row.instances) || rest)) (eqb-true row.serial serial e)
    here false e again h =
        ap (λ b. (nat_eq row.serial s && list_any p row.instances) || b) (again h)
        ∙ later (nat_eq row.serial s && list_any p row.instances) (nat_eq serial s && p instance) rest

places_stay : (rows : List IndomRow) (serial : ℕ) (instance : ℤ × List ℕ) (s : ℕ) → (position_or_len (λ row. nat_eq row.serial s) (add_instance rows serial instance) ≡ position_or_len (λ row. nat_eq row.serial s) rows) × (length (add_instance rows serial instance) ≡ length rows)
unfolding add_instance
places_stay [] serial instance s = (refl, refl)
places_stay (row ∷ rows) serial instance s = here (nat_eq row.serial serial) (places_stay rows serial instance s)
  where
    here : (b : Bool) → (position_or_len (λ row. nat_eq row.serial s) (add_instance rows serial instance) ≡ position_or_len (λ row. nat_eq row.serial s) rows) × (length (add_instance rows serial instance) ≡ length rows)
        → (position_or_len (λ row. nat_eq row.serial s) (cond b (record row { instances = row.instances ++ instance ∷ [] } ∷ rows) (row ∷ add_instance rows serial instance)) ≡ position_or_len (λ row. nat_eq row.serial s) (row ∷ rows))
        × (length (cond b (record row { instances = row.instances ++ instance ∷ [] } ∷ rows) (row ∷ add_instance rows serial instance)) ≡ length (row ∷ rows))
    here true again = (refl, refl)
    here false (at, long) = (ap (λ n. cond (not (nat_eq row.serial s)) (1 + n) 0) at, ap suc long)

place_stays : (rows : List IndomRow) (serial : ℕ) (instance : ℤ × List ℕ) (s : ℕ) → position (λ row. nat_eq row.serial s) (add_instance rows serial instance) ≡ position (λ row. nat_eq row.serial s) rows
place_stays rows serial instance s = let stay = places_stay rows serial instance s in ap₂ (λ n l. cond (nat_lt n l) (Some n) None) stay.0 stay.1

pub member_kept : (old new : BTreeMap ℕ DomainKeys) (rows : List IndomRow) (serial : ℕ) (instance : ℤ × List ℕ) → HasDomains old rows → has_domain rows serial ≡ true → AddsMember serial instance.0 instance.1 old new → HasDomains new (add_instance rows serial instance)
member_kept old new rows serial instance keys there adds = record {
  places = λ s. adds.places s ∙ keys.places s ∙ sym (place_stays rows serial instance s);
  numbers = λ s q. adds.numbers s q ∙ ap (λ b. (nat_eq serial s && int_eq instance.0 q) || b) (keys.numbers s q) ∙ sym (any_added (λ other. int_eq other.0 q) rows serial instance s there);
  names = λ s q. adds.names s q ∙ ap₂ (λ a b. (nat_eq serial s && a) || b) (turned q instance.1) (keys.names s q) ∙ sym (any_added (λ other. bytes_eq other.1 q) rows serial instance s there);
}
  where
    equal_turned : (a b : ℕ) → nat_eq a b ≡ nat_eq b a
    equal_turned a b = grind (arith, nat_tests)

    turned : (xs ys : List ℕ) → bytes_eq xs ys ≡ bytes_eq ys xs
    turned [] [] = refl
    turned [] (y ∷ ys) = refl
    turned (x ∷ xs) [] = refl
    turned (x ∷ xs) (y ∷ ys) = ap₂ (λ a b. a && b) (equal_turned x y) (turned xs ys)

-- the same where the row at the first position was changed
pub grown_keys : (old new : BTreeMap ℕ DomainKeys) (rows : List IndomRow) (serial : ℕ) (instance : ℤ × List ℕ) (name : List ℕ) (i : ℕ) (d : IndomRow) (members : List (ℤ × List ℕ)) → HasDomains old rows → position (λ row. nat_eq row.serial serial) rows ≡ Some i → name ≡ instance.1
    → members ≡ (get_or rows i d).instances ++ instance ∷ [] → AddsMember serial instance.0 name old new → HasDomains new (set rows i (record (get_or rows i d) { instances = members }))
grown_keys old new rows serial instance name i d members keys place named more adds =
    let at = position_at (λ row. nat_eq row.serial serial) rows i place in
    let there : has_domain rows serial ≡ true = sym (position_some (λ row. nat_eq row.serial serial) rows) ∙ ap is_some place in
    subst (HasDomains new) (sym (ap (λ xs. set rows i (record (get_or rows i d) { instances = xs })) more ∙ grown_at rows serial instance i d at.0 at.1))
    (member_kept old new rows serial instance keys there (subst (λ n. AddsMember serial instance.0 n old new) named adds))

pub member_refused : (old new : BTreeMap ℕ DomainKeys) (rows : List IndomRow) → HasDomains old rows → KeepsAllMembers old new → HasDomains new rows
member_refused old new rows keys held = record {
  places = λ s. held.places s ∙ keys.places s;
  numbers = λ s q. held.numbers s q ∙ keys.numbers s q;
  names = λ s q. held.names s q ∙ keys.names s q;
}

-- One domain more

pub domain_kept : (old new : BTreeMap ℕ DomainKeys) (rows : List IndomRow) (row : IndomRow) (domain : DomainKeys) → HasDomains old rows → row.instances ≡ [] → has_domain rows row.serial ≡ false → IsEmptyDomain (length rows) domain
    → ((s : ℕ) → domain_in new s ≡ cond (is_eq (nat_cmp row.serial s)) (Some domain) (domain_in old s)) → HasDomains new (rows ++ row ∷ [])
domain_kept old new rows row domain keys none absent empty after = record {
  places = λ s. ap place_of (changed s) ∙ place s (nat_eq row.serial s) refl ∙ sym (position_snoc (λ r. nat_eq r.serial s) rows row);
  numbers = λ s q. ap (λ d. numbers_have d q) (changed s) ∙ number s q (nat_eq row.serial s) refl ∙ sym (any_snoc (λ r. nat_eq r.serial s && list_any (λ other. int_eq other.0 q) r.instances) rows row ∙ ap (λ b. has_instance rows s q || b) (nothing s (λ other. int_eq other.0 q)));
  names = λ s q. ap (λ d. names_have d q) (changed s) ∙ text s q (nat_eq row.serial s) refl ∙ sym (any_snoc (λ r. nat_eq r.serial s && list_any (λ other. bytes_eq other.1 q) r.instances) rows row ∙ ap (λ b. has_name rows s q || b) (nothing s (λ other. bytes_eq other.1 q)));
}
  where
    changed : (s : ℕ) → domain_in new s ≡ cond (nat_eq row.serial s) (Some domain) (domain_in old s)
    changed s = after s ∙ ap (λ b. cond b (Some domain) (domain_in old s)) (at_serial row.serial s)

    and_none : (b : Bool) → (b && false) ≡ false
    and_none true = refl
    and_none false = refl

    or_none : (b : Bool) → b ≡ (b || false)
    or_none true = refl
    or_none false = refl

    nothing : (s : ℕ) (p : ℤ × List ℕ → Bool) → (nat_eq row.serial s && list_any p row.instances) ≡ false
    nothing s p = ap (λ xs. nat_eq row.serial s && list_any p xs) none ∙ and_none (nat_eq row.serial s)

    none_there : (s : ℕ) → nat_eq row.serial s ≡ true → has_domain rows s ≡ false
    none_there s e = ap (has_domain rows) (sym (eqb-true row.serial s e)) ∙ absent

    no_keys : (s : ℕ) → nat_eq row.serial s ≡ true → domain_in old s ≡ None
    no_keys s e = gone (domain_in old s) (sym (place_some (domain_in old s)) ∙ domain_there old rows s keys ∙ none_there s e)
      where
        gone : (d : Option DomainKeys) → is_some d ≡ false → d ≡ None
        gone None h = refl
        gone (Some d) h = cc

    place : (s : ℕ) (b : Bool) → nat_eq row.serial s ≡ b → place_of (cond b (Some domain) (domain_in old s)) ≡ cond (has_domain rows s) (position (λ r. nat_eq r.serial s) rows) (cond b (Some (length rows)) None)
    place s true e = ap Some empty.place ∙ ap (λ b. cond b (position (λ r. nat_eq r.serial s) rows) (Some (length rows))) (sym (none_there s e))
    place s false e = keys.places s ∙ kept (has_domain rows s) refl
      where
        gone : (p : Option ℕ) → is_some p ≡ false → p ≡ None
        gone None h = refl
        gone (Some p) h = cc

        kept : (b : Bool) → has_domain rows s ≡ b → position (λ r. nat_eq r.serial s) rows ≡ cond b (position (λ r. nat_eq r.serial s) rows) None
        kept true f = refl
        kept false f = gone (position (λ r. nat_eq r.serial s) rows) (position_some (λ r. nat_eq r.serial s) rows ∙ f)

    number : (s : ℕ) (q : ℤ) (b : Bool) → nat_eq row.serial s ≡ b → numbers_have (cond b (Some domain) (domain_in old s)) q ≡ (has_instance rows s q || false)
    number s q true e = empty.numbers q ∙ ap (λ d. numbers_have d q) (sym (no_keys s e)) ∙ keys.numbers s q ∙ or_none (has_instance rows s q)
    number s q false e = keys.numbers s q ∙ or_none (has_instance rows s q)

    text : (s : ℕ) (q : List ℕ) (b : Bool) → nat_eq row.serial s ≡ b → names_have (cond b (Some domain) (domain_in old s)) q ≡ (has_name rows s q || false)
    text s q true e = empty.names q ∙ ap (λ d. names_have d q) (sym (no_keys s e)) ∙ keys.names s q ∙ or_none (has_name rows s q)
    text s q false e = keys.names s q ∙ or_none (has_name rows s q)

-- One metric more

item_apart : (rows : List MetricRow) (row : MetricRow) → list_any (λ other. is_same_metric other row) rows ≡ false → list_any (λ other. nat_eq other.item row.item) rows ≡ false
item_apart [] row h = refl
item_apart (x ∷ rows) row h = here (nat_eq x.item row.item) (bytes_eq x.name row.name) (item_apart rows row) h
  where
    here : (a b : Bool) → (list_any (λ other. is_same_metric other row) rows ≡ false → list_any (λ other. nat_eq other.item row.item) rows ≡ false) → ((a || b) || list_any (λ other. is_same_metric other row) rows) ≡ false → (a || list_any (λ other. nat_eq other.item row.item) rows) ≡ false
    here true b again h = cc
    here false true again h = cc
    here false false again h = again h

pub metric_kept : (old new : BTreeMap ℕ ℕ) (rows : List MetricRow) (row : MetricRow) → HasItems old rows → list_any (λ other. is_same_metric other row) rows ≡ false
    → ((i : ℕ) → get nat_cmp new i ≡ cond (is_eq (nat_cmp row.item i)) (Some (length rows)) (get nat_cmp old i)) → HasItems new (rows ++ row ∷ [])
metric_kept old new rows row keys apart after i =
    after i ∙ ap (λ b. cond b (Some (length rows)) (get nat_cmp old i)) (at_serial row.item i) ∙ here (nat_eq row.item i) refl ∙ sym (position_snoc (λ m. nat_eq m.item i) rows row)
  where
    gone : (p : Option ℕ) → is_some p ≡ false → p ≡ None
    gone None h = refl
    gone (Some p) h = cc

    none_there : nat_eq row.item i ≡ true → list_any (λ m. nat_eq m.item i) rows ≡ false
    none_there e = ap (λ n. list_any (λ m. nat_eq m.item n) rows) (sym (eqb-true row.item i e)) ∙ item_apart rows row apart

    kept : (b : Bool) → list_any (λ m. nat_eq m.item i) rows ≡ b → position (λ m. nat_eq m.item i) rows ≡ cond b (position (λ m. nat_eq m.item i) rows) None
    kept true f = refl
    kept false f = gone (position (λ m. nat_eq m.item i) rows) (position_some (λ m. nat_eq m.item i) rows ∙ f)

    here : (b : Bool) → nat_eq row.item i ≡ b → cond b (Some (length rows)) (get nat_cmp old i) ≡ cond (list_any (λ m. nat_eq m.item i) rows) (position (λ m. nat_eq m.item i) rows) (cond b (Some (length rows)) None)
    here true e = ap (λ b. cond b (position (λ m. nat_eq m.item i) rows) (Some (length rows))) (sym (none_there e))
    here false e = keys i ∙ kept (list_any (λ m. nat_eq m.item i) rows) refl

-- what the keys say of an item and a name
pub metric_said : (items : BTreeMap ℕ ℕ) (names : BTreeSet (Vec ℕ Global)) (rows : List MetricRow) (row : MetricRow) → HasItems items rows → HasMetricNames names rows → (is_some (get nat_cmp items row.item) || is_named names row.name) ≡ list_any (λ other. is_same_metric other row) rows
metric_said items names rows row keys named =
    ap₂ (λ a b. a || b) (ap is_some (keys row.item) ∙ position_some (λ m. nat_eq m.item row.item) rows) (named row.name)
    ∙ sym (either_any (λ m. nat_eq m.item row.item) (λ m. bytes_eq m.name row.name) rows)

-- an item that was put in and taken out
pub item_back : (old mid new : BTreeMap ℕ ℕ) (rows : List MetricRow) (row : MetricRow) (n : ℕ) → HasItems old rows → list_any (λ other. is_same_metric other row) rows ≡ false
    → ((i : ℕ) → get nat_cmp mid i ≡ cond (is_eq (nat_cmp row.item i)) (Some n) (get nat_cmp old i)) → ((i : ℕ) → get nat_cmp new i ≡ cond (is_eq (nat_cmp row.item i)) None (get nat_cmp mid i)) → HasItems new rows
item_back old mid new rows row n keys apart put taken i =
    taken i ∙ ap (cond (is_eq (nat_cmp row.item i)) None) (put i) ∙ ap (λ b. cond b None (cond b (Some n) (get nat_cmp old i))) (at_serial row.item i) ∙ here (nat_eq row.item i) refl
  where
    gone : (p : Option ℕ) → is_some p ≡ false → None ≡ p
    gone None h = refl
    gone (Some p) h = cc

    here : (b : Bool) → nat_eq row.item i ≡ b → cond b None (cond b (Some n) (get nat_cmp old i)) ≡ position (λ m. nat_eq m.item i) rows
    here true e =
        gone (position (λ m. nat_eq m.item i) rows)
        (position_some (λ m. nat_eq m.item i) rows ∙ ap (λ k. list_any (λ m. nat_eq m.item k) rows) (sym (eqb-true row.item i e)) ∙ item_apart rows row apart)
    here false e = keys i

-- one name more
pub names_kept : (old new : BTreeSet (Vec ℕ Global)) (rows : List MetricRow) (row : MetricRow) → HasMetricNames old rows → ((q : List ℕ) → is_named new q ≡ (bytes_eq q row.name || is_named old q)) → HasMetricNames new (rows ++ row ∷ [])
names_kept old new rows row keys after q =
    after q ∙ ap₂ (λ a b. a || b) (turned q row.name) (keys q) ∙ swapped (bytes_eq row.name q) (list_any (λ m. bytes_eq m.name q) rows)
    ∙ sym (any_snoc (λ m. bytes_eq m.name q) rows row)
  where
    swapped : (a b : Bool) → (a || b) ≡ (b || a)
    swapped true true = refl
    swapped true false = refl
    swapped false true = refl
    swapped false false = refl

    turned : (xs ys : List ℕ) → bytes_eq xs ys ≡ bytes_eq ys xs
    turned xs ys = either (bytes_eq xs ys) (bytes_eq ys xs) (λ e. (bytes_eq-Decides ys xs).1 (sym ((bytes_eq-Decides xs ys).0 e))) (λ e. (bytes_eq-Decides xs ys).1 (sym ((bytes_eq-Decides ys xs).0 e)))
      where
        either : (a b : Bool) → (a ≡ true → b ≡ true) → (b ≡ true → a ≡ true) → a ≡ b
        either true b f g = sym (f refl)
        either false true f g = g refl
        either false false f g = refl

-- One value more

then_equal : (a b : Ordering) → is_eq (ordering_then a b) ≡ (is_eq a && is_eq b)
then_equal Less b = refl
then_equal Equal b = refl
then_equal Greater b = refl

number_equal : (a b : Option ℤ) → is_eq (option_cmp int_cmp a b) ≡ is_same_number a b
number_equal None None = refl
number_equal None (Some b) = refl
number_equal (Some a) None = refl
number_equal (Some a) (Some b) = refl

pub value_kept : (old new : BTreeSet (ℕ × Option ℤ)) (rows : List ValueRow) (row : ValueRow) → HasValues old rows
    → ((q : ℕ × Option ℤ) → contains value_order new q ≡ cond (is_eq (value_order (row.item, row.instance) q)) true (contains value_order old q)) → HasValues new (rows ++ row ∷ [])
value_kept old new rows row keys after item number =
    after (item, number)
    ∙ ap₂ (λ a b. cond a true b) (then_equal (nat_cmp row.item item) (option_cmp int_cmp row.instance number) ∙ ap₂ (λ a b. a && b) (at_serial row.item item) (number_equal row.instance number)) (keys item number)
    ∙ either (nat_eq row.item item && is_same_number row.instance number) (list_any (λ r. nat_eq r.item item && is_same_number r.instance number) rows)
    ∙ sym (any_snoc (λ r. nat_eq r.item item && is_same_number r.instance number) rows row)
  where
    either : (a b : Bool) → cond a true b ≡ (b || a)
    either true true = refl
    either true false = refl
    either false true = refl
    either false false = refl

-- The metric of a value

none_any : {T : Type 0} (test : T → Bool) (xs : List T) → ((j : ℕ) (y : T) → slice_get xs j ≡ Some y → test y ≡ false) → list_any test xs ≡ false
none_any test [] h = refl
none_any test (x ∷ xs) h = ap₂ (λ a b. a || b) (h 0 x refl) (none_any test xs (λ j y at. h (suc j) y at))

-- where no other row passes, some one passes exactly if this one does
any_only : {T : Type 0} (test : T → Bool) (xs : List T) (i : ℕ) (x : T) → slice_get xs i ≡ Some x → ((j : ℕ) (y : T) → (j < i) ⊎ (i < j) → slice_get xs j ≡ Some y → test y ≡ false) → list_any test xs ≡ test x
any_only test [] i x at others = cc
any_only test (y ∷ xs) zero x at others =
    let same : y ≡ x = cc in
    ap₂ (λ a b. a || b) (ap test same) (none_any test xs (λ j z h. others (suc j) z (inr (omega arith)) h)) ∙ end (test x)
  where
    end : (b : Bool) → (b || false) ≡ b
    end true = refl
    end false = refl
any_only test (y ∷ xs) (suc i) x at others =
    ap₂ (λ a b. a || b) (others 0 y (inl (omega arith)) refl)
    (any_only test xs i x at (λ j z side h. others (suc j) z (moved j i side) h))
  where
    moved : (j i : ℕ) → (j < i) ⊎ (i < j) → (suc j < suc i) ⊎ (suc i < suc j)
    moved j i (inl h) = inl (omega arith)
    moved j i (inr h) = inr (omega arith)

pub found_metric : (indoms : List IndomRow) (metrics : List MetricRow) (row : ValueRow) (i : ℕ) (m : MetricRow) → Apart is_same_metric metrics → m.item ≡ row.item → slice_get metrics i ≡ Some m → fits_some_metric indoms metrics row ≡ fits_metric indoms row m
found_metric indoms metrics row i m apart item at = any_only (λ x. fits_metric indoms row x) metrics i m at others
  where
    not_both : (a b c : Bool) → (a || b) ≡ false → (a && c) ≡ false
    not_both true b c h = cc
    not_both false b c h = refl

    turned : (a b : ℕ) → nat_eq a b ≡ nat_eq b a
    turned a b = grind (arith, nat_tests)

    others : (j : ℕ) (y : MetricRow) → (j < i) ⊎ (i < j) → slice_get metrics j ≡ Some y → fits_metric indoms row y ≡ false
    others j y (inl h) there =
        not_both (nat_eq y.item row.item) (bytes_eq y.name m.name) (fits_instance indoms y.serial row.instance && fits_kind y.kind row.content)
        (ap (λ n. nat_eq y.item n || bytes_eq y.name m.name) (sym item) ∙ apart j i y m h there at)
    others j y (inr h) there =
        not_both (nat_eq y.item row.item) (bytes_eq m.name y.name) (fits_instance indoms y.serial row.instance && fits_kind y.kind row.content)
        (ap (λ b. b || bytes_eq m.name y.name) (ap (nat_eq y.item) (sym item) ∙ turned y.item m.item) ∙ apart i j m y h at there)

-- the row at the first position with the item is the metric
pub one_metric : (indoms : List IndomRow) (metrics : List MetricRow) (row : ValueRow) (i : ℕ) (m : MetricRow) → Apart is_same_metric metrics → position (λ x. nat_eq x.item row.item) metrics ≡ Some i → slice_get metrics i ≡ Some m → fits_some_metric indoms metrics row ≡ fits_metric indoms row m
one_metric indoms metrics row i m apart place at =
    let first = position_at (λ x. nat_eq x.item row.item) metrics i place in
    let there : list_any (λ x. nat_eq x.item row.item) metrics ≡ true = sym (position_some (λ x. nat_eq x.item row.item) metrics) ∙ ap is_some place in
    let p : Passes metrics (position_or_len (λ x. nat_eq x.item row.item) metrics) (λ x. nat_eq x.item row.item) = first_passes (λ x. nat_eq x.item row.item) metrics there in
    let same : p.row ≡ m = same_row metrics i p.row m (ap (slice_get metrics) (sym first.0) ∙ p.at) at in
    found_metric indoms metrics row i m apart (sym (ap (λ (x : MetricRow). x.item) same) ∙ eqb-true p.row.item row.item p.is) at

-- a row stands at the first position
pub row_there : (metrics : List MetricRow) (row : ValueRow) (i : ℕ) → position (λ x. nat_eq x.item row.item) metrics ≡ Some i → slice_get metrics i ≡ None → ⊥
row_there metrics row i place none =
    let there = get_some metrics i (position_at (λ x. nat_eq x.item row.item) metrics i place).1 in
    let wrong : Some there.0 ≡ None = sym there.1 ∙ none in
    cc

pub no_metric : (indoms : List IndomRow) (metrics : List MetricRow) (row : ValueRow) → list_any (λ m. nat_eq m.item row.item) metrics ≡ false → fits_some_metric indoms metrics row ≡ false
no_metric indoms [] row h = refl
no_metric indoms (m ∷ metrics) row h = here (nat_eq m.item row.item) (fits_instance indoms m.serial row.instance && fits_kind m.kind row.content) (no_metric indoms metrics row) h
  where
    here : (a b : Bool) → (list_any (λ m. nat_eq m.item row.item) metrics ≡ false → fits_some_metric indoms metrics row ≡ false) → (a || list_any (λ m. nat_eq m.item row.item) metrics) ≡ false → ((a && b) || fits_some_metric indoms metrics row) ≡ false
    here true b again h = cc
    here false b again h = again h

pub domain_fits : (domains : BTreeMap ℕ DomainKeys) (rows : List IndomRow) (serial : Option ℕ) (number : Option ℤ) → HasDomains domains rows → fits_domain domains serial number ≡ fits_instance rows serial number
domain_fits domains rows None None keys = refl
domain_fits domains rows None (Some id) keys = refl
domain_fits domains rows (Some serial) None keys = refl
domain_fits domains rows (Some serial) (Some id) keys = keys.numbers serial id

-- No row

pub nothing_kept : (keys : RowKeys) (version generation flags pid cluster : ℕ) → AreNoKeys keys → HasKeys keys (empty_draft version generation flags pid cluster)
unfolding empty_draft
nothing_kept keys version generation flags pid cluster none = record {
  domains = record {
    places = λ s. ap place_of (none.domains s);
    numbers = λ s q. ap (λ d. numbers_have d q) (none.domains s);
    names = λ s q. ap (λ d. names_have d q) (none.domains s);
  };
  items = none.items;
  names = none.names;
  values = none.values;
}
