-- Entries of a row that come one behind another, of those with one key the first alone.
use Rattle.std.proofs.Common.{◌≡◌, ℕ, ◌+◌, ◌<◌, ◌≤◌, ℤ, Bool, true, false, ◌||◌, if◌then◌else◌, List, [], ◌∷◌, ◌++◌, length, drop, get_or, map, fold, refl, sym, ap, ◌∙◌, subst, append_assoc, append-nil, Option, Some, None}
use Rattle.std.specs.Prelude.{bytes_eq}
use Rattle.std.specs.List.{filter, list_any, flat_map}
use Rattle.std.specs.Ordering.{int_eq}
use Rattle.std.specs.Global.{Vec}
use Rattle.std.proofs.lemmas.Bool.{both_ways}
use Rattle.std.proofs.lemmas.List.{drop_all, drop_more, map-append}
use Rattle.std.proofs.lemmas.List.Concat.{flat_map-append}
use Rattle.std.proofs.lemmas.Slice.Eq.{bytes_eq-Decides}
use Rattle.archive_meta.specs.Said.{description_of, desc_of}
use Rattle.log_summary.specs.Values.{code_in}
use Rattle.pcp_base.specs.declared.result.ValueSet.{ValueSet}
use Rattle.pcp_model.specs.declared.records.MetaRecord.{MetaRecord}
use Rattle.rule_watch.specs.Rows.{Entry, Row}
use Rattle.pm_tasks.specs.Rows.{entries_with, entry, firsts, first_name, if_watched, instances_with, named, names_with, numbers_of, row_of, row_with, set_entries, under_name, watched_name, with_first, with_instance, with_name, with_new}

-- the item at an index is the next of those left
pub next_item : {X : Type 0} (xs : List X) (i : ℕ) (x : X) → i < length xs → x ≡ get_or xs i x → drop i xs ≡ x ∷ drop (i + 1) xs
next_item xs i x below is = drop_more xs i x below ∙ ap (λ y. y ∷ drop (i + 1) xs) (sym is)

any_key : {K X : Type 0} (test : K → Bool) (kept : List (K × X)) → list_any test (map (λ (k : K × X). k.0) kept) ≡ list_any (λ (k : K × X). test k.0) kept
any_key test [] = refl
any_key test (k ∷ kept) = ap (λ b. test k.0 || b) (any_key test kept)

-- ---- the numbers of a set

abbrev keys : List (ℤ × ℤ) → List ℤ
keys kept = map (λ (k : ℤ × ℤ). k.0) kept

instances_step : (i : ℤ) (o : Option ℤ) (kept : List (ℤ × ℤ)) → instances_with i o (keys kept) ≡ keys (with_new int_eq kept (with_instance i o))
instances_step i None kept = refl
instances_step i (Some n) kept = ap (λ b. if b then keys kept else keys kept ++ i ∷ []) (any_key (int_eq i) kept) ∙ by (list_any (λ (k : ℤ × ℤ). int_eq i k.0) kept)
  where
    by : (b : Bool) → (if b then keys kept else keys kept ++ i ∷ []) ≡ keys (if b then kept else kept ++ (i, n) ∷ [])
    by true = refl
    by false = sym (map-append (λ (k : ℤ × ℤ). k.0) kept ((i, n) ∷ []))

entries_step : (before : Row) (name : List ℕ) (i : ℤ) (o : Option ℤ) (kept : List (ℤ × ℤ))
    → entries_with name (keys kept) i o (before ++ map (entry name) kept) ≡ before ++ map (entry name) (with_new int_eq kept (with_instance i o))
entries_step before name i None kept = refl
entries_step before name i (Some n) kept = ap (λ b. if b then row else row ++ (name, i, n) ∷ []) (any_key (int_eq i) kept) ∙ by (list_any (λ (k : ℤ × ℤ). int_eq i k.0) kept)
  where
    row : Row
    row = before ++ map (entry name) kept

    by : (b : Bool) → (if b then row else row ++ (name, i, n) ∷ []) ≡ before ++ map (entry name) (if b then kept else kept ++ (i, n) ∷ [])
    by true = refl
    by false = append_assoc before (map (entry name) kept) ((name, i, n) ∷ []) ∙ ap (λ (r : Row). before ++ r) (sym (map-append (entry name) kept ((i, n) ∷ [])))

-- of these values of a set the numbers so far are put, and those left are to come
pub record Putting {A : Type 0} (pair : A → Option (ℤ × ℤ)) (before : Row) (name : List ℕ) (all left : List A) (seen : List ℤ) (row : Row) : Type 0 where
  pub kept : List (ℤ × ℤ)
  pub seen_is : seen ≡ keys kept
  pub row_is : row ≡ before ++ map (entry name) kept
  pub goes : fold (with_first int_eq pair) kept left ≡ firsts int_eq pair all

module _ {A : Type 0} (pair : A → Option (ℤ × ℤ)) (before : Row) (name : List ℕ) (all : List A) where
  pub putting_begins : (seen : List ℤ) → seen ≡ [] → Putting pair before name all (drop 0 all) seen before
  putting_begins seen none = record { kept = []; seen_is = none; row_is = sym (append-nil before); goes = refl }

  putting_next : (x : A) (left : List A) (i : ℤ) (o : Option ℤ) (seen : List ℤ) (row : Row) → pair x ≡ with_instance i o → Putting pair before name all (x ∷ left) seen row
      → Putting pair before name all left (instances_with i o seen) (entries_with name seen i o row)
  putting_next x left i o seen row is g = record {
    kept = with_new int_eq g.kept (pair x);
    seen_is = ap (instances_with i o) g.seen_is ∙ instances_step i o g.kept ∙ ap (λ (p : Option (ℤ × ℤ)). keys (with_new int_eq g.kept p)) (sym is);
    row_is = (λ j. entries_with name (g.seen_is j) i o (g.row_is j)) ∙ entries_step before name i o g.kept ∙ ap (λ (p : Option (ℤ × ℤ)). before ++ map (entry name) (with_new int_eq g.kept p)) (sym is);
    goes = g.goes;
  }

  pub putting_on : (at : ℕ) (x : A) (i : ℤ) (o : Option ℤ) (seen later : List ℤ) (row next : Row) → at < length all → x ≡ get_or all at x → pair x ≡ with_instance i o → later ≡ instances_with i o seen → next ≡ entries_with name seen i o row
      → Putting pair before name all (drop at all) seen row → Putting pair before name all (drop (at + 1) all) later next
  putting_on at x i o seen later row next below here is seen_is row_is g =
      subst (λ (s : List ℤ). Putting pair before name all (drop (at + 1) all) s next) (sym seen_is)
      (subst (λ (r : Row). Putting pair before name all (drop (at + 1) all) (instances_with i o seen) r) (sym row_is)
      (putting_next x (drop (at + 1) all) i o seen row is (subst (λ (left : List A). Putting pair before name all left seen row) (next_item all at x below here) g)))

  pub putting_ends : (at : ℕ) (seen : List ℤ) (row : Row) → length all ≤ at → Putting pair before name all (drop at all) seen row → row ≡ before ++ map (entry name) (firsts int_eq pair all)
  putting_ends at seen row past g = g.row_is ∙ ap (λ (kept : List (ℤ × ℤ)). before ++ map (entry name) kept) (ap (λ (left : List A). fold (with_first int_eq pair) g.kept left) (sym (drop_all at all past)) ∙ g.goes)

-- ---- the sets of a sample

abbrev names_of_sets : List (List ℕ × ValueSet) → List (List ℕ)
names_of_sets kept = map (λ (k : List ℕ × ValueSet). k.0) kept

names_step : (set : ValueSet) (o : Option (List ℕ)) (kept : List (List ℕ × ValueSet)) → names_with o (names_of_sets kept) ≡ names_of_sets (with_new bytes_eq kept (under_name set o))
names_step set None kept = refl
names_step set (Some name) kept = ap (λ b. if b then names else names ++ name ∷ []) (any_key (bytes_eq name) kept) ∙ by (list_any (λ (k : List ℕ × ValueSet). bytes_eq name k.0) kept)
  where
    names : List (List ℕ)
    names = names_of_sets kept

    by : (b : Bool) → (if b then names else names ++ name ∷ []) ≡ names_of_sets (if b then kept else kept ++ (name, set) ∷ [])
    by true = refl
    by false = sym (map-append (λ (k : List ℕ × ValueSet). k.0) kept ((name, set) ∷ []))

row_step : (records : List MetaRecord) (set : ValueSet) (o : Option (List ℕ)) (kept : List (List ℕ × ValueSet))
    → row_with records set o (names_of_sets kept) (flat_map (set_entries records) kept) ≡ flat_map (set_entries records) (with_new bytes_eq kept (under_name set o))
row_step records set None kept = refl
row_step records set (Some name) kept = ap (λ b. if b then row else row ++ set_entries records (name, set)) (any_key (bytes_eq name) kept) ∙ by (list_any (λ (k : List ℕ × ValueSet). bytes_eq name k.0) kept)
  where
    row : Row
    row = flat_map (set_entries records) kept

    by : (b : Bool) → (if b then row else row ++ set_entries records (name, set)) ≡ flat_map (set_entries records) (if b then kept else kept ++ (name, set) ∷ [])
    by true = refl
    by false = ap (λ (r : Row). row ++ r) (sym (append-nil (set_entries records (name, set)))) ∙ sym (flat_map-append (set_entries records) kept ((name, set) ∷ []))

-- the sets that are watched, under their names
abbrev named_watched : (List ℕ → Bool) → List MetaRecord → ValueSet → Option (List ℕ × ValueSet)
named_watched watched records set = under_name set (watched_name watched records set)

-- of a sample's sets those so far are put, and those left are to come
pub record PuttingSets (watched : List ℕ → Bool) (records : List MetaRecord) (all left : List ValueSet) (names : List (List ℕ)) (row : Row) : Type 0 where
  pub kept : List (List ℕ × ValueSet)
  pub names_are : names ≡ names_of_sets kept
  pub row_is : row ≡ flat_map (set_entries records) kept
  pub goes : fold (with_first bytes_eq (named_watched watched records)) kept left ≡ firsts bytes_eq (named_watched watched records) all

-- ---- the sets that are watched are the watched ones of all

module _ (watched : List ℕ → Bool) where
  abbrev set_watched : List ℕ × ValueSet → Bool
  set_watched k = watched k.0

  any_watched : (name : List ℕ) → watched name ≡ true → (kept : List (List ℕ × ValueSet)) → list_any (λ (k : List ℕ × ValueSet). bytes_eq name k.0) (filter set_watched kept) ≡ list_any (λ (k : List ℕ × ValueSet). bytes_eq name k.0) kept
  any_watched name is [] = refl
  any_watched name is (k ∷ kept) = by (watched k.0) refl (bytes_eq name k.0) refl (any_watched name is kept)
    where
      rest : Bool
      rest = list_any (λ (x : List ℕ × ValueSet). bytes_eq name x.0) kept

      by : (b : Bool) → watched k.0 ≡ b → (c : Bool) → bytes_eq name k.0 ≡ c → list_any (λ (x : List ℕ × ValueSet). bytes_eq name x.0) (filter set_watched kept) ≡ rest
          → list_any (λ (x : List ℕ × ValueSet). bytes_eq name x.0) (if watched k.0 then k ∷ filter set_watched kept else filter set_watched kept) ≡ (bytes_eq name k.0 || rest)
      by true e c f h = ap (λ t. list_any (λ (x : List ℕ × ValueSet). bytes_eq name x.0) (if t then k ∷ filter set_watched kept else filter set_watched kept)) e ∙ ap (λ t. bytes_eq name k.0 || t) h
      by false e true f h = absurd (both_ways (watched k.0) e (ap watched (sym ((bytes_eq-Decides name k.0).0 f)) ∙ is))
      by false e false f h =
          ap (λ t. list_any (λ (x : List ℕ × ValueSet). bytes_eq name x.0) (if t then k ∷ filter set_watched kept else filter set_watched kept)) e ∙ h ∙ ap (λ t. t || rest) (sym f)

  filter_behind : (kept : List (List ℕ × ValueSet)) (k : List ℕ × ValueSet) (b : Bool) → watched k.0 ≡ b → filter set_watched (kept ++ k ∷ []) ≡ filter set_watched kept ++ (if b then k ∷ [] else [])
  filter_behind [] k b e = ap (λ t. if t then k ∷ [] else []) e
  filter_behind (x ∷ kept) k b e = by (watched x.0) (filter_behind kept k b e)
    where
      by : (t : Bool) → filter set_watched (kept ++ k ∷ []) ≡ filter set_watched kept ++ (if b then k ∷ [] else [])
          → (if t then x ∷ filter set_watched (kept ++ k ∷ []) else filter set_watched (kept ++ k ∷ [])) ≡ (if t then x ∷ filter set_watched kept else filter set_watched kept) ++ (if b then k ∷ [] else [])
      by true h = ap (λ (ks : List (List ℕ × ValueSet)). x ∷ ks) h
      by false h = h

  step_watched : (set : ValueSet) (o : Option (List ℕ)) (kept : List (List ℕ × ValueSet))
      → with_new bytes_eq (filter set_watched kept) (under_name set (if_watched watched o)) ≡ filter set_watched (with_new bytes_eq kept (under_name set o))
  step_watched set None kept = refl
  step_watched set (Some name) kept = by (watched name) refl
    where
      there : Bool
      there = list_any (λ (k : List ℕ × ValueSet). bytes_eq name k.0) kept

      more : Bool → List (List ℕ × ValueSet)
      more t = if t then kept else kept ++ (name, set) ∷ []

      stays : (t : Bool) → watched name ≡ false → filter set_watched kept ≡ filter set_watched (more t)
      stays true e = refl
      stays false e = sym (filter_behind kept (name, set) false e ∙ append-nil (filter set_watched kept))

      grows : (t : Bool) → watched name ≡ true → (if t then filter set_watched kept else filter set_watched kept ++ (name, set) ∷ []) ≡ filter set_watched (more t)
      grows true e = refl
      grows false e = sym (filter_behind kept (name, set) true e)

      by : (b : Bool) → watched name ≡ b → with_new bytes_eq (filter set_watched kept) (under_name set (if watched name then Some name else None)) ≡ filter set_watched (more there)
      by true e =
          ap (λ t. with_new bytes_eq (filter set_watched kept) (under_name set (if t then Some name else None))) e
          ∙ ap (λ t. if t then filter set_watched kept else filter set_watched kept ++ (name, set) ∷ []) (any_watched name e kept)
          ∙ grows there e
      by false e = ap (λ t. with_new bytes_eq (filter set_watched kept) (under_name set (if t then Some name else None))) e ∙ stays there e

  module _ (records : List MetaRecord) where
    folds_watched : (sets : List ValueSet) (kept : List (List ℕ × ValueSet))
        → fold (with_first bytes_eq (named_watched watched records)) (filter set_watched kept) sets ≡ filter set_watched (fold (with_first bytes_eq (named records)) kept sets)
    folds_watched [] kept = refl
    folds_watched (x ∷ sets) kept =
        ap (λ (ks : List (List ℕ × ValueSet)). fold (with_first bytes_eq (named_watched watched records)) ks sets) (step_watched x (first_name records x) kept)
        ∙ folds_watched sets (with_first bytes_eq (named records) kept x)

    abbrev numbers_in : List ℕ × ValueSet → List (ℤ × ℤ)
    numbers_in k = numbers_of (code_in (desc_of (description_of k.1.pmid records))) k.1.body

    entries_all : (name : List ℕ) (ps : List (ℤ × ℤ)) (b : Bool) → watched name ≡ b → filter (λ (e : Entry). watched e.0) (map (entry name) ps) ≡ (if b then map (entry name) ps else [])
    entries_all name [] true e = refl
    entries_all name [] false e = refl
    entries_all name (p ∷ ps) true e =
        ap (λ t. if t then entry name p ∷ filter (λ (x : Entry). watched x.0) (map (entry name) ps) else filter (λ (x : Entry). watched x.0) (map (entry name) ps)) e
        ∙ ap (λ (row : Row). entry name p ∷ row) (entries_all name ps true e)
    entries_all name (p ∷ ps) false e =
        ap (λ t. if t then entry name p ∷ filter (λ (x : Entry). watched x.0) (map (entry name) ps) else filter (λ (x : Entry). watched x.0) (map (entry name) ps)) e
        ∙ entries_all name ps false e

    filter_both : (xs ys : Row) → filter (λ (e : Entry). watched e.0) (xs ++ ys) ≡ filter (λ (e : Entry). watched e.0) xs ++ filter (λ (e : Entry). watched e.0) ys
    filter_both [] ys = refl
    filter_both (x ∷ xs) ys = by (watched x.0) (filter_both xs ys)
      where
        by : (t : Bool) → filter (λ (e : Entry). watched e.0) (xs ++ ys) ≡ filter (λ (e : Entry). watched e.0) xs ++ filter (λ (e : Entry). watched e.0) ys
            → (if t then x ∷ filter (λ (e : Entry). watched e.0) (xs ++ ys) else filter (λ (e : Entry). watched e.0) (xs ++ ys))
            ≡ (if t then x ∷ filter (λ (e : Entry). watched e.0) xs else filter (λ (e : Entry). watched e.0) xs) ++ filter (λ (e : Entry). watched e.0) ys
        by true h = ap (λ (row : Row). x ∷ row) h
        by false h = h

    rows_watched : (kept : List (List ℕ × ValueSet)) → flat_map (set_entries records) (filter set_watched kept) ≡ filter (λ (e : Entry). watched e.0) (flat_map (set_entries records) kept)
    rows_watched [] = refl
    rows_watched (k ∷ kept) = by (watched k.0) refl (rows_watched kept)
      where
        own : Row
        own = set_entries records k

        rest : Row
        rest = flat_map (set_entries records) kept

        by : (t : Bool) → watched k.0 ≡ t → flat_map (set_entries records) (filter set_watched kept) ≡ filter (λ (e : Entry). watched e.0) rest
            → flat_map (set_entries records) (if watched k.0 then k ∷ filter set_watched kept else filter set_watched kept) ≡ filter (λ (e : Entry). watched e.0) (own ++ rest)
        by true e h =
            ap (λ t. flat_map (set_entries records) (if t then k ∷ filter set_watched kept else filter set_watched kept)) e
            ∙ ap (λ (row : Row). own ++ row) h
            ∙ ap (λ (row : Row). row ++ filter (λ (x : Entry). watched x.0) rest) (sym (entries_all k.0 (numbers_in k) true e))
            ∙ sym (filter_both own rest)
        by false e h =
            ap (λ t. flat_map (set_entries records) (if t then k ∷ filter set_watched kept else filter set_watched kept)) e
            ∙ h
            ∙ ap (λ (row : Row). row ++ filter (λ (x : Entry). watched x.0) rest) (sym (entries_all k.0 (numbers_in k) false e))
            ∙ sym (filter_both own rest)

    pub row_watched : (sets : List ValueSet) → flat_map (set_entries records) (firsts bytes_eq (named_watched watched records) sets) ≡ filter (λ (e : Entry). watched e.0) (row_of records sets)
    row_watched sets = ap (flat_map (set_entries records)) (folds_watched sets []) ∙ rows_watched (firsts bytes_eq (named records) sets)

module _ (watched : List ℕ → Bool) (records : List MetaRecord) (all : List ValueSet) where
  pub sets_begin : (names : List (List ℕ)) (row : Row) → names ≡ [] → row ≡ [] → PuttingSets watched records all (drop 0 all) names row
  sets_begin names row none empty = record { kept = []; names_are = none; row_is = empty; goes = refl }

  sets_next : (x : ValueSet) (left : List ValueSet) (names : List (List ℕ)) (row : Row) → PuttingSets watched records all (x ∷ left) names row
      → PuttingSets watched records all left (names_with (watched_name watched records x) names) (row_with records x (watched_name watched records x) names row)
  sets_next x left names row g = record {
    kept = with_new bytes_eq g.kept (named_watched watched records x);
    names_are = ap (names_with (watched_name watched records x)) g.names_are ∙ names_step x (watched_name watched records x) g.kept;
    row_is = (λ j. row_with records x (watched_name watched records x) (g.names_are j) (g.row_is j)) ∙ row_step records x (watched_name watched records x) g.kept;
    goes = g.goes;
  }

  pub sets_on : (at : ℕ) (x : ValueSet) (names later : List (List ℕ)) (row next : Row) → at < length all → x ≡ get_or all at x → later ≡ names_with (watched_name watched records x) names
      → next ≡ row_with records x (watched_name watched records x) names row → PuttingSets watched records all (drop at all) names row → PuttingSets watched records all (drop (at + 1) all) later next
  sets_on at x names later row next below here names_are row_is g =
      subst (λ (s : List (List ℕ)). PuttingSets watched records all (drop (at + 1) all) s next) (sym names_are)
      (subst (λ (r : Row). PuttingSets watched records all (drop (at + 1) all) (names_with (watched_name watched records x) names) r) (sym row_is)
      (sets_next x (drop (at + 1) all) names row (subst (λ (left : List ValueSet). PuttingSets watched records all left names row) (next_item all at x below here) g)))

  pub sets_end : (at : ℕ) (names : List (List ℕ)) (row : Row) → length all ≤ at → PuttingSets watched records all (drop at all) names row → row ≡ filter (λ (e : Entry). watched e.0) (row_of records all)
  sets_end at names row past g =
      g.row_is
      ∙ ap (flat_map (set_entries records)) (ap (λ (left : List ValueSet). fold (with_first bytes_eq (named_watched watched records)) g.kept left) (sym (drop_all at all past)) ∙ g.goes)
      ∙ row_watched watched records all

-- ---- names, each once

pub any_items : (name : List ℕ) (ks : List (Vec ℕ)) → list_any (λ (k : Vec ℕ). bytes_eq name k.items) ks ≡ list_any (bytes_eq name) (map (λ (k : Vec ℕ). k.items) ks)
any_items name [] = refl
any_items name (k ∷ ks) = ap (λ b. bytes_eq name k.items || b) (any_items name ks)

pub insert_items : (name : Vec ℕ) (ks : List (Vec ℕ)) → map (λ (k : Vec ℕ). k.items) (if list_any (λ (k : Vec ℕ). bytes_eq name.items k.items) ks then ks else ks ++ name ∷ []) ≡ with_name (map (λ (k : Vec ℕ). k.items) ks) name.items
insert_items name ks = by (list_any (λ (k : Vec ℕ). bytes_eq name.items k.items) ks) ∙ ap (λ b. if b then names else names ++ name.items ∷ []) (any_items name.items ks)
  where
    names : List (List ℕ)
    names = map (λ (k : Vec ℕ). k.items) ks

    by : (b : Bool) → map (λ (k : Vec ℕ). k.items) (if b then ks else ks ++ name ∷ []) ≡ (if b then names else names ++ name.items ∷ [])
    by true = refl
    by false = map-append (λ (k : Vec ℕ). k.items) ks (name ∷ [])
