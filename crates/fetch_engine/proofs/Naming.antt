-- The name space of regions stays, as long as each of them adds the same names.
use Rattle.std.proofs.Common.{◌≡◌, ℕ, zero, suc, ◌<◌, Bool, true, false, cond, List, [], ◌∷◌, ◌++◌, length, map, fold, set, get_or, Option, Some, None, is_some, nat_eq, sym, refl, ap, ap₂, ◌∙◌, subst, arith}
use Rattle.std.specs.Prelude.{◌&&◌, IfSome, option_map}
use Rattle.std.proofs.lemmas.Bool.{eqb-true}
use Rattle.mmv_layout.specs.declared.rows.Layout.{Layout}
use Rattle.mmv_layout.specs.declared.rows.MetricRow.{MetricRow}
use Rattle.mmv_layout.specs.Rows.{layout_of}
use Rattle.mmv_layout.proofs.Below.{both_left, both_right}
use Rattle.pmns_core.specs.Pairs.{Pair}
use Rattle.fetch_answers.specs.Names.{missed_of, names_of, pair_of, pairs_of, with_layout, with_missed, with_pairs, with_region}
use Rattle.fetch_answers.specs.Readings.{reading_of}
use Rattle.fetch_answers.specs.declared.names.Named.{Named}
use Rattle.fetch_answers.specs.declared.shot.Shot.{Shot}
use Rattle.fetch_engine.specs.Kept.{AreNamesOf, HaveOneForm, adding_of, kept_of}

-- What regions add

abbrev with_names : List Pair → Option (List Pair) → List Pair
with_names names None = names
with_names names (Some pairs) = with_pairs names pairs

abbrev with_cluster : List ℕ → ℕ → Option (List Pair) → List ℕ
with_cluster clusters cluster None = clusters ++ cluster ∷ []
with_cluster clusters cluster (Some pairs) = clusters

fold_by : {A B C : Type 0} (f : A → B → A) (g : A → C → A) (h : B → C) → ((a : A) (b : B) → f a b ≡ g a (h b)) → (a : A) (bs : List B) → fold f a bs ≡ fold g a (map h bs)
fold_by f g h same a [] = refl
fold_by {A = A} f g h same a (b ∷ bs) = ap (λ (x : A). fold f x bs) (same a b) ∙ fold_by f g h same (g a (h b)) bs

adds_names : (names : List Pair) (shot : Shot) → with_region names (reading_of shot) ≡ with_names names (adding_of shot).1
adds_names names shot = here (option_map layout_of shot.image)
  where
    here : (o : Option Layout) → with_layout names shot.cluster shot.file o ≡ with_names names (option_map (pairs_of shot.cluster shot.file) o)
    here None = refl
    here (Some layout) = refl

adds_missed : (clusters : List ℕ) (shot : Shot) → with_missed clusters shot.cluster (option_map layout_of shot.image) ≡ with_cluster clusters (adding_of shot).0 (adding_of shot).1
adds_missed clusters shot = here (option_map layout_of shot.image)
  where
    here : (o : Option Layout) → with_missed clusters shot.cluster o ≡ with_cluster clusters shot.cluster (option_map (pairs_of shot.cluster shot.file) o)
    here None = refl
    here (Some layout) = refl

names_by : (shots : List Shot) → names_of shots ≡ fold (λ names (a : ℕ × Option (List Pair)). with_names names a.1) [] (map adding_of shots)
names_by shots = fold_by (λ (names : List Pair) (shot : Shot). with_region names (reading_of shot)) (λ (names : List Pair) (a : ℕ × Option (List Pair)). with_names names a.1) adding_of adds_names [] shots

missed_by : (shots : List Shot) → missed_of shots ≡ fold (λ clusters (a : ℕ × Option (List Pair)). with_cluster clusters a.0 a.1) [] (map adding_of shots)
missed_by shots =
    fold_by (λ (clusters : List ℕ) (shot : Shot). with_missed clusters (reading_of shot).cluster (reading_of shot).layout) (λ (clusters : List ℕ) (a : ℕ × Option (List Pair)). with_cluster clusters a.0 a.1)
    adding_of adds_missed [] shots

-- a region that adds the same is put in its place
addings_set : (known : List Shot) (at : ℕ) (d new : Shot) → adding_of new ≡ adding_of (get_or known at d) → at < length known → map adding_of (set known at new) ≡ map adding_of known
addings_set [] at d new same below = absurd (omega arith)
addings_set (x ∷ xs) zero d new same below = ap (λ (a : ℕ × Option (List Pair)). a ∷ map adding_of xs) same
addings_set (x ∷ xs) (suc k) d new same below = ap (λ (list : List (ℕ × Option (List Pair))). adding_of x ∷ list) (addings_set xs k d new same (omega arith))

names_set : (known : List Shot) (at : ℕ) (was new : Shot) (named : Named) → at < length known → was ≡ get_or known at was → adding_of new ≡ adding_of was → AreNamesOf known named → AreNamesOf (set known at new) named
names_set known at was new named below is same h =
    let addings = addings_set known at was new (same ∙ ap adding_of is) below in
    record {
      names = h.names ∙ names_by known ∙ ap (λ (list : List (ℕ × Option (List Pair))). fold (λ names (a : ℕ × Option (List Pair)). with_names names a.1) [] list) (sym addings) ∙ sym (names_by (set known at new));
      missing = h.missing ∙ missed_by known ∙ ap (λ (list : List (ℕ × Option (List Pair))). fold (λ clusters (a : ℕ × Option (List Pair)). with_cluster clusters a.0 a.1) [] list) (sym addings) ∙ sym (missed_by (set known at new));
    }

pub names_stay : (known : List Shot) (at : ℕ) (was new : Shot) (same : Bool) (named still : Option Named) → at < length known → was ≡ get_or known at was → (same ≡ true → adding_of new ≡ adding_of was)
    → still ≡ cond same named None → IfSome named (AreNamesOf known) → IfSome still (AreNamesOf (set known at new))
names_stay known at was new same named still below is adds keeps h = subst (λ (o : Option Named). IfSome o (AreNamesOf (set known at new))) (sym keeps) (here same named adds h)
  where
    here : (b : Bool) (o : Option Named) → (b ≡ true → adding_of new ≡ adding_of was) → IfSome o (AreNamesOf known) → IfSome (cond b o None) (AreNamesOf (set known at new))
    here false o a k = tt
    here true None a k = tt
    here true (Some n) a k = names_set known at was new n below is (a refl) k

-- One region

-- words of one form, under one name and cluster, add the same
pub still_adds : (old new : Shot) → new.file ≡ old.file → new.cluster ≡ old.cluster → HaveOneForm old.image new.image → adding_of new ≡ adding_of old
still_adds old new file cluster form =
    ap₂ (λ (c : ℕ) (f : List ℕ). (c, option_map (pairs_of c f) (option_map layout_of new.image))) cluster file ∙ ap (λ (o : Option (List Pair)). (old.cluster, o)) (here old.image new.image form)
  where
    here : (o n : Option (List ℕ)) → HaveOneForm o n → option_map (pairs_of old.cluster old.file) (option_map layout_of n) ≡ option_map (pairs_of old.cluster old.file) (option_map layout_of o)
    here None None h = absurd h
    here None (Some b) h = absurd h
    here (Some a) None h = absurd h
    here (Some a) (Some b) h = ap₂ (λ (flags : ℕ) (metrics : List MetricRow). Some (map (pair_of old.cluster old.file flags) metrics)) h.flags h.metrics

-- what bore its name and cluster is as it was
pub placed_before : (known : Shot) (cluster : ℕ) → nat_eq known.cluster cluster ≡ true → record { file = known.file; cluster = cluster; image = known.image } ≡ known
placed_before known cluster same = ap (λ (c : ℕ). record { file = known.file; cluster = c; image = known.image }) (sym (eqb-true known.cluster cluster same))

kept_known : (o spare : Option (List ℕ)) → is_some o ≡ true → kept_of o spare ≡ o
kept_known None spare h = cc
kept_known (Some words) spare h = refl

-- and a region that was known, under its name and cluster, adds the same behind a reading of its value words alone
pub adds_the_same : (old placed new : Shot) (spare kept now : Option (List ℕ)) (same had : Bool) → (same ≡ true → placed ≡ old) → had ≡ is_some placed.image → kept ≡ kept_of placed.image spare
    → new.file ≡ placed.file → new.cluster ≡ placed.cluster → new.image ≡ now → HaveOneForm kept now → (same && had) ≡ true → adding_of new ≡ adding_of old
adds_the_same old placed new spare kept now same had still known kept_is file cluster image form both =
    let known_is : is_some placed.image ≡ true = sym known ∙ both_right same had both in
    still_adds placed new file cluster
    (subst (λ (o : Option (List ℕ)). HaveOneForm placed.image o) (sym image) (subst (λ (o : Option (List ℕ)). HaveOneForm o now) (kept_is ∙ kept_known placed.image spare known_is) form))
    ∙ ap adding_of (still (both_left same had both))
