-- What was opened is ready for the writers of its script: each position of the server has a region of the script, with as many passes as
-- the script names, which are fresh.
use Rattle.std.proofs.Common.{◌≡◌, ℕ, zero, suc, ◌<◌, ◌≤◌, Bool, true, false, ◌||◌, eqb, eqb-true, List, [], ◌∷◌, length, slice_get, Some, sym, refl, ap, subst, arith}
use Rattle.std.specs.Global.{Vec}
use Rattle.std.specs.List.{AllByRecursion, IsDistinct, list_any}
use Rattle.std.proofs.lemmas.Map.Steps.{length-le_from_distinct_below}
use Rattle.std.proofs.lemmas.Option.{slice_get_within}
use Rattle.region_core.specs.declared.mode.Mode.TheVariants.{Idle}
use Rattle.region_rule.specs.Seats.{Token}
use Rattle.fetch_engine.specs.Servers.{Seated}
use Rattle.fetch_engine.specs.declared.server.Mounted.{Mounted}
use Rattle.run_script.specs.Rules.{KeepsRules}
use Rattle.run_script.specs.declared.script.Script.{Script}
use Rattle.run_passes.specs.Workers.{IsPassOf}
use Rattle.run_passes.specs.Crews.{Serves, ServesScript}
use Rattle.run_passes.specs.Openings.{AreMade}
use Rattle.run_passes.proofs.Begun.{get_there}
use Rattle.run_passes.proofs.Starting.{own_fresh}
use Rattle.run_passes.specs.Hands.{IsServedAt}
use Rattle.run_passes.specs.Written.{AreReady}
use Rattle.run_passes.proofs.WriterPlaces.{made_at, one_from}

either_false : (a b : Bool) → (a || b) ≡ false → (a ≡ false) × (b ≡ false)
either_false true b e = absurd (cc)
either_false false b e = (refl, e)

none_equal : (x : ℕ) (xs : List ℕ) → list_any (eqb x) xs ≡ false → AllByRecursion (λ (y : ℕ). eqb x y ≡ false) xs
none_equal x [] e = tt
none_equal x (y ∷ ys) e = let both = either_false (eqb x y) (list_any (eqb x) ys) e in (both.0, none_equal x ys both.1)

apart_more : (x : ℕ) (xs : List ℕ) → list_any (eqb x) xs ≡ false → IsDistinct eqb xs → IsDistinct eqb (x ∷ xs)
unfolding IsDistinct
apart_more x xs e d = (none_equal x xs e, d)

apart_none : IsDistinct eqb []
unfolding IsDistinct
apart_none = tt

module _ (script : Script) (server : List Mounted) (seats : ℕ) (keeps : KeepsRules script) (serves : ServesScript script seats server) where
  -- the positions of the first regions
  record Firsts (n : ℕ) : Type 0 where
    places : List ℕ
    many : length places ≡ n
    apart : IsDistinct eqb places
    of_rows : (q : ℕ) → list_any (eqb q) places ≡ true → (i : ℕ) × (i < n) × IsServedAt script server i q

  one_more : (n at : ℕ) → IsServedAt script server n at → Firsts n → Firsts (suc n)
  one_more n at here before = record {
    places = at ∷ before.places;
    many = ap suc before.many;
    apart = apart_more at before.places (by_test (list_any (eqb at) before.places) refl) before.apart;
    of_rows = λ q e. of_rows q (eqb q at) refl e;
  }
    where
      by_test : (b : Bool) → list_any (eqb at) before.places ≡ b → list_any (eqb at) before.places ≡ false
      by_test true e =
          let found = before.of_rows at e in
          let same = one_from script server seats keeps serves n found.0 at here found.2 in
          let less = found.1 in
          absurd (omega arith)
      by_test false e = e

      of_rows : (q : ℕ) (b : Bool) → eqb q at ≡ b → (b || list_any (eqb q) before.places) ≡ true → (i : ℕ) × (i < suc n) × IsServedAt script server i q
      of_rows q true same e = (n, omega arith, subst (λ (p : ℕ). IsServedAt script server n p) (sym (eqb-true q at same)) here)
      of_rows q false same e = let found = before.of_rows q e in let less = found.1 in (found.0, omega arith, found.2)

  firsts : (n : ℕ) → n ≤ length script.regions → Firsts n
  firsts zero h = record { places = []; many = refl; apart = apart_none; of_rows = λ q e. absurd (cc) }
  firsts (suc n) h =
      let row = get_there script.regions n (omega arith) in
      let found = serves.each n row.0 row.1 in
      one_more n found.0 (record { row = row.0; is = row.1; mounted = found.1; there = found.2; cluster = found.3.cluster }) (firsts n (omega arith))

  -- the region of a position
  pub row_at : (j : ℕ) → j < length server → (i : ℕ) × IsServedAt script server i j
  row_at j h = by_test (firsts (length script.regions) (omega arith))
    where
      by_place : (all : Firsts (length script.regions)) (b : Bool) → list_any (eqb j) all.places ≡ b → (i : ℕ) × IsServedAt script server i j
      by_place all true e = let found = all.of_rows j e in (found.0, found.2)
      by_place all false e =
          let long = length-le_from_distinct_below (j ∷ all.places) (length server) (apart_more j all.places e all.apart) (λ q f. below q (eqb q j) refl f) in
          let many = all.many in
          let as_many = serves.as_many in
          absurd (omega arith)
        where
          below : (q : ℕ) (b : Bool) → eqb q j ≡ b → (b || list_any (eqb q) all.places) ≡ true → q < length server
          below q true same f = subst (λ (p : ℕ). p < length server) (sym (eqb-true q j same)) h
          below q false same f = let found = all.of_rows q f in slice_get_within server q found.2.mounted found.2.there

      by_test : Firsts (length script.regions) → (i : ℕ) × IsServedAt script server i j
      by_test all = by_place all (list_any (eqb j) all.places) refl

-- Passes as they were made

module _ (script : Script) (server : List Mounted) (passes : List (Vec Token)) (seats : List Seated) (keeps : KeepsRules script) (made : AreMade script server passes seats) where
  -- as many as the script names
  pub as_many_made : (i j : ℕ) (at : IsServedAt script server i j) (list : Vec Token) → slice_get passes j ≡ Some list → length list.items ≡ at.row.passes
  as_many_made i j at list e =
      let serves : Serves script (length seats) at.row at.mounted = made_at script server (length seats) keeps made.serves i j at in
      let a = serves.passes in
      let b = (made.each j at.mounted list at.there e).passes in
      omega arith

  -- fresh passes are ready for writers
  pub ready : AreReady script server passes
  ready = record {
    lists = made.lists;
    few = λ j list e.
        let long = made.lists in
        let within = slice_get_within passes j list e in
        let found = row_at script server (length seats) keeps made.serves j (omega arith) in
        let many = as_many_made found.0 j found.1 list e in
        let few = (keeps.opened found.0 found.1.row found.1.is).passes.1 in
        omega arith;
    many = as_many_made;
    each = λ j k mounted list pass there list_is pass_is.
        subst (λ (t : Token). IsPassOf mounted.region k Idle t) (sym (own_fresh seats j mounted list.items (made.each j mounted list there list_is) k pass pass_is))
        (record { region_is = refl; number_is = refl; in_mode = record { mode_is = refl; start_is = refl; passes_are = refl } });
  }
