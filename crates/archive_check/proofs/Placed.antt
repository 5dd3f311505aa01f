-- Marks that are put and passed.
use Rattle.std.proofs.Common.{zero, suc, ⊎_elim, ◌≡◌, ℕ, ◌+◌, ◌≤◌, ◌<◌, Bool, true, false, cond, ◌&&◌, nat_eq, List, [], ◌∷◌, ◌++◌, length, take, refl, sym, ap, ◌∙◌, subst, arith, Option, Some, None}
use Rattle.std.specs.Prelude.{slice_get}
use Rattle.std.specs.List.{AllByRecursion}
use Rattle.std.proofs.lemmas.Bool.{eqb-true, eq-eqb, cases_lt}
use Rattle.std.proofs.lemmas.List.{take_more, take_all}
use Rattle.std.proofs.lemmas.Option.{slice_get_within, get_or_from_slice_get}
use Rattle.pcp_model.specs.declared.records.Entry.{Entry}
use Rattle.pcp_model.proofs.Lists.{each-append, each-map}
use Rattle.archive_check.specs.declared.marks.Mark.{Mark}
use Rattle.archive_check.specs.declared.marks.Mark.TheVariants.{Ahead, Passed}
use Rattle.archive_check.specs.Marks.{Known, same_place, Keeps, Puts, IsPut, Passes}

pub same_here : (code offset : ℕ) → same_place (code, offset) (code, offset) ≡ true
same_here code offset = ap (λ b. b && nat_eq offset offset) (eq-eqb code code refl) ∙ eq-eqb offset offset refl

pub other_code : (a b x y : ℕ) → (a ≡ b → ⊥) → same_place (a, x) (b, y) ≡ false
other_code a b x y apart = go (nat_eq a b) refl
  where
    go : (t : Bool) → nat_eq a b ≡ t → (t && nat_eq x y) ≡ false
    go true e = absurd (apart (eqb-true a b e))
    go false e = refl

pub other_offset : (a b x y : ℕ) → (x ≡ y → ⊥) → same_place (a, x) (b, y) ≡ false
other_offset a b x y apart = go (nat_eq a b) (nat_eq x y) refl
  where
    go : (s t : Bool) → nat_eq x y ≡ t → (s && t) ≡ false
    go true true e = absurd (apart (eqb-true x y e))
    go true false e = refl
    go false t e = refl

module _ (code offset given : ℕ) (old new : Known) (same : given ≡ code) where
  pub puts : ((a b : ℕ) → new a b ≡ cond (same_place (given, offset) (a, b)) (Some Ahead) (old a b)) → Puts code offset old new
  puts told = record {
    here = subst (λ k. new k offset ≡ Some Ahead) same (told given offset ∙ ap (λ b. cond b (Some Ahead) (old given offset)) (same_here given offset));
    others = λ a b ahead. told a b ∙ by (same_place (given, offset) (a, b)) (old a b) ahead;
  }
    where
      by : (t : Bool) (o : Option Mark) → o ≡ Some Ahead → cond t (Some Ahead) o ≡ Some Ahead
      by true o e = refl
      by false o e = e

  pub passes : (time : ℕ) → ((a b : ℕ) → new a b ≡ cond (same_place (given, offset) (a, b)) (Some (Passed time)) (old a b)) → Passes code offset time old new
  passes time told = record {
    here = λ m there. subst (λ k. new k offset ≡ Some (Passed time)) same (told given offset ∙ ap (λ b. cond b (Some (Passed time)) (old given offset)) (same_here given offset));
    others = λ a b apart. told a b ∙ ap (λ t. cond t (Some (Passed time)) (old a b)) (ap (λ k. same_place (k, offset) (a, b)) same ∙ apart);
  }

pub passes_none : (code offset time : ℕ) (known : Known) → known code offset ≡ None → Passes code offset time known known
passes_none code offset time known none = record { here = λ m there. absurd (let both : None ≡ Some m = sym none ∙ there in cc); others = λ a b apart. refl }

kept : (old new : Known) → Keeps old new → (e : Entry) → IsPut old e → IsPut new e
kept old new keeps e p = record { meta = keeps 0 e.meta p.meta; start = keeps (e.volume + 1) 132 p.start; volume = keeps (e.volume + 1) e.offset p.volume }

-- one entry more
pub one_more : (old new : Known) (es : List Entry) (at : ℕ) (e : Entry) → slice_get es at ≡ Some e → Keeps old new → IsPut new e → AllByRecursion (IsPut old) (take at es) → AllByRecursion (IsPut new) (take (at + 1) es)
one_more old new es at e there keeps put before =
    let is : take (at + 1) es ≡ take at es ++ e ∷ [] = take_more es at e (slice_get_within es at e there) ∙ ap (λ x. take at es ++ x ∷ []) (get_or_from_slice_get es at e e there) in
    subst (AllByRecursion (IsPut new)) (sym is) (each-append (IsPut new) (take at es) (e ∷ []) (each-map (IsPut old) (IsPut new) (kept old new keeps) (take at es) before) (put, tt))

-- past the last entry none is left
pub no_more : (known : Known) (es : List Entry) (at : ℕ) → slice_get es at ≡ None → AllByRecursion (IsPut known) (take at es) → AllByRecursion (IsPut known) (take (at + 1) es)
no_more known es at none before = ⊎_elim (λ (lt : at < length es). absurd (some lt)) (λ (le : length es ≤ at). subst (AllByRecursion (IsPut known)) (take_all at es le ∙ sym (take_all (at + 1) es (omega (arith, le)))) before) (cases_lt at (length es))
  where
    go : (xs : List Entry) (i : ℕ) → slice_get xs i ≡ None → i < length xs → ⊥
    go [] i e lt = omega (arith, lt)
    go (x ∷ xs) zero e lt = let both : Some x ≡ None = e in cc
    go (x ∷ xs) (suc i) e lt = go xs i e (omega (arith, lt))

    some : at < length es → ⊥
    some lt = go es at none lt
