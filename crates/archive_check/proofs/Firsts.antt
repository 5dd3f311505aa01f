-- The first entry that passes a test.
use Rattle.std.proofs.Common.{zero, suc, ◌≡◌, ℕ, ◌+◌, ◌<◌, Bool, true, false, List, [], ◌∷◌, ◌++◌, length, take, drop, sym, ap, ◌∙◌, subst, arith, Some, None}
use Rattle.std.specs.Prelude.{slice_get}
use Rattle.std.specs.List.{AllByRecursion}
use Rattle.std.proofs.lemmas.List.{take_more, drop_more, take-append-drop, length-take}
use Rattle.std.proofs.lemmas.Option.{slice_get_within, get_or_from_slice_get}
use Rattle.pcp_model.specs.declared.records.Entry.{Entry}
use Rattle.pcp_model.proofs.Lists.{each-append}
use Rattle.archive_check.specs.Looked.{IsFirst}

module _ (test : Entry → Bool) (es : List Entry) (at : ℕ) (before : AllByRecursion (λ e. test e ≡ false) (take at es)) where
  -- the one here is the first
  pub first_here : (e : Entry) → slice_get es at ≡ Some e → test e ≡ true → IsFirst test es (at, e)
  first_here e there passes =
      let lt : at < length es = slice_get_within es at e there in
      let rest : drop at es ≡ e ∷ drop (at + 1) es = drop_more es at e lt ∙ ap (λ x. x ∷ drop (at + 1) es) (get_or_from_slice_get es at e e there) in
      record {
        front = take at es;
        behind = drop (at + 1) es;
        are = sym (take-append-drop at es) ∙ ap (λ l. take at es ++ l) rest;
        at_is = omega (arith, length-take at es, lt);
        before = before;
        here = passes;
      }

  -- it doesn't pass
  pub not_here : (e : Entry) → slice_get es at ≡ Some e → test e ≡ false → AllByRecursion (λ x. test x ≡ false) (take (at + 1) es)
  not_here e there fails =
      let lt : at < length es = slice_get_within es at e there in
      let is : take (at + 1) es ≡ take at es ++ e ∷ [] = take_more es at e lt ∙ ap (λ x. take at es ++ x ∷ []) (get_or_from_slice_get es at e e there) in
      subst (AllByRecursion (λ x. test x ≡ false)) (sym is) (each-append (λ x. test x ≡ false) (take at es) (e ∷ []) before (fails, tt))

-- every entry has a position below their number
pub none_there : (es : List Entry) (at : ℕ) → slice_get es at ≡ None → at < length es → ⊥
none_there [] at e lt = omega (arith, lt)
none_there (x ∷ es) zero e lt = let both : Some x ≡ None = e in cc
none_there (x ∷ es) (suc at) e lt = none_there es at e (omega (arith, lt))
