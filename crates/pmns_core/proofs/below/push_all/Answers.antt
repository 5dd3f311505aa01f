-- The range begins at the front, and the pairs are taken as far as they begin with it.
use Rattle.std.proofs.Common.{◌≡◌, ℕ, List, [], ◌∷◌, ◌++◌, false, if◌then◌else◌, sym, ap, ◌∙◌, subst, refl}
use Rattle.std.proofs.lemmas.List.{append-nil}
use Rattle.std.specs.Prelude.{nat_eq}
use Rattle.std.specs.List.{starts_with}
use Rattle.pmns_core.specs.Pairs.{Pair}
use Rattle.pmns_core.proofs.Ranges.{taken, taken_all, AreTexts, texts_from_front}
use Rattle.pmns_core.proofs.below.push_all.Goals as goal

pub loop-key-init : goal.loop-key-init
loop-key-init c = (tt, tt, subst AreTexts (sym (c.range-rest.ensures.between tt)) (texts_from_front c.args.front.now.items c.args.table.now.entries c.requires), refl)

pub returns-then-not-starts_with : goal.returns-then-not-starts_with
returns-then-not-starts_with c =
    let front = c.args.front.now.items in
    let begins : starts_with nat_eq c.in-Some.key.now.items front ≡ false =
    ap (λ (bs : List ℕ). starts_with nat_eq c.in-Some.key.now.items bs) (sym c.as_slice-in-Some.ensures.value)
    ∙ ap (λ (bs : List ℕ). starts_with nat_eq bs c.as_slice-in-Some.result.now) (sym c.as_slice.ensures.value)
    ∙ sym c.if-not-starts_with.ensures.value in
    let ends : taken front c.loop-key.rest ≡ [] =
    ap (taken front) c.in-Some.ensures.steps ∙ ap (λ t. if t then (c.in-Some.key.now.items, c.in-Some.pmid.now) ∷ taken front c.next.new.self else []) begins in
    sym (append-nil c.loop-key.found) ∙ ap (λ (ps : List Pair). c.loop-key.found ++ ps) (sym ends) ∙ c.loop-key.invariant.3
    ∙ ap (λ (ps : List Pair). c.args.found.now ++ ps) (ap (taken front) (c.range-rest.ensures.between tt) ∙ taken_all front c.args.table.now.entries c.requires)

pub returns : goal.returns
returns c =
    let front = c.args.front.now.items in
    let ends : taken front c.loop-key.rest ≡ [] = ap (taken front) c.in_default.ensures.steps.0 in
    sym (append-nil c.loop-key.found) ∙ ap (λ (ps : List Pair). c.loop-key.found ++ ps) (sym ends) ∙ c.loop-key.invariant.3
    ∙ ap (λ (ps : List Pair). c.args.found.now ++ ps) (ap (taken front) (c.range-rest.ensures.between tt) ∙ taken_all front c.args.table.now.entries c.requires)
