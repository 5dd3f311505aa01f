use Rattle.std.proofs.Common.{◌≡◌, ℤ, true, false, [], ◌∷◌, ◌++◌, w32, to_z, of_z, rules, sym, ap, ◌∙◌, subst, append-nil}
use Rattle.std.specs.BTreeSet.{contains}
use Rattle.std.specs.List.{slice_get}
use Rattle.std.specs.Ordering.{int_cmp}
use Rattle.std.proofs.lemmas.Int.{to_z-of_z}
use Rattle.archive_merge.specs.Naming.{Pairs}
use Rattle.archive_merge.proofs.Lookups.{kept_none, kept_one}
use Rattle.archive_merge.proofs.lists.push_other.Goals as goal

pub returns-then-contains : goal.returns-then-contains
returns-then-contains c =
    let same : to_z w32 (of_z w32 c.in-Some.number) ≡ c.in-Some.number = to_z-of_z w32 c.in-Some.number (search rules) in
    let there : contains int_cmp c.args.numbers.now c.in-Some.number ≡ true = subst (λ (n : ℤ). contains int_cmp c.args.numbers.now n ≡ true) same (sym c.contains.ensures ∙ c.if-contains.true) in
    sym (ap (λ (l : Pairs). c.args.made.now ++ l) (kept_none c.args.numbers.now (slice_get c.args.pairs.now c.args.at) (c.in-Some.number, c.in-Some.name.now) c.in-Some.ensures.pair there) ∙ append-nil c.args.made.now)

pub returns : goal.returns
returns c =
    let same : to_z w32 (of_z w32 c.in-Some.number) ≡ c.in-Some.number = to_z-of_z w32 c.in-Some.number (search rules) in
    let other : contains int_cmp c.args.numbers.now c.in-Some.number ≡ false = subst (λ (n : ℤ). contains int_cmp c.args.numbers.now n ≡ false) same (sym c.contains.ensures ∙ c.if-contains.false) in
    let pushed : c.push.new.self ≡ c.args.made.now ++ (c.in-Some.number, c.in-Some.name.now) ∷ [] = search rules in
    pushed ∙ sym (ap (λ (l : Pairs). c.args.made.now ++ l) (kept_one c.args.numbers.now (slice_get c.args.pairs.now c.args.at) (c.in-Some.number, c.in-Some.name.now) c.in-Some.ensures.pair other))
