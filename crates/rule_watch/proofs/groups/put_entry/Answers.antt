-- The entry goes into the group of its name, if it has one.
use Rattle.std.proofs.Common.{◌≡◌, ℕ, eqb, cond, List, [], ◌∷◌, ◌++◌, Some, FitsSigned, sym, ap, ap₂, ◌∙◌, rules}
use Rattle.std.specs.Prelude.{bytes_eq, position}
use Rattle.std.specs.Int.{w32, w128}
use Rattle.std.proofs.lemmas.Int.{to_z-of_z}
use Rattle.rule_watch.specs.Groups.{Group, group_at, groups_in, names_in}
use Rattle.rule_watch.specs.Rows.{Entry}
use Rattle.rule_watch.proofs.GroupValues.{left_out, numbers_with, put_there}
use Rattle.rule_watch.proofs.groups.put_entry.Goals as goal

pub returns-clause-groups : goal.returns-clause-groups
returns-clause-groups c = λ before are.
    let names : List (List ℕ) = names_in c.args.names.now.keys in
    let old : List Group = groups_in c.args.groups.now in
    let e : Entry = c.args.entry.now in
    let fits : FitsSigned w32 e.1 = search rules in
    let wide : FitsSigned w128 e.2 = search rules in
    let at : position (bytes_eq e.0) names ≡ Some c.in-Some.number = ap (λ n. position (bytes_eq n) names) (sym c.as_slice.ensures.value) ∙ sym c.number_of.ensures.number ∙ c.in-Some.is in
    put_there names before e old are (groups_in c.put_value.new.groups) c.in-Some.number at
    (λ k. c.in_ok-put_value.ensures k ∙ ap₂ (λ i n. cond (eqb c.in-Some.number k) (group_at old k ++ (i, n) ∷ []) (group_at old k)) (to_z-of_z w32 e.1 fits) (to_z-of_z w128 e.2 wide))

pub returns-clause-numbers : goal.returns-clause-numbers
returns-clause-numbers c =
    let old : List Group = groups_in c.args.groups.now in
    let e : Entry = c.args.entry.now in
    let fits : FitsSigned w32 e.1 = search rules in
    let wide : FitsSigned w128 e.2 = search rules in
    numbers_with old (groups_in c.put_value.new.groups) c.in-Some.number (e.1, e.2)
    (λ k. c.in_ok-put_value.ensures k ∙ ap₂ (λ i n. cond (eqb c.in-Some.number k) (group_at old k ++ (i, n) ∷ []) (group_at old k)) (to_z-of_z w32 e.1 fits) (to_z-of_z w128 e.2 wide))
    c.requires.value c.requires.numbers

pub returns-in_default-clause-groups : goal.returns-in_default-clause-groups
returns-in_default-clause-groups c = λ before are.
    let names : List (List ℕ) = names_in c.args.names.now.keys in
    left_out names before c.args.entry.now (groups_in c.args.groups.now) are (ap (λ n. position (bytes_eq n) names) (sym c.as_slice.ensures.value) ∙ sym c.number_of.ensures.number ∙ c.in_default.is)
