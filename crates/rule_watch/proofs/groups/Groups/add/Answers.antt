-- The name is among them, or comes behind them.
use Rattle.std.proofs.Common.{◌≡◌, ℕ, false, is_some, Some, List, [], ◌∷◌, ◌++◌, ◌||◌, sym, ap, subst, ◌∙◌}
use Rattle.std.specs.Prelude.{bytes_eq, position}
use Rattle.std.specs.List.{list_any}
use Rattle.std.specs.Global.{Vec}
use Rattle.rule_watch.specs.Groups.{Grouped, names_in}
use Rattle.rule_watch.proofs.GroupValues.{named_behind, named_there, names_with, position_behind, same_bytes, there_at}
use Rattle.std.proofs.lemmas.List.{length-map}
use Rattle.rule_watch.proofs.groups.Groups.add.Goals as goal

pub returns-in-Some-clause-named : goal.returns-in-Some-clause-named
returns-in-Some-clause-named c =
    let names : List (List ℕ) = c.args.self.now.names in
    let at : position (bytes_eq c.args.name.now) names ≡ Some c.in-Some.number = ap (λ (g : Grouped). position (bytes_eq c.args.name.now) g.names) (sym c.self.view_is) ∙ sym c.number_of.ensures.number ∙ c.in-Some.is in
    named_there names c.args.name.now (there_at names c.args.name.now c.in-Some.number at)

pub returns-clause-number : goal.returns-clause-number
returns-clause-number c =
    let name : List ℕ = c.args.name.now in
    let key : Vec ℕ = c.in_ok-copy.copy in
    let keys : List (Vec ℕ) = c.self.inside.names.keys in
    let names : List (List ℕ) = names_in keys in
    let is : key.items ≡ name = c.in_ok-copy.ensures.items in
    let none : list_any (bytes_eq name) names ≡ false = sym c.number_of.ensures.found ∙ ap is_some c.in_default.is in
    let none_of : list_any (bytes_eq key.items) names ≡ false = ap (λ n. list_any (bytes_eq n) names) is ∙ none in
    let later : names_in c.insert.new.self.keys ≡ names ++ name ∷ [] = ap names_in c.in_ok-insert.ensures.keys ∙ names_with keys key none_of ∙ ap (λ n. names ++ n ∷ []) is in
    ap (position (bytes_eq name)) later ∙ position_behind (bytes_eq name) names name none (same_bytes name) ∙ ap Some (length-map keys (λ (k : Vec ℕ). k.items) ∙ sym c.len-number.ensures.len)

pub returns-clause-named : goal.returns-clause-named
returns-clause-named c = λ other.
    let name : List ℕ = c.args.name.now in
    let key : Vec ℕ = c.in_ok-copy.copy in
    let keys : List (Vec ℕ) = c.self.inside.names.keys in
    let names : List (List ℕ) = names_in keys in
    let is : key.items ≡ name = c.in_ok-copy.ensures.items in
    let none : list_any (bytes_eq name) names ≡ false = sym c.number_of.ensures.found ∙ ap is_some c.in_default.is in
    let none_of : list_any (bytes_eq key.items) names ≡ false = ap (λ n. list_any (bytes_eq n) names) is ∙ none in
    let later : names_in c.insert.new.self.keys ≡ names ++ name ∷ [] = ap names_in c.in_ok-insert.ensures.keys ∙ names_with keys key none_of ∙ ap (λ n. names ++ n ∷ []) is in
    ap (list_any (bytes_eq other)) later ∙ subst (λ (g : Grouped). list_any (bytes_eq other) (names ++ name ∷ []) ≡ (list_any (bytes_eq other) g.names || bytes_eq other name)) c.self.view_is (named_behind names name other)
