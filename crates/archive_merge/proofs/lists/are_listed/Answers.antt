use Rattle.std.proofs.Common.{◌≡◌, [], sym, ap, ◌∙◌, rules}
use Rattle.std.specs.Option.{option_copied}
use Rattle.archive_merge.specs.Facts.{both_lists, pairs_in}
use Rattle.archive_merge.specs.Naming.{Pairs}
use Rattle.archive_merge.proofs.Again.{second_alone}
use Rattle.archive_merge.proofs.lists.are_listed.Goals as goal

pub returns-in-None : goal.returns-in-None
returns-in-None c = λ held.
    let none : [] ≡ pairs_in (option_copied c.args.first) = search rules in
    let theirs : c.args.pairs.now ≡ pairs_in (option_copied c.args.second) = c.are_held.ensures held in
    theirs ∙ sym (second_alone (pairs_in (option_copied c.args.second))) ∙ ap (λ (l : Pairs). both_lists l (pairs_in (option_copied c.args.second))) none
