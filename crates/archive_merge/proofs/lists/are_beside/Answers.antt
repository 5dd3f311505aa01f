use Rattle.std.proofs.Common.{◌≡◌, sym, ap₂, ◌∙◌, rules}
use Rattle.std.specs.Option.{option_copied}
use Rattle.archive_merge.specs.Facts.{both_lists, pairs_in}
use Rattle.archive_merge.specs.Naming.{Pairs}
use Rattle.archive_merge.proofs.Again.{both_same}
use Rattle.archive_merge.proofs.lists.are_beside.Goals as goal

pub returns-in-Some : goal.returns-in-Some
returns-in-Some c = λ same.
    let some : c.in-Some.second.now ≡ pairs_in (option_copied c.args.second) = search rules in
    let first : c.args.first.now ≡ c.args.pairs.now = c.are.ensures.0 c.if-not-are.false in
    let second : c.in-Some.second.now ≡ c.args.pairs.now = c.are-in-Some.ensures.0 same in
    sym (both_same c.args.pairs.now) ∙ ap₂ (λ (ours theirs : Pairs). both_lists ours theirs) (sym first) (sym second ∙ some)
