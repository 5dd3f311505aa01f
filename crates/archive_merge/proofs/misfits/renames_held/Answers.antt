use Rattle.std.proofs.Common.{◌≡◌, [], sym, ap, ◌∙◌, rules}
use Rattle.archive_merge.specs.Facts.{pairs_in}
use Rattle.archive_merge.specs.Naming.{Pairs, renames}
use Rattle.std.specs.Option.{option_copied}
use Rattle.archive_merge.proofs.Lookups.{no_second}
use Rattle.archive_merge.proofs.misfits.renames_held.Goals as goal

pub returns-in-None : goal.returns-in-None
returns-in-None c =
    let none : [] ≡ pairs_in (option_copied c.args.second) = search rules in
    sym (no_second c.args.first.now c.args.body.now) ∙ ap (λ (l : Pairs). renames c.args.first.now l c.args.body.now) none
