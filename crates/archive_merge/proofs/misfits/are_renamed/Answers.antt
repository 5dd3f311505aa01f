use Rattle.std.proofs.Common.{◌≡◌, [], sym, ap, ◌∙◌, rules}
use Rattle.archive_merge.specs.Naming.{Pairs, pairs_at, renames}
use Rattle.archive_merge.proofs.Lookups.{no_first}
use Rattle.archive_merge.proofs.misfits.are_renamed.Goals as goal

pub returns-in-None : goal.returns-in-None
returns-in-None c =
    let none : [] ≡ pairs_at c.args.first.now c.args.indom c.args.t = search rules in
    sym (no_first (pairs_at c.args.second.now c.args.indom c.args.t) c.args.body.now) ∙ ap (λ (l : Pairs). renames l (pairs_at c.args.second.now c.args.indom c.args.t) c.args.body.now) none
