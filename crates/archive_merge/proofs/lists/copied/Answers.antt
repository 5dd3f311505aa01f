use Rattle.std.proofs.Common.{◌++◌, ap, ◌∙◌}
use Rattle.std.specs.Prelude.{option_to_list}
use Rattle.std.specs.List.{slice_get}
use Rattle.archive_merge.specs.Naming.{Pairs}
use Rattle.archive_merge.proofs.Lookups.{take_get}
use Rattle.archive_merge.proofs.lists.copied.Goals as goal

pub loop-at-preserved : goal.loop-at-preserved
loop-at-preserved c =
    c.in_ok-push_pair.ensures ∙ ap (λ (l : Pairs). l ++ option_to_list (slice_get c.args.pairs.now c.loop-at.at)) c.loop-at.invariant ∙ take_get c.args.pairs.now c.loop-at.at
