use Rattle.archive_merge.proofs.Again.{made_so}
use Rattle.archive_merge.proofs.kept.SourceFacts.between.Goals as goal

pub of-requires : goal.of-requires
of-requires c =
    made_so c.in_ok-facts.facts c.in_ok-facts.count c.in_ok-used.used c.in_ok-others.others c.args.first.now c.args.second.now c.args.t c.args.ours.now c.args.theirs.now
    c.in_ok-used.ensures c.in_ok-others.ensures c.in_ok-facts.ensures.facts c.in_ok-facts.ensures.count
