-- Each group starts with no metrics.
use Rattle.run_archive.proofs.Beside.{start_is}
use Rattle.run_archive.proofs.plans.Plans.start.Goals as goal

pub returns : goal.returns
returns c =
    start_is c.args.config.now.groups c.as_slice-groups.result.now c.in_ok-start.field-0 c.in_ok-none_asked.field-0.items c.args.now c.as_slice-groups.ensures c.in_ok-start.ensures c.in_ok-none_asked.ensures
