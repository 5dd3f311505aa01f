-- A server of regions in ascending cluster has them as they stood.
use Rattle.run_passes.proofs.OpeningServer.{same_order}
use Rattle.run_passes.proofs.opening.serve.Goals as goal

pub returns : goal.returns
returns c = same_order c.args.mounted.items c.in-Ok.server c.requires.rise c.in-Ok.ensures
