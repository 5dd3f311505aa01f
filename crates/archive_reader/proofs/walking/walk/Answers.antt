use Rattle.pcp_model.specs.Disk.{contents_of}
use Rattle.archive_reader.proofs.Stepping.{walked}
use Rattle.archive_reader.proofs.walking.walk.Goals as goal

pub returns-clause-step : goal.returns-clause-step
returns-clause-step g c = λ tells.
    walked (contents_of (g.D.Disk.held c.args.disk.now)) c.args.volumes.now c.args.index c.args.at c.settle-behind.result.0 c.settle-behind.result.1 c.stand.result c.settle-behind.ensures.volumes c.settle-behind.ensures.offset
    (c.stand.ensures.step tells)
