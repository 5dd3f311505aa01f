-- So many samples are logged.
use Rattle.logging_session.specs.Keeping.{IsWorking}
use Rattle.pm_pulling.proofs.Samples.{SoFar}
use Rattle.pm_pulling.proofs.sampling.log_samples.Given as goal

abbrev pub invariant-loop-number : goal.invariant-loop-number
invariant-loop-number g l = record {
  working : IsWorking l.run;
  far : SoFar g.I.Source g.L.Sink g.D.Disk l.asked l.number l.fn.reply l.reply l.fn.request l.request l.fn.disk l.disk l.fn.run l.dialogue l.run;
}
