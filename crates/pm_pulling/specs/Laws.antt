-- What holds of samples that are logged.
use Rattle.std.specs.Prelude.{ℕ, List}
use Rattle.pcp_model.specs.Disk.{Files}
use Rattle.logging_session.specs.Course.{LeadsTo}
use Rattle.logging_session.specs.Events.{closing}
use Rattle.logging_run.specs.Handing.{events_of}
use Rattle.logging_run.specs.Named.{run_label}
use Rattle.logging_run.specs.Recovering.{IsRecovered}
use Rattle.pmcd_client.specs.Talks.{Sample}
use Rattle.pm_pulling.specs.Good.{TakesEach}
use Rattle.pm_pulling.specs.Pulling.{all_sure}

-- Where samples, logged one behind another over what recovery left and flushed, lead to files, the archive takes each of them.
abbrev pub LedSamplesAreTaken : Type 0
LedSamplesAreTaken = (limit : ℕ) (start left : Files) (samples : List Sample) (files : Files) → IsRecovered start left → LeadsTo run_label limit left (closing (events_of (all_sure samples))) files → TakesEach limit start samples
