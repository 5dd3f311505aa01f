-- What holds of items that are logged.
use Rattle.std.specs.Prelude.{ℕ, List}
use Rattle.pcp_model.specs.Disk.{Files}
use Rattle.logging_session.specs.Course.{LeadsTo}
use Rattle.logging_session.specs.Events.{closing}
use Rattle.logging_session.specs.Written.{Report}
use Rattle.logging_run.specs.Handing.{each_held, events_of}
use Rattle.logging_run.specs.Named.{run_label}
use Rattle.logging_run.specs.Recovering.{IsRecovered}
use Rattle.pm_extracting.specs.Good.{TakesEach}

-- Where items, logged one behind another over what recovery left and flushed, lead to files, the archive takes each of them.
abbrev pub LedItemsAreTaken : Type 0
LedItemsAreTaken = (limit : ℕ) (start left : Files) (reports : List Report) (files : Files) → IsRecovered start left → LeadsTo run_label limit left (closing (events_of (each_held reports))) files → TakesEach limit start reports
