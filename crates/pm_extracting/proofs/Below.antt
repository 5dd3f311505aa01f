-- What holds of the extracts, the runs and the files below.
use Rattle.logging_run.proofs.Events.{run_items}
use Rattle.logging_run.proofs.OneArchive.{one_away}
use Rattle.logging_run.specs.Laws.{ItemsAreReports, TurnedAwayForOne}
use Rattle.log_extract.proofs.Reports.{all_merged, reports_merged}
use Rattle.log_extract.specs.Laws.{AllIsMerged, ReportsAreMerged}
use Rattle.pm_words.proofs.Unreadable.{refused_is_none}
use Rattle.pm_extracting.proofs.Completes.{RefusesNone}

pub items_are : ItemsAreReports
items_are = run_items

pub merged : ReportsAreMerged
merged = reports_merged

pub whole : AllIsMerged
whole = all_merged

pub refuses_none : RefusesNone
refuses_none = refused_is_none

pub once : TurnedAwayForOne
once = one_away
