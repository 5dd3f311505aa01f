-- What holds of the runs and the files below.
use Rattle.logging_run.proofs.Events.{run_items}
use Rattle.logging_run.proofs.Losing.{loses_one}
use Rattle.logging_run.proofs.OneArchive.{one_away}
use Rattle.logging_run.proofs.Taken.{taken as is_taken}
use Rattle.logging_run.specs.Laws.{ItemsAreReports, SureRunsLoseAtMostOne, TakenIsNotTurnedAway, TurnedAwayForOne}
use Rattle.pm_words.proofs.Unreadable.{refused_is_none}
use Rattle.pm_pulling.proofs.Completes.{RefusesNone}

pub items_are : ItemsAreReports
items_are = run_items

pub loses : SureRunsLoseAtMostOne
loses = loses_one

pub refuses_none : RefusesNone
refuses_none = refused_is_none

pub taken : TakenIsNotTurnedAway
taken = is_taken

pub once : TurnedAwayForOne
once = one_away
