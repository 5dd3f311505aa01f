-- What holds of runs.
use Rattle.std.specs.Prelude.{◌≡◌, ◌≢◌, ℕ, List, [], ◌∷◌, ◌++◌, map, length}
use Rattle.pcp_base.specs.declared.result.Item.TheVariants.{Sample}
use Rattle.pcp_model.specs.Disk.{Files}
use Rattle.logger_core.specs.declared.fault.LogFault.{LogFault}
use Rattle.logger_core.specs.declared.fault.LogFault.TheVariants as logs
use Rattle.logging_session.specs.Course.{LeadsTo}
use Rattle.logging_session.specs.Crashes.{LosesAtMostOne}
use Rattle.logging_session.specs.Events.{Event, acknowledged_by, closing}
use Rattle.logging_session.specs.Written.{Report}
use Rattle.logging_run.specs.Handing.{AreSure, Handed, events_of, items_of_run, reports_of, with_handed}
use Rattle.logging_run.specs.Named.{run_label}
use Rattle.logging_run.specs.Recovering.{IsRecovered}
use Rattle.logging_run.specs.Running.{IsTurnedAway}

-- Of a run whose results are each made sure a crash loses at most one result: the one that was logged last and wasn't made sure yet.
abbrev pub SureRunsLoseAtMostOne : Type 0
SureRunsLoseAtMostOne = (handed : List Handed) → AreSure handed
    → LosesAtMostOne (events_of handed) × LosesAtMostOne (closing (events_of handed)) × ((r : Report) → LosesAtMostOne (events_of (handed ++ Handed.held r ∷ [])))

-- Between its calls all that it logged is acknowledged.
abbrev pub SureRunsAreAcknowledged : Type 0
SureRunsAreAcknowledged = (handed : List Handed) → AreSure handed → acknowledged_by (events_of handed) ≡ length (reports_of handed)

-- the items of a run are its reports' results, one behind another
abbrev pub ItemsAreReports : Type 0
ItemsAreReports = (handed : List Handed) → items_of_run handed ≡ map (λ (r : Report). Sample r.result) (reports_of handed)

-- what comes of one more stands behind what came before it
abbrev pub EventsGrow : Type 0
EventsGrow = (handed : List Handed) (h : Handed) → events_of (handed ++ h ∷ []) ≡ with_handed (events_of handed) h

-- One list of events leads from what recovery left to one set of files.
abbrev pub EventsLeadToOne : Type 0
EventsLeadToOne = (limit : ℕ) (left : Files) (events : List Event) (files others : Files) → LeadsTo run_label limit left events files → LeadsTo run_label limit left events others → files ≡ others

-- An archive turns a result away for one reason.
abbrev pub TurnedAwayForOne : Type 0
TurnedAwayForOne = (limit : ℕ) (start : Files) (events : List Event) (r : Report) (a b : LogFault) → a ≢ logs.NoMemory → b ≢ logs.NoMemory → IsTurnedAway limit start events r a → IsTurnedAway limit start events r b → a ≡ b

-- A result that an archive took, and that was made sure, is none that it turns away.
abbrev pub TakenIsNotTurnedAway : Type 0
TakenIsNotTurnedAway = (limit : ℕ) (start left : Files) (before after : List Handed) (r : Report) (files : Files) (fault : LogFault) → fault ≢ logs.NoMemory → IsRecovered start left
    → LeadsTo run_label limit left (closing (events_of (before ++ Handed.sure r ∷ after))) files → IsTurnedAway limit start (events_of before) r fault → ⊥
