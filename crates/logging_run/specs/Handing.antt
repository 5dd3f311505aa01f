-- What is handed to a run, result by result, and the events that come of it.
use Rattle.std.specs.Prelude.{List, [], ◌∷◌, ◌++◌, map}
use Rattle.pcp_base.specs.declared.result.Item.{Item}
use Rattle.logging_session.specs.Events.{Event, items_by, opening, with_report}
use Rattle.logging_session.specs.Written.{Report}

-- A result was logged and made sure at once; or it was logged, and held to be written with others; or it wasn't logged, and the archive
-- was opened for it, where it wasn't open.
pub data Handed : Type 0 where
  sure : Report → Handed
  held : Report → Handed
  refused : Report → Handed

-- the events with those of one more
abbrev pub with_handed : List Event → Handed → List Event
with_handed events (Handed.sure r) = with_report events r ++ Event.synced ∷ []
with_handed events (Handed.held r) = with_report events r
with_handed events (Handed.refused r) = opening r.result.stamp events

abbrev pub events_behind : List Event → List Handed → List Event
events_behind events [] = events
events_behind events (h ∷ handed) = events_behind (with_handed events h) handed

-- the events of a run, but for the flush at its end
abbrev pub events_of : List Handed → List Event
events_of handed = events_behind [] handed

-- the results that were logged, in their order
abbrev pub reports_of : List Handed → List Report
reports_of [] = []
reports_of (Handed.sure r ∷ handed) = r ∷ reports_of handed
reports_of (Handed.held r ∷ handed) = r ∷ reports_of handed
reports_of (Handed.refused r ∷ handed) = reports_of handed

-- the items of a run
abbrev pub items_of_run : List Handed → List Item
items_of_run handed = items_by (events_of handed)

-- each result was made sure, or not logged
abbrev pub AreSure : List Handed → Type 0
AreSure [] = Unit {0}
AreSure (Handed.sure r ∷ handed) = AreSure handed
AreSure (Handed.held r ∷ handed) = ⊥
AreSure (Handed.refused r ∷ handed) = AreSure handed

-- each of these was logged and made sure
abbrev pub each_sure : List Report → List Handed
each_sure reports = map Handed.sure reports

-- each of these was logged, and held
abbrev pub each_held : List Report → List Handed
each_held reports = map Handed.held reports
