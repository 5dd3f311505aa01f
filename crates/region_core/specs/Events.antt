-- The acts that store an image word, and their replay over words.
use Rattle.std.specs.Prelude.{ℕ, List, [], ◌∷◌, Option, Some, None, IsSome, slice_index, slice_set}
use Rattle.std.specs.List.{filter_map}
use Rattle.region_core.specs.declared.act.Act.{Act}
use Rattle.region_core.specs.declared.act.Act.TheVariants.{Swap, Add, Begin, Put, End}
use Rattle.region_core.specs.declared.act.Entry.{Entry}
use Rattle.region_core.specs.declared.event.Event.{Event}
use Rattle.region_core.specs.declared.event.Event.TheVariants.{Begin as Begun, Put as Stored, End as Ended, Swap as Swapped, Add as Added}
use Rattle.region_core.specs.State.{plus}

-- the event of an act of pass k, if it is one
abbrev pub event_by : ℕ → Act → Option Event
event_by k (Begin n) = Some (Begun n)
event_by k (Put w v) = Some (Stored w v)
event_by k (End n) = Some (Ended n)
event_by k (Swap w v) = Some (Swapped k w v)
event_by k (Add w d) = Some (Added k w d)
event_by k _ = None

-- the event of an entry, if its act is one
abbrev pub event_of : Entry → Option Event
event_of e = event_by e.by e.act

-- the entry stores an image word
abbrev pub IsEvent : Entry → Type 0
IsEvent e = IsSome (event_of e)

-- the events of these entries, in order
abbrev pub events_of : List Entry → List Event
events_of log = filter_map event_of log

-- the words after one event
abbrev pub after_event : List ℕ → Event → List ℕ
after_event words (Begun n) = slice_set words 1 n
after_event words (Stored w v) = slice_set words w v
after_event words (Ended n) = slice_set words 2 n
after_event words (Swapped k w v) = slice_set words w v
after_event words (Added k w d) = slice_set words w (plus (slice_index words w) d)

-- the words after these events
abbrev pub after_events : List ℕ → List Event → List ℕ
after_events words [] = words
after_events words (e ∷ es) = after_events (after_event words e) es
