-- What a session does to its archive, event by event, and what the events leave: the files, the items, and how many of these are
-- acknowledged.
use Rattle.std.specs.Prelude.{◌≡◌, ℕ, ◌+◌, Bool, true, false, List, [], ◌∷◌, ◌++◌}
use Rattle.pcp_base.specs.Time.{Moment}
use Rattle.pcp_base.specs.declared.result.Item.{Item}
use Rattle.pcp_base.specs.declared.result.Item.TheVariants.{Sample}
use Rattle.pcp_model.specs.Disk.{Files}
use Rattle.pcp_model.specs.LabelFields.{LabelFields}
use Rattle.logging_session.specs.Written.{Written, Stand, Report, Opens, Logs, Flushes, starting}

-- The archive was opened for a result of this moment; a result was logged; a flush made all sure and put an entry where one was due; the
-- volume was made sure, and no entry put.
pub data Event : Type 0 where
  opened : Moment → Event
  logged : Report → Event
  flushed : Event
  synced : Event

-- the first result opens the archive, and then it is open
abbrev pub opening : Moment → List Event → List Event
opening stamp [] = Event.opened stamp ∷ []
opening stamp (e ∷ events) = e ∷ events

abbrev pub with_report : List Event → Report → List Event
with_report events r = opening r.result.stamp events ++ Event.logged r ∷ []

-- the last of these events logged a result
abbrev pub EndsLogged : List Event → Type 0
EndsLogged [] = ⊥
EndsLogged (Event.logged r ∷ []) = Unit {0}
EndsLogged (e ∷ []) = ⊥
EndsLogged (e ∷ f ∷ events) = EndsLogged (f ∷ events)

-- results that were logged one behind another
abbrev pub logged_all : List Report → List Event
logged_all [] = []
logged_all (r ∷ reports) = Event.logged r ∷ logged_all reports

-- before it is open there is nothing to flush
abbrev pub behind : List Event → Event → List Event
behind [] event = []
behind (e ∷ events) event = (e ∷ events) ++ event ∷ []

-- all is made sure, and where that is wanted an entry put
abbrev pub sure_event : Bool → Event
sure_event true = Event.flushed
sure_event false = Event.synced

-- the items that were logged, in their order
abbrev pub items_by : List Event → List Item
items_by [] = []
items_by (Event.logged r ∷ events) = Sample r.result ∷ items_by events
items_by (e ∷ events) = items_by events

-- the end of a session, which logged these items: where there are none, nothing is done
abbrev pub flushed_behind : List Item → List Event → List Event
flushed_behind [] events = events
flushed_behind (x ∷ items) events = events ++ Event.flushed ∷ []

abbrev pub closing : List Event → List Event
closing events = flushed_behind (items_by events) events

-- A flush or a sync acknowledges all items that were logged before it. So of so many items, so many of them acknowledged, with these
-- events behind, so many are acknowledged.
abbrev pub sure_after : ℕ → ℕ → List Event → ℕ
sure_after all sure [] = sure
sure_after all sure (Event.opened stamp ∷ events) = sure_after all sure events
sure_after all sure (Event.logged r ∷ events) = sure_after (all + 1) sure events
sure_after all sure (Event.flushed ∷ events) = sure_after all all events
sure_after all sure (Event.synced ∷ events) = sure_after all all events

abbrev pub acknowledged_by : List Event → ℕ
acknowledged_by events = sure_after 0 0 events

-- An event, over whole files: what recovery left is opened, and into an open archive results are logged.
abbrev pub Steps : LabelFields → ℕ → Stand → Event → Stand → Type 0
Steps l limit (Stand.found left) (Event.opened stamp) next = (w : Written) × Opens (starting l stamp) left w × (next ≡ Stand.opened w)
Steps l limit (Stand.opened old) (Event.logged r) next = (w : Written) × Logs limit r old w × (next ≡ Stand.opened w)
Steps l limit (Stand.opened old) Event.flushed next = (w : Written) × Flushes old w × (next ≡ Stand.opened w)
Steps l limit (Stand.opened old) Event.synced next = next ≡ Stand.opened old
Steps l limit stand event next = ⊥

-- events one after another
abbrev pub Lead : LabelFields → ℕ → Stand → List Event → Stand → Type 0
Lead l limit stand [] last = last ≡ stand
Lead l limit stand (e ∷ events) last = (next : Stand) × Steps l limit stand e next × Lead l limit next events last

-- over what recovery left
abbrev pub LeadFrom : LabelFields → ℕ → Files → List Event → Stand → Type 0
LeadFrom l limit left events last = Lead l limit (Stand.found left) events last
