-- Where the files will end: what the writes of a run leave, in numbers, before any of them is made.
use Rattle.std.specs.Prelude.{ℕ, ◌+◌, Bool, nat_lt, if◌then◌else◌, Option, None, Some}
use Rattle.pcp_base.specs.Time.{Moment}
use Rattle.pcp_model.specs.declared.records.Entry.{Entry}
use Rattle.pcp_outside.specs.Causes.{shown_count}
use Rattle.logger_core.specs.declared.ends.Ends.{Ends}
use Rattle.logger_core.specs.Going.{all_counted}
use Rattle.logger_core.specs.LogSteps.{switch_entry}
use Rattle.logger_core.specs.Steps.{due}

-- an item was logged, at whatever time
abbrev pub has_stood : Ends → Bool
has_stood e = nat_lt 0 e.logged

-- the entry that a flush puts behind the index
abbrev pub due_at : Ends → Option Entry
due_at e = due e.greatest (has_stood e) e.entry e.index e.volume e.meta e.length

-- the entry that leads to the label of the volume that was opened
abbrev pub switch_at : Ends → Option Entry
switch_at e = switch_entry e.greatest e.index e.volume e.meta

-- an entry stands behind the index, if there is one
abbrev pub with_put : Option Entry → Ends → Ends
with_put None e = e
with_put (Some x) e = record { meta = e.meta; index = e.index + 20; volume = e.volume; length = e.length; greatest = e.greatest; entry = Some x; logged = e.logged; acknowledged = e.acknowledged }

-- the ends after a flush
abbrev pub flushed_ends : Ends → Ends
flushed_ends e = with_put (due_at (all_counted e)) (all_counted e)

-- the next volume holds its label
abbrev pub opened_ends : Ends → Ends
opened_ends e = record { meta = e.meta; index = e.index; volume = e.volume + 1; length = 132; greatest = e.greatest; entry = e.entry; logged = e.logged; acknowledged = e.acknowledged }

abbrev pub led_ends : Ends → Ends
led_ends e = with_put (switch_at e) e

-- the ends after a switch to the next volume
abbrev pub switched_ends : Ends → Ends
switched_ends e = led_ends (opened_ends (flushed_ends e))

abbrev pub ready_ends : Bool → Ends → Ends
ready_ends b e = if b then switched_ends e else e

-- so many bytes of metadata and of items stand, of so many items, the last of which is stamped so
abbrev pub ran_ends : ℕ → ℕ → ℕ → Moment → Ends → Ends
ran_ends records items count t e = record { meta = e.meta + records; index = e.index; volume = e.volume; length = e.length + items; greatest = Some t; entry = e.entry; logged = shown_count (e.logged + count); acknowledged = e.acknowledged }

-- The ends once one more result is written: whether it goes into the next volume, how long its metadata and its record are, and
-- its stamp.
abbrev pub planned_ends : Bool → ℕ → ℕ → Moment → Ends → Ends
planned_ends crossing records item t e = ran_ends records item 1 t (ready_ends crossing e)
