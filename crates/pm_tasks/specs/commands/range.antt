-- `range SEC USEC SEC USEC` writes the items between two moments, both included: over a sound archive those of the scan, and over
-- others those of the records from where the index says. Where there is none it writes nothing.
use Rattle.std.specs.Prelude.{◌≡◌, ℕ, List}
use Rattle.pcp_base.specs.Time.{Moment}
use Rattle.pcp_base.specs.declared.result.Item.{Item}
use Rattle.archive_reader.specs.Asked.{range_begin, IsRangeFrom, IsRangeFault}
use Rattle.archive_loading.specs.Loaded.{Loaded}
use Rattle.archive_reader.specs.Searches.{between}
use Rattle.archive_reader.specs.declared.fault.ReaderFault.TheVariants as faults
use Rattle.pm_print.specs.Items.{items_text}
use Rattle.pm_words.specs.declared.refusal.Refusal.{Refusal}
use Rattle.pm_words.specs.declared.refusal.Refusal.TheVariants.{NotArchive}
use Rattle.pm_tasks.specs.Archives.{IsLoaded, TurnedAfter, OverSound, looks, nothing_before}
use Rattle.pm_tasks.specs.Takes.{TookRange}
use Rattle.pm_words.specs.Meaning.{Meaning}
use Rattle.pm_words.specs.Sides.{Found}

-- where they aren't read to the end: a record on the way is no item's, or the search begins outside the records
abbrev pub IsStopped : Moment → Moment → Loaded → Found → Refusal → Type 0
IsStopped from to r found (NotArchive file offset) = IsRangeFault found.files r.volumes to (range_begin r from) (faults.NotArchive file offset)
IsStopped from to r found _ = ⊥

abbrev pub IsTurnedAway : Moment → Moment → Found → Refusal → Type 0
IsTurnedAway from to found e = TurnedAfter (IsStopped from to) found e

abbrev pub IsOutput : Moment → Moment → Found → List ℕ → Type 0
IsOutput from to found text = (r : Loaded) × IsLoaded found r × (items : List Item) × IsRangeFrom found.files r.volumes from to (range_begin r from) items
    × OverSound found (λ all. between from to all ≡ items) × (text ≡ items_text r.records items)

abbrev pub range : Moment → Moment → Meaning
range from to = looks (IsTurnedAway from to) (IsOutput from to) nothing_before (TookRange from to)
