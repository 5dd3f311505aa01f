-- `at SEC USEC` writes the last item that isn't stamped after a moment: over a sound archive that of the scan, and over others that
-- of the records where the index says.
use Rattle.std.specs.Prelude.{◌≡◌, ℕ, List, Some, None}
use Rattle.pcp_base.specs.Time.{Moment}
use Rattle.pcp_base.specs.declared.result.Item.{Item}
use Rattle.archive_reader.specs.Asked.{at_begin, IsAtFrom, IsAtFault}
use Rattle.archive_loading.specs.Loaded.{Loaded}
use Rattle.archive_reader.specs.Searches.{at as last_at}
use Rattle.archive_reader.specs.declared.fault.ReaderFault.TheVariants as faults
use Rattle.pm_print.specs.Items.{item_text}
use Rattle.pm_words.specs.declared.refusal.Refusal.{Refusal}
use Rattle.pm_words.specs.declared.refusal.Refusal.TheVariants.{NotArchive, Nothing}
use Rattle.pm_tasks.specs.Archives.{IsLoaded, TurnedAfter, OverSound, looks, nothing_before}
use Rattle.pm_tasks.specs.Takes.{TookAt}
use Rattle.pm_words.specs.Meaning.{Meaning}
use Rattle.pm_words.specs.Sides.{Found}

-- where the search for it doesn't end: a record on the way is no item's, or it begins outside the records
abbrev pub IsStopped : Moment → Loaded → Found → Refusal → Type 0
IsStopped t r found (NotArchive file offset) = IsAtFault found.files r.volumes t (at_begin r t) (faults.NotArchive file offset)
IsStopped t r found (Nothing stamp) = (stamp ≡ t) × IsAtFrom found.files r.volumes t (at_begin r t) None × OverSound found (λ items. last_at t items ≡ None)
IsStopped t r found _ = ⊥

abbrev pub IsTurnedAway : Moment → Found → Refusal → Type 0
IsTurnedAway t found e = TurnedAfter (IsStopped t) found e

abbrev pub IsOutput : Moment → Found → List ℕ → Type 0
IsOutput t found text = (r : Loaded) × IsLoaded found r × (x : Item) × IsAtFrom found.files r.volumes t (at_begin r t) (Some x)
    × OverSound found (λ items. last_at t items ≡ Some x) × (text ≡ item_text r.records x)

abbrev pub at : Moment → Meaning
at t = looks (IsTurnedAway t) (IsOutput t) nothing_before (TookAt t)
