-- `value SEC USEC NAME` writes the values that a metric last had at a moment, and when.
use Rattle.std.specs.Prelude.{◌≡◌, ℕ, List, Option, Some, None}
use Rattle.pcp_base.specs.Time.{Moment}
use Rattle.pcp_base.specs.declared.result.ValueSet.{ValueSet}
use Rattle.archive_meta.specs.Said.{metric_of_name}
use Rattle.archive_loading.specs.Loaded.{Loaded}
use Rattle.archive_reader.specs.Values.{IsValueAt, IsValueFault, value_at}
use Rattle.archive_reader.specs.declared.fault.ReaderFault.TheVariants as faults
use Rattle.pm_print.specs.Items.{set_text}
use Rattle.pm_words.specs.declared.refusal.Refusal.{Refusal}
use Rattle.pm_words.specs.declared.refusal.Refusal.TheVariants.{NotArchive, Nothing}
use Rattle.pm_words.specs.declared.words.ValueWords.{ValueWords}
use Rattle.pm_tasks.specs.Archives.{IsLoaded, TurnedAfter, OverReadable, looks, nothing_before, takes_any}
use Rattle.pm_words.specs.Meaning.{Meaning}
use Rattle.pm_words.specs.Sides.{Found}

-- the text of a metric's values at a moment
abbrev pub HasValue : Found → Loaded → ℕ → Moment → List ℕ → Type 0
HasValue found r pmid t text = (v : Moment × ValueSet) × IsValueAt found.files r.volumes pmid t (Some v)
    × OverReadable found (λ items. value_at pmid t items ≡ Some v) × (text ≡ set_text r.records v.0 v.1)

-- a record is no item's, or the metric has no values at the moment
abbrev pub HasNoValue : ℕ → Moment → Loaded → Found → Refusal → Type 0
HasNoValue pmid t r found (NotArchive file offset) = IsValueFault found.files r.volumes pmid t (faults.NotArchive file offset)
HasNoValue pmid t r found (Nothing stamp) = (stamp ≡ t) × IsValueAt found.files r.volumes pmid t None × OverReadable found (λ items. value_at pmid t items ≡ None)
HasNoValue pmid t r found _ = ⊥

-- no metric has the name, or it has no values at the moment
abbrev pub HasNothing : Found → Loaded → Moment → Option ℕ → Type 0
HasNothing found r t None = Unit {0}
HasNothing found r t (Some pmid) = IsValueAt found.files r.volumes pmid t None × OverReadable found (λ items. value_at pmid t items ≡ None)

-- where no values are found: no metric has the name; or, of the one that has it, a record is no item's, or there are none
abbrev pub IsStopped : ValueWords → Loaded → Found → Refusal → Type 0
IsStopped asked r found (NotArchive file offset) = (pmid : ℕ) × (metric_of_name r.records asked.name ≡ Some pmid) × IsValueFault found.files r.volumes pmid asked.stamp (faults.NotArchive file offset)
IsStopped asked r found (Nothing stamp) = (stamp ≡ asked.stamp) × HasNothing found r asked.stamp (metric_of_name r.records asked.name)
IsStopped asked r found _ = ⊥

abbrev pub IsTurnedAway : ValueWords → Found → Refusal → Type 0
IsTurnedAway asked found e = TurnedAfter (IsStopped asked) found e

abbrev pub IsOutput : ValueWords → Found → List ℕ → Type 0
IsOutput asked found text = (r : Loaded) × IsLoaded found r × (pmid : ℕ) × (metric_of_name r.records asked.name ≡ Some pmid) × HasValue found r pmid asked.stamp text

abbrev pub value : ValueWords → Meaning
value asked = looks (IsTurnedAway asked) (IsOutput asked) nothing_before takes_any
