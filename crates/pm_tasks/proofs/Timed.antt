-- What searches of an archive by time answer, as commands do.
use Rattle.std.proofs.Common.{◌≡◌, inr, ⊎_elim, ℕ, List, refl, sym, subst, Option, Some, Result, Ok, Err, IfOk, IfErr}
use Rattle.pcp_base.specs.Time.{Moment}
use Rattle.pcp_base.specs.declared.file.FileId.{FileId}
use Rattle.pcp_base.specs.declared.result.Item.{Item}
use Rattle.pcp_base.specs.declared.result.ValueSet.{ValueSet}
use Rattle.pcp_model.specs.Disk.{Files, contents_of}
use Rattle.pcp_outside.specs.Causes.{Rose}
use Rattle.pcp_outside.specs.declared.disk.Disk.{Ghosts as DiskGhosts}
use Rattle.archive_meta.specs.Said.{metric_of_name}
use Rattle.archive_loading.specs.Looks.{Looks}
use Rattle.archive_reader.specs.Asked.{at_begin, range_begin, IsAtFrom, IsAtFault, IsRangeFrom, IsRangeFault}
use Rattle.archive_loading.specs.Loaded.{Loaded, IsOver}
use Rattle.archive_reader.specs.Searches.{at as last_at, between}
use Rattle.archive_reader.specs.Values.{IsValueAt, IsValueFault, value_at}
use Rattle.archive_reader.proofs.Downward.{readable_finds_value}
use Rattle.archive_reader.proofs.Finds.{sound_finds_last, sound_finds_range}
use Rattle.archive_reader.specs.declared.beginning.Begin.{Begin}
use Rattle.archive_reader.specs.declared.beginning.Begin.TheVariants.{At, Outside}
use Rattle.archive_reader.specs.declared.fault.ReaderFault.{ReaderFault}
use Rattle.archive_reader.specs.declared.fault.ReaderFault.TheVariants as faults
use Rattle.pm_words.specs.declared.refusal.Refusal.TheVariants.{NotArchive, Nothing}
use Rattle.pm_words.specs.declared.words.ValueWords.{ValueWords}
use Rattle.pm_words.specs.declared.refusal.Refusal.{Refusal}
use Rattle.pm_tasks.specs.Archives.{IsLoaded, TurnedAway, OverReadable, OverSound}
use Rattle.pm_words.specs.Refusals.{reader_refusal}
use Rattle.pm_words.specs.Sides.{Found, disk_side, files_found}
use Rattle.pm_tasks.specs.commands.at as at
use Rattle.pm_tasks.specs.commands.range as range
use Rattle.pm_tasks.specs.commands.value as value
use Rattle.pm_tasks.proofs.Asking.{turned_on}

-- no search names a file that stands wrapped
at_unwrapped : (files : Files) (volumes : List (ℕ × ℕ)) (t : Moment) (begin : Begin) (file : FileId) → IsAtFault files volumes t begin (faults.Compressed file) → ⊥
at_unwrapped files volumes t (At n offset) file why = ⊎_elim (λ (none : ⊥). none) (λ back. back.1) why
at_unwrapped files volumes t (Outside n offset) file why = why

range_unwrapped : (files : Files) (volumes : List (ℕ × ℕ)) (to : Moment) (begin : Begin) (file : FileId) → IsRangeFault files volumes to begin (faults.Compressed file) → ⊥
range_unwrapped files volumes to (At n offset) file why = why
range_unwrapped files volumes to (Outside n offset) file why = why

-- of the metric that a name leads to
pub of_named : (asked : ValueWords) (pmid : ℕ) (r : Loaded) → metric_of_name r.records asked.name ≡ Some pmid → (f : Found) (e : Refusal) → value.HasNoValue pmid asked.stamp r f e → value.IsStopped asked r f e
of_named asked pmid r is f (NotArchive file offset) why = (pmid, is, why)
of_named asked pmid r is f (Nothing stamp) why = (why.0, subst (value.HasNothing f r asked.stamp) (sym is) (why.1, why.2))
of_named asked pmid r is f _ why = why

-- its text
pub said_of : (asked : ValueWords) (f g : Found) (r : Loaded) (pmid : ℕ) (result : Result (List ℕ) Refusal) → IsLoaded f r → metric_of_name r.records asked.name ≡ Some pmid → g.files ≡ f.files
    → IfOk result (value.HasValue g r pmid asked.stamp) → IfOk result (value.IsOutput asked f)
said_of asked f g r pmid (Ok text) loaded is same has =
    (r, loaded, pmid, is, subst (λ (w : Files). value.HasValue record { files = w; wrapped = f.wrapped } r pmid asked.stamp text) same has)
said_of asked f g r pmid (Err e) loaded is same has = tt

-- over a sound archive, or a readable one, the search is that of the scan
pub at_scan : (t : Moment) (f : Found) (r : Loaded) (x : Option Item) → IsOver f.files r → IsAtFrom f.files r.volumes t (at_begin r t) x → OverSound f (λ items. last_at t items ≡ x)
at_scan t f r x over is = λ reading reads sound. sym ((sound_finds_last f.files reading r t reads sound over).found x is)

pub range_scan : (from to : Moment) (f : Found) (r : Loaded) (items : List Item) → IsOver f.files r → IsRangeFrom f.files r.volumes from to (range_begin r from) items → OverSound f (λ all. between from to all ≡ items)
range_scan from to f r items over is = λ reading reads sound. sym ((sound_finds_range f.files reading r from to reads sound over).found items is)

pub value_scan : (pmid : ℕ) (t : Moment) (f : Found) (r : Loaded) (x : Option (Moment × ValueSet)) → IsOver f.files r → IsValueAt f.files r.volumes pmid t x → OverReadable f (λ items. value_at pmid t items ≡ x)
value_scan pmid t f r x over is = λ reading reads. sym ((readable_finds_value f.files reading r pmid t reads over).found x is)

module _ {D : Type 0} (g : DiskGhosts D) (r : Loaded) (a b : D) where
  pub at_stops : (t : Moment) (fault : ReaderFault) → (g.tells → IsAtFault (contents_of (g.held a)) r.volumes t (at_begin r t) fault) → (fault ≡ faults.DiskFault → Rose (g.faults a) (g.faults b))
      → TurnedAway (at.IsStopped t r) (disk_side g a b) (reader_refusal fault)
  at_stops t (faults.Compressed file) why rose = λ tells. absurd (at_unwrapped (contents_of (g.held a)) r.volumes t (at_begin r t) file (why tells))
  at_stops t (faults.NotArchive file offset) why rose = λ tells. why tells
  at_stops t faults.DiskFault why rose = rose refl
  at_stops t faults.NoMemory why rose = tt

  pub range_stops : (from to : Moment) (fault : ReaderFault) → (g.tells → IsRangeFault (contents_of (g.held a)) r.volumes to (range_begin r from) fault) → (fault ≡ faults.DiskFault → Rose (g.faults a) (g.faults b))
      → TurnedAway (range.IsStopped from to r) (disk_side g a b) (reader_refusal fault)
  range_stops from to (faults.Compressed file) why rose = λ tells. absurd (range_unwrapped (contents_of (g.held a)) r.volumes to (range_begin r from) file (why tells))
  range_stops from to (faults.NotArchive file offset) why rose = λ tells. why tells
  range_stops from to faults.DiskFault why rose = rose refl
  range_stops from to faults.NoMemory why rose = tt

  pub value_stops : (pmid : ℕ) (t : Moment) (fault : ReaderFault) → (g.tells → IsValueFault (contents_of (g.held a)) r.volumes pmid t fault) → (fault ≡ faults.DiskFault → Rose (g.faults a) (g.faults b))
      → TurnedAway (value.HasNoValue pmid t r) (disk_side g a b) (reader_refusal fault)
  value_stops pmid t (faults.Compressed file) why rose = λ tells. absurd (why tells)
  value_stops pmid t (faults.NotArchive file offset) why rose = λ tells. why tells
  value_stops pmid t faults.DiskFault why rose = rose refl
  value_stops pmid t faults.NoMemory why rose = tt

  -- told of the metric that the name leads to
  pub turned_of : (c : D) (asked : ValueWords) (pmid : ℕ) (result : Result (List ℕ) Refusal) → Looks g a b → (g.tells → IsLoaded (files_found (disk_side g a c)) r) → metric_of_name r.records asked.name ≡ Some pmid
      → IfErr result (TurnedAway (value.HasNoValue pmid asked.stamp r) (disk_side g b c)) → IfErr result (TurnedAway (value.IsTurnedAway asked) (disk_side g a c))
  turned_of c asked pmid (Ok text) looks loaded is away = tt
  turned_of c asked pmid (Err e) looks loaded is away =
      turned_on g (value.HasNoValue pmid asked.stamp r) (value.IsTurnedAway asked) a b c looks (λ tells x why. inr (r, loaded tells, of_named asked pmid r is (files_found (disk_side g a c)) x why)) e away
