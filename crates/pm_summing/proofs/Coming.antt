-- What the files come to, by what their summary is or why there is none.
use Rattle.std.proofs.Common.{◌≡◌, ⊎_elim, inl, inr, ℕ, List, refl, sym, ap, ◌∙◌, Option, Some, None, Result, Ok, Err, IfOk, IfErr, OnOk}
use Rattle.pcp_base.specs.Time.{Moment}
use Rattle.pcp_base.specs.declared.file.FileId.{FileId}
use Rattle.pcp_base.specs.declared.result.Item.{Item}
use Rattle.pcp_model.specs.Archive.{ArchiveReading, Readable, records_in, scan}
use Rattle.pcp_model.specs.Disk.{Files, contents_of}
use Rattle.pcp_model.proofs.OneReading.{one_reading}
use Rattle.pcp_outside.specs.Causes.{Rose}
use Rattle.pcp_outside.specs.declared.disk.Disk.{Ghosts as DiskGhosts}
use Rattle.archive_loading.specs.Loaded.{Loaded, IsOver}
use Rattle.archive_loading.specs.LoadFaults.{NotLoaded}
use Rattle.archive_reader.proofs.Finds.{readable_stands}
use Rattle.archive_reader.proofs.Loadable.{loads_readable}
use Rattle.archive_reader.specs.LoadFaults.{IsLoadFault}
use Rattle.archive_reader.specs.Values.{IsWholeFault}
use Rattle.archive_reader.specs.Walks.{StopsAt}
use Rattle.archive_reader.specs.declared.fault.ReaderFault.{ReaderFault}
use Rattle.archive_reader.specs.declared.fault.ReaderFault.TheVariants.{Compressed, NotArchive, DiskFault, NoMemory}
use Rattle.log_summary.specs.Lines.{summary_text}
use Rattle.log_summary.specs.Summaries.{IsSummary, IsSummaryFault}
use Rattle.pm_summing.specs.Ends.{CameTo}
use Rattle.pm_summing.specs.Sums.{FitsNone, SumsUp}

sums_up : (files : Files) (from to : Moment) (text : List ℕ) → IsSummary files from to text → SumsUp files from to text
sums_up files from to text s = record {
  reading = s.read.reading;
  reads = s.read.is;
  is = s.is ∙ (λ i. summary_text (sym s.read.records_are i) from to (sym s.read.scan_is i));
}

pub one_summary : (files : Files) (from to : Moment) (text other : List ℕ) → SumsUp files from to text → SumsUp files from to other → text ≡ other
one_summary files from to text other s t =
    s.is ∙ ap (λ (r : ArchiveReading). summary_text (records_in r) from to (scan r)) (one_reading files s.reading t.reading s.reads t.reads) ∙ sym t.is

stands_wrapped : (wrapped : Option FileId) (files : Files) (file : FileId) → IsSummaryFault wrapped files (Compressed file) → wrapped ≡ Some file
stands_wrapped wrapped files file why =
    ⊎_elim (λ (w : wrapped ≡ Some file). w) (λ (w : (wrapped ≡ None) × (r : Loaded) × IsOver files r × IsWholeFault files r.volumes (Compressed file)). absurd w.3) why

fits_none : (wrapped : Option FileId) (files : Files) (file : FileId) (at : ℕ) → IsSummaryFault wrapped files (NotArchive file at) → (wrapped ≡ None) × FitsNone files file at
fits_none wrapped files file at why =
    ⊎_elim (λ (w : (wrapped ≡ None) × NotLoaded files file at). (w.0, inl w.1))
    (λ (w : (wrapped ≡ None) × (r : Loaded) × IsOver files r × IsWholeFault files r.volumes (NotArchive file at)). (w.0, inr (w.1, w.2, w.3.0, w.3.1))) why

module _ {D : Type 0} (g : DiskGhosts D) (was is : D) (from to : Moment) where
  abbrev files : Files
  files = contents_of (g.held was)

  pub came_to : (result : Result (List ℕ) ReaderFault) → (g.tells → IfOk result (IsSummary files from to)) → (g.tells → OnOk result (g.wrapped_file was ≡ None)) → (g.tells → IfErr result (IsSummaryFault (g.wrapped_file was) files))
      → IfErr result (λ e. e ≡ DiskFault → Rose (g.faults was) (g.faults is)) → OnOk result (g.faults is ≡ g.faults was) → CameTo g was is from to result
  came_to (Ok text) summary unwrapped fault cause quiet = (quiet, λ tells. (unwrapped tells, sums_up files from to text (summary tells)))
  came_to (Err (Compressed file)) summary unwrapped fault cause quiet = λ tells. stands_wrapped (g.wrapped_file was) files file (fault tells)
  came_to (Err (NotArchive file at)) summary unwrapped fault cause quiet = λ tells. fits_none (g.wrapped_file was) files file at (fault tells)
  came_to (Err DiskFault) summary unwrapped fault cause quiet = cause refl
  came_to (Err NoMemory) summary unwrapped fault cause quiet = tt

-- ---- files that can be read

pub fits_all : (files : Files) (file : FileId) (at : ℕ) → Readable files → FitsNone files file at → ⊥
fits_all files file at readable why =
    ⊎_elim (λ (n : NotLoaded files file at). loads_readable files file at readable n)
    (λ (w : (r : Loaded) × IsOver files r × (items : List Item) × StopsAt files r.volumes 132 items file at).
    (readable_stands files readable.0 w.0 readable.1 w.1).good w.2 w.3.last w.3.to file at w.3.leads w.3.bad) why

pub not_both : (wrapped : Option FileId) (file : FileId) → wrapped ≡ None → wrapped ≡ Some file → ⊥
not_both wrapped file none some = let e : None ≡ Some file = sym none ∙ some in cc
