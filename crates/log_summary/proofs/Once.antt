-- Files have one summary, or some place of them is refused.
use Rattle.std.proofs.Common.{◌≡◌, ⊎_elim, ℕ, List, sym, ap, ◌∙◌, None}
use Rattle.pcp_base.specs.Time.{Moment}
use Rattle.pcp_base.specs.declared.file.FileId.{FileId}
use Rattle.pcp_model.specs.Archive.{ArchiveReading, Reads, records_in, scan}
use Rattle.pcp_model.specs.Disk.{Files}
use Rattle.pcp_model.proofs.OneReading.{one_reading}
use Rattle.archive_loading.specs.Loaded.{Loaded, IsOver}
use Rattle.archive_loading.specs.LoadFaults.{NotLoaded}
use Rattle.archive_reader.proofs.Finds.{readable_stands}
use Rattle.archive_reader.proofs.Loadable.{loads_readable}
use Rattle.archive_reader.specs.declared.fault.ReaderFault.TheVariants.{NotArchive}
use Rattle.archive_reader.specs.Values.{IsWholeFault}
use Rattle.log_summary.specs.Laws.{AnswersOnce}
use Rattle.log_summary.specs.Lines.{summary_text}
use Rattle.log_summary.specs.Summaries.{IsSummary, IsSummaryFault}

module _ (files : Files) (from to : Moment) where
  scanned : (text : List ℕ) → IsSummary files from to text → (reading : ArchiveReading) → Reads files reading → text ≡ summary_text (records_in reading) from to (scan reading)
  scanned text s reading reads =
      s.is ∙ (λ i. summary_text (sym s.read.records_are i) from to (sym s.read.scan_is i))
      ∙ ap (λ (r : ArchiveReading). summary_text (records_in r) from to (scan r)) (one_reading files s.read.reading reading s.read.is reads)

  one : (text other : List ℕ) → IsSummary files from to text → IsSummary files from to other → text ≡ other
  one text other s t = scanned text s t.read.reading t.read.is ∙ sym (scanned other t t.read.reading t.read.is)

  apart : (text : List ℕ) (file : FileId) (offset : ℕ) → IsSummary files from to text → IsSummaryFault None files (NotArchive file offset) → ⊥
  apart text file offset s why =
      ⊎_elim (λ (n : (None ≡ None) × NotLoaded files file offset). loads_readable files file offset (s.read.reading, s.read.is) n.1)
      (λ (w : (None ≡ None) × (r : Loaded) × IsOver files r × IsWholeFault files r.volumes (NotArchive file offset)).
      let bad = w.3.1 in (readable_stands files s.read.reading w.1 s.read.is w.2).good w.3.0 bad.last bad.to file offset bad.leads bad.bad) why

  pub answers_once : AnswersOnce files from to
  answers_once = record { scanned = scanned; one = one; apart = apart }
