-- A run begins over what recovery left.
use Rattle.std.proofs.Common.{◌≡◌, []}
use Rattle.pcp_base.specs.declared.file.FileId.{FileId}
use Rattle.pcp_model.specs.Disk.{CrashImage, Files, Holdings, contents_of}
use Rattle.pcp_outside.specs.declared.disk.Disk.{Ghosts as DiskGhosts}
use Rattle.archive_recovery.specs.declared.outcome.Archive.{Archive}
use Rattle.archive_recovery.specs.Told.{WasRecovered}
use Rattle.logger_core.specs.Reopening.{IsLeft}
use Rattle.logging_session.specs.Keeping.{Carried, Keeps}
use Rattle.logging_session.proofs.Course.{begins}
use Rattle.logging_session.proofs.Recovering.{is_left}
use Rattle.script_runs.specs.Archives.{run_label}
use Rattle.run_archive.specs.Kept.{KeepsRun}

module _ {D : Type 0} (d : DiskGhosts D) (only_now : (disk : D) (files : Files) → d.left_since disk (d.moment disk) files → CrashImage (d.held disk) files) where
  pub begins_run : (left : Files) (s : Carried) (disk : D) → s.label ≡ run_label → Keeps left [] s (d.held disk) → KeepsRun d left [] disk s disk
  begins_run left s disk label keeps = record { label = label; kept = begins d left only_now s disk keeps }

  -- over the archive that recovery told
  pub begins_over : (archive : Archive) (s : Carried) (disk : D) → s.label ≡ run_label → ((held : Holdings) → IsLeft archive held → Keeps (contents_of held) [] s held) → IsLeft archive (d.held disk) → KeepsRun d (contents_of (d.held disk)) [] disk s disk
  begins_over archive s disk label begun is = begins_run (contents_of (d.held disk)) s disk label (begun (d.held disk) is)

  -- what recovery answers is told of what it left
  pub told_left : (old disk : D) (archive : Archive) → WasRecovered (contents_of (d.held old)) (contents_of (d.held disk)) archive → ((file : FileId) → (d.held disk file).rest ≡ []) → IsLeft archive (d.held disk)
  told_left old disk archive recovered sure = is_left (contents_of (d.held old)) (d.held disk) archive recovered sure
