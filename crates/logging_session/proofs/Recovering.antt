-- What is left of a session from recovery on.
use Rattle.std.proofs.Common.{◌≡◌, ℕ, ◌+◌, ◌≤◌, List, [], ◌++◌, length, sym, subst, arith}
use Rattle.pcp_base.specs.declared.file.FileId.{FileId}
use Rattle.pcp_base.specs.declared.result.Item.{Item}
use Rattle.pcp_model.specs.Archive.{ArchiveReading, Reads, scan}
use Rattle.pcp_model.specs.Disk.{Files, Holdings, contents_of}
use Rattle.pcp_model.specs.Recovered.{Recovers}
use Rattle.pcp_model.proofs.OneReading.{one_reading}
use Rattle.archive_recovery.specs.declared.outcome.Archive.{Archive}
use Rattle.archive_recovery.specs.Halfway.{MayBeHalfway}
use Rattle.archive_recovery.specs.Told.{WasRecovered}
use Rattle.logger_core.specs.Reopening.{IsLeft}
use Rattle.logging_session.specs.ComingBack.{ComesBack, ComesBackTo, MayBeAfter, start_of}
use Rattle.logging_session.proofs.ComeBack.{fewer, halfway_comes, same_left}

pub is_left : (files : Files) (held : Holdings) (archive : Archive) → WasRecovered files (contents_of held) archive → ((file : FileId) → (held file).rest ≡ []) → IsLeft archive held
is_left files held archive recovered sure = record { files = files; recovered = recovered; sure = sure }

-- on the way of recovery
pub recovering_comes : (old : Holdings) (more : List Item) (image : Files) → MayBeHalfway old image → MayBeAfter more 0 old image
recovering_comes old more image may = λ settled r reads left recovered.
    fewer (start_of (contents_of old) r left) (scan r ++ more) (length (scan r)) (length (scan r) + 0) image (omega arith) (halfway_comes (contents_of old) left r more reads recovered image (may settled r reads))

module _ (start mid : Files) (archive : Archive) (w : WasRecovered start mid archive) where
  pub recovered_so : (r : ArchiveReading) → Reads start r → Recovers start r mid
  recovered_so r reads = subst (λ (q : ArchiveReading). Recovers start q mid) (one_reading start w.reading r w.was reads) w.recovered

  back : (more : List Item) (k n : ℕ) (image : Files) → ComesBackTo more k mid image → (r : ArchiveReading) → Reads start r → (left : Files) → Recovers start r left → n ≤ length (scan r) + k
      → ComesBack (start_of start r left) (scan r ++ more) n image
  back more k n image comes r reads left recovered le =
      subst (λ (f : Files). ComesBack (start_of start r f) (scan r ++ more) n image) (sym (same_left start left mid r recovered (recovered_so r reads)))
      (fewer (start_of start r mid) (scan r ++ more) (length (scan r) + k) n image le (comes start r reads (recovered_so r reads)))

  -- from the moment on at which recovery left these files
  pub from_there : (more : List Item) (image : Files) → ComesBackTo more 0 mid image → ComesBack (start_of start w.reading mid) (scan w.reading ++ more) (length (scan w.reading)) image
  from_there more image comes = back more 0 (length (scan w.reading)) image comes w.reading w.was mid w.recovered (omega arith)

-- after recovery
pub later_comes : (old mid : Holdings) (archive : Archive) (w : WasRecovered (contents_of old) (contents_of mid) archive) (more : List Item) (k : ℕ) (image : Files) → ComesBackTo more k (contents_of mid) image → MayBeAfter more k old image
later_comes old mid archive w more k image comes = λ settled r reads left recovered. back (contents_of old) (contents_of mid) archive w more k (length (scan r) + k) image comes r reads left recovered (omega arith)
