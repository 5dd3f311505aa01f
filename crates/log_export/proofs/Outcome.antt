-- What comes of the steps of an export.
use Rattle.std.proofs.Common.{◌≡◌, inl, inr, ⊎_elim, ℕ, ◌≤◌, List, [], ◌∷◌, ◌++◌, refl, ap, ◌∙◌, arith, None, Err}
use Rattle.std.proofs.lemmas.List.{append-nil}
use Rattle.pcp_base.specs.declared.file.FileId.{FileId}
use Rattle.pcp_base.specs.declared.file.FileId.TheVariants.{Meta, Index, Volume}
use Rattle.pcp_model.specs.Archive.{ArchiveContents, ArchiveReading, IsStoppedCreation}
use Rattle.pcp_model.specs.Disk.{Files, Held, Holdings, CrashImage, contents_of, nothing_held}
use Rattle.pcp_outside.specs.Causes.{Rose}
use Rattle.pcp_outside.specs.Devices.{LeavesOnly}
use Rattle.pcp_outside.proofs.Crash.{joined, weaker}
use Rattle.archive_loading.specs.Looks.{Looks}
use Rattle.archive_reader.specs.declared.fault.ReaderFault.{ReaderFault}
use Rattle.archive_reader.specs.declared.fault.ReaderFault.TheVariants as reads
use Rattle.log_export.specs.declared.fault.ExportFault.{ExportFault}
use Rattle.log_export.specs.declared.fault.ExportFault.TheVariants.{DiskFault, Source, Stands}
use Rattle.log_export.specs.declared.planning.Plan.{Plan}
use Rattle.log_export.specs.Copying.{IsBlamed}
use Rattle.log_export.specs.Exported.{IsExported}
use Rattle.log_export.specs.Exporting.{ExportSide, Exports, HasExported, LeavesQuiet, MayBeLeft, MayLeave, WasFree, files_are, source_files}
use Rattle.log_export.specs.Laying.{BeginsOnly, IsBegun, IsHeld, whole}
use Rattle.log_export.specs.Planning.{IsPlanOf, planned}
use Rattle.log_export.specs.Reading.{IsReadFault}

-- ---- what is held

front_empty : (xs ys : List ℕ) → xs ++ ys ≡ [] → xs ≡ []
front_empty [] ys e = refl
front_empty (x ∷ xs) ys e = let both : x ∷ (xs ++ ys) ≡ [] = e in cc

rest_empty : (xs ys : List ℕ) → xs ++ ys ≡ [] → ys ≡ []
rest_empty [] ys e = e
rest_empty (x ∷ xs) ys e = let both : x ∷ (xs ++ ys) ≡ [] = e in cc

one_empty : (h : Held) → h.sure ++ h.rest ≡ [] → h ≡ nothing_held
one_empty h e =
    ap (λ (s : List ℕ). record { sure = s; rest = h.rest }) (front_empty h.sure h.rest e) ∙ ap (λ (r : List ℕ). record { sure = []; rest = r }) (rest_empty h.sure h.rest e)

pub held_none : (held : Holdings) → ((file : FileId) → contents_of held file ≡ []) → IsHeld held (λ file. nothing_held)
held_none held empty file = one_empty (held file) (empty file)

pub holds_whole : (held : Holdings) (out : Files) → IsHeld held (λ file. whole (out file)) → (file : FileId) → contents_of held file ≡ out file
holds_whole held out is file = ap (λ (h : Held). h.sure ++ h.rest) (is file) ∙ append-nil (out file)

pub exported_as : (files : Files) (c : ArchiveContents) (a b : Files) → IsExported files c a → ((file : FileId) → b file ≡ a file) → IsExported files c b
exported_as files c a b e same = record {
  left = e.left;
  recovered = e.recovered;
  meta = same Meta ∙ e.meta;
  index = same Index ∙ e.index;
  volumes = λ n. same (Volume n) ∙ e.volumes n;
}

rose_from : (a b c : ℕ) → a ≤ b → Rose b c → Rose a c
rose_from a b c le rose = ⊎_elim (λ more. inl (omega (arith, le, more))) (λ full. inr full) rose

module _ {A D : Type 0} (p : ExportSide A D) where
  -- ---- moments

  -- the disk is looked at
  pub looked_only : Looks p.disk p.disk_was p.disk_is → MayLeave p
  looked_only look = λ source tells. weaker p.disk.moment p.disk.left_since p.disk.held p.disk_was p.disk_is (CrashImage (p.disk.held p.disk_was)) (MayBeLeft p) (look.moments tells) (λ c left. inl left)

  -- and then an archive is written
  pub looked_laid : (mid : D) (plan : Plan) → WasFree p → IsPlanOf (source_files p) plan → Looks p.disk p.disk_was mid → BeginsOnly p.disk (planned (source_files p) plan) mid p.disk_is → p.disk.tells → LeavesOnly p.disk.moment p.disk.left_since p.disk_was p.disk_is (MayBeLeft p)
  looked_laid mid plan free is look run tells =
      joined p.disk.moment p.disk.left_since p.disk.held p.disk_was mid p.disk_is (MayBeLeft p)
      (weaker p.disk.moment p.disk.left_since p.disk.held p.disk_was mid (CrashImage (p.disk.held p.disk_was)) (MayBeLeft p) (look.moments tells) (λ c left. inl left))
      (weaker p.disk.moment p.disk.left_since p.disk.held mid p.disk_is (IsBegun (planned (source_files p) plan)) (MayBeLeft p) run
      (λ c begun. inr (record { free = free; contents = is.contents; is = is.is; out = planned (source_files p) plan; exported = is.exported; begun = begun })))

  -- ---- ends

  pub refused : (e : ReaderFault) → LeavesQuiet p → (p.disk.tells → WasFree p) → (p.source.tells → IsReadFault (p.source.wrapped_file p.source_was) (source_files p) e) → (e ≡ reads.DiskFault → Rose (p.source.faults p.source_was) (p.source.faults p.source_is)) → Exports p (Err (Source e))
  refused (reads.Compressed file) quiet free fault rose = (quiet, free, fault)
  refused (reads.NotArchive file at) quiet free fault rose = (quiet, free, fault)
  refused reads.DiskFault quiet free fault rose = (free, rose refl)
  refused reads.NoMemory quiet free fault rose = (quiet, free)

  pub blamed : (s : A) (d : D) (e : ExportFault) → p.source.faults p.source_was ≤ p.source.faults s → p.disk.faults p.disk_was ≤ p.disk.faults d → (p.disk.tells → WasFree p) → IsBlamed p.source s p.source_is p.disk d p.disk_is e → Exports p (Err e)
  blamed s d (Source reads.DiskFault) source disk free is = (free, rose_from (p.source.faults p.source_was) (p.source.faults s) (p.source.faults p.source_is) source is)
  blamed s d (Source reads.NoMemory) source disk free is = absurd is
  blamed s d (Source (reads.Compressed file)) source disk free is = absurd is
  blamed s d (Source (reads.NotArchive file at)) source disk free is = absurd is
  blamed s d (Stands file) source disk free is = absurd is
  blamed s d DiskFault source disk free is = rose_from (p.disk.faults p.disk_was) (p.disk.faults d) (p.disk.faults p.disk_is) disk is

  -- nothing is exported of a creation that was stopped
  pub nothing_exported : p.source.wrapped_file p.source_was ≡ None → IsStoppedCreation (source_files p) → IsHeld (p.disk.held p.disk_is) (λ file. nothing_held) → HasExported p 0
  nothing_exported unwrapped stopped none = record {
    unwrapped = unwrapped;
    reading = ArchiveReading.nothing;
    reads = stopped;
    counted = refl;
    exported = λ file. ap (λ (h : Held). h.sure ++ h.rest) (none file);
    sure = λ file. ap (λ (h : Held). h.rest) (none file);
  }

  pub archive_exported : (plan : Plan) → p.source.wrapped_file p.source_was ≡ None → IsPlanOf (source_files p) plan → IsHeld (p.disk.held p.disk_is) (λ file. whole (planned (source_files p) plan file)) → HasExported p plan.items
  archive_exported plan unwrapped is held = record {
    unwrapped = unwrapped;
    reading = ArchiveReading.archive is.contents;
    reads = is.is;
    counted = is.counted;
    exported = exported_as (source_files p) is.contents (planned (source_files p) plan) (files_are p) is.exported (holds_whole (p.disk.held p.disk_is) (planned (source_files p) plan) held);
    sure = λ file. ap (λ (h : Held). h.rest) (held file);
  }
