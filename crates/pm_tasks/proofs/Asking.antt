-- What a reader's `load` says of files, as a command does.
use Rattle.std.proofs.Common.{◌≡◌, inl, inr, ⊎_elim, refl, sym, subst, arith, Option, None}
use Rattle.pcp_base.specs.declared.file.FileId.{FileId}
use Rattle.pcp_model.specs.Disk.{Files, Holdings, contents_of}
use Rattle.pcp_outside.specs.Causes.{Rose}
use Rattle.pcp_outside.specs.declared.disk.Disk.{Ghosts as DiskGhosts}
use Rattle.archive_loading.specs.Looks.{Looks}
use Rattle.archive_reader.specs.declared.fault.ReaderFault.{ReaderFault}
use Rattle.archive_reader.specs.declared.fault.ReaderFault.TheVariants as faults
use Rattle.archive_loading.specs.Loaded.{Loaded, IsOver}
use Rattle.archive_reader.specs.LoadFaults.{IsLoadFault}
use Rattle.pm_words.specs.declared.refusal.Refusal.{Refusal}
use Rattle.pm_words.specs.declared.refusal.Refusal.TheVariants.{Compressed, NotArchive}
use Rattle.pm_tasks.specs.Archives.{IsLoaded, IsNotLoaded, TurnedAfter, TurnedAt, TurnedAway}
use Rattle.pm_words.specs.Refusals.{Stage, AtFiles, AtDisk, AtMemory, reader_refusal, stage_of}
use Rattle.pm_words.specs.Sides.{Found, disk_side, files_found}

module _ {D : Type 0} (g : DiskGhosts D) where
  -- the archive wasn't loaded
  pub not_loaded : (turned : Found → Refusal → Type 0) → ((f : Found) (e : Refusal) → IsNotLoaded f e → turned f e) → (a b : D) (fault : ReaderFault)
      → (g.tells → IsLoadFault (g.wrapped_file a) (contents_of (g.held a)) fault) → (fault ≡ faults.DiskFault → Rose (g.faults a) (g.faults b)) → TurnedAway turned (disk_side g a b) (reader_refusal fault)
  not_loaded turned so a b (faults.Compressed file) why rose = λ tells. so (files_found (disk_side g a b)) (Compressed file) (why tells)
  not_loaded turned so a b (faults.NotArchive file at) why rose = λ tells. so (files_found (disk_side g a b)) (NotArchive file at) (why tells)
  not_loaded turned so a b faults.DiskFault why rose = rose refl
  not_loaded turned so a b faults.NoMemory why rose = tt

  -- what was loaded before
  pub is_loaded : (a b c : D) (r : Loaded) → g.tells → (g.tells → IsOver (contents_of (g.held a)) r) → (g.tells → g.wrapped_file a ≡ None) → IsLoaded (files_found (disk_side g a c)) r
  is_loaded a b c r tells over unwrapped = record { unwrapped = unwrapped tells; over = over tells }

  -- a count that rose later rose in the whole
  rose_on : (a b c : D) → Looks g a b → Rose (g.faults b) (g.faults c) → Rose (g.faults a) (g.faults c)
  rose_on a b c first rose = ⊎_elim (λ more. inl (omega (arith, first.later, more))) (λ full. inr full) rose

  turned_at : (P Q : Found → Refusal → Type 0) (a b c : D) → Looks g a b → (g.tells → (e : Refusal) → P (files_found (disk_side g a c)) e → Q (files_found (disk_side g a c)) e)
      → (stage : Stage) (e : Refusal) → TurnedAt stage P (disk_side g b c) e → TurnedAt stage Q (disk_side g a c) e
  turned_at P Q a b c first so AtFiles e away = λ tells.
      so tells e (subst (λ (w : Option FileId). P record { files = contents_of (g.held a); wrapped = w } e) (first.wrapped tells)
      (subst (λ (h : Holdings). P record { files = contents_of h; wrapped = g.wrapped_file b } e) (first.held tells) (away tells)))
  turned_at P Q a b c first so AtDisk e rose = rose_on a b c first rose
  turned_at P Q a b c first so AtMemory e away = tt
  turned_at P Q a b c first so _ e away = absurd away

  -- what turned files away later, told of the whole
  pub turned_on : (P Q : Found → Refusal → Type 0) (a b c : D) → Looks g a b → (g.tells → (e : Refusal) → P (files_found (disk_side g a c)) e → Q (files_found (disk_side g a c)) e)
      → (e : Refusal) → TurnedAway P (disk_side g b c) e → TurnedAway Q (disk_side g a c) e
  turned_on P Q a b c first so e away = turned_at P Q a b c first so (stage_of e) e away

  -- what an archive was turned away for after it was loaded
  pub asked_turned : (P : Loaded → Found → Refusal → Type 0) (r : Loaded) (a b c : D) → Looks g a b → (g.tells → IsLoaded (files_found (disk_side g a c)) r) → (e : Refusal) → TurnedAway (P r) (disk_side g b c) e
      → TurnedAway (TurnedAfter P) (disk_side g a c) e
  asked_turned P r a b c first loaded = turned_on (P r) (TurnedAfter P) a b c first (λ tells e bad. inr (r, loaded tells, bad))

  -- still over the files
  pub still_over : (P : Files → Type 0) (a b : D) → Looks g a b → (g.tells → P (contents_of (g.held a))) → g.tells → P (contents_of (g.held b))
  still_over P a b first over tells = subst (λ (h : Holdings). P (contents_of h)) (sym (first.held tells)) (over tells)
