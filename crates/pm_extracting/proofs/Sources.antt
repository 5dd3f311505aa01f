-- How a source is passed or turned back: a sound one is for want of memory or for its disk alone, and all others tell why.
use Rattle.std.proofs.Common.{◌≡◌, ◌⊎◌, inl, inr, ⊎_elim, ℕ, List, refl, sym, ap, ◌∙◌, subst, Option, Some, None}
use Rattle.pcp_base.specs.declared.file.FileId.{FileId}
use Rattle.pcp_base.specs.declared.result.Item.{Item}
use Rattle.pcp_model.specs.Archive.{ArchiveReading, Readable, records_in, scan}
use Rattle.pcp_model.specs.Disk.{Files, contents_of}
use Rattle.pcp_model.specs.Sound.{IsSound}
use Rattle.pcp_model.specs.declared.records.MetaRecord.{MetaRecord}
use Rattle.pcp_model.proofs.OneReading.{one_reading}
use Rattle.pcp_outside.specs.Causes.{Rose}
use Rattle.pcp_outside.specs.declared.disk.Disk.{Ghosts as DiskGhosts}
use Rattle.archive_loading.specs.Loaded.{Loaded, IsOver}
use Rattle.archive_loading.specs.LoadFaults.{NotLoaded}
use Rattle.archive_reader.proofs.Finds.{readable_stands}
use Rattle.archive_reader.proofs.Loadable.{loads_readable}
use Rattle.archive_reader.specs.declared.fault.ReaderFault.{ReaderFault}
use Rattle.archive_reader.specs.declared.fault.ReaderFault.TheVariants as reads
use Rattle.archive_reader.specs.Values.{IsWholeFault}
use Rattle.archive_check.specs.Breaches.{IsBreach}
use Rattle.archive_check.specs.Checks.{IsCheckFault, IsUnsound}
use Rattle.archive_check.specs.declared.fault.CheckFault.{CheckFault}
use Rattle.archive_check.specs.declared.fault.CheckFault.TheVariants as checks
use Rattle.archive_check.proofs.Judged.{judged, sound_has_none}
use Rattle.log_extract.specs.Sources.{IsBroken, IsBrokenOff, IsSource, Source}
use Rattle.pm_words.specs.Refusals.{check_refusal, status_of}
use Rattle.pm_extracting.specs.Facts.{IsOfFiles, IsOfSoundness}
use Rattle.pm_extracting.specs.Good.{IsBarred}

not_both : (w : Option FileId) (file : FileId) → w ≡ None → w ≡ Some file → ⊥
not_both w file none some = let e : None ≡ Some file = sym none ∙ some in cc

-- want of memory, or a disk that failed
abbrev pub IsLacking : CheckFault → Type 0
IsLacking (checks.Reader reads.DiskFault) = Unit {0}
IsLacking (checks.Reader reads.NoMemory) = Unit {0}
IsLacking fault = ⊥

-- readable files are read
is_read : (files : Files) → Readable files → (file : FileId) (at : ℕ) → NotLoaded files file at ⊎ ((r : Loaded) × IsOver files r × IsWholeFault files r.volumes (reads.NotArchive file at)) → ⊥
is_read files readable file at why =
    ⊎_elim (λ (n : NotLoaded files file at). loads_readable files file at readable n)
    (λ b. let bad = b.2.1 in (readable_stands files readable.0 b.0 readable.1 b.1).good b.2.0 bad.last bad.to file at bad.leads bad.bad) why

-- ---- breaches

no_reading : (files : Files) (reading : ArchiveReading) (fault : ReaderFault) → IsBreach files reading (checks.Reader fault) → ⊥
no_reading files ArchiveReading.nothing fault b = b
no_reading files (ArchiveReading.archive c) fault b = b

-- the one that is told is the one that there is
pub one_told : (w : Option FileId) (files : Files) (a b : CheckFault) → IsUnsound w files a → IsUnsound w files b → b ≡ a
one_told w files a b p q =
    (judged files p.reading p.reads).one b a (subst (λ (r : ArchiveReading). IsBreach files r b) (one_reading files q.reading p.reading q.reads p.reads) q.breach) p.breach

pub unsound_status : (w : Option FileId) (files : Files) (fault : CheckFault) → IsUnsound w files fault → status_of (check_refusal fault) ≡ 10
unsound_status w files (checks.Items first second) u = refl
unsound_status w files (checks.Boundary at file below above) u = refl
unsound_status w files (checks.Late at stamp) u = refl
unsound_status w files (checks.Reader fault) u = absurd (no_reading files u.reading fault u.breach)

-- files with a breach are turned back for it, or for a lack
pub unsound_back : (w : Option FileId) (files : Files) (fault : CheckFault) → IsUnsound w files fault → (other : CheckFault) → IsCheckFault w files other → (other ≡ fault) ⊎ IsLacking other
unsound_back w files fault u (checks.Items first second) back = inl (one_told w files fault (checks.Items first second) u back)
unsound_back w files fault u (checks.Boundary at file below above) back = inl (one_told w files fault (checks.Boundary at file below above) u back)
unsound_back w files fault u (checks.Late at stamp) back = inl (one_told w files fault (checks.Late at stamp) u back)
unsound_back w files fault u (checks.Reader (reads.Compressed file)) back = absurd (not_both w file u.unwrapped back)
unsound_back w files fault u (checks.Reader (reads.NotArchive file at)) back = absurd (is_read files (u.reading, u.reads) file at back.1)
unsound_back w files fault u (checks.Reader reads.DiskFault) back = inr tt
unsound_back w files fault u (checks.Reader reads.NoMemory) back = inr tt

-- ---- one disk

abbrev made_of : List MetaRecord → List Item → Source
made_of records items = record { records = records; items = items }

module _ {D : Type 0} (d : DiskGhosts D) (disk : D) where
  abbrev files : Files
  files = contents_of (d.held disk)

  -- the fault of a check of it
  abbrev pub IsFaultOf : CheckFault → Type 0
  IsFaultOf fault = IsCheckFault (d.wrapped_file disk) files fault

  abbrev pub HasBreach : CheckFault → Type 0
  HasBreach fault = IsUnsound (d.wrapped_file disk) files fault

  -- it is one source
  pub same_source : (a b : Source) → IsSource d disk a → IsSource d disk b → a ≡ b
  same_source a b x y =
      let one : x.reading ≡ y.reading = one_reading files x.reading y.reading x.reads y.reads in
      let records : a.records ≡ b.records = x.records_are ∙ ap records_in one ∙ sym y.records_are in
      let items : a.items ≡ b.items = x.items_are ∙ ap scan one ∙ sym y.items_are in
      ap (λ (rs : List MetaRecord). made_of rs a.items) records ∙ ap (λ (xs : List Item). made_of b.records xs) items

  pub no_breach : (source : Source) → IsSource d disk source → (fault : CheckFault) → HasBreach fault → ⊥
  no_breach source is fault u = sound_has_none files u.reading fault u.breach (subst (λ (r : ArchiveReading). IsSound files r) (one_reading files is.reading u.reading is.reads u.reads) is.sound)

  pub not_barred : IsBarred d disk → d.wrapped_file disk ≡ None → Readable files → ⊥
  not_barred (inl (file, wraps)) unwrapped readable = not_both (d.wrapped_file disk) file unwrapped wraps
  not_barred (inr unread) unwrapped readable = unread readable

  pub sound_open : (source : Source) → IsSource d disk source → IsBarred d disk → ⊥
  sound_open source is barred = not_barred barred is.unwrapped (is.reading, is.reads)

  -- a sound source is turned back for a lack alone
  pub passes_sound : (source : Source) → IsSource d disk source → (fault : CheckFault) → IsFaultOf fault → IsLacking fault
  passes_sound source is (checks.Items first second) back = absurd (no_breach source is (checks.Items first second) back)
  passes_sound source is (checks.Boundary at file below above) back = absurd (no_breach source is (checks.Boundary at file below above) back)
  passes_sound source is (checks.Late at stamp) back = absurd (no_breach source is (checks.Late at stamp) back)
  passes_sound source is (checks.Reader (reads.Compressed file)) back = absurd (not_both (d.wrapped_file disk) file is.unwrapped back)
  passes_sound source is (checks.Reader (reads.NotArchive file at)) back = absurd (is_read files (is.reading, is.reads) file at back.1)
  passes_sound source is (checks.Reader reads.DiskFault) back = tt
  passes_sound source is (checks.Reader reads.NoMemory) back = tt

  -- one that is barred, for its files, or for a lack
  pub barred_back : IsBarred d disk → (fault : CheckFault) → IsFaultOf fault → IsOfFiles fault ⊎ IsLacking fault
  barred_back barred (checks.Items first second) back = absurd (not_barred barred back.unwrapped (back.reading, back.reads))
  barred_back barred (checks.Boundary at file below above) back = absurd (not_barred barred back.unwrapped (back.reading, back.reads))
  barred_back barred (checks.Late at stamp) back = absurd (not_barred barred back.unwrapped (back.reading, back.reads))
  barred_back barred (checks.Reader (reads.Compressed file)) back = inl tt
  barred_back barred (checks.Reader (reads.NotArchive file at)) back = inl tt
  barred_back barred (checks.Reader reads.DiskFault) back = inr tt
  barred_back barred (checks.Reader reads.NoMemory) back = inr tt

-- a reading that broke off lacked something
pub broken_lacks : {D : Type 0} (d : DiskGhosts D) (was is : D) (fault : CheckFault) → IsBrokenOff d was is fault → d.tells → IsLacking fault
broken_lacks d was is (checks.Items first second) b tells = absurd b
broken_lacks d was is (checks.Boundary at file below above) b tells = absurd b
broken_lacks d was is (checks.Late at stamp) b tells = absurd b
broken_lacks d was is (checks.Reader (reads.Compressed file)) b tells = absurd (b.why tells)
broken_lacks d was is (checks.Reader (reads.NotArchive file at)) b tells = absurd (b.why tells)
broken_lacks d was is (checks.Reader reads.DiskFault) b tells = tt
broken_lacks d was is (checks.Reader reads.NoMemory) b tells = tt

-- and no breach
pub broken_sound : {D : Type 0} (d : DiskGhosts D) (was is : D) (fault : CheckFault) → IsOfSoundness fault → IsBrokenOff d was is fault → ⊥
broken_sound d was is (checks.Items first second) of b = b
broken_sound d was is (checks.Boundary at file below above) of b = b
broken_sound d was is (checks.Late at stamp) of b = b
broken_sound d was is (checks.Reader fault) of b = of

-- what is of the files or of their soundness is no lack
pub not_lacking : (fault : CheckFault) → IsOfFiles fault ⊎ IsOfSoundness fault → IsLacking fault → ⊥
not_lacking (checks.Items first second) of lacks = lacks
not_lacking (checks.Boundary at file below above) of lacks = lacks
not_lacking (checks.Late at stamp) of lacks = lacks
not_lacking (checks.Reader (reads.Compressed file)) of lacks = lacks
not_lacking (checks.Reader (reads.NotArchive file at)) of lacks = lacks
not_lacking (checks.Reader reads.DiskFault) of lacks = ⊎_elim (λ (h : ⊥). h) (λ (h : ⊥). h) of
not_lacking (checks.Reader reads.NoMemory) of lacks = ⊎_elim (λ (h : ⊥). h) (λ (h : ⊥). h) of

-- a disk that is to blame for it
pub broken_blamed : {D : Type 0} (d : DiskGhosts D) (was is : D) (fault : CheckFault) → IsBrokenOff d was is fault → fault ≡ checks.Reader reads.DiskFault → Rose (d.faults was) (d.faults is)
broken_blamed d was is fault b e = let lost : IsBroken d was is reads.DiskFault = subst (λ (f : CheckFault). IsBrokenOff d was is f) e b in lost.blamed refl
