-- All facts of a call that exports an archive follow from how it ends.
use Rattle.std.proofs.Common.{◌≡◌, ◌⊎◌, inl, inr, ⊎_elim, ℕ, List, [], ◌++◌, length, append-nil, sym, ap, ◌∙◌, arith, Option, Some, None, Ok, Err}
use Rattle.pcp_base.specs.declared.file.FileId.{FileId}
use Rattle.pcp_model.specs.Archive.{ArchiveReading, Readable, Reads}
use Rattle.pcp_model.specs.Disk.{Files, Held, bytes_of}
use Rattle.pcp_model.specs.Recovered.{Recovers, recovered_reading}
use Rattle.pcp_model.specs.Sound.{IsSound}
use Rattle.pcp_outside.specs.Devices.{Survives}
use Rattle.pcp_outside.specs.Sides.{SinkSide}
use Rattle.pcp_outside.proofs.Images.{survives_sure}
use Rattle.archive_loading.specs.LoadFaults.{NotLoaded}
use Rattle.archive_loading.specs.Loaded.{Loaded, IsOver}
use Rattle.archive_loading.specs.Looks.{Looks}
use Rattle.archive_reader.specs.Walks.{StopsAt}
use Rattle.archive_reader.proofs.Finds.{readable_stands}
use Rattle.archive_reader.proofs.Loadable.{loads_readable}
use Rattle.log_export.specs.Exported.{ExportsAs, exported_reading}
use Rattle.log_export.specs.Exporting.{ExportSide, HasExported, MayLeave, WasFree, files_are, files_were, source_files}
use Rattle.log_export.specs.Reading.{FitsNone}
use Rattle.log_export.specs.Standing.{IsFree, IsStanding}
use Rattle.log_export.proofs.Exports.{export_is_read, export_keeps_sound}
use Rattle.pm_words.specs.declared.refusal.Refusal.TheVariants.{Compressed, NotArchive}
use Rattle.pm_words.specs.declared.words.Call.TheVariants as calls
use Rattle.pm_words.specs.declared.words.Command.TheVariants.{Export}
use Rattle.pm_words.specs.CommandLine.{asked_by}
use Rattle.pm_exporting.specs.Ends.{CallSide, Ends, Orders}
use Rattle.pm_exporting.specs.Facts.{EndsDone, Facts, FilesCause, IsGoodExport, IsTold, StandsWell, WriteFaultCause}
use Rattle.pm_exporting.proofs.Endings.{HasFailed, IsAway, IsOccupied, IsUsage, Seen, seen}

-- ---- files that can be read, and places that are free

fits_all : (files : Files) (file : FileId) (at : ℕ) → Readable files → FitsNone files file at → ⊥
fits_all files file at readable why =
    ⊎_elim (λ (n : NotLoaded files file at). loads_readable files file at readable n)
    (λ (w : (r : Loaded) × IsOver files r × (items : List _) × StopsAt files r.volumes 132 items file at).
    (readable_stands files readable.0 w.0 readable.1 w.1).good w.2 w.3.last w.3.to file at w.3.leads w.3.bad) why

not_both : (wrapped : Option FileId) (file : FileId) → wrapped ≡ None → wrapped ≡ Some file → ⊥
not_both wrapped file none some = let e : None ≡ Some file = sym none ∙ some in cc

not_free : (files : Files) (wrapped : Option FileId) (file : FileId) → IsFree files wrapped → IsStanding files wrapped file → ⊥
not_free files wrapped file free there = ⊎_elim (λ some. omega (arith, some.0, ap length (free.0 file))) (λ shown. not_both wrapped file free.1 shown.1) there

module _ {A D : Type 0} (p : ExportSide A D) (count : ℕ) (h : HasExported p count) where
  -- what stands says what the source says
  sound_by : (r : ArchiveReading) → Reads (source_files p) r → ExportsAs (source_files p) r (files_are p) → (left : Files) → Recovers (source_files p) r left → IsSound left (recovered_reading (source_files p) r) → IsSound (files_are p) (exported_reading (source_files p) r)
  sound_by ArchiveReading.nothing reads e left recovers sound = tt
  sound_by (ArchiveReading.archive c) reads e left recovers sound = (export_keeps_sound (source_files p) (files_are p) c reads e).of_left left recovers sound

  all_of : (held : Held) (bytes : List ℕ) → held.rest ≡ [] → Survives held bytes → bytes ≡ bytes_of held
  all_of held bytes none left = survives_sure held bytes none left ∙ sym (append-nil held.sure) ∙ sym (ap (λ r. held.sure ++ r) none)

  stands_well : StandsWell p
  stands_well =
      let keeps = export_is_read (source_files p) (files_are p) h.reading h.reads h.exported in
      record {
        of_source = h.reading;
        source_reads = h.reads;
        reading = exported_reading (source_files p) h.reading;
        reads = keeps.0;
        same_scan = keeps.1;
        same_records = keeps.2;
        sound = sound_by h.reading h.reads h.exported;
        stays = λ crash left file. all_of (p.disk.held p.disk_is file) (crash file) (h.sure file) (left file);
      }

module _ {A D : Type 0} (c : CallSide A D) (k : SinkSide) where
  -- words that are good aren't bad
  asked_well : (at : ℕ) → asked_by calls.Export c.words ≡ Err at → Orders c.words → ⊥
  asked_well at bad orders = let e : Err at ≡ Ok Export = sym bad ∙ orders in cc

  -- ---- each status

  is_usage : (n : ℕ) → n ≡ 1 → Seen c k n → IsUsage c k
  is_usage n h (inl is) = absurd (omega (arith, h, is))
  is_usage n h (inr (inl (is, u))) = u
  is_usage n h (inr (inr (inl (is, d)))) = absurd (omega (arith, h, is))
  is_usage n h (inr (inr (inr (inl (is, w))))) = absurd (omega (arith, h, is))
  is_usage n h (inr (inr (inr (inr (inl (is, a, x)))))) = absurd (omega (arith, h, is))
  is_usage n h (inr (inr (inr (inr (inr (inl (is, o, x))))))) = absurd (omega (arith, h, is))
  is_usage n h (inr (inr (inr (inr (inr (inr (is, f, x))))))) = absurd (omega (arith, h, is))

  is_done : (n : ℕ) → n ≡ 0 → Seen c k n → EndsDone c k
  is_done n h (inl is) = absurd (omega (arith, h, is))
  is_done n h (inr (inl (is, u))) = absurd (omega (arith, h, is))
  is_done n h (inr (inr (inl (is, d)))) = d
  is_done n h (inr (inr (inr (inl (is, w))))) = absurd (omega (arith, h, is))
  is_done n h (inr (inr (inr (inr (inl (is, a, x)))))) = absurd (omega (arith, h, is))
  is_done n h (inr (inr (inr (inr (inr (inl (is, o, x))))))) = absurd (omega (arith, h, is))
  is_done n h (inr (inr (inr (inr (inr (inr (is, f, x))))))) = absurd (omega (arith, h, is))

  is_unwritten : (n : ℕ) → n ≡ 4 → Seen c k n → WriteFaultCause c k
  is_unwritten n h (inl is) = absurd (omega (arith, h, is))
  is_unwritten n h (inr (inl (is, u))) = absurd (omega (arith, h, is))
  is_unwritten n h (inr (inr (inl (is, d)))) = absurd (omega (arith, h, is))
  is_unwritten n h (inr (inr (inr (inl (is, w))))) = w
  is_unwritten n h (inr (inr (inr (inr (inl (is, a, x)))))) = absurd (omega (arith, h, is))
  is_unwritten n h (inr (inr (inr (inr (inr (inl (is, o, x))))))) = absurd (omega (arith, h, is))
  is_unwritten n h (inr (inr (inr (inr (inr (inr (is, f, x))))))) = absurd (omega (arith, h, is))

  is_away : (n : ℕ) → n ≡ 6 → Seen c k n → IsAway c k
  is_away n h (inl is) = absurd (omega (arith, h, is))
  is_away n h (inr (inl (is, u))) = absurd (omega (arith, h, is))
  is_away n h (inr (inr (inl (is, d)))) = absurd (omega (arith, h, is))
  is_away n h (inr (inr (inr (inl (is, w))))) = absurd (omega (arith, h, is))
  is_away n h (inr (inr (inr (inr (inl (is, a, x)))))) = a
  is_away n h (inr (inr (inr (inr (inr (inl (is, o, x))))))) = absurd (omega (arith, h, is))
  is_away n h (inr (inr (inr (inr (inr (inr (is, f, x))))))) = absurd (omega (arith, h, is))

  is_occupied : (n : ℕ) → n ≡ 23 → Seen c k n → IsOccupied c k
  is_occupied n h (inl is) = absurd (omega (arith, h, is))
  is_occupied n h (inr (inl (is, u))) = absurd (omega (arith, h, is))
  is_occupied n h (inr (inr (inl (is, d)))) = absurd (omega (arith, h, is))
  is_occupied n h (inr (inr (inr (inl (is, w))))) = absurd (omega (arith, h, is))
  is_occupied n h (inr (inr (inr (inr (inl (is, a, x)))))) = absurd (omega (arith, h, is))
  is_occupied n h (inr (inr (inr (inr (inr (inl (is, o, x))))))) = o
  is_occupied n h (inr (inr (inr (inr (inr (inr (is, f, x))))))) = absurd (omega (arith, h, is))

  is_failed : (n : ℕ) → n ≡ 5 → Seen c k n → HasFailed c k
  is_failed n h (inl is) = absurd (omega (arith, h, is))
  is_failed n h (inr (inl (is, u))) = absurd (omega (arith, h, is))
  is_failed n h (inr (inr (inl (is, d)))) = absurd (omega (arith, h, is))
  is_failed n h (inr (inr (inr (inl (is, w))))) = absurd (omega (arith, h, is))
  is_failed n h (inr (inr (inr (inr (inl (is, a, x)))))) = absurd (omega (arith, h, is))
  is_failed n h (inr (inr (inr (inr (inr (inl (is, o, x))))))) = absurd (omega (arith, h, is))
  is_failed n h (inr (inr (inr (inr (inr (inr (is, f, x))))))) = f

  -- ---- always

  bad_words : (n at : ℕ) → asked_by calls.Export c.words ≡ Err at → Seen c k n → (n ≡ 1) ⊎ (n ≡ 9)
  bad_words n at bad (inl is) = inr is
  bad_words n at bad (inr (inl (is, u))) = inl is
  bad_words n at bad (inr (inr (inl (is, d)))) = absurd (asked_well at bad d.orders)
  bad_words n at bad (inr (inr (inr (inl (is, w))))) = absurd (asked_well at bad w.ran.orders)
  bad_words n at bad (inr (inr (inr (inr (inl (is, a, x)))))) = absurd (asked_well at bad a.0)
  bad_words n at bad (inr (inr (inr (inr (inr (inl (is, o, x))))))) = absurd (asked_well at bad o.0)
  bad_words n at bad (inr (inr (inr (inr (inr (inr (is, f, x))))))) = absurd (asked_well at bad f.0)

  -- where the source can't have been exported
  turned : (n : ℕ) → Orders c.words → c.export.source.tells → c.export.disk.tells → WasFree c.export → ((c.export.source.wrapped_file c.export.source_was ≡ None) → Readable (source_files c.export) → ⊥) → Seen c k n → (n ≡ 6) ⊎ ((n ≡ 9) ⊎ (n ≡ 5))
  turned n orders source disk free never (inl is) = inr (inl is)
  turned n orders source disk free never (inr (inl (is, u))) = absurd (asked_well u.0.0 u.0.1 orders)
  turned n orders source disk free never (inr (inr (inl (is, d)))) = let h = d.exported source disk in absurd (never h.unwrapped (h.reading, h.reads))
  turned n orders source disk free never (inr (inr (inr (inl (is, w))))) = let h = w.ran.exports.2 source disk in absurd (never h.unwrapped (h.reading, h.reads))
  turned n orders source disk free never (inr (inr (inr (inr (inl (is, a, x)))))) = inl is
  turned n orders source disk free never (inr (inr (inr (inr (inr (inl (is, o, x))))))) = absurd (not_free (files_were c.export) (c.export.disk.wrapped_file c.export.disk_was) o.1.0 free (o.1.2 disk))
  turned n orders source disk free never (inr (inr (inr (inr (inr (inr (is, f, x))))))) = inr (inr is)

  -- where something stands
  stood : (n : ℕ) → Orders c.words → c.export.disk.tells → (WasFree c.export → ⊥) → Seen c k n → (n ≡ 23) ⊎ ((n ≡ 9) ⊎ (n ≡ 5))
  stood n orders disk there (inl is) = inr (inl is)
  stood n orders disk there (inr (inl (is, u))) = absurd (asked_well u.0.0 u.0.1 orders)
  stood n orders disk there (inr (inr (inl (is, d)))) = absurd (there (d.free disk))
  stood n orders disk there (inr (inr (inr (inl (is, w))))) = absurd (there (w.ran.exports.1 disk))
  stood n orders disk there (inr (inr (inr (inr (inl (is, a, x)))))) = absurd (there (a.1 disk))
  stood n orders disk there (inr (inr (inr (inr (inr (inl (is, o, x))))))) = inl is
  stood n orders disk there (inr (inr (inr (inr (inr (inr (is, f, x))))))) = inr (inr is)

  no_cause : IsGoodExport c k → FilesCause c k → ⊥
  no_cause good cause =
      ⊎_elim (λ (w : (file : FileId) × IsTold k (Compressed file) × (c.export.source.tells → c.export.source.wrapped_file c.export.source_was ≡ Some file)). not_both (c.export.source.wrapped_file c.export.source_was) w.0 good.unwrapped (w.2 good.source_tells))
      (λ (w : (file : FileId) × (at : ℕ) × IsTold k (NotArchive file at) × (c.export.source.tells → (c.export.source.wrapped_file c.export.source_was ≡ None) × FitsNone (source_files c.export) file at)). fits_all (source_files c.export) w.0 w.1 good.readable (w.3 good.source_tells).1) cause

  completes : (n : ℕ) → IsGoodExport c k → Seen c k n → (n ≡ 0) ⊎ (n ≡ 9)
  completes n good (inl is) = inr is
  completes n good (inr (inl (is, u))) = absurd (asked_well u.0.0 u.0.1 good.orders)
  completes n good (inr (inr (inl (is, d)))) = inl is
  completes n good (inr (inr (inr (inl (is, w))))) = absurd (good.sink_kept w.rose)
  completes n good (inr (inr (inr (inr (inl (is, a, x)))))) = absurd (no_cause good a.2)
  completes n good (inr (inr (inr (inr (inr (inl (is, o, x))))))) = absurd (not_free (files_were c.export) (c.export.disk.wrapped_file c.export.disk_was) o.1.0 good.free (o.1.2 good.disk_tells))
  completes n good (inr (inr (inr (inr (inr (inr (is, f, x))))))) = absurd (⊎_elim good.source_kept good.disk_kept f.1)

  -- ---- all

  pub facts : (status : ℕ) → Ends c k status → MayLeave c.export → Looks c.export.source c.export.source_was c.export.source_is → Facts c k status
  facts status e moments looks = let saw : Seen c k status = seen c k status e in record {
    ends = e;
    done = λ h. is_done status h saw;
    quiet = λ h. ((is_done status h saw).quiet, (is_done status h saw).sink_quiet);
    well = λ h source disk. stands_well c.export (is_done status h saw).count ((is_done status h saw).exported source disk);
    usage = record { only = λ h. (is_usage status h saw).0; always = λ at bad. bad_words status at bad saw };
    write_fault = λ h. is_unwritten status h saw;
    disk_fault = λ h. (is_failed status h saw).1;
    archive_fault = record {
      only = λ h. let a : IsAway c k = is_away status h saw in (a.0, a.1, a.2);
      wrapped = λ orders source disk free file is. turned status orders source disk free (λ none readable. not_both (c.export.source.wrapped_file c.export.source_was) file none is) saw;
      unreadable = λ orders source disk free never. turned status orders source disk free (λ none readable. never readable) saw;
    };
    standing = record {
      only = λ h. let o : IsOccupied c k = is_occupied status h saw in (o.0, o.1);
      always = λ orders disk there. stood status orders disk there saw;
    };
    unrun = λ h. (is_usage status h saw).1;
    left_standing = λ h. (is_occupied status h saw).2;
    left_free = λ h. (is_away status h saw).3;
    aside = looks;
    any_moment = moments;
    completes = λ good. completes status good saw;
  }
