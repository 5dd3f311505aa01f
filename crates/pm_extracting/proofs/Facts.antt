-- The causes of each status, and what stands behind it.
use Rattle.std.proofs.Common.{◌≡◌, ◌⊎◌, inl, inr, ⊎_elim, ℕ, [], refl, sym, ◌∙◌, subst, arith, Result, Ok, Err}
use Rattle.pcp_base.specs.Time.{Moment}
use Rattle.pcp_base.specs.declared.file.FileId.{FileId}
use Rattle.pcp_outside.specs.Causes.{Rose}
use Rattle.pcp_outside.specs.Sides.{SinkSide}
use Rattle.archive_check.specs.declared.fault.CheckFault.{CheckFault}
use Rattle.archive_check.specs.declared.fault.CheckFault.TheVariants as checks
use Rattle.archive_merge.specs.declared.fault.MergeFault.TheVariants as merges
use Rattle.archive_reader.specs.declared.fault.ReaderFault.TheVariants as reads
use Rattle.logging_run.specs.declared.fault.RunFault.{RunFault}
use Rattle.logging_run.specs.declared.fault.RunFault.TheVariants as runs
use Rattle.logging_run.specs.Closing.{Close, HasFailed}
use Rattle.logging_run.specs.Laws.{ItemsAreReports}
use Rattle.logging_run.specs.Recovering.{IsUnrecovered}
use Rattle.log_extract.specs.declared.fault.ExtractFault.{ExtractFault}
use Rattle.log_extract.specs.declared.fault.ExtractFault.TheVariants.{Archive, Merge, Source as Unread}
use Rattle.log_extract.specs.Extracting.{Extracted, HasFailed as FailsBehind, IsRefused as IsTurnedBackBy, IsUnbegun, IsUnread as IsUnpassed}
use Rattle.log_extract.specs.Laws.{AllIsMerged, ReportsAreMerged}
use Rattle.log_extract.specs.Logging.{BreaksOff}
use Rattle.pm_words.specs.declared.refusal.Refusal.TheVariants.{Usage, NoMemory}
use Rattle.pm_words.specs.declared.words.Call.TheVariants as calls
use Rattle.pm_words.specs.Asking.{UsageIsExact}
use Rattle.pm_words.specs.CommandLine.{asked_by}
use Rattle.pm_words.specs.Telling.{IsToldBy}
use Rattle.pm_words.proofs.Telling.{told_by}
use Rattle.pm_extracting.specs.Ends.{CallSide, Ends, EndsDone, HasExtracted, HasLogged, HasRun, IsUnrun, TellsRun, handed_in}
use Rattle.pm_extracting.specs.Facts.{DiskFaultCause, FilesCause, FirstIsRefused, IsOfFiles, IsOfSoundness, SecondIsRefused, StandsFailed}
use Rattle.pm_extracting.specs.Refusals.{fault_refusal, front_of}
use Rattle.pm_extracting.proofs.Endings.{Seen, by_end, by_run, end_status, full_status, is_early, not_four, not_low}
use Rattle.pm_extracting.proofs.Sources.{broken_lacks, broken_sound, not_lacking}
use Rattle.pm_extracting.proofs.Standing.{archive_so, came_so, filed, handed_first, logged_so, merge_so, unbegun_so}

module _ {A B D : Type 0} (c : CallSide A B D) (k : SinkSide) where
  -- ---- words

  usage_only : (n : ℕ) → n ≡ 1 → Seen c k n → (at : ℕ) × (asked_by calls.Extract c.words ≡ Err at)
  usage_only n one (inl (Usage at, refused, told)) = (at, refused.cause)
  usage_only n one (inl (NoMemory, refused, inl h)) = absurd (omega (arith, one, h))
  usage_only n one (inl (NoMemory, refused, inr (h, some))) = absurd some
  usage_only n one (inl (e, refused, told)) = absurd refused.cause
  usage_only n one (inr (result, ran, inl h)) = absurd (never_one result (h ∙ one)) where
    never_one : (result : Result ℕ ExtractFault) → end_status result ≡ 1 → ⊥
    never_one (Ok count) h = omega (arith, h)
    never_one (Err fault) h = not_low fault 1 (inr refl) h
  usage_only n one (inr (result, ran, inr (inl (h, other)))) = absurd (omega (arith, one, h))
  usage_only n one (inr (result, ran, inr (inr (h, done, rose)))) = absurd (omega (arith, one, h))

  bad_words : (at n : ℕ) → asked_by calls.Extract c.words ≡ Err at → Seen c k n → (n ≡ 1) ⊎ (n ≡ 9)
  bad_words at n bad (inl early) = is_early c k n early
  bad_words at n bad (inr (result, ran, told)) = let e = sym bad ∙ ran.orders in absurd (cc)

  pub usage_is_exact : (n : ℕ) → Seen c k n → UsageIsExact calls.Extract c.words n
  usage_is_exact n saw = record { only = λ one. usage_only n one saw; always = λ at bad. bad_words at n bad saw }

  pub unrun_at : (n : ℕ) → Seen c k n → n ≡ 1 → IsUnrun c.extract
  unrun_at n (inl (e, refused, told)) one = refused.unrun
  unrun_at n (inr (result, ran, told)) one = let found = (usage_only n one (inr (result, ran, told))) in let e = sym found.1 ∙ ran.orders in absurd (cc)

  -- ---- done

  module _ (whole : AllIsMerged) where
    told_done : (count : ℕ) → HasRun c (Ok count) → TellsRun k (Ok count) 0 → EndsDone c k
    told_done count ran (inl (inl (h, quiet, wrote))) = record { logged = logged_so c whole count ran; wrote = wrote; quiet = quiet }
    told_done count ran (inl (inr (h, rose, wrote))) = absurd (omega (arith, h))
    told_done count ran (inr (h, untold)) = absurd (omega (arith, h))

    done_run : (result : Result ℕ ExtractFault) → HasRun c result → TellsRun k result 0 → EndsDone c k
    done_run (Ok count) ran told = told_done count ran told
    done_run (Err fault) ran told = absurd (not_zero (told_by k (front_of fault) (Err (fault_refusal fault)) 0 told)) where
      not_zero : IsToldBy (Err (fault_refusal fault)) 0 → ⊥
      not_zero (inl h) = not_low fault 0 (inl refl) (sym h)
      not_zero (inr (h, some)) = omega (arith, h)

    done_at : (n : ℕ) → n ≡ 0 → Ends c k n → EndsDone c k
    done_at n zero (inl e) = absurd (⊎_elim (λ (h : n ≡ 1). omega (arith, zero, h)) (λ (h : n ≡ 9). omega (arith, zero, h)) (is_early c k n (e.refusal, e.refused, told_by k [] (Err e.refusal) n e.told)))
    done_at n zero (inr e) = done_run e.result e.ran (subst (λ (m : ℕ). TellsRun k e.result m) zero e.told)

    pub is_done : (n : ℕ) → Ends c k n → n ≡ 0 → EndsDone c k
    is_done n e zero = done_at n zero e

    -- ---- the sink

    write_end : (result : Result ℕ ExtractFault) → HasRun c result → end_status result ≡ 4 → HasLogged c × Rose k.faults k.faults_after
    write_end (Ok count) ran h = absurd (omega (arith, h))
    write_end (Err fault) ran h = absurd (not_four fault h)

    pub write_fault : (n : ℕ) → n ≡ 4 → Seen c k n → HasLogged c × Rose k.faults k.faults_after
    write_fault n four saw = by_run c k 4 (λ h. omega (arith, h)) (λ h. omega (arith, h)) write_end (λ h count ran rose. (logged_so c whole count ran, rose)) (subst (Seen c k) four saw)

  -- ---- a source

  -- Which one it is: the first one; or the second one, where the first is passed.
  module _ (fault : CheckFault) (of : IsOfFiles fault ⊎ IsOfSoundness fault) where
    one_refused : (number : ℕ) (ran : HasRun c (Err (Unread number fault))) → IsUnpassed c.extract number fault → c.extract.disk_is ≡ c.extract.disk_was → FirstIsRefused c fault ⊎ SecondIsRefused c fault
    one_refused number ran (inl (one, back)) same = inl (subst (λ (n : ℕ). HasRun c (Err (Unread n fault))) one ran, λ tells. (back.why tells, same))
    one_refused number ran (inr (two, passed, back)) same = inr (subst (λ (n : ℕ). HasRun c (Err (Unread n fault))) two ran, passed, λ tells. (back.why tells, same))

    one_broken : (number volume : ℕ) (ran : HasRun c (Err (Unread number fault))) (e : Extracted c.extract volume (Err (Unread number fault)))
        → BreaksOff c.extract.first c.extract.second c.extract.first_was c.extract.first_is c.extract.second_was c.extract.second_is number fault → FirstIsRefused c fault ⊎ SecondIsRefused c fault
    one_broken number volume ran e (inl (one, broken)) =
        inl (subst (λ (n : ℕ). HasRun c (Err (Unread n fault))) one ran, λ tells. absurd (not_lacking fault of (broken_lacks c.extract.first c.extract.first_was c.extract.first_is fault broken tells)))
    one_broken number volume ran e (inr (two, broken)) =
        inr (subst (λ (n : ℕ). HasRun c (Err (Unread n fault))) two ran, e.first_passed, λ tells. absurd (not_lacking fault of (broken_lacks c.extract.second c.extract.second_was c.extract.second_is fault broken tells)))

    pub source_refused : (number : ℕ) → HasRun c (Err (Unread number fault)) → FirstIsRefused c fault ⊎ SecondIsRefused c fault
    source_refused number ran = by_came ran.extracts.came where
      by_came : IsTurnedBackBy c.extract (Err (Unread number fault)) ⊎ Extracted c.extract ran.volume (Err (Unread number fault)) → FirstIsRefused c fault ⊎ SecondIsRefused c fault
      by_came (inl back) = one_refused number ran back.0 back.1
      by_came (inr e) = one_broken number ran.volume ran e e.why.0

  -- a breach is found before anything is written
  breach_alone : (number : ℕ) (fault : CheckFault) → IsOfSoundness fault → HasRun c (Err (Unread number fault)) → c.extract.disk_is ≡ c.extract.disk_was
  breach_alone number fault of ran = by_came ran.extracts.came where
    by_broken : BreaksOff c.extract.first c.extract.second c.extract.first_was c.extract.first_is c.extract.second_was c.extract.second_is number fault → ⊥
    by_broken (inl (one, broken)) = broken_sound c.extract.first c.extract.first_was c.extract.first_is fault of broken
    by_broken (inr (two, broken)) = broken_sound c.extract.second c.extract.second_was c.extract.second_is fault of broken

    by_came : IsTurnedBackBy c.extract (Err (Unread number fault)) ⊎ Extracted c.extract ran.volume (Err (Unread number fault)) → c.extract.disk_is ≡ c.extract.disk_was
    by_came (inl back) = back.1
    by_came (inr e) = absurd (by_broken e.why.0)

  abbrev Unsound : Type 0
  Unsound = ((fault : CheckFault) × IsOfSoundness fault × (FirstIsRefused c fault ⊎ SecondIsRefused c fault)) × (c.extract.disk_is ≡ c.extract.disk_was)

  sound_refused : (number : ℕ) (fault : CheckFault) → IsOfSoundness fault → HasRun c (Err (Unread number fault)) → Unsound
  sound_refused number fault of ran = ((fault, of, source_refused fault (inr of) number ran), breach_alone number fault of ran)

  unsound_at : (result : Result ℕ ExtractFault) → HasRun c result → end_status result ≡ 10 → Unsound
  unsound_at (Err (Unread number (checks.Items first second))) ran h = sound_refused number (checks.Items first second) tt ran
  unsound_at (Err (Unread number (checks.Boundary at file below above))) ran h = sound_refused number (checks.Boundary at file below above) tt ran
  unsound_at (Err (Unread number (checks.Late at stamp))) ran h = sound_refused number (checks.Late at stamp) tt ran
  unsound_at (Err (Unread number (checks.Reader reads.NoMemory))) ran h = absurd (omega (arith, h))
  unsound_at (Err (Merge merges.NoMemory)) ran h = absurd (omega (arith, h))
  unsound_at (Err (Archive (runs.Full file number))) ran h = let seven = full_status file number in absurd (omega (arith, seven, h))
  unsound_at result ran h = absurd (omega (arith, h))

  pub unsound : (n : ℕ) → n ≡ 10 → Seen c k n → Unsound
  unsound n is saw = by_end c k 10 (λ h. omega (arith, h)) (λ h. omega (arith, h)) (λ h. omega (arith, h)) unsound_at (subst (Seen c k) is saw)

  -- ---- files that are turned away

  files_refused : (number : ℕ) (fault : CheckFault) → IsOfFiles fault → HasRun c (Err (Unread number fault)) → FilesCause c
  files_refused number fault of ran = inl (fault, of, source_refused fault (inl of) number ran)

  output_unbegun : (fault : RunFault) (ran : HasExtracted c (Err (Archive fault))) → IsUnbegun c.extract ran.volume ran.extracted.reports ran.extracted.last ran.extracted.close fault → c.extract.disk.tells
      → IsUnrecovered c.extract.disk c.extract.disk_was fault c.extract.disk_is
  output_unbegun fault ran u tells = unbegun_so c.extract ran.volume (Err (Archive fault)) ran.extracted fault u tells

  files_at : (result : Result ℕ ExtractFault) → HasRun c result → end_status result ≡ 6 → FilesCause c
  files_at (Err (Unread number (checks.Reader (reads.Compressed file)))) ran h = files_refused number (checks.Reader (reads.Compressed file)) tt ran
  files_at (Err (Unread number (checks.Reader (reads.NotArchive file at)))) ran h = files_refused number (checks.Reader (reads.NotArchive file at)) tt ran
  files_at (Err (Archive (runs.Compressed file))) ran h =
      let e = archive_so c (runs.Compressed file) ran in inr (inl (file, e, λ tells. output_unbegun (runs.Compressed file) e e.extracted.why tells))
  files_at (Err (Archive (runs.NotArchive file at))) ran h =
      let e = archive_so c (runs.NotArchive file at) ran in inr (inr (file, at, e, λ tells. let u = output_unbegun (runs.NotArchive file at) e e.extracted.why tells in (u.0.1, u.1)))
  files_at (Err (Merge merges.NoMemory)) ran h = absurd (omega (arith, h))
  files_at (Err (Archive (runs.Full file number))) ran h = let seven = full_status file number in absurd (omega (arith, seven, h))
  files_at result ran h = absurd (omega (arith, h))

  pub turned_away : (n : ℕ) → n ≡ 6 → Seen c k n → FilesCause c
  turned_away n is saw = by_end c k 6 (λ h. omega (arith, h)) (λ h. omega (arith, h)) (λ h. omega (arith, h)) files_at (subst (Seen c k) is saw)

  -- ---- the run

  limit_at : (result : Result ℕ ExtractFault) → HasRun c result → end_status result ≡ 7 → ((bytes : ℕ) × HasExtracted c (Err (Archive (runs.Large bytes)))) ⊎ ((file : FileId) × (number : ℕ) × HasExtracted c (Err (Archive (runs.Full file number))))
  limit_at (Err (Archive (runs.Large bytes))) ran h = inl (bytes, archive_so c (runs.Large bytes) ran)
  limit_at (Err (Archive (runs.Full file number))) ran h = inr (file, number, archive_so c (runs.Full file number) ran)
  limit_at (Err (Unread number (checks.Reader reads.NoMemory))) ran h = absurd (omega (arith, h))
  limit_at (Err (Merge merges.NoMemory)) ran h = absurd (omega (arith, h))
  limit_at result ran h = absurd (omega (arith, h))

  pub limit : (n : ℕ) → n ≡ 7 → Seen c k n → ((bytes : ℕ) × HasExtracted c (Err (Archive (runs.Large bytes)))) ⊎ ((file : FileId) × (number : ℕ) × HasExtracted c (Err (Archive (runs.Full file number))))
  limit n is saw = by_end c k 7 (λ h. omega (arith, h)) (λ h. omega (arith, h)) (λ h. omega (arith, h)) limit_at (subst (Seen c k) is saw)

  late_at : (result : Result ℕ ExtractFault) → HasRun c result → end_status result ≡ 12 → (last : Moment) × HasExtracted c (Err (Archive (runs.NotLater last)))
  late_at (Err (Archive (runs.NotLater last))) ran h = (last, archive_so c (runs.NotLater last) ran)
  late_at (Err (Archive (runs.Full file number))) ran h = let seven = full_status file number in absurd (omega (arith, seven, h))
  late_at (Err (Unread number (checks.Reader reads.NoMemory))) ran h = absurd (omega (arith, h))
  late_at (Err (Merge merges.NoMemory)) ran h = absurd (omega (arith, h))
  late_at result ran h = absurd (omega (arith, h))

  pub not_later : (n : ℕ) → n ≡ 12 → Seen c k n → (last : Moment) × HasExtracted c (Err (Archive (runs.NotLater last)))
  not_later n is saw = by_end c k 12 (λ h. omega (arith, h)) (λ h. omega (arith, h)) (λ h. omega (arith, h)) late_at (subst (Seen c k) is saw)

  changed_at : (result : Result ℕ ExtractFault) → HasRun c result → end_status result ≡ 13 → (pmid : ℕ) × HasExtracted c (Err (Archive (runs.Changed pmid)))
  changed_at (Err (Archive (runs.Changed pmid))) ran h = (pmid, archive_so c (runs.Changed pmid) ran)
  changed_at (Err (Archive (runs.Full file number))) ran h = let seven = full_status file number in absurd (omega (arith, seven, h))
  changed_at (Err (Unread number (checks.Reader reads.NoMemory))) ran h = absurd (omega (arith, h))
  changed_at (Err (Merge merges.NoMemory)) ran h = absurd (omega (arith, h))
  changed_at result ran h = absurd (omega (arith, h))

  pub changed : (n : ℕ) → n ≡ 13 → Seen c k n → (pmid : ℕ) × HasExtracted c (Err (Archive (runs.Changed pmid)))
  changed n is saw = by_end c k 13 (λ h. omega (arith, h)) (λ h. omega (arith, h)) (λ h. omega (arith, h)) changed_at (subst (Seen c k) is saw)

  lacks_at : (result : Result ℕ ExtractFault) → HasRun c result → end_status result ≡ 18 → (source : ℕ) × (pmid : ℕ) × HasExtracted c (Err (Merge (merges.Lacks source pmid)))
  lacks_at (Err (Merge (merges.Lacks source pmid))) ran h = (source, pmid, merge_so c (merges.Lacks source pmid) ran)
  lacks_at (Err (Archive (runs.Full file number))) ran h = let seven = full_status file number in absurd (omega (arith, seven, h))
  lacks_at (Err (Unread number (checks.Reader reads.NoMemory))) ran h = absurd (omega (arith, h))
  lacks_at result ran h = absurd (omega (arith, h))

  pub lacks : (n : ℕ) → n ≡ 18 → Seen c k n → (source : ℕ) × (pmid : ℕ) × HasExtracted c (Err (Merge (merges.Lacks source pmid)))
  lacks n is saw = by_end c k 18 (λ h. omega (arith, h)) (λ h. omega (arith, h)) (λ h. omega (arith, h)) lacks_at (subst (Seen c k) is saw)

  clashes_at : (result : Result ℕ ExtractFault) → HasRun c result → end_status result ≡ 19 → (pmid : ℕ) × HasExtracted c (Err (Merge (merges.Clashes pmid)))
  clashes_at (Err (Merge (merges.Clashes pmid))) ran h = (pmid, merge_so c (merges.Clashes pmid) ran)
  clashes_at (Err (Archive (runs.Full file number))) ran h = let seven = full_status file number in absurd (omega (arith, seven, h))
  clashes_at (Err (Unread number (checks.Reader reads.NoMemory))) ran h = absurd (omega (arith, h))
  clashes_at result ran h = absurd (omega (arith, h))

  pub clashes : (n : ℕ) → n ≡ 19 → Seen c k n → (pmid : ℕ) × HasExtracted c (Err (Merge (merges.Clashes pmid)))
  clashes n is saw = by_end c k 19 (λ h. omega (arith, h)) (λ h. omega (arith, h)) (λ h. omega (arith, h)) clashes_at (subst (Seen c k) is saw)

  -- ---- a disk that failed

  module _ (items_are : ItemsAreReports) (merged : ReportsAreMerged) where
    abbrev Failed : Type 0
    Failed = DiskFaultCause c × StandsFailed c

    abbrev lost : CheckFault
    lost = checks.Reader reads.DiskFault

    first_lost : (number : ℕ) → HasRun c (Err (Unread number lost)) → number ≡ 1 → Rose (c.extract.first.faults c.extract.first_was) (c.extract.first.faults c.extract.first_is) → DiskFaultCause c
    first_lost number ran one rose = inl (subst (λ (n : ℕ). HasRun c (Err (Unread n lost))) one ran, rose)

    second_lost : (number : ℕ) → HasRun c (Err (Unread number lost)) → number ≡ 2 → Rose (c.extract.second.faults c.extract.second_was) (c.extract.second.faults c.extract.second_is) → DiskFaultCause c
    second_lost number ran two rose = inr (inl (subst (λ (n : ℕ). HasRun c (Err (Unread n lost))) two ran, rose))

    source_lost : (number : ℕ) → HasRun c (Err (Unread number lost)) → Failed
    source_lost number ran = by_came ran.extracts.came where
      by_back : IsUnpassed c.extract number lost → DiskFaultCause c
      by_back (inl (one, back)) = first_lost number ran one (back.blamed refl)
      by_back (inr (two, passed, back)) = second_lost number ran two (back.blamed refl)

      by_broken : BreaksOff c.extract.first c.extract.second c.extract.first_was c.extract.first_is c.extract.second_was c.extract.second_is number lost → DiskFaultCause c
      by_broken (inl (one, broken)) = first_lost number ran one (broken.blamed refl)
      by_broken (inr (two, broken)) = second_lost number ran two (broken.blamed refl)

      by_came : IsTurnedBackBy c.extract (Err (Unread number lost)) ⊎ Extracted c.extract ran.volume (Err (Unread number lost)) → Failed
      by_came (inl back) = (by_back back.0, inl (number, ran, back.1))
      by_came (inr e) =
          let has : HasExtracted c (Err (Unread number lost)) = record { volume = ran.volume; orders = ran.orders; extracted = e } in
          (by_broken e.why.0, inr (inl (number, has, filed c items_are merged (Err (Unread number lost)) has e.why.1.1.closed (inl e.why.1.0))))

    output_left : (ran : HasExtracted c (Err (Archive runs.DiskFault)))
        → IsUnbegun c.extract ran.volume ran.extracted.reports ran.extracted.last ran.extracted.close runs.DiskFault ⊎ FailsBehind c.extract ran.volume ran.extracted.reports ran.extracted.last ran.extracted.close → c.extract.disk.tells
        → IsUnrecovered c.extract.disk c.extract.disk_was runs.DiskFault c.extract.disk_is ⊎ ((lost : ℕ) × HasFailed c.extract.disk ran.volume (handed_in ran.extracted) c.extract.disk_was c.extract.disk_is lost)
    output_left ran (inl u) tells = inl (output_unbegun runs.DiskFault ran u tells)
    output_left ran (inr (many, closed)) tells = inr (many, came_so c.extract ran.volume (Err (Archive runs.DiskFault)) ran.extracted (Close.failed many) closed tells)

    output_lost : HasExtracted c (Err (Archive runs.DiskFault)) → Failed
    output_lost ran =
        (inr (inr (ran, ran.extracted.why.0)), inr (inr (ran, record { merged = handed_first c.extract merged (Err (Archive runs.DiskFault)) items_are ran.volume ran.extracted; left = output_left ran ran.extracted.why.1 })))

    failed_run : (result : Result ℕ ExtractFault) → HasRun c result → end_status result ≡ 5 → Failed
    failed_run (Err (Unread number (checks.Reader reads.DiskFault))) ran h = source_lost number ran
    failed_run (Err (Archive runs.DiskFault)) ran h = output_lost (archive_so c runs.DiskFault ran)
    failed_run (Err (Archive (runs.Full file number))) ran h = let seven = full_status file number in absurd (omega (arith, seven, h))
    failed_run (Err (Merge merges.NoMemory)) ran h = absurd (omega (arith, h))
    failed_run result ran h = absurd (omega (arith, h))

    pub failed : (n : ℕ) → n ≡ 5 → Seen c k n → Failed
    failed n is saw = by_end c k 5 (λ h. omega (arith, h)) (λ h. omega (arith, h)) (λ h. omega (arith, h)) failed_run (subst (Seen c k) is saw)
