-- What a call leaves of the disk, and what a crash leaves of it.
use Rattle.std.proofs.Common.{◌≡◌, ◌≢◌, ◌⊎◌, inl, inr, ℕ, List, refl, sym, ap, ◌∙◌, subst, arith, Result, Ok, Err}
use Rattle.pcp_base.specs.declared.result.Item.{Item}
use Rattle.pcp_model.specs.Disk.{CrashImage, Files, Holdings, IsSettled, contents_of}
use Rattle.pcp_outside.specs.Devices.{LeavesOnly}
use Rattle.pcp_outside.specs.Sides.{SinkSide}
use Rattle.pcp_outside.specs.declared.disk.Disk.{Ghosts as DiskGhosts}
use Rattle.pcp_outside.proofs.Crash.{started, weaker}
use Rattle.archive_loading.proofs.Looking.{OnlyNow, looks_none}
use Rattle.archive_check.specs.declared.fault.CheckFault.{CheckFault}
use Rattle.archive_check.specs.declared.fault.CheckFault.TheVariants as checks
use Rattle.archive_loading.specs.Looks.{Looks}
use Rattle.archive_merge.specs.declared.fault.MergeFault.{MergeFault}
use Rattle.archive_reader.specs.declared.fault.ReaderFault.TheVariants as reads
use Rattle.logger_core.specs.declared.fault.LogFault.{LogFault}
use Rattle.logger_core.specs.declared.fault.LogFault.TheVariants as logs
use Rattle.logging_session.specs.ComingBack.{MayBeAfter}
use Rattle.logging_session.specs.Crashes.{IsAllAfter}
use Rattle.logging_run.specs.declared.fault.RunFault.{RunFault}
use Rattle.logging_run.specs.declared.fault.RunFault.TheVariants as runs
use Rattle.logging_run.specs.Handing.{items_of_run}
use Rattle.logging_run.specs.Laws.{ItemsAreReports}
use Rattle.log_extract.specs.declared.fault.ExtractFault.{ExtractFault}
use Rattle.log_extract.specs.declared.fault.ExtractFault.TheVariants.{Archive, Merge, Source as Unread}
use Rattle.log_extract.specs.Extracting.{AreStill, Extracted, HasBrokenOff, IsRefused as IsTurnedBackBy, LeavesSources, TurnsAway}
use Rattle.log_extract.specs.Laws.{ReportsAreMerged}
use Rattle.pm_words.specs.Sides.{IsUnread, Leaves}
use Rattle.pm_extracting.specs.Ends.{CallSide, HasExtracted, HasLogged, HasRun, MayBeLeft, handed_in}
use Rattle.pm_extracting.specs.Facts.{HadRecovered, HasFiled, KeepsAll, StandsWanting}
use Rattle.pm_extracting.proofs.Endings.{HasFailedSo, Seen, Told, by_run, end_status}
use Rattle.pm_extracting.proofs.Standing.{Stands, archive_so, done_so, filed, handed_first, merge_so, stands, unbegun_so, unrecovered_stays}

-- ---- the statuses behind recovery

abbrev pub IsOther : ℕ → Type 0
IsOther m = (m ≡ 1) ⊎ ((m ≡ 5) ⊎ ((m ≡ 6) ⊎ ((m ≡ 9) ⊎ (m ≡ 10))))

apart : (n m : ℕ) → HadRecovered n → m ≡ n → (m ≡ 0 → ⊥) → (m ≡ 4 → ⊥) → (m ≡ 7 → ⊥) → (m ≡ 12 → ⊥) → (m ≡ 13 → ⊥) → (m ≡ 18 → ⊥) → (m ≡ 19 → ⊥) → ⊥
apart n m (inl h) is a b c d e f g = a (is ∙ h)
apart n m (inr (inl h)) is a b c d e f g = b (is ∙ h)
apart n m (inr (inr (inl h))) is a b c d e f g = c (is ∙ h)
apart n m (inr (inr (inr (inl h)))) is a b c d e f g = d (is ∙ h)
apart n m (inr (inr (inr (inr (inl h))))) is a b c d e f g = e (is ∙ h)
apart n m (inr (inr (inr (inr (inr (inl h)))))) is a b c d e f g = f (is ∙ h)
apart n m (inr (inr (inr (inr (inr (inr h)))))) is a b c d e f g = g (is ∙ h)

pub had_not : (n m : ℕ) → HadRecovered n → m ≡ n → IsOther m → ⊥
had_not n m had is (inl h) = apart n m had is (λ k. omega (arith, h, k)) (λ k. omega (arith, h, k)) (λ k. omega (arith, h, k)) (λ k. omega (arith, h, k)) (λ k. omega (arith, h, k)) (λ k. omega (arith, h, k)) (λ k. omega (arith, h, k))
had_not n m had is (inr (inl h)) = apart n m had is (λ k. omega (arith, h, k)) (λ k. omega (arith, h, k)) (λ k. omega (arith, h, k)) (λ k. omega (arith, h, k)) (λ k. omega (arith, h, k)) (λ k. omega (arith, h, k)) (λ k. omega (arith, h, k))
had_not n m had is (inr (inr (inl h))) = apart n m had is (λ k. omega (arith, h, k)) (λ k. omega (arith, h, k)) (λ k. omega (arith, h, k)) (λ k. omega (arith, h, k)) (λ k. omega (arith, h, k)) (λ k. omega (arith, h, k)) (λ k. omega (arith, h, k))
had_not n m had is (inr (inr (inr (inl h)))) = apart n m had is (λ k. omega (arith, h, k)) (λ k. omega (arith, h, k)) (λ k. omega (arith, h, k)) (λ k. omega (arith, h, k)) (λ k. omega (arith, h, k)) (λ k. omega (arith, h, k)) (λ k. omega (arith, h, k))
had_not n m had is (inr (inr (inr (inr h)))) = apart n m had is (λ k. omega (arith, h, k)) (λ k. omega (arith, h, k)) (λ k. omega (arith, h, k)) (λ k. omega (arith, h, k)) (λ k. omega (arith, h, k)) (λ k. omega (arith, h, k)) (λ k. omega (arith, h, k))

module _ {A B D : Type 0} (c : CallSide A B D) (k : SinkSide) (items_are : ItemsAreReports) (merged : ReportsAreMerged) where
  abbrev was : Holdings
  was = c.extract.disk.held c.extract.disk_was

  abbrev now : Holdings
  now = c.extract.disk.held c.extract.disk_is

  -- ---- runs that were ended by no fault of a source, and by none of the disk

  abbrev pub Still : Type 0
  Still = AreStill c.extract × (c.extract.disk.faults c.extract.disk_is ≡ c.extract.disk.faults c.extract.disk_was)

  abbrev pub Filed : Type 0
  Filed = (result : Result ℕ ExtractFault) × (ran : HasExtracted c result) × HasFiled c ran

  abbrev Gone : Type 0
  Gone = Filed × Still

  still_so : (fault : RunFault) → (fault ≡ runs.DiskFault → ⊥) → AreStill c.extract ⊎ ((fault ≡ runs.DiskFault) × HasBrokenOff c.extract) → AreStill c.extract
  still_so fault other (inl still) = still
  still_so fault other (inr (is, broken)) = absurd (other is)

  away_gone : (fault : RunFault) (why : LogFault) (ran : HasExtracted c (Err (Archive fault))) → (fault ≡ runs.DiskFault → ⊥) → TurnsAway c.extract ran.volume ran.extracted.reports ran.extracted.last ran.extracted.close why → Gone
  away_gone fault why ran other away = (
    (Err (Archive fault), ran, filed c items_are merged (Err (Archive fault)) ran away.flushed.closed (inr (away.r, away.handed))),
    (still_so fault other ran.extracted.quiet, away.flushed.quiet),
  )

  done_gone : (count : ℕ) → HasExtracted c (Ok count) → Gone
  done_gone count ran = (
    (Ok count, ran, filed c items_are merged (Ok count) ran ran.extracted.why.1.1.closed (inl ran.extracted.why.1.0)),
    (ran.extracted.quiet, ran.extracted.why.1.1.quiet),
  )

  merge_gone : (fault : MergeFault) → HasExtracted c (Err (Merge fault)) → Gone
  merge_gone fault ran = (
    (Err (Merge fault), ran, filed c items_are merged (Err (Merge fault)) ran ran.extracted.why.1.closed (inl ran.extracted.why.0)),
    (ran.extracted.quiet, ran.extracted.why.1.quiet),
  )

  gone_run : (n : ℕ) → HadRecovered n → (result : Result ℕ ExtractFault) → HasRun c result → end_status result ≡ n → Gone
  gone_run n had (Ok count) ran h = done_gone count (done_so c count ran)
  gone_run n had (Err (Merge fault)) ran h = merge_gone fault (merge_so c fault ran)
  gone_run n had (Err (Archive (runs.Large bytes))) ran h = let e = archive_so c (runs.Large bytes) ran in away_gone (runs.Large bytes) (logs.Large bytes) e (λ is. cc) e.extracted.why
  gone_run n had (Err (Archive (runs.NotLater last))) ran h = let e = archive_so c (runs.NotLater last) ran in away_gone (runs.NotLater last) (logs.NotLater last) e (λ is. cc) e.extracted.why
  gone_run n had (Err (Archive (runs.Changed pmid))) ran h = let e = archive_so c (runs.Changed pmid) ran in away_gone (runs.Changed pmid) (logs.Changed pmid) e (λ is. cc) e.extracted.why
  gone_run n had (Err (Archive (runs.Full file bytes))) ran h = let e = archive_so c (runs.Full file bytes) ran in away_gone (runs.Full file bytes) (logs.Full file bytes) e (λ is. cc) e.extracted.why
  gone_run n had (Err (Archive (runs.Compressed file))) ran h = absurd (had_not n 6 had h (inr (inr (inl refl))))
  gone_run n had (Err (Archive (runs.NotArchive file at))) ran h = absurd (had_not n 6 had h (inr (inr (inl refl))))
  gone_run n had (Err (Archive runs.NoMemory)) ran h = absurd (had_not n 9 had h (inr (inr (inr (inl refl)))))
  gone_run n had (Err (Archive runs.DiskFault)) ran h = absurd (had_not n 5 had h (inr (inl refl)))
  gone_run n had (Err (Unread number (checks.Items first second))) ran h = absurd (had_not n 10 had h (inr (inr (inr (inr refl)))))
  gone_run n had (Err (Unread number (checks.Boundary at file below above))) ran h = absurd (had_not n 10 had h (inr (inr (inr (inr refl)))))
  gone_run n had (Err (Unread number (checks.Late at stamp))) ran h = absurd (had_not n 10 had h (inr (inr (inr (inr refl)))))
  gone_run n had (Err (Unread number (checks.Reader (reads.Compressed file)))) ran h = absurd (had_not n 6 had h (inr (inr (inl refl))))
  gone_run n had (Err (Unread number (checks.Reader (reads.NotArchive file at)))) ran h = absurd (had_not n 6 had h (inr (inr (inl refl))))
  gone_run n had (Err (Unread number (checks.Reader reads.DiskFault))) ran h = absurd (had_not n 5 had h (inr (inl refl)))
  gone_run n had (Err (Unread number (checks.Reader reads.NoMemory))) ran h = absurd (had_not n 9 had h (inr (inr (inr (inl refl)))))

  pub gone : (n : ℕ) → Seen c k n → HadRecovered n → Gone
  gone n saw had =
      by_run c k n (λ one. had_not n 1 had (sym one) (inl refl)) (λ nine. had_not n 9 had (sym nine) (inr (inr (inr (inl refl))))) (gone_run n had) (λ four count ran rose. done_gone count (done_so c count ran)) saw

  -- ---- runs that ended otherwise, but for a disk that failed

  -- a source wasn't passed, and the disk was left alone; or it stayed, or what was logged was flushed
  abbrev LeftAlone : Type 0
  LeftAlone = (number : ℕ) × (fault : CheckFault) × HasRun c (Err (Unread number fault)) × (c.extract.disk_is ≡ c.extract.disk_was)

  abbrev StaysOrFiled : Type 0
  StaysOrFiled = (result : Result ℕ ExtractFault) × (ran : HasExtracted c result) × ((c.extract.disk.tells → now ≡ was) ⊎ HasFiled c ran)

  stays_so : (result : Result ℕ ExtractFault) (ran : HasExtracted c result) → Stands c items_are merged ran → StaysOrFiled
  stays_so result ran (inl (fault, of, is, u)) = (result, ran, inl (λ tells. unrecovered_stays c items_are merged fault of (unbegun_so c.extract ran.volume result ran.extracted fault u tells)))
  stays_so result ran (inr (closed, has)) = (result, ran, inr has)

  back_alone : (result : Result ℕ ExtractFault) → HasRun c result → IsTurnedBackBy c.extract result → LeftAlone
  back_alone (Err (Unread number fault)) ran back = (number, fault, ran, back.1)
  back_alone (Ok count) ran back = absurd back
  back_alone (Err (Merge fault)) ran back = absurd back
  back_alone (Err (Archive fault)) ran back = absurd back

  pub stays_at : (result : Result ℕ ExtractFault) → (HasFailedSo result → ⊥) → HasRun c result → LeftAlone ⊎ StaysOrFiled
  stays_at result other ran = by_came ran.extracts.came where
    by_came : IsTurnedBackBy c.extract result ⊎ Extracted c.extract ran.volume result → LeftAlone ⊎ StaysOrFiled
    by_came (inl back) = inl (back_alone result ran back)
    by_came (inr e) = let has : HasExtracted c result = record { volume = ran.volume; orders = ran.orders; extracted = e } in inr (stays_so result has (stands c items_are merged result other has))

  not_failing : (result : Result ℕ ExtractFault) (n : ℕ) → n ≢ 5 → Told k result n → HasFailedSo result → ⊥
  not_failing result n five (inl h) is = five (sym h ∙ ap end_status is)
  not_failing result n five (inr (inl (h, other))) is = other is
  not_failing result n five (inr (inr (h, done, rose))) is = let e : Ok done.0 ≡ Err (Archive runs.DiskFault) = sym done.1 ∙ is in cc

  pub wanting : (n : ℕ) → n ≡ 9 → Seen c k n → StandsWanting c
  wanting n nine (inl (e, refused, told)) = inl refused.unrun
  wanting n nine (inr (result, ran, told)) = inr (stays_at result (not_failing result n (λ h. omega (arith, nine, h)) told) ran)

  -- ---- settled

  abbrev Settles : Type 0
  Settles = c.extract.disk.tells → IsSettled was → IsSettled now

  settles_by : LeftAlone ⊎ StaysOrFiled → Settles
  settles_by (inl (number, fault, ran, same)) tells settled = subst (λ (d : D). IsSettled (c.extract.disk.held d)) (sym same) settled
  settles_by (inr (result, ran, inl same)) tells settled = subst IsSettled (sym (same tells)) settled
  settles_by (inr (result, ran, inr has)) tells settled = (has.flushed tells).settled

  pub settles : (n : ℕ) → Seen c k n → n ≢ 5 → Settles
  settles n (inl (e, refused, told)) five tells settled = subst (λ (d : D). IsSettled (c.extract.disk.held d)) (sym refused.unrun.disk) settled
  settles n (inr (result, ran, told)) five tells settled = settles_by (stays_at result (not_failing result n five told) ran) tells settled

  -- ---- a crash at any moment

  abbrev LeavesSo : (Holdings → Files → Type 0) → Type 0
  LeavesSo P = Leaves c.extract.disk c.extract.disk_was c.extract.disk_is P

  same_leaves : OnlyNow c.extract.disk → c.extract.disk_is ≡ c.extract.disk_was → (P : Holdings → Files → Type 0) → ((crash : Files) → CrashImage was crash → P was crash) → LeavesSo P
  same_leaves only_now same P good tells =
      subst (λ (d : D). LeavesOnly c.extract.disk.moment c.extract.disk.left_since c.extract.disk_was d (P was)) (sym same)
      (started c.extract.disk.moment c.extract.disk.left_since c.extract.disk.held only_now c.extract.disk_was (P was) good)

  extracted_leaves : (result : Result ℕ ExtractFault) (ran : HasExtracted c result) → LeavesSo (MayBeLeft c)
  extracted_leaves result ran tells =
      weaker c.extract.disk.moment c.extract.disk.left_since c.extract.disk.held c.extract.disk_was c.extract.disk_is (MayBeAfter (items_of_run (handed_in ran.extracted)) 0 was) (MayBeLeft c was) (ran.extracted.ran tells).any_moment
      (λ crash may. inr (result, ran, handed_first c.extract merged result items_are ran.volume ran.extracted, may))

  pub any_moment : OnlyNow c.extract.disk → (n : ℕ) → Seen c k n → LeavesSo (MayBeLeft c)
  any_moment only_now n (inl (e, refused, told)) = same_leaves only_now refused.unrun.disk (MayBeLeft c) (λ crash image. inl image)
  any_moment only_now n (inr (result, ran, told)) = by_came ran.extracts.came where
    by_came : IsTurnedBackBy c.extract result ⊎ Extracted c.extract ran.volume result → LeavesSo (MayBeLeft c)
    by_came (inl back) = same_leaves only_now (back_alone result ran back).3 (MayBeLeft c) (λ crash image. inl image)
    by_came (inr e) = extracted_leaves result (record { volume = ran.volume; orders = ran.orders; extracted = e })

  pub unread : OnlyNow c.extract.disk → (n : ℕ) → Seen c k n → IsUnread c.extract.disk c.extract.disk_was → LeavesSo CrashImage
  unread only_now n (inl (e, refused, told)) none = same_leaves only_now refused.unrun.disk CrashImage (λ crash image. image)
  unread only_now n (inr (result, ran, told)) none = by_came ran.extracts.came where
    by_came : IsTurnedBackBy c.extract result ⊎ Extracted c.extract ran.volume result → LeavesSo CrashImage
    by_came (inl back) = same_leaves only_now (back_alone result ran back).3 CrashImage (λ crash image. image)
    by_came (inr e) = λ tells. e.unread tells none

  -- ---- the sources

  unlooked : {S : Type 0} (d : DiskGhosts S) (a b : S) → OnlyNow d → b ≡ a → Looks d a b
  unlooked {S} d a b only_now same = subst (λ (x : S). Looks d a x) (sym same) (looks_none d only_now a)

  pub sources : OnlyNow c.extract.first → OnlyNow c.extract.second → (n : ℕ) → Seen c k n → LeavesSources c.extract
  sources first second n (inl (e, refused, told)) = record {
    first = unlooked c.extract.first c.extract.first_was c.extract.first_is first refused.unrun.first;
    second = unlooked c.extract.second c.extract.second_was c.extract.second_is second refused.unrun.second;
  }
  sources first second n (inr (result, ran, told)) = ran.extracts.sources

  -- ---- what is kept

  pub kept_by : (logged : HasLogged c) → c.extract.disk.tells → KeepsAll c
  kept_by logged tells =
      let e = logged.ran in
      let has : HasFiled c e = filed c items_are merged (Ok logged.count) e e.extracted.why.1.1.closed (inl e.extracted.why.1.0) in
      record { logged = logged; each = λ crash image. subst (λ (xs : List Item). IsAllAfter xs (contents_of was) crash) has.items ((has.flushed tells).survive crash image) }
