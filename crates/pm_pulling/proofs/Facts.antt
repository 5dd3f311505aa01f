-- The causes of each status, and what stands behind it.
use Rattle.std.proofs.Common.{◌≡◌, ◌⊎◌, inl, inr, ⊎_elim, ℕ, ◌++◌, sym, ◌∙◌, subst, arith, Some, None, Result, Ok, Err}
use Rattle.pcp_base.specs.Time.{Moment}
use Rattle.pcp_base.specs.declared.file.FileId.{FileId}
use Rattle.pcp_outside.specs.Causes.{Rose}
use Rattle.pcp_outside.specs.Sides.{SinkSide}
use Rattle.logging_session.specs.Crashes.{LosesAtMostOne}
use Rattle.logging_run.specs.declared.fault.RunFault.{RunFault}
use Rattle.logging_run.specs.declared.fault.RunFault.TheVariants as runs
use Rattle.logging_run.specs.Closing.{Close, HasFailed}
use Rattle.logging_run.specs.Handing.{events_of}
use Rattle.logging_run.specs.Laws.{ItemsAreReports, SureRunsLoseAtMostOne, TakenIsNotTurnedAway, TurnedAwayForOne}
use Rattle.logging_run.specs.Recovering.{HasRecovered, IsUnrecovered}
use Rattle.pmcd_client.specs.declared.faults.ReplyFault.{ReplyFault}
use Rattle.pmcd_client.specs.declared.faults.TalkFault.TheVariants as talks
use Rattle.pm_words.specs.declared.refusal.Refusal.TheVariants.{Usage, NoMemory}
use Rattle.pm_words.specs.declared.words.Call.TheVariants as calls
use Rattle.pm_words.specs.declared.words.PullWords.{PullWords}
use Rattle.pm_words.specs.Asking.{UsageIsExact}
use Rattle.pm_words.specs.CommandLine.{asked_by}
use Rattle.pm_pulling.specs.declared.stop.Stop.{Stop}
use Rattle.pm_pulling.specs.declared.stop.Stop.TheVariants.{Talk, Archive}
use Rattle.pm_pulling.specs.Ends.{CallSide, EndsDone, HasRun, IsUnrun, Orders}
use Rattle.pm_pulling.specs.Facts.{ArchiveFaultIsExact, FilesCause, HasFiled, HasTalked, RunIsExact, StandsFailed, WriteFaultCause}
use Rattle.pm_pulling.specs.Pulling.{HasFailed as Fails, IsSilent, handed_in}
use Rattle.pm_pulling.proofs.Completes.{RefusesNone}
use Rattle.pm_pulling.proofs.Declined.{told_away}
use Rattle.pm_pulling.proofs.Endings.{Seen, Told, by_end, by_run, end_status, full_status, is_early, told_one}
use Rattle.pm_pulling.proofs.Standing.{Stands, Unbegun, any_loses, broken_so, came_so, read_rose, silent_so, stands, unbegun_so, write_rose}

module _ {D : Type 0} (c : CallSide D) (k : SinkSide) where
  -- ---- words

  usage_only : (n : ℕ) → n ≡ 1 → Seen c k n → (at : ℕ) × (asked_by calls.Pull c.words ≡ Err at)
  usage_only n one (inl (Usage at, refused, told)) = (at, refused.cause)
  usage_only n one (inl (NoMemory, refused, inl h)) = absurd (omega (arith, one, h))
  usage_only n one (inl (NoMemory, refused, inr (h, some))) = absurd some
  usage_only n one (inl (e, refused, told)) = absurd refused.cause
  usage_only n one (inr (result, ran, told)) = absurd (never_one result (told_one k result n (λ h. omega (arith, one, h)) told)) where
    not_one : (result : Result (Unit {0}) Stop) → end_status result ≡ 1 → ⊥
    not_one (Err (Archive (runs.Full file number))) h = let seven = full_status file number in omega (arith, seven, h)
    not_one (Err (Talk talks.WriteFault)) h = omega (arith, h)
    not_one other h = omega (arith, h)

    never_one : (result : Result (Unit {0}) Stop) → (end_status result ≡ n) ⊎ ((n ≡ 4) × (result ≡ Ok tt) × Rose k.faults k.faults_after) → ⊥
    never_one result (inl h) = not_one result (h ∙ one)
    never_one result (inr (h, is, rose)) = omega (arith, one, h)

  bad_words : (at n : ℕ) → asked_by calls.Pull c.words ≡ Err at → Seen c k n → (n ≡ 1) ⊎ (n ≡ 9)
  bad_words at n bad (inl early) = is_early c k n early
  bad_words at n bad (inr (result, ran, told)) = let e = sym bad ∙ ran.orders in absurd (cc)

  pub usage_is_exact : (n : ℕ) → Seen c k n → UsageIsExact calls.Pull c.words n
  usage_is_exact n saw = record { only = λ one. usage_only n one saw; always = λ at bad. bad_words at n bad saw }

  pub unrun_at : (n : ℕ) → Seen c k n → n ≡ 1 → IsUnrun c.pull
  unrun_at n (inl (e, refused, told)) one = refused.unrun
  unrun_at n (inr (result, ran, told)) one = let found = (usage_only n one (inr (result, ran, told))) in let e = sym found.1 ∙ ran.orders in absurd (cc)

  -- ---- the dialogue

  pub talked : (n : ℕ) → Seen c k n → HasTalked c
  talked n (inl (e, refused, told)) = inl refused.unrun.silent
  talked n (inr (result, ran, told)) = inr (ran.asked, ran.orders, ran.pulled.came, ran.pulled.logged ++ ran.pulled.unlogged, ran.pulled.says, ran.pulled.most)

  read_at : (result : Result (Unit {0}) Stop) → HasRun c result → end_status result ≡ 3 → HasRun c (Err (Talk talks.ReadFault)) × Rose c.pull.reply.faults c.pull.reply.faults_after
  read_at (Err (Talk talks.ReadFault)) ran h = (ran, read_rose ran.asked.names c.pull.reply c.pull.request (ran.pulled.logged ++ ran.pulled.unlogged) (broken_so c.pull ran.asked (Err (Talk talks.ReadFault)) ran.pulled talks.ReadFault ran.pulled.why.0))
  read_at (Err (Archive (runs.Full file number))) ran h = let seven = full_status file number in absurd (omega (arith, seven, h))
  read_at result ran h = absurd (omega (arith, h))

  pub reading : (n : ℕ) → n ≡ 3 → Seen c k n → HasRun c (Err (Talk talks.ReadFault)) × Rose c.pull.reply.faults c.pull.reply.faults_after
  reading n three saw = by_end c k 3 (λ h. omega (arith, h)) (λ h. omega (arith, h)) (λ h. omega (arith, h)) read_at (subst (Seen c k) three saw)

  abbrev OneOr : Result (Unit {0}) Stop → ℕ → Type 0
  OneOr result n = (end_status result ≡ n) ⊎ ((n ≡ 4) × (result ≡ Ok tt) × Rose k.faults k.faults_after)

  write_end : (result : Result (Unit {0}) Stop) → HasRun c result → end_status result ≡ 4 → WriteFaultCause c k
  write_end (Err (Talk talks.WriteFault)) ran h = inl (ran, write_rose ran.asked.names c.pull.reply c.pull.request (ran.pulled.logged ++ ran.pulled.unlogged) (broken_so c.pull ran.asked (Err (Talk talks.WriteFault)) ran.pulled talks.WriteFault ran.pulled.why.0))
  write_end (Err (Archive (runs.Full file number))) ran h = let seven = full_status file number in absurd (omega (arith, seven, h))
  write_end result ran h = absurd (omega (arith, h))

  write_at : (result : Result (Unit {0}) Stop) → HasRun c result → OneOr result 4 → WriteFaultCause c k
  write_at result ran (inl h) = write_end result ran h
  write_at result ran (inr (h, is, rose)) = inr (subst (HasRun c) is ran, rose)

  pub write_fault : (n : ℕ) → n ≡ 4 → Seen c k n → WriteFaultCause c k
  write_fault n four saw = by_run c k 4 (λ h. omega (arith, h)) (λ h. omega (arith, h)) write_at (subst (Seen c k) four saw)

  pub sampled : (n : ℕ) → Seen c k n → (n ≡ 0 → EndsDone c k) → (n ≡ 0) ⊎ ((n ≡ 4) × (Rose c.pull.request.faults c.pull.request.faults_after → ⊥)) → HasRun c (Ok tt)
  sampled n saw done (inl zero) = (done zero).ran
  sampled n saw done (inr (four, kept)) =
      ⊎_elim (λ (h : HasRun c (Err (Talk talks.WriteFault)) × Rose c.pull.request.faults c.pull.request.faults_after). absurd (kept h.1)) (λ (h : HasRun c (Ok tt) × Rose k.faults k.faults_after). h.0) (write_fault n four saw)

  peer_at : (result : Result (Unit {0}) Stop) → HasRun c result → end_status result ≡ 16 → (number : ℕ) × (why : ReplyFault) × HasRun c (Err (Talk (talks.Peer number why)))
  peer_at (Err (Talk (talks.Peer number why))) ran h = (number, why, ran)
  peer_at (Err (Archive (runs.Full file number))) ran h = let seven = full_status file number in absurd (omega (arith, seven, h))
  peer_at result ran h = absurd (omega (arith, h))

  pub peer_only : (n : ℕ) → n ≡ 16 → Seen c k n → (number : ℕ) × (why : ReplyFault) × HasRun c (Err (Talk (talks.Peer number why)))
  peer_only n is saw = by_end c k 16 (λ h. omega (arith, h)) (λ h. omega (arith, h)) (λ h. omega (arith, h)) peer_at (subst (Seen c k) is saw)

  -- ---- the archive

  disk_at : (result : Result (Unit {0}) Stop) → HasRun c result → end_status result ≡ 5 → HasRun c (Err (Archive runs.DiskFault))
  disk_at (Err (Archive runs.DiskFault)) ran h = ran
  disk_at (Err (Archive (runs.Full file number))) ran h = let seven = full_status file number in absurd (omega (arith, seven, h))
  disk_at (Err (Talk talks.WriteFault)) ran h = absurd (omega (arith, h))
  disk_at result ran h = absurd (omega (arith, h))

  pub disk_run : (n : ℕ) → n ≡ 5 → Seen c k n → HasRun c (Err (Archive runs.DiskFault))
  disk_run n is saw = by_end c k 5 (λ h. omega (arith, h)) (λ h. omega (arith, h)) (λ h. omega (arith, h)) disk_at (subst (Seen c k) is saw)

  limit_at : (result : Result (Unit {0}) Stop) → HasRun c result → end_status result ≡ 7 → ((bytes : ℕ) × HasRun c (Err (Archive (runs.Large bytes)))) ⊎ ((file : FileId) × (number : ℕ) × HasRun c (Err (Archive (runs.Full file number))))
  limit_at (Err (Archive (runs.Large bytes))) ran h = inl (bytes, ran)
  limit_at (Err (Archive (runs.Full file number))) ran h = inr (file, number, ran)
  limit_at (Err (Talk talks.WriteFault)) ran h = absurd (omega (arith, h))
  limit_at result ran h = absurd (omega (arith, h))

  late_at : (result : Result (Unit {0}) Stop) → HasRun c result → end_status result ≡ 12 → (last : Moment) × HasRun c (Err (Archive (runs.NotLater last)))
  late_at (Err (Archive (runs.NotLater last))) ran h = (last, ran)
  late_at (Err (Archive (runs.Full file number))) ran h = let seven = full_status file number in absurd (omega (arith, seven, h))
  late_at (Err (Talk talks.WriteFault)) ran h = absurd (omega (arith, h))
  late_at result ran h = absurd (omega (arith, h))

  changed_at : (result : Result (Unit {0}) Stop) → HasRun c result → end_status result ≡ 13 → (pmid : ℕ) × HasRun c (Err (Archive (runs.Changed pmid)))
  changed_at (Err (Archive (runs.Changed pmid))) ran h = (pmid, ran)
  changed_at (Err (Archive (runs.Full file number))) ran h = let seven = full_status file number in absurd (omega (arith, seven, h))
  changed_at (Err (Talk talks.WriteFault)) ran h = absurd (omega (arith, h))
  changed_at result ran h = absurd (omega (arith, h))

  pub run_is_exact : RefusesNone → TakenIsNotTurnedAway → TurnedAwayForOne → (n : ℕ) → Seen c k n → RunIsExact c k n
  run_is_exact refuses_none taken once n saw = record {
    limit = λ is. by_end c k 7 (λ h. omega (arith, h)) (λ h. omega (arith, h)) (λ h. omega (arith, h)) limit_at (subst (Seen c k) is saw);
    not_later = λ is. by_end c k 12 (λ h. omega (arith, h)) (λ h. omega (arith, h)) (λ h. omega (arith, h)) late_at (subst (Seen c k) is saw);
    changed = λ is. by_end c k 13 (λ h. omega (arith, h)) (λ h. omega (arith, h)) (λ h. omega (arith, h)) changed_at (subst (Seen c k) is saw);
    always = λ fault other untaken. told_away c k refuses_none taken once fault other untaken n saw;
  }

  -- files that are turned away
  abbrev TurnedAway : Type 0
  TurnedAway = FilesCause c × IsSilent c.pull.reply c.pull.request × (c.pull.disk.tells → c.pull.disk.held c.pull.disk_is ≡ c.pull.disk.held c.pull.disk_was)

  files_at : (result : Result (Unit {0}) Stop) → HasRun c result → end_status result ≡ 6 → TurnedAway
  files_at (Err (Archive (runs.Compressed file))) ran h =
      let unbegun = unbegun_so c.pull ran.asked (Err (Archive (runs.Compressed file))) ran.pulled (runs.Compressed file) ran.pulled.why in
      (inl (file, ran, λ tells. (unbegun tells).0), silent_so c.pull ran.asked (Err (Archive (runs.Compressed file))) ran.pulled (runs.Compressed file) ran.pulled.why, λ tells. (unbegun tells).1)
  files_at (Err (Archive (runs.NotArchive file at))) ran h =
      let unbegun = unbegun_so c.pull ran.asked (Err (Archive (runs.NotArchive file at))) ran.pulled (runs.NotArchive file at) ran.pulled.why in
      (inr (file, at, ran, λ tells. (unbegun tells).0.1), silent_so c.pull ran.asked (Err (Archive (runs.NotArchive file at))) ran.pulled (runs.NotArchive file at) ran.pulled.why, λ tells. (unbegun tells).1)
  files_at (Err (Archive (runs.Full file number))) ran h = let seven = full_status file number in absurd (omega (arith, seven, h))
  files_at (Err (Talk talks.WriteFault)) ran h = absurd (omega (arith, h))
  files_at result ran h = absurd (omega (arith, h))

  pub turned_away : (n : ℕ) → n ≡ 6 → Seen c k n → TurnedAway
  turned_away n is saw = by_end c k 6 (λ h. omega (arith, h)) (λ h. omega (arith, h)) (λ h. omega (arith, h)) files_at (subst (Seen c k) is saw)

  module _ (items_are : ItemsAreReports) (loses : SureRunsLoseAtMostOne) where
    failed_with : (ran : HasRun c (Err (Archive runs.DiskFault))) → StandsFailed c
    failed_with ran = (ran, by_close ran.pulled.why.1) where
      by_close : Unbegun c.pull ran.asked (Err (Archive runs.DiskFault)) ran.pulled runs.DiskFault ⊎ Fails c.pull ran.asked ran.pulled.came ran.pulled.logged ran.pulled.unlogged ran.pulled.last ran.pulled.close
          → IsSilent c.pull.reply c.pull.request
          ⊎ (LosesAtMostOne (events_of (handed_in ran.pulled)) × (c.pull.disk.tells → (lost : ℕ) × HasFailed c.pull.disk ran.asked.volume (handed_in ran.pulled) c.pull.disk_was c.pull.disk_is lost))
      by_close (inl u) = inl (silent_so c.pull ran.asked (Err (Archive runs.DiskFault)) ran.pulled runs.DiskFault u)
      by_close (inr f) = inr (any_loses loses ran.pulled.logged ran.pulled.unlogged ran.pulled.last ran.pulled.is_last, λ tells. (f.lost, came_so c.pull ran.asked (Err (Archive runs.DiskFault)) ran.pulled (Close.failed f.lost) f.closed tells))

    pub failed_at : (n : ℕ) → n ≡ 5 → Seen c k n → StandsFailed c
    failed_at n is saw = failed_with (disk_run n is saw)

    -- ---- files that recovery turns away

    module _ (tells : c.pull.disk.tells) (never : (middle : D) → HasRecovered c.pull.disk c.pull.disk_was middle → ⊥) where
      not_filed : (result : Result (Unit {0}) Stop) (ran : HasRun c result) → HasFiled c ran → ⊥
      not_filed result ran has = let flushed = has.flushed tells in never flushed.middle flushed.recovered

      not_failed : (result : Result (Unit {0}) Stop) (ran : HasRun c result) → Fails c.pull ran.asked ran.pulled.came ran.pulled.logged ran.pulled.unlogged ran.pulled.last ran.pulled.close → ⊥
      not_failed result ran f = let has = came_so c.pull ran.asked result ran.pulled (Close.failed f.lost) f.closed tells in never has.middle has.recovered

      -- what isn't recovered then is turned away, or wants memory, or its disk failed
      unrecovered : (fault : RunFault) (n : ℕ) → IsUnrecovered c.pull.disk c.pull.disk_was fault c.pull.disk_is → Told k (Err (Archive fault)) n → (n ≡ 6) ⊎ ((n ≡ 9) ⊎ (n ≡ 5))
      unrecovered (runs.Compressed f) n u (inl h) = inl h
      unrecovered (runs.Compressed f) n u (inr (h, some)) = inr (inl h)
      unrecovered (runs.NotArchive f at) n u (inl h) = inl h
      unrecovered (runs.NotArchive f at) n u (inr (h, some)) = inr (inl h)
      unrecovered runs.NoMemory n u (inl h) = inr (inl h)
      unrecovered runs.NoMemory n u (inr (h, some)) = inr (inl h)
      unrecovered runs.DiskFault n u (inl h) = inr (inr h)
      unrecovered runs.DiskFault n u (inr (h, some)) = inr (inl h)
      unrecovered fault n u told = absurd u

      by_stands : (n : ℕ) (result : Result (Unit {0}) Stop) (ran : HasRun c result) → Told k result n → Stands c items_are loses ran → (n ≡ 6) ⊎ ((n ≡ 9) ⊎ (n ≡ 5))
      by_stands n result ran told (inl (fault, of_files, is, u)) = unrecovered fault n (unbegun_so c.pull ran.asked result ran.pulled fault u tells) (subst (λ (x : Result (Unit {0}) Stop). Told k x n) is told)
      by_stands n result ran told (inr (closed, has)) = absurd (not_filed result ran has)

      away_run : (n : ℕ) (result : Result (Unit {0}) Stop) → HasRun c result → Told k result n → (n ≡ 6) ⊎ ((n ≡ 9) ⊎ (n ≡ 5))
      away_run n (Err (Archive runs.DiskFault)) ran (inl h) = inr (inr h)
      away_run n (Err (Archive runs.DiskFault)) ran (inr (h, some)) = inr (inl h)
      away_run n (Err (Talk fault)) ran told = by_stands n (Err (Talk fault)) ran told (stands c items_are loses (Err (Talk fault)) (λ e. cc) ran)
      away_run n (Ok done) ran told = by_stands n (Ok done) ran told (stands c items_are loses (Ok done) (λ e. cc) ran)
      away_run n (Err (Archive fault)) ran told = by_stands n (Err (Archive fault)) ran told (stands c items_are loses (Err (Archive fault)) (λ e. cc) ran)

      goes_away : (n : ℕ) (asked : PullWords) → Orders c.words asked → Seen c k n → (n ≡ 6) ⊎ ((n ≡ 9) ⊎ (n ≡ 5))
      goes_away n asked orders (inl (Usage at, refused, told)) = let e = sym refused.cause ∙ orders in absurd (cc)
      goes_away n asked orders (inl (NoMemory, refused, inl h)) = inr (inl h)
      goes_away n asked orders (inl (NoMemory, refused, inr (h, some))) = inr (inl h)
      goes_away n asked orders (inl (e, refused, told)) = absurd refused.cause
      goes_away n asked orders (inr (result, ran, told)) = away_run n result ran told

    wrapped_never : (file : FileId) → c.pull.disk.wrapped_file c.pull.disk_was ≡ Some file → (middle : D) → HasRecovered c.pull.disk c.pull.disk_was middle → ⊥
    wrapped_never file wraps middle has = let e : None ≡ Some file = sym has.unwrapped ∙ wraps in cc

    pub archive_fault_is_exact : (n : ℕ) → Seen c k n → ArchiveFaultIsExact c n
    archive_fault_is_exact n saw = record {
      only = λ is. let away = turned_away n is saw in (away.0, away.1);
      always = λ asked orders tells file wraps. goes_away tells (wrapped_never file wraps) n asked orders saw;
      unreadable = λ asked orders tells none. goes_away tells (λ middle has. none (has.was.reading, has.was.was)) n asked orders saw;
    }
