-- What a call leaves of the disk, and what a crash leaves of it.
use Rattle.std.proofs.Common.{◌≡◌, ◌≢◌, ◌⊎◌, inl, inr, ⊎_elim, ℕ, List, sym, subst, arith, Result, Ok, Err}
use Rattle.pcp_base.specs.declared.result.Item.{Item}
use Rattle.pcp_model.specs.Disk.{CrashImage, Files, Holdings, IsSettled, contents_of}
use Rattle.pcp_outside.specs.Devices.{LeavesOnly}
use Rattle.pcp_outside.proofs.Crash.{started, weaker}
use Rattle.logging_session.specs.ComingBack.{MayBeAfter}
use Rattle.logging_session.specs.Crashes.{IsAllAfter}
use Rattle.logging_run.specs.declared.fault.RunFault.{RunFault}
use Rattle.logging_run.specs.declared.fault.RunFault.TheVariants as runs
use Rattle.logging_run.specs.Handing.{items_of_run}
use Rattle.logging_run.specs.Laws.{ItemsAreReports, SureRunsLoseAtMostOne}
use Rattle.pcp_outside.specs.Sides.{SinkSide}
use Rattle.pm_words.specs.Sides.{IsUnread, Leaves}
use Rattle.pm_pulling.specs.declared.stop.Stop.{Stop}
use Rattle.pm_pulling.specs.declared.stop.Stop.TheVariants.{Archive}
use Rattle.pm_pulling.specs.Ends.{CallSide, HasRun, IsUnrun, MayBeLeft}
use Rattle.pm_pulling.specs.Facts.{HadRecovered, HasFiled, KeepsAll, StandsWanting}
use Rattle.pm_pulling.specs.Pulling.{IsSilent, handed_in}
use Rattle.pm_pulling.proofs.Endings.{Seen, Told, is_early}
use Rattle.pm_pulling.proofs.Standing.{IsOfFiles, Stands, filed, none_last, silent_so, stands, unbegun_so, unrecovered_stays}

-- the statuses behind recovery
had_not : (n : ℕ) → HadRecovered n → (n ≢ 1) × (n ≢ 9) × (n ≢ 5) × (n ≢ 6)
had_not n (inl h) = (λ k. omega (arith, h, k), λ k. omega (arith, h, k), λ k. omega (arith, h, k), λ k. omega (arith, h, k))
had_not n (inr (inl h)) = (λ k. omega (arith, h, k), λ k. omega (arith, h, k), λ k. omega (arith, h, k), λ k. omega (arith, h, k))
had_not n (inr (inr (inl h))) = (λ k. omega (arith, h, k), λ k. omega (arith, h, k), λ k. omega (arith, h, k), λ k. omega (arith, h, k))
had_not n (inr (inr (inr (inl h)))) = (λ k. omega (arith, h, k), λ k. omega (arith, h, k), λ k. omega (arith, h, k), λ k. omega (arith, h, k))
had_not n (inr (inr (inr (inr (inl h))))) = (λ k. omega (arith, h, k), λ k. omega (arith, h, k), λ k. omega (arith, h, k), λ k. omega (arith, h, k))
had_not n (inr (inr (inr (inr (inr (inl h)))))) = (λ k. omega (arith, h, k), λ k. omega (arith, h, k), λ k. omega (arith, h, k), λ k. omega (arith, h, k))
had_not n (inr (inr (inr (inr (inr (inr h)))))) = (λ k. omega (arith, h, k), λ k. omega (arith, h, k), λ k. omega (arith, h, k), λ k. omega (arith, h, k))

module _ {D : Type 0} (c : CallSide D) (k : SinkSide) (items_are : ItemsAreReports) (loses : SureRunsLoseAtMostOne) where
  abbrev was : Holdings
  was = c.pull.disk.held c.pull.disk_was

  abbrev now : Holdings
  now = c.pull.disk.held c.pull.disk_is

  -- the disk stayed, or what was logged was flushed
  abbrev StaysOrFiled : {result : Result (Unit {0}) Stop} → HasRun c result → Type 0
  StaysOrFiled ran = (IsSilent c.pull.reply c.pull.request × (c.pull.disk.tells → now ≡ was)) ⊎ HasFiled c ran

  stays : (result : Result (Unit {0}) Stop) (ran : HasRun c result) → Stands c items_are loses ran → StaysOrFiled ran
  stays result ran (inl (fault, of_files, is, u)) =
      inl (silent_so c.pull ran.asked result ran.pulled fault u, λ tells. unrecovered_stays c items_are loses fault of_files (unbegun_so c.pull ran.asked result ran.pulled fault u tells))
  stays result ran (inr (closed, has)) = inr has

  pub stays_at : (result : Result (Unit {0}) Stop) → result ≢ Err (Archive runs.DiskFault) → (ran : HasRun c result) → StaysOrFiled ran
  stays_at result other ran = stays result ran (stands c items_are loses result other ran)

  not_failing : (result : Result (Unit {0}) Stop) (n : ℕ) → n ≢ 5 → Told k result n → result ≢ Err (Archive runs.DiskFault)
  not_failing result n five told is = by_told (subst (λ (x : Result (Unit {0}) Stop). Told k x n) is told) where
    by_told : Told k (Err (Archive runs.DiskFault)) n → ⊥
    by_told (inl h) = five h
    by_told (inr (h, some)) = some

  -- ---- the files

  files_status : (fault : RunFault) (n : ℕ) → IsOfFiles c items_are loses fault → Told k (Err (Archive fault)) n → (n ≡ 6) ⊎ (n ≡ 9)
  files_status (runs.Compressed file) n is (inl h) = inl h
  files_status (runs.Compressed file) n is (inr (h, some)) = inr h
  files_status (runs.NotArchive file at) n is (inl h) = inl h
  files_status (runs.NotArchive file at) n is (inr (h, some)) = inr h
  files_status runs.NoMemory n is (inl h) = inr h
  files_status runs.NoMemory n is (inr (h, some)) = inr h
  files_status fault n is told = absurd is

  abbrev Filed : Type 0
  Filed = (result : Result (Unit {0}) Stop) × (ran : HasRun c result) × HasFiled c ran

  filed_by : (n : ℕ) (result : Result (Unit {0}) Stop) (ran : HasRun c result) → (n ≢ 9) → (n ≢ 6) → Told k result n → Stands c items_are loses ran → Filed
  filed_by n result ran nine six told (inl (fault, of_files, is, u)) = absurd (⊎_elim six nine (files_status fault n of_files (subst (λ (x : Result (Unit {0}) Stop). Told k x n) is told)))
  filed_by n result ran nine six told (inr (closed, has)) = (result, ran, has)

  filed_at : (n : ℕ) → (n ≢ 1) → (n ≢ 9) → (n ≢ 5) → (n ≢ 6) → Seen c k n → Filed
  filed_at n one nine five six (inl early) = absurd (⊎_elim one nine (is_early c k n early))
  filed_at n one nine five six (inr (result, ran, told)) = filed_by n result ran nine six told (stands c items_are loses result (not_failing result n five told) ran)

  pub has_filed : (n : ℕ) → Seen c k n → HadRecovered n → Filed
  has_filed n saw had = let (one, nine, five, six) = had_not n had in filed_at n one nine five six saw

  pub wanting : (n : ℕ) → n ≡ 9 → Seen c k n → StandsWanting c
  wanting n nine (inl (e, refused, told)) = inl refused.unrun
  wanting n nine (inr (result, ran, told)) = inr (result, ran, stays_at result (not_failing result n (λ h. omega (arith, nine, h)) told) ran)

  -- ---- settled

  abbrev Settles : Type 0
  Settles = c.pull.disk.tells → IsSettled was → IsSettled now

  settles_by : (result : Result (Unit {0}) Stop) (ran : HasRun c result) → StaysOrFiled ran → Settles
  settles_by result ran (inl (silent, same)) tells settled = subst IsSettled (sym (same tells)) settled
  settles_by result ran (inr has) tells settled = (has.flushed tells).settled

  pub settles : (n : ℕ) → Seen c k n → n ≢ 5 → Settles
  settles n (inl (e, refused, told)) five tells settled = subst (λ (d : D). IsSettled (c.pull.disk.held d)) (sym refused.unrun.disk) settled
  settles n (inr (result, ran, told)) five tells settled = settles_by result ran (stays_at result (not_failing result n five told) ran) tells settled

  -- ---- a crash at any moment

  abbrev pub OnlyNow : Type 0
  OnlyNow = (disk : D) (crash : Files) → c.pull.disk.left_since disk (c.pull.disk.moment disk) crash → CrashImage (c.pull.disk.held disk) crash

  abbrev LeavesSo : (Holdings → Files → Type 0) → Type 0
  LeavesSo P = Leaves c.pull.disk c.pull.disk_was c.pull.disk_is P

  unrun_leaves : OnlyNow → IsUnrun c.pull → (P : Holdings → Files → Type 0) → ((crash : Files) → CrashImage was crash → P was crash) → LeavesSo P
  unrun_leaves only_now unrun P good tells =
      subst (λ (d : D). LeavesOnly c.pull.disk.moment c.pull.disk.left_since c.pull.disk_was d (P was)) (sym unrun.disk) (started c.pull.disk.moment c.pull.disk.left_since c.pull.disk.held only_now c.pull.disk_was (P was) good)

  pub any_moment : OnlyNow → (n : ℕ) → Seen c k n → LeavesSo (MayBeLeft c)
  any_moment only_now n (inl (e, refused, told)) tells = unrun_leaves only_now refused.unrun (MayBeLeft c) (λ crash image. inl image) tells
  any_moment only_now n (inr (result, ran, told)) tells =
      weaker c.pull.disk.moment c.pull.disk.left_since c.pull.disk.held c.pull.disk_was c.pull.disk_is (MayBeAfter (items_of_run (handed_in ran.pulled)) 0 was) (MayBeLeft c was) (ran.pulled.ran tells).any_moment (λ crash may. inr (result, ran, may))

  pub unread : OnlyNow → (n : ℕ) → Seen c k n → IsUnread c.pull.disk c.pull.disk_was → LeavesSo CrashImage
  unread only_now n (inl (e, refused, told)) none = unrun_leaves only_now refused.unrun CrashImage (λ crash image. image)
  unread only_now n (inr (result, ran, told)) none = ran.pulled.unread none

  -- ---- what is kept

  pub keeps_all : HasRun c (Ok tt) → c.pull.disk.tells → KeepsAll c
  keeps_all ran tells =
      let has = filed c items_are loses (Ok tt) ran ran.pulled.why.3.closed (none_last c.pull ran.asked (Ok tt) ran.pulled ran.pulled.why.2) in
      record { ran = ran; each = λ crash image. subst (λ (items : List Item). IsAllAfter items (contents_of was) crash) has.items ((has.flushed tells).survive crash image) }
