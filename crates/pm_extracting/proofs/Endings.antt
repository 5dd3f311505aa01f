-- From how a call ends to what its status tells: it was refused before its run, or it ran to an end.
use Rattle.std.proofs.Common.{◌≡◌, ◌⊎◌, inl, inr, ⊎_elim, ℕ, [], refl, sym, ◌∙◌, subst, arith, Result, Ok, Err}
use Rattle.pcp_base.specs.declared.file.FileId.{FileId}
use Rattle.pcp_base.specs.declared.file.FileId.TheVariants as files
use Rattle.pcp_outside.specs.Causes.{Rose}
use Rattle.pcp_outside.specs.Sides.{SinkSide}
use Rattle.archive_check.specs.declared.fault.CheckFault.TheVariants as checks
use Rattle.archive_merge.specs.declared.fault.MergeFault.TheVariants as merges
use Rattle.archive_reader.specs.declared.fault.ReaderFault.TheVariants as reads
use Rattle.logging_run.specs.declared.fault.RunFault.TheVariants as runs
use Rattle.log_extract.specs.declared.fault.ExtractFault.{ExtractFault}
use Rattle.log_extract.specs.declared.fault.ExtractFault.TheVariants.{Archive, Merge, Source as Unread}
use Rattle.pm_words.specs.declared.refusal.Refusal.{Refusal}
use Rattle.pm_words.specs.declared.refusal.Refusal.TheVariants.{Usage, NoMemory}
use Rattle.pm_words.specs.Refusals.{IsNumbered, full_refusal, status_of}
use Rattle.pm_words.specs.Telling.{IsToldBy}
use Rattle.pm_words.proofs.Telling.{told_by}
use Rattle.pm_extracting.specs.Ends.{CallSide, Cause, Ends, HasRun, IsRefused, TellsCount, TellsRun}
use Rattle.pm_extracting.specs.Refusals.{fault_refusal, front_of}

-- ---- the statuses

-- the status of each end of a run
abbrev pub end_status : Result ℕ ExtractFault → ℕ
end_status (Ok count) = 0
end_status (Err fault) = status_of (fault_refusal fault)

pub full_status : (file : FileId) (number : ℕ) → status_of (full_refusal file number) ≡ 7
full_status files.Meta number = refl
full_status files.Index number = refl
full_status (files.Volume v) number = refl

-- the output's disk failed
abbrev pub HasFailedSo : Result ℕ ExtractFault → Type 0
HasFailedSo result = result ≡ Err (Archive runs.DiskFault)

-- The status tells that a run ended so; or memory for the line was refused, which a failed disk's doesn't take; or the whole merge was logged, and
-- the sink failed.
abbrev pub Told : SinkSide → Result ℕ ExtractFault → ℕ → Type 0
Told k result n =
    (end_status result ≡ n) ⊎ (((n ≡ 9) × (HasFailedSo result → ⊥)) ⊎ ((n ≡ 4) × ((count : ℕ) × (result ≡ Ok count)) × Rose k.faults k.faults_after))

-- its line takes memory
abbrev IsNumberedSo : Result ℕ ExtractFault → Type 0
IsNumberedSo (Ok count) = Unit {0}
IsNumberedSo (Err fault) = IsNumbered (fault_refusal fault)

not_failed : (result : Result ℕ ExtractFault) → IsNumberedSo result → HasFailedSo result → ⊥
not_failed result numbered is = subst IsNumberedSo is numbered

told_fault : (k : SinkSide) (fault : ExtractFault) (n : ℕ) → IsToldBy (Err (fault_refusal fault)) n → Told k (Err fault) n
told_fault k fault n (inl h) = inl (sym h)
told_fault k fault n (inr (h, numbered)) = inr (inl (h, not_failed (Err fault) numbered))

told_count : (k : SinkSide) (count n : ℕ) → TellsCount k count n → Told k (Ok count) n
told_count k count n (inl (inl (h, quiet, wrote))) = inl (sym h)
told_count k count n (inl (inr (h, rose, wrote))) = inr (inr (h, (count, refl), rose))
told_count k count n (inr (h, untold)) = inr (inl (h, λ is. cc))

told_run : (k : SinkSide) (result : Result ℕ ExtractFault) (n : ℕ) → TellsRun k result n → Told k result n
told_run k (Ok count) n told = told_count k count n told
told_run k (Err fault) n told = told_fault k fault n (told_by k (front_of fault) (Err (fault_refusal fault)) n told)

-- no fault has the status 0 or 1
pub not_low : (fault : ExtractFault) (n : ℕ) → (n ≡ 0) ⊎ (n ≡ 1) → status_of (fault_refusal fault) ≡ n → ⊥
not_low (Archive (runs.Full file number)) n (inl low) h = let seven = full_status file number in omega (arith, low, seven, h)
not_low (Archive (runs.Full file number)) n (inr low) h = let seven = full_status file number in omega (arith, low, seven, h)
not_low (Unread number (checks.Reader reads.NoMemory)) n (inl low) h = omega (arith, low, h)
not_low (Unread number (checks.Reader reads.NoMemory)) n (inr low) h = omega (arith, low, h)
not_low (Merge merges.NoMemory) n (inl low) h = omega (arith, low, h)
not_low (Merge merges.NoMemory) n (inr low) h = omega (arith, low, h)
not_low fault n (inl low) h = omega (arith, low, h)
not_low fault n (inr low) h = omega (arith, low, h)

pub not_four : (fault : ExtractFault) → status_of (fault_refusal fault) ≡ 4 → ⊥
not_four (Archive (runs.Full file number)) h = let seven = full_status file number in omega (arith, seven, h)
not_four (Unread number (checks.Reader reads.NoMemory)) h = omega (arith, h)
not_four (Merge merges.NoMemory) h = omega (arith, h)
not_four fault h = omega (arith, h)

module _ {A B D : Type 0} (c : CallSide A B D) (k : SinkSide) where
  -- ---- what is seen of the status

  abbrev pub Early : ℕ → Type 0
  Early n = (e : Refusal) × IsRefused c e × IsToldBy (Err e) n

  abbrev pub Late : ℕ → Type 0
  Late n = (result : Result ℕ ExtractFault) × HasRun c result × Told k result n

  abbrev pub Seen : ℕ → Type 0
  Seen n = Early n ⊎ Late n

  pub seen : (n : ℕ) → Ends c k n → Seen n
  seen n (inl e) = inl (e.refusal, e.refused, told_by k [] (Err e.refusal) n e.told)
  seen n (inr e) = inr (e.result, e.ran, told_run k e.result n e.told)

  -- before the run the status is 1 or 9
  early_status : (e : Refusal) → Cause c.words e → (status_of e ≡ 1) ⊎ (status_of e ≡ 9)
  early_status (Usage at) cause = inl refl
  early_status NoMemory cause = inr refl
  early_status e cause = absurd cause

  pub is_early : (n : ℕ) → Early n → (n ≡ 1) ⊎ (n ≡ 9)
  is_early n (e, refused, inl h) = ⊎_elim (λ (one : status_of e ≡ 1). inl (h ∙ one)) (λ (nine : status_of e ≡ 9). inr (h ∙ nine)) (early_status e refused.cause)
  is_early n (e, refused, inr (h, some)) = inr h

  -- a status that only a run has, and that tells how it ended
  pub by_run : (n : ℕ) {G : Type 0} → (n ≡ 1 → ⊥) → (n ≡ 9 → ⊥) → ((result : Result ℕ ExtractFault) → HasRun c result → end_status result ≡ n → G)
      → (n ≡ 4 → (count : ℕ) → HasRun c (Ok count) → Rose k.faults k.faults_after → G) → Seen n → G
  by_run n one nine late four (inl early) = absurd (⊎_elim one nine (is_early n early))
  by_run n one nine late four (inr (result, ran, inl h)) = late result ran h
  by_run n one nine late four (inr (result, ran, inr (inl (h, other)))) = absurd (nine h)
  by_run n one nine late four (inr (result, ran, inr (inr (h, done, rose)))) = four h done.0 (subst (HasRun c) done.1 ran) rose

  pub by_end : (n : ℕ) {G : Type 0} → (n ≡ 1 → ⊥) → (n ≡ 9 → ⊥) → (n ≡ 4 → ⊥) → ((result : Result ℕ ExtractFault) → HasRun c result → end_status result ≡ n → G) → Seen n → G
  by_end n one nine not_four late saw = by_run n one nine late (λ four count ran rose. absurd (not_four four)) saw
