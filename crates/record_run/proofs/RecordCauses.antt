-- Each ending of a recording has its cause.
use Rattle.std.proofs.Common.{◌≡◌, ◌≢◌, ◌⊎◌, inl, inr, ℕ, ◌≤◌, refl, sym, ◌∙◌, subst, arith}
use Rattle.pcp_outside.specs.Causes.{Rose}
use Rattle.pcp_outside.specs.declared.clocks.Clock.{Ghosts as ClockGhosts}
use Rattle.pcp_outside.specs.declared.disk.Disk.{Ghosts as DiskGhosts}
use Rattle.archive_recovery.specs.declared.outcome.RecoverFault.{RecoverFault}
use Rattle.archive_recovery.specs.declared.outcome.RecoverFault.TheVariants as recovery
use Rattle.script_runs.specs.declared.ending.Ending.{Ending}
use Rattle.script_runs.specs.declared.ending.Ending.TheVariants as ends
use Rattle.run_archive.specs.Outcomes.{ended_by}
use Rattle.run_archive.specs.Endings.{EndsAs}
use Rattle.run_archive.specs.Sampling.{MayStop}
use Rattle.record_run.specs.Halting.{RefusedBy}
use Rattle.record_run.specs.Recordings.{MayEndRecording}

rose_earlier : (before mid after : ℕ) → before ≤ mid → Rose mid after → Rose before after
rose_earlier before mid after later (inl rose) = inl (omega (arith, later, rose))
rose_earlier before mid after later (inr full) = inr full

rose_later : (before mid after : ℕ) → mid ≤ after → Rose before mid → Rose before after
rose_later before mid after later (inl rose) = inl (omega (arith, later, rose))
rose_later before mid after later (inr full) = inr (omega (arith, later, full))

module _ {C D : Type 0} (c : ClockGhosts C) (d : DiskGhosts D) (clock_was clock_is : C) where
  module _ (clock_mid : C) (old mid new : D) (clock_earlier : c.faults clock_was ≤ c.faults clock_mid) (earlier : d.faults old ≤ d.faults mid) where
    pub stops_may : (e : Ending) → MayStop c d mid new clock_mid clock_is e → MayEndRecording c d clock_was clock_is old new e
    stops_may ends.Done may = tt
    stops_may ends.DiskFault may = rose_earlier (d.faults old) (d.faults mid) (d.faults new) earlier may
    stops_may (ends.Condition line) may = absurd may
    stops_may (ends.NotArchive file at) may = tt
    stops_may (ends.Compressed file) may = tt
    stops_may (ends.Limit what number) may = tt
    stops_may (ends.ClockEnd left) may = may
    stops_may (ends.ClockFault left) may = rose_earlier (c.faults clock_was) (c.faults clock_mid) (c.faults clock_is) clock_earlier may
    stops_may ends.NoMemory may = tt
    stops_may (ends.NotLater last) may = tt
    stops_may (ends.Changed pmid) may = tt

  pub refused_may : (old new : D) (e last : Ending) → RefusedBy e last → MayEndRecording c d clock_was clock_is old new e → MayEndRecording c d clock_was clock_is old new last
  refused_may old new e last (inl (is, same)) may = subst (λ (x : Ending). MayEndRecording c d clock_was clock_is old new x) (sym same) may
  refused_may old new e last (inr (other, is)) may = subst (λ (x : Ending). MayEndRecording c d clock_was clock_is old new x) (sym is) tt

  -- over more of the disk
  pub may_earlier : (old mid new : D) (e : Ending) → d.faults old ≤ d.faults mid → MayEndRecording c d clock_was clock_is mid new e → MayEndRecording c d clock_was clock_is old new e
  may_earlier old mid new ends.Done later may = tt
  may_earlier old mid new ends.DiskFault later may = rose_earlier (d.faults old) (d.faults mid) (d.faults new) later may
  may_earlier old mid new (ends.Condition line) later may = absurd may
  may_earlier old mid new (ends.NotArchive file at) later may = tt
  may_earlier old mid new (ends.Compressed file) later may = tt
  may_earlier old mid new (ends.Limit what number) later may = tt
  may_earlier old mid new (ends.ClockEnd left) later may = may
  may_earlier old mid new (ends.ClockFault left) later may = may
  may_earlier old mid new ends.NoMemory later may = tt
  may_earlier old mid new (ends.NotLater last) later may = tt
  may_earlier old mid new (ends.Changed pmid) later may = tt

  may_later : (old mid new : D) (e : Ending) → d.faults mid ≤ d.faults new → MayEndRecording c d clock_was clock_is old mid e → MayEndRecording c d clock_was clock_is old new e
  may_later old mid new ends.Done later may = tt
  may_later old mid new ends.DiskFault later may = rose_later (d.faults old) (d.faults mid) (d.faults new) later may
  may_later old mid new (ends.Condition line) later may = absurd may
  may_later old mid new (ends.NotArchive file at) later may = tt
  may_later old mid new (ends.Compressed file) later may = tt
  may_later old mid new (ends.Limit what number) later may = tt
  may_later old mid new (ends.ClockEnd left) later may = may
  may_later old mid new (ends.ClockFault left) later may = may
  may_later old mid new ends.NoMemory later may = tt
  may_later old mid new (ends.NotLater last) later may = tt
  may_later old mid new (ends.Changed pmid) later may = tt

  module _ (old mid new : D) (e last : Ending) (earlier : d.faults old ≤ d.faults mid) (later : d.faults mid ≤ d.faults new) (may : MayEndRecording c d clock_was clock_is old mid e) where
    abbrev May : Ending → Type 0
    May x = MayEndRecording c d clock_was clock_is old new x

    fails_may : last ≡ ends.DiskFault → (e ≡ ends.DiskFault) ⊎ Rose (d.faults mid) (d.faults new) → May last
    fails_may is (inl was) = subst (λ (x : Ending). May x) (was ∙ sym is) (may_later old mid new e later may)
    fails_may is (inr rose) = subst (λ (x : Ending). May x) (sym is) (rose_earlier (d.faults old) (d.faults mid) (d.faults new) earlier rose)

    finish_so : (last ≡ e) ⊎ ((last ≡ ends.DiskFault) ⊎ ((e ≡ ends.Done) × (last ≡ ends.NoMemory))) → (last ≡ ends.DiskFault → (e ≡ ends.DiskFault) ⊎ Rose (d.faults mid) (d.faults new)) → May last
    finish_so (inl same) cause = subst (λ (x : Ending). May x) (sym same) (may_later old mid new e later may)
    finish_so (inr (inl is)) cause = fails_may is (cause is)
    finish_so (inr (inr (done, is))) cause = subst (λ (x : Ending). May x) (sym is) tt

    -- what the last flush makes of it
    pub finish_may : EndsAs e last → (last ≡ ends.DiskFault → (e ≡ ends.DiskFault) ⊎ Rose (d.faults mid) (d.faults new)) → May last
    finish_may which cause = finish_so which cause

  -- the files weren't recovered
  recovery_may : (old new : D) (fault : RecoverFault) → (fault ≡ recovery.DiskFault → Rose (d.faults old) (d.faults new)) → MayEndRecording c d clock_was clock_is old new (ended_by fault)
  recovery_may old new (recovery.Compressed file) rose = tt
  recovery_may old new (recovery.NotArchive file at) rose = tt
  recovery_may old new recovery.DiskFault rose = rose refl
  recovery_may old new recovery.NoMemory rose = tt

  pub unrecovered_may : (old new : D) (fault : RecoverFault) (last : Ending) → (last ≡ ended_by fault) ⊎ ((ended_by fault ≢ ends.DiskFault) × (last ≡ ends.NoMemory)) → (fault ≡ recovery.DiskFault → Rose (d.faults old) (d.faults new)) → MayEndRecording c d clock_was clock_is old new last
  unrecovered_may old new fault last (inl is) rose = subst (λ (x : Ending). MayEndRecording c d clock_was clock_is old new x) (sym is) (recovery_may old new fault rose)
  unrecovered_may old new fault last (inr (other, is)) rose = subst (λ (x : Ending). MayEndRecording c d clock_was clock_is old new x) (sym is) tt

-- ---- a recording that comes to its end

pub undone : (e : Ending) → e ≡ ends.DiskFault → e ≡ ends.Done → ⊥
undone e failing done = cc

pub done_before : (e last : Ending) → EndsAs e last → last ≡ ends.Done → e ≡ ends.Done
done_before e last (inl same) done = sym same ∙ done
done_before e last (inr (inl failing)) done = absurd (undone last failing done)
done_before e last (inr (inr (was, refused))) done = was

-- sampling that stops doesn't come to its end
pub stopped_undone : {C D : Type 0} (c : ClockGhosts C) (d : DiskGhosts D) (old new : D) (before after : C) (e : Ending) → MayStop c d old new before after e → e ≡ ends.Done → ⊥
stopped_undone c d old new before after e may is = subst (λ (x : Ending). MayStop c d old new before after x) is may

-- nor does one whose writers were refused memory
pub refused_undone : (e last : Ending) → RefusedBy e last → last ≡ ends.Done → ⊥
refused_undone e last (inl (failing, same)) done = undone last (same ∙ failing) done
refused_undone e last (inr (other, refused)) done = cc
