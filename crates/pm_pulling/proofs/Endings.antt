-- From how a call ends to what its status tells: it was refused before its run, or it ran to an end.
use Rattle.std.proofs.Common.{◌≡◌, ◌⊎◌, inl, inr, ⊎_elim, ℕ, List, [], ◌++◌, refl, sym, ◌∙◌, subst, arith, Option, Some, None, Result, Ok, Err}
use Rattle.pcp_base.specs.declared.file.FileId.{FileId}
use Rattle.pcp_base.specs.declared.file.FileId.TheVariants as files
use Rattle.pcp_outside.specs.Causes.{Rose}
use Rattle.pcp_outside.specs.Sides.{SinkSide}
use Rattle.logging_run.specs.declared.fault.RunFault.TheVariants as runs
use Rattle.pmcd_client.specs.declared.faults.TalkFault.TheVariants as talks
use Rattle.pm_words.specs.declared.refusal.Refusal.{Refusal}
use Rattle.pm_words.specs.declared.refusal.Refusal.TheVariants.{Usage, NoMemory}
use Rattle.pm_words.specs.Refusals.{full_refusal, status_of}
use Rattle.pm_words.specs.Telling.{IsToldBy, TellsAll}
use Rattle.pm_words.proofs.Telling.{told_by}
use Rattle.pm_pulling.specs.declared.stop.Stop.{Stop}
use Rattle.pm_pulling.specs.declared.stop.Stop.TheVariants.{Talk, Archive}
use Rattle.pm_pulling.specs.Ends.{CallSide, Cause, Ends, EndsDone, HasRun, IsRefused, TellsRun, TellsStop, logged_line}
use Rattle.pm_pulling.specs.Stops.{stop_refusal}

-- ---- the statuses

abbrev pub stop_status : Option Refusal → ℕ
stop_status None = 4
stop_status (Some e) = status_of e

-- the status of each end of a run
abbrev pub end_status : Result (Unit {0}) Stop → ℕ
end_status (Ok done) = 0
end_status (Err stop) = stop_status (stop_refusal stop)

abbrev pub ToldStop : Option Refusal → ℕ → Type 0
ToldStop None n = n ≡ 4
ToldStop (Some e) n = IsToldBy (Err e) n

-- the status tells that a run ended so
abbrev pub Told : SinkSide → Result (Unit {0}) Stop → ℕ → Type 0
Told k (Ok done) n = (n ≡ 0) ⊎ ((n ≡ 4) × Rose k.faults k.faults_after)
Told k (Err stop) n = ToldStop (stop_refusal stop) n

pub full_status : (file : FileId) (number : ℕ) → status_of (full_refusal file number) ≡ 7
full_status files.Meta number = refl
full_status files.Index number = refl
full_status (files.Volume v) number = refl

-- but for want of memory and a sink that failed the status is that of the end
told_stop : (o : Option Refusal) (n : ℕ) → (n ≡ 9 → ⊥) → ToldStop o n → stop_status o ≡ n
told_stop None n nine told = sym told
told_stop (Some e) n nine (inl h) = sym h
told_stop (Some e) n nine (inr (h, some)) = absurd (nine h)

pub told_one : (k : SinkSide) (result : Result (Unit {0}) Stop) (n : ℕ) → (n ≡ 9 → ⊥) → Told k result n → (end_status result ≡ n) ⊎ ((n ≡ 4) × (result ≡ Ok tt) × Rose k.faults k.faults_after)
told_one k (Ok done) n nine (inl h) = inl (sym h)
told_one k (Ok done) n nine (inr (h, rose)) = inr (h, refl, rose)
told_one k (Err stop) n nine told = inl (told_stop (stop_refusal stop) n nine told)

module _ {D : Type 0} (c : CallSide D) (k : SinkSide) where
  -- ---- what is seen of the status

  abbrev pub Early : ℕ → Type 0
  Early n = (e : Refusal) × IsRefused c e × IsToldBy (Err e) n

  abbrev pub Late : ℕ → Type 0
  Late n = (result : Result (Unit {0}) Stop) × HasRun c result × Told k result n

  abbrev pub Seen : ℕ → Type 0
  Seen n = Early n ⊎ Late n

  stopped : (o : Option Refusal) (n : ℕ) → TellsStop k o n → ToldStop o n
  stopped None n told = told.0
  stopped (Some e) n told = told_by k [] (Err e) n told

  ran_told : (count : ℕ) (result : Result (Unit {0}) Stop) (n : ℕ) → TellsRun k count result n → Told k result n
  ran_told count (Ok done) n (inl (h, quiet, wrote)) = inl h
  ran_told count (Ok done) n (inr (h, rose, wrote)) = inr (h, rose)
  ran_told count (Err stop) n told = stopped (stop_refusal stop) n told

  pub seen : (n : ℕ) → Ends c k n → Seen n
  seen n (inl e) = inl (e.refusal, e.refused, told_by k [] (Err e.refusal) n e.told)
  seen n (inr e) = inr (e.result, e.ran, ran_told e.ran.asked.samples e.result n e.told)

  -- before the run the status is 1 or 9
  pub early_status : (e : Refusal) → Cause c.words e → (status_of e ≡ 1) ⊎ (status_of e ≡ 9)
  early_status (Usage at) cause = inl refl
  early_status NoMemory cause = inr refl
  early_status e cause = absurd cause

  pub is_early : (n : ℕ) → Early n → (n ≡ 1) ⊎ (n ≡ 9)
  is_early n (e, refused, inl h) = ⊎_elim (λ (one : status_of e ≡ 1). inl (h ∙ one)) (λ (nine : status_of e ≡ 9). inr (h ∙ nine)) (early_status e refused.cause)
  is_early n (e, refused, inr (h, some)) = inr h

  -- a status that only a run has
  pub by_run : (n : ℕ) {G : Type 0} → (n ≡ 1 → ⊥) → (n ≡ 9 → ⊥) → ((result : Result (Unit {0}) Stop) → HasRun c result → (end_status result ≡ n) ⊎ ((n ≡ 4) × (result ≡ Ok tt) × Rose k.faults k.faults_after) → G) → Seen n → G
  by_run n one nine late (inl early) = absurd (⊎_elim one nine (is_early n early))
  by_run n one nine late (inr (result, ran, told)) = late result ran (told_one k result n nine told)

  pub by_end : (n : ℕ) {G : Type 0} → (n ≡ 1 → ⊥) → (n ≡ 9 → ⊥) → (n ≡ 4 → ⊥) → ((result : Result (Unit {0}) Stop) → HasRun c result → end_status result ≡ n → G) → Seen n → G
  by_end n {G} one nine four late saw = by_run n one nine by_one saw where
    by_one : (result : Result (Unit {0}) Stop) → HasRun c result → (end_status result ≡ n) ⊎ ((n ≡ 4) × (result ≡ Ok tt) × Rose k.faults k.faults_after) → G
    by_one result ran (inl h) = late result ran h
    by_one result ran (inr (h, is, rose)) = absurd (four h)

  -- no stop has the status 0
  pub never_zero : (stop : Stop) → end_status (Err stop) ≡ 0 → ⊥
  never_zero (Archive (runs.Full file number)) h = let seven = full_status file number in omega (arith, seven, h)
  never_zero (Talk talks.WriteFault) h = omega (arith, h)
  never_zero stop h = omega (arith, h)

  -- ---- done

  wrote_all : (line : List ℕ) → TellsAll k [] (Ok line) 0 → (k.tells → k.after ≡ k.written ++ line) × (k.faults_after ≡ k.faults)
  wrote_all line (inl (h, quiet, wrote)) = (wrote, quiet)
  wrote_all line (inr (h, rose, wrote)) = absurd (omega (arith, h))

  done_run : (result : Result (Unit {0}) Stop) (ran : HasRun c result) → TellsRun k ran.asked.samples result 0 → EndsDone c k
  done_run (Ok done) ran told = let all = wrote_all (logged_line ran.asked.samples) told in record { ran = ran; wrote = all.0; quiet = all.1 }
  done_run (Err stop) ran told = absurd (never_zero stop (told_stop (stop_refusal stop) 0 (λ h. omega (arith, h)) (stopped (stop_refusal stop) 0 told)))

  done_at : (n : ℕ) → n ≡ 0 → Ends c k n → EndsDone c k
  done_at n zero (inl e) = absurd (⊎_elim (λ (h : n ≡ 1). omega (arith, zero, h)) (λ (h : n ≡ 9). omega (arith, zero, h)) (is_early n (e.refusal, e.refused, told_by k [] (Err e.refusal) n e.told)))
  done_at n zero (inr e) = done_run e.result e.ran (subst (λ (m : ℕ). TellsRun k e.ran.asked.samples e.result m) zero e.told)

  pub is_done : (status : ℕ) → Ends c k status → status ≡ 0 → EndsDone c k
  is_done status e zero = done_at status zero e
