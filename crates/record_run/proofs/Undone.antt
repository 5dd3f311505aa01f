-- What stops a recording isn't its end.
use Rattle.std.proofs.Common.{◌≡◌, ◌≢◌, ◌⊎◌, inl, inr, refl, sym, ◌∙◌, subst}
use Rattle.archive_recovery.specs.declared.outcome.RecoverFault.{RecoverFault}
use Rattle.archive_recovery.specs.declared.outcome.RecoverFault.TheVariants as recovery
use Rattle.script_runs.specs.declared.ending.Ending.{Ending}
use Rattle.script_runs.specs.declared.ending.Ending.TheVariants as ends
use Rattle.run_archive.specs.Outcomes.{ended_by}
use Rattle.record_run.specs.Beside.{EndsBy, StopsLogging}

pub ended_undone : (fault : RecoverFault) → ended_by fault ≢ ends.Done
ended_undone (recovery.Compressed file) = λ e. cc
ended_undone (recovery.NotArchive file at) = λ e. cc
ended_undone recovery.DiskFault = λ e. cc
ended_undone recovery.NoMemory = λ e. cc

pub wanting_undone : ends.NoMemory ≢ ends.Done
wanting_undone = λ e. cc

pub want_undone : (ending : Ending) → EndsBy ends.NoMemory ending → ending ≢ ends.Done
want_undone ending (inl is) = λ done. let no : ends.NoMemory ≡ ends.Done = sym is ∙ done in cc
want_undone ending (inr is) = λ done. let no : ends.DiskFault ≡ ends.Done = sym is ∙ done in cc

pub logging_undone : (ending : Ending) → StopsLogging ending → ending ≢ ends.Done
logging_undone ending stops = λ done. subst (λ (e : Ending). StopsLogging e) done stops

pub is_failing : (e : Ending) → (e ≡ ends.DiskFault) ⊎ (e ≢ ends.DiskFault)
is_failing ends.Done = inr (λ e. cc)
is_failing ends.DiskFault = inl refl
is_failing (ends.Condition line) = inr (λ e. cc)
is_failing (ends.NotArchive file at) = inr (λ e. cc)
is_failing (ends.Compressed file) = inr (λ e. cc)
is_failing (ends.Limit what number) = inr (λ e. cc)
is_failing (ends.ClockEnd samples) = inr (λ e. cc)
is_failing (ends.ClockFault samples) = inr (λ e. cc)
is_failing ends.NoMemory = inr (λ e. cc)
is_failing (ends.NotLater last) = inr (λ e. cc)
is_failing (ends.Changed pmid) = inr (λ e. cc)
