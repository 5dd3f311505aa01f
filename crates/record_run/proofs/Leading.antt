-- What a run keeps of its archive leads to files.
use Rattle.std.proofs.Common.{◌≡◌, ◌⊎◌, inl, inr, ℕ, List, subst, refl}
use Rattle.pcp_model.specs.Disk.{Files}
use Rattle.pcp_model.specs.LabelFields.{LabelFields}
use Rattle.pcp_outside.specs.declared.disk.Disk.{Ghosts as DiskGhosts}
use Rattle.logging_session.specs.declared.place.Place.{Place}
use Rattle.logging_session.specs.declared.place.Place.TheVariants as places
use Rattle.logger_core.specs.declared.fault.LogFault.{LogFault}
use Rattle.logger_core.specs.declared.fault.LogFault.TheVariants as faults
use Rattle.logging_session.specs.Answers.{FlushMayAnswer}
use Rattle.logging_session.specs.Events.{Event, LeadFrom}
use Rattle.logging_session.specs.Keeping.{Carried, HasFailed, HasFound, HasLogger, IsWorking, held_in, lost_in}
use Rattle.run_archive.specs.Kept.{KeepsRun}
use Rattle.record_run.specs.States.{Leads}

pub kept_leads : {D : Type 0} (d : DiskGhosts D) (left : Files) (events : List Event) (start : D) (s : Carried) (disk : D) → KeepsRun d left events start s disk → Leads s.limit left events
kept_leads d left events start s disk k =
    (k.kept.keeps.stand, subst (λ (l : LabelFields). LeadFrom l s.limit left events k.kept.keeps.stand) k.label k.kept.keeps.lead)

-- a session that works has lost nothing
place_unlost : (place : Place) → HasFound place ⊎ HasLogger place → lost_in place ≡ 0
place_unlost (places.Found archive) working = refl
place_unlost (places.Open b) working = refl
place_unlost places.Lost working = refl
place_unlost (places.Failed lost) (inl found) = absurd found
place_unlost (places.Failed lost) (inr open_) = absurd open_

pub working_unlost : (s : Carried) → IsWorking s → lost_in s.place ≡ 0
working_unlost s working = place_unlost s.place working

-- one whose disk failed holds nothing
failed_unheld : (place : Place) → HasFailed place → held_in place ≡ 0
failed_unheld (places.Found archive) failed = refl
failed_unheld (places.Open b) failed = absurd failed
failed_unheld places.Lost failed = refl
failed_unheld (places.Failed lost) failed = refl

-- What a write that is refused leaves: as many are lost as were held at most, and none is held.
pub write_unheld : (was now : Carried) (before after : ℕ) (fault : LogFault) → (fault ≡ faults.Closed → ⊥) → FlushMayAnswer was now before after fault → held_in now.place ≡ 0
write_unheld was now before after faults.Closed open_ cause = absurd (open_ refl)
write_unheld was now before after (faults.Live number) open_ cause = absurd cause
write_unheld was now before after faults.DiskFault open_ cause = failed_unheld now.place cause.1
write_unheld was now before after (faults.Large bytes) open_ cause = absurd cause
write_unheld was now before after (faults.NotLater last) open_ cause = absurd cause
write_unheld was now before after (faults.Changed pmid) open_ cause = absurd cause
write_unheld was now before after (faults.Full file bytes) open_ cause = absurd cause
write_unheld was now before after faults.NoMemory open_ cause = absurd cause
