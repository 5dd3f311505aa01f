-- A command that stops before its first write.
use Rattle.std.proofs.Common.{inl, ℕ, List, sym, subst}
use Rattle.pcp_model.specs.Disk.{IsSettled}
use Rattle.pm_words.specs.declared.refusal.Refusal.{Refusal}
use Rattle.pm_words.specs.Inputs.{Refuses, RefusesAt}
use Rattle.pm_words.specs.Meaning.{Meaning}
use Rattle.pm_words.specs.Refusals.{Stage, AtInput, AtMemory, stage_of, status_of}
use Rattle.pm_words.specs.Serving.{Left, StopCause, StopsAt}
use Rattle.pm_words.specs.Sides.{DiskSide, Untouched}

-- a disk that holds what it held is settled if it was
pub still_settled : (d : DiskSide) → Untouched d → d.tells → IsSettled d.held → IsSettled d.after
still_settled d still tells settled = subst IsSettled (sym (still tells)) settled

-- stopped before the first write
pub left_alone : (m : Meaning) (status : ℕ) (input : List ℕ) (d : DiskSide) → Untouched d → Left m status input d
left_alone m status input d still = record { files = inl still; settled = λ other. still_settled d still }

-- what was got isn't what the command reads
no_good_at : (stage : Stage) (m : Meaning) (input : List ℕ) (d : DiskSide) (e : Refusal) → RefusesAt stage m.reads input e → Untouched d → StopsAt stage m input d e
no_good_at AtInput m input d e refuses still = (refuses, still)
no_good_at AtMemory m input d e refuses still = left_alone m (status_of e) input d still
no_good_at _ m input d e refuses still = absurd refuses

pub no_good : (m : Meaning) (input : List ℕ) (d : DiskSide) (e : Refusal) → Refuses m.reads input e → Untouched d → StopCause m input d e
no_good m input d e = no_good_at (stage_of e) m input d e
