-- What survives of what was held, while it is written, and then while it is made sure.
use Rattle.std.proofs.Common.{◌≡◌, ℕ, ◌<◌, false, List, [], ◌++◌, length, take, drop, refl, sym, subst, arith}
use Rattle.std.proofs.lemmas.List.{append-nil, drop_all, take_all}
use Rattle.pcp_base.specs.declared.file.FileId.{FileId}
use Rattle.pcp_model.specs.Disk.{CrashImage, Files}
use Rattle.pcp_outside.specs.declared.disk.Disk.{Ghosts as DiskGhosts}
use Rattle.pcp_outside.specs.Devices.{LeavesOnly}
use Rattle.logger_core.specs.declared.fault.LogFault.{LogFault}
use Rattle.logger_core.specs.declared.fault.LogFault.TheVariants.{Closed, Live, Large, NotLater, Changed, Full, NoMemory, DiskFault}
use Rattle.logger_core.specs.Grouping.{LogsAll, Told, samples_of}
use Rattle.logger_core.specs.Held.{counts_of}
use Rattle.logger_core.specs.Holding.{HeldBack, IsHolding, WriteMayAnswer}
use Rattle.logger_core.specs.Keeps.{Start}
use Rattle.logger_core.specs.Laws.{Survives}
use Rattle.logger_core.specs.Meant.{Meant, SurvivesOf, items_in}
use Rattle.logger_core.specs.Runs.{SurvivesWith}
use Rattle.logger_core.proofs.Calls.{run_as, run_then}
use Rattle.logger_core.proofs.HeldRuns.{runs_count}
use Rattle.logger_core.proofs.Rests.{survives_same}
use Rattle.logging_session.specs.Answers.{HasPassedBut}
use Rattle.logging_session.proofs.Logged.{not_closed}

-- of a logger that isn't closed only the disk refuses a write, and not all is written
pub write_fails : (old new : HeldBack) (before after k : ℕ) (e : LogFault) → old.kept.closed ≡ false → WriteMayAnswer old new before after k e → (e ≡ DiskFault) × (k < counts_of old.runs)
write_fails old new before after k Closed open_ may = not_closed old.kept.closed may.1 open_
write_fails old new before after k (Live volume) open_ may = absurd may
write_fails old new before after k (Large bytes) open_ may = absurd may
write_fails old new before after k (NotLater last) open_ may = absurd may
write_fails old new before after k (Changed pmid) open_ may = absurd may
write_fails old new before after k (Full file bytes) open_ may = absurd may
write_fails old new before after k NoMemory open_ may = absurd may
write_fails old new before after k DiskFault open_ may = (refl, may.2)

module _ {D : Type 0} (d : DiskGhosts D) (only_now : (disk : D) (c : Files) → d.left_since disk (d.moment disk) c → CrashImage (d.held disk) c) where
  pub then_survives : (m o : Meant) (pending : List Told) (b : HeldBack) (old mid new : D) → IsHolding m b pending o (d.held old) → LeavesOnly d.moment d.left_since old mid (SurvivesWith m (samples_of pending))
      → LeavesOnly d.moment d.left_since mid new (SurvivesOf o) → LeavesOnly d.moment d.left_since old new (SurvivesWith m (samples_of pending))
  then_survives m o pending b old mid new h first second = run_then d only_now old mid new (SurvivesWith m (samples_of pending)) (SurvivesWith m (samples_of pending)) (SurvivesOf o) first second (λ image w. w)
      (λ image w. subst (λ (s : Start). Survives s (items_in m ++ samples_of pending) m.acknowledged image) h.started
      (survives_same o.start (items_in o) (items_in m ++ samples_of pending) o.acknowledged m.acknowledged image h.items_are w h.still))

  -- what was held is written, and then the disk fails
  pub then_passed : (m o : Meant) (pending : List Told) (b now : HeldBack) (old mid new : D) → IsHolding m b pending o (d.held old) → IsHolding o now [] o (d.held mid) → LeavesOnly d.moment d.left_since old mid (SurvivesWith m (samples_of pending))
      → LeavesOnly d.moment d.left_since mid new (SurvivesOf o) → HasPassedBut d m b pending 0 old new
  then_passed m o pending b now old mid new h is first second =
      let many : counts_of b.runs ≡ length pending = runs_count m.contents.records b.kept.ends b.kept.limit b.runs pending b.kept.records b.planned h.runs in
      let all : take (counts_of b.runs) pending ≡ pending = take_all (counts_of b.runs) pending (omega (arith, many)) in
      let none : drop (counts_of b.runs) pending ≡ [] = drop_all (counts_of b.runs) pending (omega (arith, many)) in
      record {
        written = counts_of b.runs;
        others = omega arith;
        passed = record {
          at = mid;
          n = o;
          next = b.planned.volume;
          all = subst (λ (gs : List Told). LogsAll m b.kept.ends.volume b.kept.limit gs o b.planned.volume) (sym all) h.all;
          started = h.started;
          still = h.still;
          is = is.at.stands.keeps.is;
          last = h.stands.keeps.last;
          stands = λ (file : FileId). is.at.stands.written file;
          before = subst (λ (gs : List Told). LeavesOnly d.moment d.left_since old mid (SurvivesWith m (samples_of gs))) (sym all) first;
          since = subst (λ (gs : List Told). LeavesOnly d.moment d.left_since mid new (SurvivesWith o (samples_of gs))) (sym none)
              (run_as d only_now mid new (SurvivesWith o []) (SurvivesOf o) second (λ image w. survives_same o.start (items_in o) (items_in o ++ []) o.acknowledged o.acknowledged image (sym (append-nil (items_in o))) w (omega arith)));
        };
      }
