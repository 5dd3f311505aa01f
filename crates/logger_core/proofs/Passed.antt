-- How the disk went by while runs were written, up to the one in which it failed.
use Rattle.std.proofs.Common.{◌≡◌, ℕ, ◌+◌, List, [], ◌∷◌, ◌++◌, length, take, drop, refl, sym, ap, ◌∙◌, subst, append_assoc, arith}
use Rattle.std.proofs.Math.Seq.{drop-append-add, take-append-add}
use Rattle.pcp_model.specs.declared.records.MetaRecord.{MetaRecord}
use Rattle.pcp_model.specs.Disk.{CrashImage, Files}
use Rattle.pcp_outside.specs.Devices.{LeavesOnly}
use Rattle.pcp_outside.specs.declared.disk.Disk.{Ghosts as DiskGhosts}
use Rattle.logger_core.specs.declared.ends.Ends.{Ends}
use Rattle.logger_core.specs.declared.groups.Run.{Run}
use Rattle.logger_core.specs.Grouping.{Told, LogsAll, samples_of}
use Rattle.logger_core.specs.Held.{AreRuns, RunWritten}
use Rattle.logger_core.specs.Keeps.{Start}
use Rattle.logger_core.specs.Laws.{Survives}
use Rattle.logger_core.specs.Meant.{Meant, IsAt, items_in}
use Rattle.logger_core.specs.Passing.{HasPassedFirst}
use Rattle.logger_core.specs.Runs.{SurvivesWith}
use Rattle.logger_core.proofs.Calls.{no_call, run_then}
use Rattle.logger_core.proofs.Grouped.{logs_then, samples_then}
use Rattle.logger_core.proofs.Loggable.{survives_more}
use Rattle.logger_core.proofs.Rests.{image_survives, survives_same, survives_with}

-- ---- what survives with some of these results

first_survives : (m : Meant) (xs ys : List Told) (image : Files) → SurvivesWith m (samples_of xs) image → SurvivesWith m (samples_of (xs ++ ys)) image
first_survives m xs ys image w =
    survives_same m.start ((items_in m ++ samples_of xs) ++ samples_of ys) (items_in m ++ samples_of (xs ++ ys)) m.acknowledged m.acknowledged image
    (append_assoc (items_in m) (samples_of xs) (samples_of ys) ∙ ap (λ zs. items_in m ++ zs) (sym (samples_then xs ys)))
    (survives_with m.start (items_in m ++ samples_of xs) (samples_of ys) m.acknowledged m.acknowledged image w (omega arith)) (omega arith)

module _ {D : Type 0} (g : DiskGhosts D) (only_now : (disk : D) (c : Files) → g.left_since disk (g.moment disk) c → CrashImage (g.held disk) c) where
  -- it failed in the first run
  pub none_passed : (m : Meant) (e : Ends) (limit : ℕ) (group : List Told) (old new : D) → IsAt m e (g.held old) → LeavesOnly g.moment g.left_since old new (SurvivesWith m (samples_of group)) → HasPassedFirst g m e.volume limit group 0 old new
  none_passed m e limit group old new at run = record {
    at = old;
    n = m;
    next = e.volume;
    all = (refl, refl);
    started = refl;
    still = omega arith;
    is = at.stands.keeps.is;
    last = at.stands.keeps.last;
    stands = at.stands.written;
    before = no_call g only_now old (SurvivesWith m []) (λ image crash. survives_more m [] image (image_survives m e.volume (g.held old) at.stands image crash));
    since = run;
  }

  -- it failed behind the first run
  module _ (m : Meant) (e next : Ends) (limit : ℕ) (run : Run) (runs : List Run) (group : List Told) (now : List MetaRecord) (after : Ends) (all : AreRuns m.contents.records e limit (run ∷ runs) group now after) (old mid new : D)
      (w : RunWritten m e next limit (run ∷ []) all.0 all.3 (g.held mid)) (before : LeavesOnly g.moment g.left_since old mid (SurvivesWith m (samples_of all.0))) where
    rest_survives : (ys : List Told) (image : Files) → SurvivesWith w.new (samples_of ys) image → SurvivesWith m (samples_of (all.0 ++ ys)) image
    rest_survives ys image s =
        subst (λ (st : Start). Survives st (items_in m ++ samples_of (all.0 ++ ys)) m.acknowledged image) w.started
        (survives_same w.new.start (items_in w.new ++ samples_of ys) (items_in m ++ samples_of (all.0 ++ ys)) w.new.acknowledged m.acknowledged image
        (ap (λ xs. xs ++ samples_of ys) w.items_are ∙ append_assoc (items_in m) (samples_of all.0) (samples_of ys) ∙ ap (λ xs. items_in m ++ xs) (sym (samples_then all.0 ys))) s w.still)

    pub later_passed : (k n : ℕ) → n ≡ run.count + k → HasPassedFirst g w.new next.volume limit all.1 k mid new → HasPassedFirst g m e.volume limit group n old new
    later_passed k n is r = record {
      at = r.at;
      n = r.n;
      next = r.next;
      all = subst (λ gs. LogsAll m e.volume limit gs r.n r.next) (sym front) (logs_then m w.new r.n e.volume next.volume r.next limit all.0 (take k all.1) w.all r.all);
      started = r.started ∙ w.started;
      still = omega (arith, w.still, r.still);
      is = r.is;
      last = r.last;
      stands = r.stands;
      before = subst (λ gs. LeavesOnly g.moment g.left_since old r.at (SurvivesWith m (samples_of gs))) (sym front)
          (run_then g only_now old mid r.at (SurvivesWith m (samples_of (all.0 ++ take k all.1))) (SurvivesWith m (samples_of all.0)) (SurvivesWith w.new (samples_of (take k all.1))) before r.before (first_survives m all.0 (take k all.1)) (rest_survives (take k all.1)));
      since = subst (λ gs. LeavesOnly g.moment g.left_since r.at new (SurvivesWith r.n (samples_of gs))) (sym back) r.since;
    }
      where
        past : n ≡ length all.0 + k
        past = is ∙ ap (λ (x : ℕ). x + k) all.5.count_is

        front : take n group ≡ all.0 ++ take k all.1
        front = ap (take n) all.2 ∙ ap (λ (x : ℕ). take x (all.0 ++ all.1)) past ∙ take-append-add all.0 all.1 k

        back : drop n group ≡ drop k all.1
        back = ap (drop n) all.2 ∙ ap (λ (x : ℕ). drop x (all.0 ++ all.1)) past ∙ drop-append-add all.0 all.1 k
