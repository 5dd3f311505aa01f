-- A run that was begun where the disk failed.
use Rattle.std.proofs.Common.{◌≡◌, ℕ, ◌+◌, ◌<◌, Bool, List, [], ◌∷◌, ◌++◌, refl, sym, ap, ◌∙◌, subst}
use Rattle.std.specs.Prelude.{slice_get, Some}
use Rattle.std.proofs.lemmas.Option.{same_Some}
use Rattle.pcp_base.specs.declared.file.FileId.{FileId}
use Rattle.pcp_model.specs.declared.records.MetaRecord.{MetaRecord}
use Rattle.pcp_model.specs.Disk.{Holdings}
use Rattle.pcp_model.specs.Payload.{payload_length}
use Rattle.logger_core.specs.declared.ends.Ends.{Ends}
use Rattle.logger_core.specs.declared.groups.Run.{Run}
use Rattle.logger_core.specs.Going.{HoldsNoMore, OnlyGrows}
use Rattle.logger_core.specs.Grouping.{Told, LogsAll, AreAllEnough, AreOneRun, AreWritten}
use Rattle.logger_core.specs.Held.{AreRuns, IsRunOf, RunWritten, run_files}
use Rattle.logger_core.specs.LogSteps.{base_number, crosses}
use Rattle.logger_core.specs.Meant.{Meant, AreEnds, IsAt}
use Rattle.logger_core.proofs.Ahead.{run_ahead}
use Rattle.logger_core.proofs.AtMost.{most_as}
use Rattle.logger_core.proofs.Planned.{ready_volume}

-- its results are such as one run writes
is_one_run : (m : Meant) (e after : Ends) (limit : ℕ) (run : Run) (group : List Told) (now : List MetaRecord) (held : Holdings) → AreEnds m e → IsRunOf m.contents.records e limit run group now after → (w : RunWritten m e after limit (run ∷ []) group now held)
    → AreOneRun m e.volume limit group w.new
is_one_run m e after limit run [] now held ends r w = absurd (let no : slice_get {X = Told} [] 0 ≡ Some r.first = r.is in cc)
is_one_run m e after limit run (g ∷ rest) now held ends r w = record { first = g; rest = rest; are = refl; mid = w.all.0; at = w.all.1; one = w.all.2; all = subst (λ (k : ℕ). LogsAll w.all.0 w.all.1 limit rest w.new k) same w.all.3 }
  where
    first_is : g ≡ r.first
    first_is = same_Some g r.first r.is

    crossing_is : run.crossing ≡ w.all.2.step.crossing
    crossing_is = r.crossing_is ∙ ap (λ (y : Told). crosses limit e.length (payload_length y.0 + 8)) (sym first_is) ∙ ap (λ (k : ℕ). crosses limit k (payload_length g.0 + 8)) ends.length_is ∙ sym w.all.2.step.crosses_is

    same : after.volume ≡ w.all.1
    same = ap (λ (x : Ends). x.volume) r.after_is ∙ ready_volume run.crossing e ∙ ap (λ (b : Bool). base_number b e.volume) crossing_is ∙ sym w.all.2.next_is

-- the disk failed in the first run
pub none_written : (m : Meant) (e : Ends) (limit : ℕ) (run : Run) (runs : List Run) (group : List Told) (now : List MetaRecord) (after : Ends) (held new : Holdings) → IsAt m e held → e.volume < 2147483648 → (all : AreRuns m.contents.records e limit (run ∷ runs) group now after) → AreAllEnough all.0
    → OnlyGrows held new → HoldsNoMore (run_files m.contents.label e run m.files) new → AreWritten m e.volume limit group 0 new
none_written m e limit run runs group now after held new at low all enough grows most =
    let ahead : (there : Holdings) × RunWritten m e all.4 limit (run ∷ []) all.0 all.3 there = run_ahead m e held limit run all.0 all.3 all.4 at low all.5 enough in
    record {
      new = m;
      next = e.volume;
      all = (refl, refl);
      stand = λ file. ((grows file).0, (grows file).1 ∙ ap (λ t. t ++ (grows file).0) (at.stands.written file));
      run = all.0;
      others = all.1;
      behind = all.2;
      after = ahead.1.new;
      would = is_one_run m e all.4 limit run all.0 all.3 ahead.0 at.ends all.5 ahead.1;
      most = most_as (run_files m.contents.label e run m.files) ahead.1.new.files new (λ (file : FileId). sym (ahead.1.files_are file)) most;
    }
