-- A run is written, and then the runs behind it.
use Rattle.std.proofs.Common.{suc, ◌≡◌, inl, inr, ⊎_elim, ℕ, ◌+◌, true, List, [], ◌∷◌, ◌++◌, length, take, drop, refl, sym, ap, ◌∙◌, subst, append_assoc, arith, length-append}
use Rattle.std.specs.Prelude.{slice_get, Option, Some, Result, Ok, Err, IfOk, if◌then◌else◌, Bool, false}
use Rattle.std.proofs.Math.Path.{fun_ext}
use Rattle.std.proofs.Math.Seq.{drop-append-add, take-append-add}
use Rattle.std.proofs.lemmas.Option.{same_Some}
use Rattle.pcp_base.specs.Time.{Moment}
use Rattle.pcp_base.specs.declared.file.FileId.{FileId}
use Rattle.pcp_base.specs.declared.file.FileId.TheVariants.{Meta, Volume}
use Rattle.pcp_base.specs.declared.result.Item.{Item}
use Rattle.pcp_model.specs.declared.records.MetaRecord.{MetaRecord}
use Rattle.pcp_model.specs.Disk.{Files, Holdings}
use Rattle.pcp_model.specs.LabelFields.{LabelFields}
use Rattle.pcp_model.specs.Payload.{payload_length}
use Rattle.pcp_model.specs.Written.{with_added}
use Rattle.pcp_model.proofs.Lists.{each-split}
use Rattle.archive_meta.specs.Enough.{AreEnough}
use Rattle.logger_core.specs.declared.ends.Ends.{Ends}
use Rattle.logger_core.specs.declared.groups.Run.{Run}
use Rattle.logger_core.specs.Going.{GrownTo, HoldsNoMore}
use Rattle.logger_core.specs.Grouping.{Told, LogsAll, AreAllEnough, AreLoggable, AreWritten, BeginsRun, samples_of}
use Rattle.logger_core.specs.Held.{MayRun, IsRunOf, AreRuns, AllCross, RunWritten, after_run, ready_files, run_files, runs_acknowledged, runs_files}
use Rattle.logger_core.specs.Keeps.{Start}
use Rattle.logger_core.specs.Laws.{Survives}
use Rattle.logger_core.specs.Logging.{IsLoggable}
use Rattle.logger_core.specs.LogSteps.{base_files, crosses, with_next, with_run}
use Rattle.logger_core.specs.Meant.{Meant, AreEnds, IsAt, items_in, stood_in}
use Rattle.logger_core.specs.Planning.{ran_ends, ready_ends}
use Rattle.logger_core.specs.Runs.{IsReady, IsRunToCome, SurvivesWith}
use Rattle.logger_core.specs.Steps.{due_in, with_entry}
use Rattle.logger_core.proofs.AtMost.{most_as}
use Rattle.logger_core.proofs.Grouped.{samples_then, samples_many, loggable_then, logs_then}
use Rattle.logger_core.proofs.Loggable.{survives_moved}
use Rattle.logger_core.proofs.Planned.{base_of, grown_of}
use Rattle.logger_core.proofs.Pointwise.{added_same}
use Rattle.logger_core.proofs.Rests.{survives_with, survives_same}
use Rattle.logger_core.proofs.Turned.{due_same}

-- ---- one run

-- the files before a run, by the numbers
pub based : (m : Meant) (e : Ends) → AreEnds m e → (b : Bool) (file : FileId) → base_files b m.files m.contents e.volume m.greatest (stood_in m) file ≡ ready_files m.contents.label b e m.files file
based m e ends true file =
    ap (λ (t : Option Moment). with_next m.contents.label (e.volume + 1) t (with_entry (due_in m.files m.contents e.volume m.greatest (stood_in m)) m.files) file) (sym ends.greatest)
    ∙ ap (λ o. with_next m.contents.label (e.volume + 1) e.greatest (with_entry o m.files) file) (sym (due_same m e ends))
based m e ends false file = refl

module _ (m : Meant) (e start : Ends) (held mid : Holdings) (limit : ℕ) (run : Run) (group : List Told) (now : List MetaRecord) (after : Ends) (at : IsAt m e held) (r : IsRunOf m.contents.records e limit run group now after) (enough : AreAllEnough group)
    (start_is : start ≡ ready_ends run.crossing e) (ready : IsReady m e start run.crossing mid) where
  pub may_run : MayRun m ready.new e.volume start.volume limit run group now
  may_run = subst (λ (x : Ends). MayRun m ready.new e.volume x.volume limit run group now) (sym start_is)
      (r.may m ready.new at.ends refl enough (base_of m e start run.crossing mid ready) (subst (AreEnds ready.new) start_is ready.at.ends))

  pub run_survives : (image : Files) → SurvivesWith ready.new (samples_of group) image → SurvivesWith m (samples_of group) image
  run_survives image w = survives_moved m ready.new ready.started ready.records_same ready.items_same may_run.records (samples_of group) image ready.still w

  pub run_come : (records items : List ℕ) → records ≡ run.records → items ≡ run.items → IsRunToCome ready.new may_run.records (samples_of group) records items
  run_come records items first second =
      subst (λ t. IsRunToCome ready.new may_run.records (samples_of group) t items) (sym first) (subst (λ t. IsRunToCome ready.new may_run.records (samples_of group) run.records t) (sym second) may_run.come)

  ready_are : (file : FileId) → ready.new.files file ≡ ready_files m.contents.label run.crossing e m.files file
  ready_are file = ready.files_are file ∙ based m e at.ends run.crossing file

  run_are : (file : FileId) → with_run start.volume run.records run.items ready.new.files file ≡ run_files m.contents.label e run m.files file
  run_are file =
      added_same (Volume start.volume) run.items (with_added Meta run.records ready.new.files) (with_added Meta run.records (ready_files m.contents.label run.crossing e m.files))
      (added_same Meta run.records ready.new.files (ready_files m.contents.label run.crossing e m.files) ready_are) file
      ∙ ap (λ (k : ℕ). with_run k run.records run.items (ready_files m.contents.label run.crossing e m.files) file) (ap (λ (x : Ends). x.volume) start_is)

  pub run_most : (new : Holdings) (records items : List ℕ) → records ≡ run.records → items ≡ run.items → HoldsNoMore (with_run start.volume records items ready.new.files) new → HoldsNoMore (run_files m.contents.label e run m.files) new
  run_most new records items first second most = most_as (with_run start.volume run.records run.items ready.new.files) (run_files m.contents.label e run m.files) new run_are
      (subst (λ t. HoldsNoMore (with_run start.volume run.records t ready.new.files) new) second (subst (λ t. HoldsNoMore (with_run start.volume t items ready.new.files) new) first most))

  pub run_written : (next : Ends) (new : Holdings) → next.volume ≡ start.volume → next.greatest ≡ Some run.stamp → GrownTo ready.new may_run.records [] (samples_of group) (with_run start.volume run.records run.items ready.new.files) next new → RunWritten m e next limit (run ∷ []) group now new
  run_written next new number stamped g = record {
    new = g.0.new;
    started = g.0.started ∙ ready.started;
    gone_is = g.0.gone_is ∙ ready.gone_is;
    label_same = g.0.longer.label ∙ ready.label_same;
    records_are = g.0.longer.records ∙ sym may_run.now_is;
    items_are = g.0.longer.items ∙ ap (λ xs. xs ++ samples_of group) ready.items_same;
    still = omega (arith, ready.still, g.0.acknowledged_is);
    acknowledged_is = g.0.acknowledged_is ∙ ready.acknowledged_is;
    files_are = λ file. g.0.files_are file ∙ run_are file;
    all = subst (λ (k : ℕ). LogsAll m e.volume limit group g.0.new k) (sym number)
        (may_run.all g.0.new (grown_of ready.new may_run.records (samples_of group) run.stamp (with_run start.volume run.records run.items ready.new.files) next.volume new g.0 (sym g.1.greatest ∙ stamped)));
    at = record { stands = g.0.stands; ends = g.1 };
  }

  pub run_ok : {E : Type 0} (new : Holdings) (result : Result Ends E) (records items : List ℕ) → records ≡ run.records → items ≡ run.items → IfOk result (λ next. next ≡ ran_ends (length records) (length items) run.count run.stamp start)
      → IfOk result (λ next. GrownTo ready.new may_run.records [] (samples_of group) (with_run start.volume records items ready.new.files) next new) → IfOk result (λ next. RunWritten m e next limit (run ∷ []) group now new)
  run_ok new (Ok next) records items first second exact g = run_written next new (ap (λ (x : Ends). x.volume) exact) (ap (λ (x : Ends). x.greatest) exact)
      (subst (λ t. GrownTo ready.new may_run.records [] (samples_of group) (with_run start.volume run.records t ready.new.files) next new) second
      (subst (λ t. GrownTo ready.new may_run.records [] (samples_of group) (with_run start.volume t items ready.new.files) next new) first g))
  run_ok new (Err x) records items first second exact g = tt

pub first_many : (group : List Told) {n : ℕ} → n ≡ length group → length (samples_of group) ≡ n
first_many group is = samples_many group ∙ sym is

-- ---- runs, one behind another

pub nothing_written : (m : Meant) (e : Ends) (limit : ℕ) (group : List Told) (now : List MetaRecord) (after : Ends) (held : Holdings) → IsAt m e held → AreRuns m.contents.records e limit [] group now after → RunWritten m e e limit [] group now held
nothing_written m e limit group now after held at all =
    subst (λ gs. RunWritten m e e limit [] gs now held) (sym all.0)
    record { new = m; started = refl; gone_is = refl; label_same = refl; records_are = sym all.1; items_are = sym (append_nil (items_in m)); still = omega arith; acknowledged_is = refl; files_are = λ file. refl; all = (refl, refl); at = at }
  where
    append_nil : (xs : List Item) → xs ++ [] ≡ xs
    append_nil [] = refl
    append_nil (x ∷ xs) = ap (λ ys. x ∷ ys) (append_nil xs)

module _ (m : Meant) (e next : Ends) (limit : ℕ) (run : Run) (runs : List Run) (group : List Told) (now : List MetaRecord) (after : Ends) (all : AreRuns m.contents.records e limit (run ∷ runs) group now after) (enough : AreAllEnough group) (next_is : next ≡ after_run e run) where
  both : AreAllEnough all.0 × AreAllEnough all.1
  both = each-split (λ (x : Told). AreEnough x.1 x.0.sets) all.0 all.1 (subst AreAllEnough all.2 enough)

  pub first_enough : AreAllEnough all.0
  first_enough = both.0

  pub rest_enough : AreAllEnough all.1
  rest_enough = both.1

  samples_are : samples_of group ≡ samples_of all.0 ++ samples_of all.1
  samples_are = ap samples_of all.2 ∙ samples_then all.0 all.1

  pub first_survives : (image : Files) → SurvivesWith m (samples_of all.0) image → SurvivesWith m (samples_of group) image
  first_survives image w = survives_same m.start ((items_in m ++ samples_of all.0) ++ samples_of all.1) (items_in m ++ samples_of group) m.acknowledged m.acknowledged image
      (append_assoc (items_in m) (samples_of all.0) (samples_of all.1) ∙ ap (λ xs. items_in m ++ xs) (sym samples_are))
      (survives_with m.start (items_in m ++ samples_of all.0) (samples_of all.1) m.acknowledged m.acknowledged image w (omega arith)) (omega arith)

  module _ (mid : Holdings) (w : RunWritten m e next limit (run ∷ []) all.0 all.3 mid) where
    pub rest_runs : AreRuns w.new.contents.records next limit runs all.1 now after
    rest_runs = subst (λ rs. AreRuns rs next limit runs all.1 now after) (sym w.records_are) (subst (λ (x : Ends). AreRuns all.3 x limit runs all.1 now after) (all.5.after_is ∙ sym next_is) all.7)

    pub rest_survives : (image : Files) → SurvivesWith w.new (samples_of all.1) image → SurvivesWith m (samples_of group) image
    rest_survives image s =
        subst (λ (st : Start). Survives st (items_in m ++ samples_of group) m.acknowledged image) w.started
        (survives_same w.new.start (items_in w.new ++ samples_of all.1) (items_in m ++ samples_of group) w.new.acknowledged m.acknowledged image
        (ap (λ xs. xs ++ samples_of all.1) w.items_are ∙ append_assoc (items_in m) (samples_of all.0) (samples_of all.1) ∙ ap (λ xs. items_in m ++ xs) (sym samples_are)) s w.still)

    many : length (items_in w.new) ≡ length (items_in m) + run.count
    many = omega (arith, ap length w.items_are, length-append (items_in m) (samples_of all.0), samples_many all.0, all.5.count_is)

    pub rest_written : (last : Ends) (new : Holdings) → RunWritten w.new next last limit runs all.1 now new → RunWritten m e last limit (run ∷ runs) group now new
    rest_written last new r = record {
      new = r.new;
      started = r.started ∙ w.started;
      gone_is = r.gone_is ∙ w.gone_is;
      label_same = r.label_same ∙ w.label_same;
      records_are = r.records_are;
      items_are = r.items_are ∙ ap (λ xs. xs ++ samples_of all.1) w.items_are ∙ append_assoc (items_in m) (samples_of all.0) (samples_of all.1) ∙ ap (λ xs. items_in m ++ xs) (sym samples_are);
      still = omega (arith, w.still, r.still);
      acknowledged_is = r.acknowledged_is ∙ ap (λ (a : ℕ). runs_acknowledged runs (length (items_in w.new)) a) w.acknowledged_is ∙ ap (λ (n : ℕ). runs_acknowledged runs n (if run.crossing then length (items_in m) else m.acknowledged)) many;
      files_are = λ file. r.files_are file
          ∙ ap (λ (x : LabelFields). runs_files x next runs w.new.files file) w.label_same
          ∙ ap (λ (x : Ends). runs_files m.contents.label x runs w.new.files file) next_is
          ∙ ap (λ (f : Files). runs_files m.contents.label (after_run e run) runs f file) (fun_ext w.files_are);
      all = subst (λ gs. LogsAll m e.volume limit gs r.new last.volume) (sym all.2) (logs_then m w.new r.new e.volume next.volume last.volume limit all.0 all.1 w.all r.all);
      at = r.at;
    }

    -- so many of the rest, and all of the first run
    pub rest_first : (k n : ℕ) (new : Holdings) → n ≡ run.count + k → AreWritten w.new next.volume limit all.1 k new → AreWritten m e.volume limit group n new
    rest_first k n new is r = record {
      new = r.new;
      next = r.next;
      all = subst (λ gs. LogsAll m e.volume limit gs r.new r.next) (sym (front_is k n is)) (logs_then m w.new r.new e.volume next.volume r.next limit all.0 (take k all.1) w.all r.all);
      stand = r.stand;
      run = r.run;
      others = r.others;
      behind = ap (drop n) all.2 ∙ ap (λ (x : ℕ). drop x (all.0 ++ all.1)) (is ∙ ap (λ (x : ℕ). x + k) all.5.count_is) ∙ drop-append-add all.0 all.1 k ∙ r.behind;
      after = r.after;
      would = r.would;
      most = r.most;
    }
      where
        front_is : (i j : ℕ) → j ≡ run.count + i → take j group ≡ all.0 ++ take i all.1
        front_is i j same = ap (take j) all.2 ∙ ap (λ (x : ℕ). take x (all.0 ++ all.1)) (same ∙ ap (λ (x : ℕ). x + i) all.5.count_is) ∙ take-append-add all.0 all.1 i

-- ---- where a run begins

first_of : (xs ys : List Told) (g : Told) → slice_get xs 0 ≡ Some g → slice_get (xs ++ ys) 0 ≡ Some g
first_of [] ys g is = absurd cc
first_of (x ∷ xs) ys g is = is

get_past : (xs ys : List Told) (k : ℕ) → slice_get (xs ++ ys) (length xs + k) ≡ slice_get ys k
get_past [] ys k =
    let same : 0 + k ≡ k = omega arith in
    ap (λ (i : ℕ). slice_get ys i) same
get_past (x ∷ xs) ys k =
    let same : length (x ∷ xs) + k ≡ suc (length xs + k) = omega arith in
    ap (λ (i : ℕ). slice_get (x ∷ (xs ++ ys)) i) same ∙ get_past xs ys k

first_loggable : (records : List MetaRecord) (e : Ends) (limit : ℕ) (xs : List Told) (g : Told) (now : List MetaRecord) (after : Ends) → slice_get xs 0 ≡ Some g → AreLoggable records e limit xs now after → IsLoggable records e limit g.0 g.1
first_loggable records e limit [] g now after is all = absurd cc
first_loggable records e limit (x ∷ xs) g now after is all = subst (λ (y : Told). IsLoggable records e limit y.0 y.1) (same_Some x g is) all.0

-- the first result of runs that all go into the next volume
first_crosses : (records : List MetaRecord) (e : Ends) (limit : ℕ) (runs : List Run) (group : List Told) (g : Told) (now : List MetaRecord) (after : Ends) → AreRuns records e limit runs group now after → AllCross runs → slice_get group 0 ≡ Some g
    → crosses limit e.length (payload_length g.0 + 8) ≡ true
first_crosses records e limit [] group g now after all cross is = absurd (none group all.0 is)
  where
    none : (gs : List Told) → gs ≡ [] → slice_get gs 0 ≡ Some g → ⊥
    none [] empty some = cc
    none (x ∷ xs) empty some = cc
first_crosses records e limit (r ∷ runs) group g now after all cross is =
    let same : all.5.first ≡ g = same_Some all.5.first g (sym (first_of all.0 all.1 all.5.first all.5.is) ∙ ap (λ gs. slice_get gs 0) (sym all.2) ∙ is) in
    ap (λ (y : Told). crosses limit e.length (payload_length y.0 + 8)) (sym same) ∙ sym all.5.crossing_is ∙ cross.0

module _ (records : List MetaRecord) (e : Ends) (limit : ℕ) (run : Run) (runs : List Run) (group : List Told) (now : List MetaRecord) (after : Ends) (all : AreRuns records e limit (run ∷ runs) group now after) where
  pub begins_first : BeginsRun records e limit group 0
  begins_first = record {
    one = all.5.first;
    is = ap (λ gs. slice_get gs 0) all.2 ∙ first_of all.0 all.1 all.5.first all.5.is;
    now = records;
    after = e;
    loggable = (refl, refl);
    this = first_loggable records e limit all.0 all.5.first all.3 all.4 all.5.is all.5.loggable;
    first = inl refl;
  }

  pub begins_later : (k n : ℕ) → n ≡ run.count + k → BeginsRun all.3 all.4 limit all.1 k → BeginsRun records e limit group n
  begins_later k n is b = record {
    one = b.one;
    is = ap (λ gs. slice_get gs n) all.2 ∙ ap (λ (x : ℕ). slice_get (all.0 ++ all.1) x) past ∙ get_past all.0 all.1 k ∙ b.is;
    now = b.now;
    after = b.after;
    loggable = subst (λ gs. AreLoggable records e limit gs b.now b.after) (sym (ap (take n) all.2 ∙ ap (λ (x : ℕ). take x (all.0 ++ all.1)) past ∙ take-append-add all.0 all.1 k))
        (loggable_then records all.3 b.now e all.4 b.after limit all.0 (take k all.1) all.5.loggable b.loggable);
    this = b.this;
    first = inr (⊎_elim here (λ crossing. crossing) b.first);
  }
    where
      past : n ≡ length all.0 + k
      past = is ∙ ap (λ (x : ℕ). x + k) all.5.count_is

      here : k ≡ 0 → crosses limit b.after.length (payload_length b.one.0 + 8) ≡ true
      here none =
          let begun : AreLoggable all.3 all.4 limit (take 0 all.1) b.now b.after = subst (λ (x : ℕ). AreLoggable all.3 all.4 limit (take x all.1) b.now b.after) none b.loggable in
          ap (λ (x : Ends). crosses limit x.length (payload_length b.one.0 + 8)) begun.1
          ∙ first_crosses all.3 all.4 limit runs all.1 b.one now after all.7 all.6 (ap (λ (x : ℕ). slice_get all.1 x) (sym none) ∙ b.is)

pub rest_at : (records : List MetaRecord) (e next : Ends) (limit : ℕ) (run : Run) (runs : List Run) (group : List Told) (now : List MetaRecord) (after : Ends) (all : AreRuns records e limit (run ∷ runs) group now after) → next ≡ after_run e run → AreRuns all.3 next limit runs all.1 now after
rest_at records e next limit run runs group now after all next_is = subst (λ (x : Ends). AreRuns all.3 x limit runs all.1 now after) (all.5.after_is ∙ sym next_is) all.7

pub none_after : (records : List MetaRecord) (e : Ends) (limit : ℕ) (group : List Told) (now : List MetaRecord) (after : Ends) → AreRuns records e limit [] group now after → e ≡ after
none_after records e limit group now after all = sym all.2

pub never_none : {X : Type 0} (runs rest : List Run) (run : Run) → runs ≡ run ∷ rest → runs ≡ [] → X
never_none runs rest run is none = absurd (two rest (sym is ∙ none))
  where
    two : (rs : List Run) → run ∷ rs ≡ [] → ⊥
    two rs same = cc
