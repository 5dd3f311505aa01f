-- What a logger keeps of a group that was judged and written.
use Rattle.std.proofs.Common.{zero, suc, ◌≡◌, ℕ, ◌<◌, ◌≤◌, true, false, List, [], ◌∷◌, ◌++◌, length, take, drop, Option, None, Some, refl, sym, ap, ◌∙◌, subst, append_assoc, arith}
use Rattle.std.specs.Prelude.{◌≢◌, slice_get, Result, Ok, Err, IfErr, OnOk}
use Rattle.std.specs.Result.{IsErrAnd}
use Rattle.std.proofs.lemmas.List.{drop-append-le, length-take, take-append-drop}
use Rattle.std.proofs.lemmas.Result.{err_from_is_err_and}
use Rattle.pcp_base.specs.declared.result.PmResult.{PmResult}
use Rattle.pcp_model.specs.declared.records.MetaRecord.{MetaRecord}
use Rattle.pcp_model.specs.Disk.{Files, Holdings}
use Rattle.archive_meta.specs.declared.facts.Facts.{Facts}
use Rattle.pcp_outside.specs.Causes.{Rose}
use Rattle.logger_core.specs.declared.ends.Ends.{Ends}
use Rattle.logger_core.specs.declared.fault.LogFault.{LogFault}
use Rattle.logger_core.specs.declared.fault.LogFault.TheVariants.{Closed, Live, Large, NotLater, Changed, Full, NoMemory, DiskFault}
use Rattle.logger_core.specs.declared.groups.Group.{Group}
use Rattle.logger_core.specs.declared.groups.Judged.{Judged}
use Rattle.logger_core.specs.declared.groups.Run.{Run}
use Rattle.logger_core.specs.Grouping.{Told, LogsAll, LogsOne, AreLogged, AreLoggable, AreWritten, AreAllEnough, BeginsRun, GroupMayAnswer, IsRefusedAt, LeavesFirst, samples_of}
use Rattle.logger_core.specs.Held.{AreHeldBefore, AreRuns, AreRunsBounded, AreSettled, IsJudgedBy, IsRefusedAfter, IsSettledSo, JudgeMayAnswer, RunWritten, counts_of, held_of}
use Rattle.logger_core.specs.Logging.{IsLogged}
use Rattle.logger_core.specs.Meant.{Meant, Kept, IsAt, IsLogger, items_in}
use Rattle.logger_core.specs.Runs.{SurvivesWith}
use Rattle.logger_core.proofs.Grouped.{samples_then}
use Rattle.logger_core.proofs.HeldRuns.{runs_bounded, runs_count, runs_loggable}
use Rattle.logger_core.proofs.Rests.{survives_with, survives_same}

-- ---- what was judged

pub settled_runs : (records : List MetaRecord) (e : Ends) (limit : ℕ) (all : List Told) (now : List MetaRecord) (group : Group) (refused : Option (ℕ × LogFault)) → AreSettled records e limit all now group refused
    → AreRuns records e limit group.runs (held_of refused all) now group.planned
settled_runs records e limit all now group None h = h
settled_runs records e limit all now group (Some (k, Closed)) h = absurd h
settled_runs records e limit all now group (Some (k, Live volume)) h = absurd h
settled_runs records e limit all now group (Some (k, Large bytes)) h = h.runs
settled_runs records e limit all now group (Some (k, NotLater last)) h = h.runs
settled_runs records e limit all now group (Some (k, Changed pmid)) h = h.runs
settled_runs records e limit all now group (Some (k, Full file bytes)) h = h.runs
settled_runs records e limit all now group (Some (k, NoMemory)) h = absurd h
settled_runs records e limit all now group (Some (k, DiskFault)) h = absurd h

held_few : (refused : Option (ℕ × LogFault)) (all : List Told) → length (held_of refused all) ≤ length all
held_few None all = omega arith
held_few (Some r) all = omega (arith, length-take r.0 all)

pub held_survives : (m : Meant) (refused : Option (ℕ × LogFault)) (all : List Told) (image : Files) → SurvivesWith m (samples_of (held_of refused all)) image → SurvivesWith m (samples_of all) image
held_survives m None all image w = w
held_survives m (Some r) all image w =
    let parts : samples_of (take r.0 all) ++ samples_of (drop r.0 all) ≡ samples_of all = sym (samples_then (take r.0 all) (drop r.0 all)) ∙ ap samples_of (take-append-drop r.0 all) in
    survives_same m.start ((items_in m ++ samples_of (take r.0 all)) ++ samples_of (drop r.0 all)) (items_in m ++ samples_of all) m.acknowledged m.acknowledged image
    (append_assoc (items_in m) (samples_of (take r.0 all)) (samples_of (drop r.0 all)) ∙ ap (λ xs. items_in m ++ xs) parts)
    (survives_with m.start (items_in m ++ samples_of (take r.0 all)) (samples_of (drop r.0 all)) m.acknowledged m.acknowledged image w (omega arith)) (omega arith)

-- the facts of the first so many are enough, where those of all are
first_enough : (k : ℕ) (all : List Told) → AreAllEnough all → AreAllEnough (take k all)
first_enough zero all enough = tt
first_enough (suc k) [] enough = tt
first_enough (suc k) (g ∷ all) enough = (enough.0, first_enough k all enough.1)

pub held_enough : (refused : Option (ℕ × LogFault)) (all : List Told) → AreAllEnough all → AreAllEnough (held_of refused all)
held_enough None all enough = enough
held_enough (Some r) all enough = first_enough r.0 all enough

-- ---- where the disk failed

-- what stands among the first so many stands among all
in_front : (j k : ℕ) (all : List Told) (g : Told) → slice_get (take j all) k ≡ Some g → (slice_get all k ≡ Some g) × (take k (take j all) ≡ take k all)
in_front zero k all g is = absurd (none k is)
  where
    none : (i : ℕ) → slice_get {X = Told} [] i ≡ Some g → ⊥
    none zero some = cc
    none (suc i) some = cc
in_front (suc j) k [] g is = (is, refl)
in_front (suc j) zero (x ∷ all) g is = (is, refl)
in_front (suc j) (suc k) (x ∷ all) g is = let rest = in_front j k all g is in (rest.0, ap (λ xs. x ∷ xs) rest.1)

pub begins_held : (records : List MetaRecord) (e : Ends) (limit : ℕ) (refused : Option (ℕ × LogFault)) (all : List Told) (k : ℕ) → BeginsRun records e limit (held_of refused all) k → BeginsRun records e limit all k
begins_held records e limit None all k b = b
begins_held records e limit (Some r) all k b =
    let front = in_front r.0 k all b.one b.is in
    record { one = b.one; is = front.0; now = b.now; after = b.after; loggable = subst (λ gs. AreLoggable records e limit gs b.now b.after) front.1 b.loggable; this = b.this; first = b.first }

got_low : (xs : List Told) (k : ℕ) (g : Told) → slice_get xs k ≡ Some g → k ≤ length xs
got_low [] k g is = absurd (none k is)
  where
    none : (i : ℕ) → slice_get {X = Told} [] i ≡ Some g → ⊥
    none zero some = cc
    none (suc i) some = cc
got_low (x ∷ xs) zero g is = omega arith
got_low (x ∷ xs) (suc k) g is = omega (arith, got_low xs k g is)

pub written_held : (m : Meant) (number limit : ℕ) (records : List MetaRecord) (e : Ends) (bound : ℕ) (refused : Option (ℕ × LogFault)) (all : List Told) (k : ℕ) (held : Holdings) → BeginsRun records e bound (held_of refused all) k → AreWritten m number limit (held_of refused all) k held
    → AreWritten m number limit all k held
written_held m number limit records e bound None all k held b w = w
written_held m number limit records e bound (Some r) all k held b w = record {
  new = w.new;
  next = w.next;
  all = subst (λ gs. LogsAll m number limit gs w.new w.next) (in_front r.0 k all b.one b.is).1 w.all;
  stand = w.stand;
  run = w.run;
  others = w.others ++ drop r.0 all;
  behind = ap (drop k) (sym (take-append-drop r.0 all)) ∙ drop-append-le k (take r.0 all) (drop r.0 all) (got_low (take r.0 all) k b.one b.is) ∙ ap (λ gs. gs ++ drop r.0 all) w.behind ∙ append_assoc w.run w.others (drop r.0 all);
  after = w.after;
  would = w.would;
  most = w.most;
}

-- ---- runs of nothing

some_first : (xs ys : List Told) (g : Told) → slice_get xs 0 ≡ Some g → xs ++ ys ≡ [] → ⊥
some_first [] ys g is none = cc
some_first (x ∷ xs) ys g is none = cc

pub no_runs : (records : List MetaRecord) (e : Ends) (limit : ℕ) (runs : List Run) (group : List Told) (now : List MetaRecord) (after : Ends) → AreRuns records e limit runs group now after → group ≡ [] → runs ≡ []
no_runs records e limit [] group now after all none = refl
no_runs records e limit (r ∷ runs) group now after all none = absurd (some_first all.0 all.1 all.5.first all.5.is (sym all.2 ∙ none))

-- ---- results

pub ok_when : {E : Type 0} (r : Result (Unit {0}) E) (P Q : Type 0) → OnOk r P → (P → Q) → OnOk r Q
ok_when (Ok v) P Q p f = f p
ok_when (Err e) P Q p f = tt

pub err_when : {E : Type 0} (r : Result (Unit {0}) E) (P Q : E → Type 0) → IfErr r P → ((e : E) → P e → Q e) → IfErr r Q
err_when (Ok v) P Q p f = tt
err_when (Err e) P Q p f = f e p

pub ok_always : {E : Type 0} (r : Result (Unit {0}) E) (P : Type 0) → P → OnOk r P
ok_always (Ok v) P p = p
ok_always (Err e) P p = tt

-- those before a refused one are logged
leaves_first : (m : Meant) (old new : Kept) (records now : List MetaRecord) (e : Ends) (limit : ℕ) (group : List Told) (g : Group) (held : Holdings) (k : ℕ) (fault : LogFault) → IsSettledSo records e limit group now g k fault → AreLogged m old new (take k group) held
    → LeavesFirst m old new group held k fault
leaves_first m old new records now e limit group g held k Closed h w = absurd h
leaves_first m old new records now e limit group g held k (Live volume) h w = absurd h
leaves_first m old new records now e limit group g held k (Large bytes) h w = w
leaves_first m old new records now e limit group g held k (NotLater last) h w = w
leaves_first m old new records now e limit group g held k (Changed pmid) h w = w
leaves_first m old new records now e limit group g held k (Full file bytes) h w = w
leaves_first m old new records now e limit group g held k NoMemory h w = absurd h
leaves_first m old new records now e limit group g held k DiskFault h w = absurd h

pub refused_leaves : (m : Meant) (old new : Kept) (records now : List MetaRecord) (e : Ends) (limit : ℕ) (group : List Told) (g : Group) (held : Holdings) (refused : Option (ℕ × LogFault)) (r : ℕ × LogFault) → AreSettled records e limit group now g refused → refused ≡ Some r
    → AreLogged m old new (held_of refused group) held → LeavesFirst m old new group held r.0 r.1
refused_leaves m old new records now e limit group g held refused r settled is w =
    leaves_first m old new records now e limit group g held r.0 r.1 (subst (AreSettled records e limit group now g) is settled) (subst (λ o. AreLogged m old new (held_of o group) held) is w)

-- ---- a logger

module _ (old now inside : Kept) (group : List Told) (j : Judged) (p : IsJudgedBy old now group j) (is : inside ≡ now) where
  abbrev front : List Told
  front = held_of j.refused group

  q : inside ≡ record { label = old.label; records = now.records; ends = old.ends; limit = old.limit; closed = old.closed }
  q = is ∙ p.same

  same_ends : old.ends ≡ inside.ends
  same_ends = ap (λ (k : Kept). k.ends) (sym q)

  old_runs : AreRuns old.records old.ends old.limit j.group.runs front now.records j.group.planned
  old_runs = settled_runs old.records old.ends old.limit group now.records j.group j.refused p.settled

  pub inside_runs : AreRuns old.records inside.ends old.limit j.group.runs front now.records j.group.planned
  inside_runs = subst (λ (x : Ends). AreRuns old.records x old.limit j.group.runs front now.records j.group.planned) same_ends old_runs

  pub inside_bounded : (runs : List Run) → runs ≡ j.group.runs → AreRunsBounded inside.ends runs
  inside_bounded runs same = subst (AreRunsBounded inside.ends) (sym same) (runs_bounded old.records inside.ends old.limit j.group.runs front now.records j.group.planned inside_runs)

  pub inside_few : (runs : List Run) → runs ≡ j.group.runs → length group ≤ 64 → counts_of runs < 4294967296
  inside_few runs same few = omega (arith, ap counts_of same, runs_count old.records old.ends old.limit j.group.runs front now.records j.group.planned old_runs, held_few j.refused group)

  -- the logger once all runs are written
  abbrev ended : Ends → Kept
  ended ends = record { label = old.label; records = now.records; ends = ends; limit = old.limit; closed = old.closed }

  abbrev shown : Ends → Kept
  shown ends = record { label = inside.label; records = inside.records; ends = ends; limit = inside.limit; closed = inside.closed }

  shown_is : (ends : Ends) → shown ends ≡ ended ends
  shown_is ends = ap (λ (k : Kept). record { label = k.label; records = k.records; ends = ends; limit = k.limit; closed = k.closed }) q

  module _ (m : Meant) (held : Holdings) (l : IsLogger m old held) where
    pub inside_at : IsAt m inside.ends held
    inside_at = subst (λ (x : Ends). IsAt m x held) same_ends l.at

    pub inside_label : m.contents.label ≡ inside.label
    inside_label = l.label_is ∙ ap (λ (k : Kept). k.label) (sym q)

    pub meant_runs : (runs : List Run) → runs ≡ j.group.runs → AreRuns m.contents.records inside.ends old.limit runs front now.records j.group.planned
    meant_runs runs same = subst (λ rs. AreRuns m.contents.records inside.ends old.limit rs front now.records j.group.planned) (sym same) (subst (λ rs. AreRuns rs inside.ends old.limit j.group.runs front now.records j.group.planned) (sym l.records_are) inside_runs)

    pub front_logged : {runs : List Run} (ends : Ends) (new : Holdings) → RunWritten m inside.ends ends old.limit runs front now.records new → AreLogged m old (shown ends) front new
    front_logged ends new w = subst (λ (k : Kept). AreLogged m old k front new) (sym (shown_is ends)) record {
      new = w.new;
      all = subst (λ (x : Ends). LogsAll m x.volume old.limit front w.new ends.volume) (sym same_ends) w.all;
      is = record { at = w.at; label_is = w.label_same ∙ l.label_is; records_are = w.records_are };
    }

    pub front_written : (k : ℕ) (new : Holdings) → BeginsRun old.records inside.ends old.limit front k → AreWritten m inside.ends.volume old.limit front k new → AreWritten m old.ends.volume old.limit group k new
    front_written k new b w = written_held m old.ends.volume old.limit old.records inside.ends old.limit j.refused group k new b (subst (λ (x : Ends). AreWritten m x.volume old.limit front k new) (sym same_ends) w)

  pub front_begins : (k : ℕ) → BeginsRun old.records inside.ends old.limit front k → BeginsRun old.records old.ends old.limit group k
  front_begins k b = begins_held old.records old.ends old.limit j.refused group k (subst (λ (x : Ends). BeginsRun old.records x old.limit front k) (sym same_ends) b)

  pub all_loggable : (ends : Ends) → ends ≡ j.group.planned → j.refused ≡ None → (old.closed ≡ false) × AreLoggable old.records old.ends old.limit group (shown ends).records (shown ends).ends
  all_loggable ends planned none =
      let all : AreLoggable old.records old.ends old.limit front now.records j.group.planned = runs_loggable old.records old.ends old.limit j.group.runs front now.records j.group.planned old_runs in
      let whole : AreLoggable old.records old.ends old.limit group now.records j.group.planned = subst (λ r. AreLoggable old.records old.ends old.limit (held_of r group) now.records j.group.planned) none all in
      (p.open_, subst (λ rs. AreLoggable old.records old.ends old.limit group rs ends) (ap (λ (k : Kept). k.records) (sym q)) (subst (λ (x : Ends). AreLoggable old.records old.ends old.limit group now.records x) (sym planned) whole))

  refused_at : (ends : Ends) (before after k : ℕ) (fault : LogFault) → ends ≡ j.group.planned → after ≡ before → AreHeldBefore old.records old.ends old.limit [] group now.records j.group k fault → IsRefusedAt old (shown ends) group before after k fault
  refused_at ends before after k fault planned quiet h = subst (λ (x : Kept). IsRefusedAt old x group before after k fault) (sym (shown_is ends)) (subst (λ (x : Ends). IsRefusedAt old (ended x) group before after k fault) (sym planned) record {
    open_ = p.open_;
    one = h.refusal.one;
    is = h.refusal.is;
    loggable = runs_loggable old.records old.ends old.limit j.group.runs (take k group) now.records j.group.planned h.runs;
    refused = h.refusal.refused;
    same = ap (λ c. record { label = old.label; records = now.records; ends = j.group.planned; limit = old.limit; closed = c }) p.open_;
    quiet = quiet;
  })

  pub refused_answer : (ends : Ends) (before after : ℕ) → ends ≡ j.group.planned → after ≡ before → (k : ℕ) (fault : LogFault) → IsSettledSo old.records old.ends old.limit group now.records j.group k fault → GroupMayAnswer old (shown ends) group before after k fault
  refused_answer ends before after planned quiet k Closed h = absurd h
  refused_answer ends before after planned quiet k (Live volume) h = absurd h
  refused_answer ends before after planned quiet k (Large bytes) h = refused_at ends before after k (Large bytes) planned quiet h
  refused_answer ends before after planned quiet k (NotLater last) h = refused_at ends before after k (NotLater last) planned quiet h
  refused_answer ends before after planned quiet k (Changed pmid) h = refused_at ends before after k (Changed pmid) planned quiet h
  refused_answer ends before after planned quiet k (Full file bytes) h = refused_at ends before after k (Full file bytes) planned quiet h
  refused_answer ends before after planned quiet k NoMemory h = absurd h
  refused_answer ends before after planned quiet k DiskFault h = absurd h

  pub given_runs : (runs : List Run) → runs ≡ j.group.runs → AreRuns old.records inside.ends old.limit runs front now.records j.group.planned
  given_runs runs same = subst (λ rs. AreRuns old.records inside.ends old.limit rs front now.records j.group.planned) (sym same) inside_runs

  -- ---- as the call answers

  module _ (r : Result (Unit {0}) (ℕ × LogFault)) (ends : Ends) (none : OnOk r (j.refused ≡ None)) (some : IfErr r (λ e. j.refused ≡ Some e)) where
    pub answers_loggable : ends ≡ j.group.planned → OnOk r ((old.closed ≡ false) × AreLoggable old.records old.ends old.limit group (shown ends).records (shown ends).ends)
    answers_loggable planned = ok_when r (j.refused ≡ None) ((old.closed ≡ false) × AreLoggable old.records old.ends old.limit group (shown ends).records (shown ends).ends) none (all_loggable ends planned)

    pub answers_open : OnOk r (((shown ends).limit ≡ old.limit) × ((shown ends).closed ≡ false))
    answers_open = ok_always r (((shown ends).limit ≡ old.limit) × ((shown ends).closed ≡ false)) (ap (λ (k : Kept). k.limit) q, ap (λ (k : Kept). k.closed) q ∙ p.open_)

    pub answers_fault : (before after : ℕ) → ends ≡ j.group.planned → after ≡ before → IfErr r (λ e. GroupMayAnswer old (shown ends) group before after e.0 e.1)
    answers_fault before after planned quiet = err_when r (λ e. j.refused ≡ Some e) (λ e. GroupMayAnswer old (shown ends) group before after e.0 e.1) some
        (λ e given. refused_answer ends before after planned quiet e.0 e.1 (subst (AreSettled old.records old.ends old.limit group now.records j.group) given p.settled))

    pub answers_touched : {D : Type 0} (runs : List Run) (before after : D) → runs ≡ j.group.runs → (runs ≡ [] → after ≡ before) → IfErr r (λ e. e.0 ≡ 0 → e.1 ≢ DiskFault → after ≡ before)
    answers_touched runs before after same nothing = err_when r (λ e. j.refused ≡ Some e) (λ e. e.0 ≡ 0 → e.1 ≢ DiskFault → after ≡ before) some
        (λ e given first other. nothing (no_runs old.records inside.ends old.limit runs front now.records j.group.planned (given_runs runs same) (ap (λ o. held_of o group) given ∙ ap (λ (k : ℕ). take k group) first)))

    -- a crash leaves none of a refused one
    pub answers_refused : (Leaves : List Told → Type 0) → Leaves front → IfErr r (λ e. e.1 ≢ DiskFault → Leaves (take e.0 group))
    answers_refused Leaves run = err_when r (λ e. j.refused ≡ Some e) (λ e. e.1 ≢ DiskFault → Leaves (take e.0 group)) some (λ e given other. subst (λ o. Leaves (held_of o group)) given run)

    module _ (m : Meant) (held new : Holdings) (l : IsLogger m old held) {runs : List Run} (w : RunWritten m inside.ends ends old.limit runs front now.records new) where
      pub answers_done : OnOk r (AreLogged m old (shown ends) group new)
      answers_done = ok_when r (j.refused ≡ None) (AreLogged m old (shown ends) group new) none (λ given. subst (λ o. AreLogged m old (shown ends) (held_of o group) new) given (front_logged m held l ends new w))

      pub answers_first : IfErr r (λ e. LeavesFirst m old (shown ends) group new e.0 e.1)
      answers_first = err_when r (λ e. j.refused ≡ Some e) (λ e. LeavesFirst m old (shown ends) group new e.0 e.1) some
          (λ e given. refused_leaves m old (shown ends) old.records now.records old.ends old.limit group j.group new j.refused e p.settled given (front_logged m held l ends new w))

  pub disk_answer : (before after k : ℕ) → Rose before after → BeginsRun old.records inside.ends old.limit front k
      → GroupMayAnswer old (record { label = inside.label; records = inside.records; ends = inside.ends; limit = inside.limit; closed = true }) group before after k DiskFault
  disk_answer before after k rose b = (p.open_, ap (λ (x : Kept). record { label = x.label; records = inside.records; ends = x.ends; limit = x.limit; closed = true }) q, rose, front_begins k b)

-- ---- what was refused before the first write

pub judge_answer : (old now : Kept) (group : List Told) (before k : ℕ) (fault : LogFault) → JudgeMayAnswer old now k fault → GroupMayAnswer old now group before before k fault
judge_answer old now group before k Closed h = h
judge_answer old now group before k (Live volume) h = absurd h
judge_answer old now group before k (Large bytes) h = absurd h
judge_answer old now group before k (NotLater last) h = absurd h
judge_answer old now group before k (Changed pmid) h = absurd h
judge_answer old now group before k (Full file bytes) h = absurd h
judge_answer old now group before k NoMemory h = h
judge_answer old now group before k DiskFault h = absurd h

pub judge_leaves : (m : Meant) (old now : Kept) (group : List Told) (held : Holdings) (k : ℕ) (fault : LogFault) → IsLogger m old held → JudgeMayAnswer old now k fault → LeavesFirst m old now group held k fault
judge_leaves m old now group held k Closed l h = tt
judge_leaves m old now group held k (Live volume) l h = absurd h
judge_leaves m old now group held k (Large bytes) l h = absurd h
judge_leaves m old now group held k (NotLater last) l h = absurd h
judge_leaves m old now group held k (Changed pmid) l h = absurd h
judge_leaves m old now group held k (Full file bytes) l h = absurd h
judge_leaves m old now group held k NoMemory l h = subst (λ (x : Kept). IsLogger m x held) (sym h.2) l
judge_leaves m old now group held k DiskFault l h = absurd h

-- ---- a group of one

pub one_is_logged : (m : Meant) (old now : Kept) (answer : PmResult) (facts : Facts) (held : Holdings) → AreLogged m old now ((answer, facts) ∷ []) held → IsLogged m old now answer facts held
one_is_logged m old now answer facts held a =
    let one : LogsOne m old.ends.volume old.limit answer facts a.new a.all.1 = subst (λ (n : Meant). LogsOne m old.ends.volume old.limit answer facts n a.all.1) (sym a.all.3.0) a.all.2 in
    record { new = a.new; started = one.started; gone_is = one.gone_is; greatest_is = one.greatest_is; step = one.step; said = one.longer.records; items_are = one.longer.items; still = one.still; acknowledged_is = one.acknowledged_is; is = a.is }

-- ---- what was judged, as a logger keeps it

settled_of : (records : List MetaRecord) (e : Ends) (limit : ℕ) (all : List Told) (now : List MetaRecord) (group : Group) (k : ℕ) (fault : LogFault) → fault ≢ NoMemory → IsRefusedAfter records e limit [] all now group k fault → IsSettledSo records e limit all now group k fault
settled_of records e limit all now group k Closed other h = h
settled_of records e limit all now group k (Live volume) other h = h
settled_of records e limit all now group k (Large bytes) other h = h
settled_of records e limit all now group k (NotLater last) other h = h
settled_of records e limit all now group k (Changed pmid) other h = h
settled_of records e limit all now group k (Full file bytes) other h = h
settled_of records e limit all now group k NoMemory other h = other refl
settled_of records e limit all now group k DiskFault other h = h

module _ (old inside : Kept) (is : inside ≡ old) (all : List Told) (now : List MetaRecord) (group : Group) (open_ : inside.closed ≡ false) where
  abbrev knowing : Kept
  knowing = record { label = inside.label; records = now; ends = inside.ends; limit = inside.limit; closed = inside.closed }

  pub judged_all : AreRuns inside.records inside.ends inside.limit group.runs all now group.planned → IsJudgedBy old knowing all (record { group = group; refused = None })
  judged_all runs = subst (λ (x : Kept). IsJudgedBy x knowing all (record { group = group; refused = None })) is record { open_ = open_; settled = runs; same = refl }

  pub judged_some : (r : ℕ × LogFault) → r.1 ≢ NoMemory → IsRefusedAfter inside.records inside.ends inside.limit [] all now group r.0 r.1 → IsJudgedBy old knowing all (record { group = group; refused = Some r })
  judged_some r other h = subst (λ (x : Kept). IsJudgedBy x knowing all (record { group = group; refused = Some r })) is
      record { open_ = open_; settled = settled_of inside.records inside.ends inside.limit all now group r.0 r.1 other h; same = refl }

  -- memory ran out: the metadata are cut back
  pub judged_none : (r : ℕ × LogFault) (count : ℕ) (cut : List MetaRecord) → r.1 ≡ NoMemory → count ≡ length inside.records → cut ≡ take count now → IsRefusedAfter inside.records inside.ends inside.limit [] all now group r.0 r.1
      → JudgeMayAnswer old (record { label = inside.label; records = cut; ends = inside.ends; limit = inside.limit; closed = inside.closed }) 0 NoMemory
  judged_none r count cut memory counted cut_is h =
      let front : take (length inside.records) now ≡ inside.records = subst (λ (f : LogFault). IsRefusedAfter inside.records inside.ends inside.limit [] all now group r.0 f) memory h in
      let back : cut ≡ inside.records = cut_is ∙ ap (λ (k : ℕ). take k now) counted ∙ front in
      (refl, sym (ap (λ (x : Kept). x.closed) is) ∙ open_, ap (λ rs. record { label = inside.label; records = rs; ends = inside.ends; limit = inside.limit; closed = inside.closed }) back ∙ is)

pub answer_on : {T : Type 0} (r : Result T (ℕ × LogFault)) (e : ℕ × LogFault) (P : ℕ × LogFault → Type 0) → IsErrAnd r (λ y. y ≡ e) → P e → IfErr r P
answer_on r e P was h = let p = err_from_is_err_and r was in subst (λ x. IfErr x P) (sym p.1) (subst P (sym p.2) h)

-- nothing is held at first
pub none_held : (records : List MetaRecord) (e : Ends) (limit : ℕ) (runs : List Run) → runs ≡ [] → AreRuns records e limit runs [] records e
none_held records e limit runs none = subst (λ rs. AreRuns records e limit rs [] records e) (sym none) (refl, refl, refl)

pub always_open : {X : Type 0} (old : Kept) → old.closed ≡ false → old.closed ≡ true → X
always_open old open_ closed = absurd (clash (sym open_ ∙ closed))
  where
    clash : false ≡ true → ⊥
    clash same = cc
