-- A logger that holds results: one more of them, and all of them written.
use Rattle.std.proofs.Common.{◌≡◌, ℕ, ◌+◌, ◌<◌, ◌≤◌, Bool, true, false, List, [], ◌∷◌, ◌++◌, length, refl, sym, ap, ◌∙◌, subst, append_assoc, arith, length-append}
use Rattle.std.specs.Prelude.{if◌then◌else◌, Option, Result, Ok, Err, OnErr, OnOk, IfErr}
use Rattle.std.proofs.Math.Path.{fun_ext}
use Rattle.std.proofs.lemmas.List.{append-nil}
use Rattle.pcp_base.specs.Time.{Moment}
use Rattle.pcp_base.specs.declared.file.FileId.{FileId}
use Rattle.pcp_base.specs.declared.result.PmResult.{PmResult}
use Rattle.pcp_model.specs.declared.records.MetaRecord.{MetaRecord}
use Rattle.pcp_model.specs.Archive.{ArchiveContents, IsArchive}
use Rattle.pcp_model.specs.Disk.{Files, Holdings}
use Rattle.pcp_model.specs.LabelFields.{LabelFields}
use Rattle.pcp_model.proofs.Lists.{each-append}
use Rattle.archive_meta.specs.declared.facts.Facts.{Facts}
use Rattle.archive_meta.specs.Enough.{AreEnough}
use Rattle.logger_core.specs.declared.ends.Ends.{Ends}
use Rattle.logger_core.specs.declared.fault.LogFault.{LogFault}
use Rattle.logger_core.specs.declared.fault.LogFault.TheVariants.{DiskFault}
use Rattle.logger_core.specs.declared.groups.Group.{Group}
use Rattle.logger_core.specs.declared.groups.Run.{Run}
use Rattle.logger_core.specs.declared.preparing.Made.{Made}
use Rattle.logger_core.specs.Going.{AreSmall, IsReachable}
use Rattle.logger_core.specs.Grouping.{Told, LogsOne, AreLoggable, AreWritten, BeginsRun, samples_of}
use Rattle.logger_core.specs.Held.{AreRuns, AreRunsBounded, IsRunBounded, IsRunOf, RunWritten, after_run, after_runs, counts_of, joined_run, ready_files, run_files, run_of, runs_acknowledged, runs_files, with_made}
use Rattle.logger_core.specs.Holding.{HeldBack, HoldsMore, HoldingNothingIsALogger, IsBatch, IsHeldBy, IsHolding, IsStopped, LoggerHoldsNothing, all_sure, ending_at}
use Rattle.logger_core.specs.Keeps.{Start}
use Rattle.logger_core.specs.Logging.{IsLoggable, IsMadeOf}
use Rattle.logger_core.specs.Meant.{Meant, Kept, AreEnds, IsAt, Stands, items_in}
use Rattle.logger_core.specs.Planning.{ready_ends}
use Rattle.logger_core.proofs.Ahead.{run_ahead}
use Rattle.logger_core.proofs.AllSure.{sure_at, sure_stands}
use Rattle.logger_core.proofs.Grouped.{logs_then, one_loggable, one_run, samples_many, samples_then}
use Rattle.logger_core.proofs.HeldRuns.{count_after, held_runs, longer_after, longer_bounded, run_twice, runs_after, runs_count, small_after}
use Rattle.logger_core.proofs.Planned.{run_bounded}
use Rattle.logger_core.proofs.Refused.{bounded}
use Rattle.logger_core.proofs.Timely.{one_contents}

-- ---- nothing is held

pub holds_nothing : LoggerHoldsNothing
holds_nothing m b held l none planned = record {
  at = l.at;
  label_is = l.label_is;
  runs = subst (λ rs. AreRuns m.contents.records b.kept.ends b.kept.limit rs [] b.kept.records b.planned) (sym none) (refl, sym l.records_are, planned);
  enough = tt;
  all = (refl, ap (λ (x : Ends). x.volume) planned);
  started = refl;
  gone_is = refl;
  label_same = refl;
  records_are = l.records_are;
  items_are = sym (append-nil (items_in m));
  still = omega arith;
  acknowledged_is = subst (λ rs. m.acknowledged ≡ runs_acknowledged rs (length (items_in m)) m.acknowledged) (sym none) refl;
  files_are = λ file. subst (λ rs. m.files file ≡ runs_files m.contents.label b.kept.ends rs m.files file) (sym none) refl;
  stands = subst (λ (x : Ends). Stands m x.volume (all_sure m.files)) (sym planned) (sure_stands m b.kept.ends.volume held l.at.stands);
  ends = subst (AreEnds m) (sym planned) l.at.ends;
}

pub is_a_logger : HoldingNothingIsALogger
is_a_logger m o b held h = (record { at = h.at; label_is = h.label_is; records_are = ap (λ (x : Meant). x.contents.records) (sym h.all.0) ∙ h.records_are }, h.all.0)

-- ---- runs with one result more

module _ (made : Made) (t : Moment) where
  -- their files
  files_more : (l : LabelFields) (e : Ends) (runs : List Run) (files : Files) (file : FileId) → runs_files l e (with_made runs made t) files file ≡ run_files l (after_runs e runs) (run_of made t) (runs_files l e runs files) file
  files_more l e [] files file = refl
  files_more l e (r ∷ []) files file = by made.crossing refl
    where
      by : (b : Bool) → made.crossing ≡ b → runs_files l e (if b then r ∷ run_of made t ∷ [] else joined_run r made t ∷ []) files file ≡ run_files l (after_run e r) (run_of made t) (run_files l e r files) file
      by true is = refl
      by false is =
          sym (run_twice (ready_ends r.crossing e).volume r.records made.records r.items made.item (ready_files l r.crossing e files) file)
          ∙ ap (λ (b : Bool). run_files l (after_run e r) (record { crossing = b; records = made.records; items = made.item; count = 1; stamp = t }) (run_files l e r files) file) (sym is)
  files_more l e (r ∷ s ∷ runs) files file = files_more l (after_run e r) (s ∷ runs) (run_files l e r files) file

  -- what they acknowledge
  acknowledged_more : (runs : List Run) (items acknowledged : ℕ) → runs_acknowledged (with_made runs made t) items acknowledged ≡ (if made.crossing then items + counts_of runs else runs_acknowledged runs items acknowledged)
  acknowledged_more [] items acknowledged =
      let none : items ≡ items + 0 = omega arith in
      ap (λ (n : ℕ). if made.crossing then n else acknowledged) none
  acknowledged_more (r ∷ []) items acknowledged = by made.crossing refl
    where
      by : (b : Bool) → made.crossing ≡ b → runs_acknowledged (if b then r ∷ run_of made t ∷ [] else joined_run r made t ∷ []) items acknowledged ≡ (if b then items + (r.count + 0) else (if r.crossing then items else acknowledged))
      by true is =
          let all : items + r.count ≡ items + (r.count + 0) = omega arith in
          ap (λ (b : Bool). if b then items + r.count else (if r.crossing then items else acknowledged)) is ∙ all
      by false is = refl
  acknowledged_more (r ∷ s ∷ runs) items acknowledged =
      let all : (items + r.count) + counts_of (s ∷ runs) ≡ items + counts_of (r ∷ s ∷ runs) = omega arith in
      acknowledged_more (s ∷ runs) (items + r.count) (if r.crossing then items else acknowledged)
      ∙ ap (λ (n : ℕ). if made.crossing then n else runs_acknowledged (s ∷ runs) (items + r.count) (if r.crossing then items else acknowledged)) all

module _ (limit : ℕ) (mid : List MetaRecord) (at : Ends) (g : Told) (made : Made) (small : AreSmall at) (is : IsMadeOf mid at limit g.0 g.1 made) (limited : limit ≤ 1073741824) where
  abbrev one : Run
  one = run_of made g.0.stamp

  -- their numbers
  one_bounded : (e : Ends) → at ≡ e → IsRunBounded e one
  one_bounded e same = subst (λ (x : Ends). IsRunBounded x one) same (run_bounded at made g.0.stamp (bounded mid at limit g.0 g.1 made small limited is))

  more_bounded : (e : Ends) (runs : List Run) → AreRunsBounded e runs → at ≡ after_runs e runs → AreRunsBounded e (with_made runs made g.0.stamp) × (after_run at one ≡ after_runs e (with_made runs made g.0.stamp))
  more_bounded e [] b same = ((one_bounded e same, tt), ap (λ (x : Ends). after_run x one) same)
  more_bounded e (r ∷ []) b same = by made.crossing refl
    where
      by : (c : Bool) → made.crossing ≡ c
          → AreRunsBounded e (if c then r ∷ one ∷ [] else joined_run r made g.0.stamp ∷ []) × (after_run at one ≡ after_runs e (if c then r ∷ one ∷ [] else joined_run r made g.0.stamp ∷ []))
      by true crosses_is = ((b.0, (one_bounded (after_run e r) same, tt)), ap (λ (x : Ends). after_run x one) same)
      by false stays = ((longer_bounded e limit r mid at g made same b.0 small is stays limited, tt), longer_after e limit r mid at g made same b.0 small is stays limited)
  more_bounded e (r ∷ s ∷ runs) b same =
      let rest = more_bounded (after_run e r) (s ∷ runs) b.1 same in
      ((b.0, rest.0), rest.1)

-- ---- one result more is held

module _ (old now : Kept) (before after : Group) (answer : PmResult) (facts : Facts) (h : IsHeldBy old now before after answer facts) (reach : IsReachable old.ends old.limit) (some : 0 < length answer.sets) where
  abbrev told : Told
  told = (answer, facts)

  same_ends : now.ends ≡ old.ends
  same_ends = ap (λ (k : Kept). k.ends) h.same

  held_batch : IsBatch old before.runs before.planned → counts_of before.runs < 64 → IsBatch now after.runs after.planned
  held_batch b room =
      let more = more_bounded old.limit old.records before.planned told h.more.made b.small h.more.is reach.limited old.ends before.runs b.bounded b.planned_is in
      let count = count_after before after old.records now.records old.limit told h.more in
      record {
        small = small_after before after old.records now.records old.limit told b.small reach.limited h.more some;
        few = omega (arith, count, room);
        bounded = subst (λ (x : Ends). AreRunsBounded x after.runs) (sym same_ends) (subst (AreRunsBounded old.ends) (sym h.more.runs_are) more.0);
        planned_is = h.more.planned_is ∙ more.1 ∙ ap (after_runs old.ends) (sym h.more.runs_are) ∙ ap (λ (x : Ends). after_runs x after.runs) (sym same_ends);
        some = λ none. absurd (omega (arith, count, none));
      }

  pub held_loggable : AreLoggable old.records before.planned old.limit (told ∷ []) now.records after.planned
  held_loggable = subst (λ (x : Ends). AreLoggable old.records before.planned old.limit (told ∷ []) now.records x) (sym h.more.planned_is) (one_loggable old.records before.planned old.limit told now.records h.more.made h.more.is h.more.added)

  module _ (small : AreSmall before.planned) (m : Meant) (pending : List Told) (o : Meant) (held : Holdings) (enough : AreEnough facts answer.sets) where
    abbrev was : HeldBack
    was = record { kept = old; runs = before.runs; planned = before.planned }

    module _ (p : IsHolding m was pending o held) where
      abbrev made : Made
      made = h.more.made

      abbrev run : Run
      run = run_of made answer.stamp

      run_is : IsRunOf o.contents.records before.planned old.limit run (told ∷ []) now.records after.planned
      run_is = subst (λ rs. IsRunOf rs before.planned old.limit run (told ∷ []) now.records after.planned) (sym p.records_are)
          (subst (λ (x : Ends). IsRunOf old.records before.planned old.limit run (told ∷ []) now.records x) (sym h.more.planned_is)
          (one_run old.records before.planned old.limit told now.records made h.more.is h.more.added some small reach.limited))

      ahead : (new : Holdings) × RunWritten o before.planned after.planned old.limit (run ∷ []) (told ∷ []) now.records new
      ahead = run_ahead o before.planned (all_sure o.files) old.limit run (told ∷ []) now.records after.planned (record { stands = p.stands; ends = p.ends }) small.volume run_is (enough, tt)

      w : RunWritten o before.planned after.planned old.limit (run ∷ []) (told ∷ []) now.records ahead.0
      w = ahead.1

      abbrev next : Meant
      next = w.new

      logged : LogsOne o before.planned.volume old.limit answer facts next after.planned.volume
      logged = subst (λ (n : Meant). LogsOne o before.planned.volume old.limit answer facts n after.planned.volume) (sym w.all.3.0) (subst (λ (k : ℕ). LogsOne o before.planned.volume old.limit answer facts w.all.0 k) (sym w.all.3.1) w.all.2)

      next_files : (file : FileId) → next.files file ≡ runs_files m.contents.label old.ends after.runs m.files file
      next_files file =
          w.files_are file
          ∙ ap (λ (x : LabelFields). run_files x before.planned run o.files file) p.label_same
          ∙ ap (λ (x : Ends). run_files m.contents.label x run o.files file) (runs_after m.contents.records old.ends old.limit before.runs pending old.records before.planned p.runs)
          ∙ ap (λ (f : Files). run_files m.contents.label (after_runs old.ends before.runs) run f file) (fun_ext p.files_are)
          ∙ sym (files_more made answer.stamp m.contents.label old.ends before.runs m.files file)
          ∙ ap (λ rs. runs_files m.contents.label old.ends rs m.files file) (sym h.more.runs_are)

      many : length (items_in o) ≡ length (items_in m) + counts_of before.runs
      many = omega (arith, ap length p.items_are, length-append (items_in m) (samples_of pending), samples_many pending, runs_count m.contents.records old.ends old.limit before.runs pending old.records before.planned p.runs)

      next_acknowledged : next.acknowledged ≡ runs_acknowledged after.runs (length (items_in m)) m.acknowledged
      next_acknowledged =
          w.acknowledged_is
          ∙ ap (λ (n : ℕ). if made.crossing then n else o.acknowledged) many
          ∙ ap (λ (n : ℕ). if made.crossing then length (items_in m) + counts_of before.runs else n) p.acknowledged_is
          ∙ sym (acknowledged_more made answer.stamp before.runs (length (items_in m)) m.acknowledged)
          ∙ ap (λ rs. runs_acknowledged rs (length (items_in m)) m.acknowledged) (sym h.more.runs_are)

      abbrev grown : Kept
      grown = record { label = old.label; records = now.records; ends = old.ends; limit = old.limit; closed = old.closed }

      sure : IsAt next after.planned (all_sure next.files)
      sure = sure_at next after.planned ahead.0 w.at

      is_held : IsHolding m (record { kept = grown; runs = after.runs; planned = after.planned }) (pending ++ told ∷ []) next held
      is_held = record {
        at = p.at;
        label_is = p.label_is;
        runs = held_runs m.contents.records old.ends old.limit pending old.records now.records before after told reach.small p.runs h.more some reach.limited;
        enough = each-append (λ (x : Told). AreEnough x.1 x.0.sets) pending (told ∷ []) p.enough (enough, tt);
        all = logs_then m o next old.ends.volume before.planned.volume after.planned.volume old.limit pending (told ∷ []) p.all w.all;
        started = w.started ∙ p.started;
        gone_is = w.gone_is ∙ p.gone_is;
        label_same = w.label_same ∙ p.label_same;
        records_are = w.records_are;
        items_are = w.items_are ∙ ap (λ xs. xs ++ samples_of (told ∷ [])) p.items_are ∙ append_assoc (items_in m) (samples_of pending) (samples_of (told ∷ [])) ∙ ap (λ xs. items_in m ++ xs) (sym (samples_then pending (told ∷ [])));
        still = omega (arith, p.still, w.still);
        acknowledged_is = next_acknowledged;
        files_are = next_files;
        stands = sure.stands;
        ends = sure.ends;
      }

      holds_one : HoldsMore m was (record { kept = now; runs = after.runs; planned = after.planned }) pending answer facts o held
      holds_one = subst (λ (k : Kept). HoldsMore m was (record { kept = k; runs = after.runs; planned = after.planned }) pending answer facts o held) (sym h.same) (record { next = next; one = logged; is = is_held })

-- ---- as `hold` answers

module _ {E : Type 0} (r : Result (Unit {0}) E) (b : HeldBack) (now : Kept) (after : Group) (answer : PmResult) (facts : Facts) (reach : IsReachable b.kept.ends b.kept.limit) (some : 0 < length answer.sets) (is : IsBatch b.kept b.runs b.planned) where
  abbrev before : Group
  before = record { runs = b.runs; planned = b.planned }

  abbrev then_ : HeldBack
  then_ = record { kept = now; runs = after.runs; planned = after.planned }

  pub stays_batch : counts_of b.runs < 64 → OnOk r (IsHeldBy b.kept now before after answer facts) → OnErr r ((now ≡ b.kept) × (after ≡ before)) → IsBatch now after.runs after.planned
  stays_batch room h same = by r h same
    where
      by : (x : Result (Unit {0}) E) → OnOk x (IsHeldBy b.kept now before after answer facts) → OnErr x ((now ≡ b.kept) × (after ≡ before)) → IsBatch now after.runs after.planned
      by (Ok v) k same = held_batch b.kept now before after answer facts k reach some is room
      by (Err e) k same = subst (λ (g : Group). IsBatch now g.runs g.planned) (sym same.1) (subst (λ (x : Kept). IsBatch x b.runs b.planned) (sym same.0) is)

  pub holds_more : OnOk r (IsHeldBy b.kept now before after answer facts) → (m : Meant) (pending : List Told) (o : Meant) (held : Holdings) → IsHolding m b pending o held → AreEnough facts answer.sets → OnOk r (HoldsMore m b then_ pending answer facts o held)
  holds_more h m pending o held p enough = by r h
    where
      by : (x : Result (Unit {0}) E) → OnOk x (IsHeldBy b.kept now before after answer facts) → OnOk x (HoldsMore m b then_ pending answer facts o held)
      by (Ok v) k = holds_one b.kept now before after answer facts k reach some is.small m pending o held enough p
      by (Err e) k = tt

  pub holds_planned : OnOk r (IsHeldBy b.kept now before after answer facts) → OnOk r (AreLoggable b.kept.records b.planned b.kept.limit ((answer, facts) ∷ []) now.records after.planned)
  holds_planned h = by r h
    where
      by : (x : Result (Unit {0}) E) → OnOk x (IsHeldBy b.kept now before after answer facts) → OnOk x (AreLoggable b.kept.records b.planned b.kept.limit ((answer, facts) ∷ []) now.records after.planned)
      by (Ok v) k = held_loggable b.kept now before after answer facts k reach some
      by (Err e) k = tt

  pub holds_loggable : OnOk r (IsHeldBy b.kept now before after answer facts) → OnOk r ((b.kept.closed ≡ false) × IsLoggable b.kept.records b.planned b.kept.limit answer facts)
  holds_loggable h = by r h
    where
      by : (x : Result (Unit {0}) E) → OnOk x (IsHeldBy b.kept now before after answer facts) → OnOk x ((b.kept.closed ≡ false) × IsLoggable b.kept.records b.planned b.kept.limit answer facts)
      by (Ok v) k = (k.open_, (held_loggable b.kept now before after answer facts k reach some).0)
      by (Err e) k = tt

  pub holds_counted : OnOk r (IsHeldBy b.kept now before after answer facts)
      → OnOk r ((counts_of after.runs ≡ counts_of b.runs + 1) × (now.ends ≡ b.kept.ends) × (now.label ≡ b.kept.label) × (now.limit ≡ b.kept.limit) × (now.closed ≡ false))
  holds_counted h = by r h
    where
      by : (x : Result (Unit {0}) E) → OnOk x (IsHeldBy b.kept now before after answer facts)
          → OnOk x ((counts_of after.runs ≡ counts_of b.runs + 1) × (now.ends ≡ b.kept.ends) × (now.label ≡ b.kept.label) × (now.limit ≡ b.kept.limit) × (now.closed ≡ false))
      by (Ok v) k = (
        count_after before after b.kept.records now.records b.kept.limit (answer, facts) k.more,
        ap (λ (x : Kept). x.ends) k.same,
        ap (λ (x : Kept). x.label) k.same,
        ap (λ (x : Kept). x.limit) k.same,
        ap (λ (x : Kept). x.closed) k.same ∙ k.open_,
      )
      by (Err e) k = tt

-- ---- all is written

abbrev meant : Start → Files → ArchiveContents → ℕ → ℕ → Option Moment → Meant
meant start files contents acknowledged gone greatest = record { start = start; files = files; contents = contents; acknowledged = acknowledged; gone = gone; greatest = greatest }

meant_is : (a b : Meant) → a.start ≡ b.start → a.files ≡ b.files → a.contents ≡ b.contents → a.acknowledged ≡ b.acknowledged → a.gone ≡ b.gone → a.greatest ≡ b.greatest → a ≡ b
meant_is a b start files contents acknowledged gone greatest =
    ap (λ (x : Start). meant x a.files a.contents a.acknowledged a.gone a.greatest) start
    ∙ ap (λ (x : Files). meant b.start x a.contents a.acknowledged a.gone a.greatest) files
    ∙ ap (λ (x : ArchiveContents). meant b.start b.files x a.acknowledged a.gone a.greatest) contents
    ∙ ap (λ (x : ℕ). meant b.start b.files b.contents x a.gone a.greatest) acknowledged
    ∙ ap (λ (x : ℕ). meant b.start b.files b.contents b.acknowledged x a.greatest) gone
    ∙ ap (λ (x : Option Moment). meant b.start b.files b.contents b.acknowledged b.gone x) greatest

module _ (m : Meant) (b : HeldBack) (pending : List Told) (o : Meant) (held new : Holdings) (h : IsHolding m b pending o held) (next : Ends) (next_is : next ≡ b.planned) (w : RunWritten m b.kept.ends next b.kept.limit b.runs pending b.kept.records new) where
  same_files : w.new.files ≡ o.files
  same_files = fun_ext (λ (file : FileId). w.files_are file ∙ sym (h.files_are file))

  -- what was meant to be is there
  is_there : w.new ≡ o
  is_there =
      meant_is w.new o (w.started ∙ sym h.started) same_files
      (one_contents o.files w.new.contents o.contents (subst (λ (f : Files). IsArchive f w.new.contents) same_files w.at.stands.keeps.is) h.stands.keeps.is)
      (w.acknowledged_is ∙ sym h.acknowledged_is) (w.gone_is ∙ sym h.gone_is) (sym w.at.ends.greatest ∙ ap (λ (x : Ends). x.greatest) next_is ∙ h.ends.greatest)

  there_at : IsAt o b.planned new
  there_at = subst (λ (x : Meant). IsAt x b.planned new) is_there (subst (λ (x : Ends). IsAt w.new x new) next_is w.at)

  pub holds_none : IsHolding o (record { kept = ending_at b.planned b.kept; runs = []; planned = b.planned }) [] o new
  holds_none =
      holds_nothing o (record { kept = ending_at b.planned b.kept; runs = []; planned = b.planned }) new
      record { at = there_at; label_is = h.label_same ∙ h.label_is; records_are = h.records_are } refl refl

-- ---- as `write` answers

pub all_there : {E : Type 0} (r : Result (Unit {0}) E) (b : HeldBack) (now : Kept) (after : Group) (m : Meant) (pending : List Told) (o : Meant) (held new : Holdings) → IsHolding m b pending o held → b.planned ≡ after_runs b.kept.ends b.runs
    → OnOk r ((b.kept.closed ≡ false) × (now ≡ ending_at (after_runs b.kept.ends b.runs) b.kept) × (after ≡ record { runs = []; planned = b.planned })) → OnOk r (RunWritten m b.kept.ends now.ends b.kept.limit b.runs pending b.kept.records new)
    → OnOk r (IsHolding o (record { kept = now; runs = after.runs; planned = after.planned }) [] o new)
all_there (Ok v) b now after m pending o held new h planned is w =
    let there : now ≡ ending_at b.planned b.kept = is.1 ∙ ap (λ (x : Ends). ending_at x b.kept) (sym planned) in
    subst (λ (g : Group). IsHolding o (record { kept = now; runs = g.runs; planned = g.planned }) [] o new) (sym is.2)
    (subst (λ (k : Kept). IsHolding o (record { kept = k; runs = []; planned = b.planned }) [] o new) (sym there) (holds_none m b pending o held new h now.ends (ap (λ (k : Kept). k.ends) there) w))
all_there (Err e) b now after m pending o held new h planned is w = tt

pub is_stopped : (r : Result (Unit {0}) (ℕ × LogFault)) (b : HeldBack) (m : Meant) (pending : List Told) (new : Holdings) → IfErr r (λ e. e.1 ≡ DiskFault → AreWritten m b.kept.ends.volume b.kept.limit pending e.0 new)
    → IfErr r (λ e. e.1 ≡ DiskFault → BeginsRun m.contents.records b.kept.ends b.kept.limit pending e.0) → IfErr r (λ e. e.1 ≡ DiskFault → IsStopped m b pending new e.0)
is_stopped (Ok v) b m pending new written begins = tt
is_stopped (Err e) b m pending new written begins = λ fault. record { written = written fault; begins = begins fault }
