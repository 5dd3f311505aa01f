-- Runs of results, one behind another, with one result more.
use Rattle.std.proofs.Common.{suc, ◌≡◌, ℕ, ◌+◌, ◌<◌, ◌≤◌, Bool, true, false, List, [], ◌∷◌, ◌++◌, length, refl, sym, ap, ◌∙◌, subst, append_assoc, arith, length-append}
use Rattle.std.specs.Prelude.{if◌then◌else◌, slice_get, take, Some}
use Rattle.std.proofs.Math.Seq.{take-append_seam}
use Rattle.std.specs.List.{AllByRecursion}
use Rattle.std.proofs.lemmas.List.{append-nil}
use Rattle.pcp_base.specs.Time.{Moment}
use Rattle.pcp_base.specs.declared.file.FileId.{FileId}
use Rattle.pcp_base.specs.declared.file.FileId.TheVariants.{Meta, Index, Volume}
use Rattle.pcp_base.specs.declared.result.Item.TheVariants.{Sample}
use Rattle.pcp_model.specs.declared.records.MetaRecord.{MetaRecord}
use Rattle.pcp_model.specs.Disk.{Files}
use Rattle.pcp_model.specs.Payload.{payload_length}
use Rattle.pcp_model.specs.Written.{same_file}
use Rattle.pcp_model.proofs.Lists.{each-split}
use Rattle.archive_meta.specs.Missing.{framed_records}
use Rattle.archive_meta.specs.Records.{Adds}
use Rattle.archive_meta.specs.Enough.{AreEnough}
use Rattle.logger_core.specs.declared.ends.Ends.{Ends}
use Rattle.logger_core.specs.declared.fault.LogFault.{LogFault}
use Rattle.logger_core.specs.declared.fault.LogFault.TheVariants.{Closed, Live, Large, NotLater, Changed, Full, NoMemory, DiskFault}
use Rattle.logger_core.specs.declared.groups.Group.{Group}
use Rattle.logger_core.specs.declared.groups.Run.{Run}
use Rattle.logger_core.specs.declared.preparing.Made.{Made}
use Rattle.logger_core.specs.Going.{AreSmall}
use Rattle.logger_core.specs.Grouping.{Told, LogsAll, LogsOne, MayBeAsked, AreAllEnough, AreLoggable, samples_of}
use Rattle.logger_core.specs.Held.{IsBase, Grown, MayRun, IsRunOf, IsRunBounded, AreRuns, AreRunsBounded, AllCross, AreHeldBefore, IsHeldMore, IsRefusedAfter, run_of, joined_run, with_made, after_run, after_runs, counts_of}
use Rattle.logger_core.specs.Logging.{IsMadeOf, IsRefused}
use Rattle.logger_core.specs.LogSteps.{crosses, with_run}
use Rattle.logger_core.specs.Meant.{Meant, AreEnds, items_in}
use Rattle.logger_core.specs.Planning.{planned_ends, ran_ends, ready_ends}
use Rattle.logger_core.specs.Runs.{IsRunToCome, IsLastStamp}
use Rattle.logger_core.specs.Writing.{IsBounded, MayBeWritten}
use Rattle.logger_core.proofs.Grouped.{samples_then, samples_many, loggable_then, logs_then, logs_one, one_loggable, may_write, one_small, one_run}
use Rattle.logger_core.proofs.Loggable.{run_of as made_run, last_of as made_last, after_is}
use Rattle.logger_core.proofs.Planned.{ready_meta, ran_twice, grown_ends, behind, behind_grown, base_already}
use Rattle.logger_core.proofs.Pointwise.{twice}
use Rattle.logger_core.proofs.Refused.{bounded}
use Rattle.logger_core.proofs.RunJoined.{run_joined, last_joined}

-- the bytes of two runs, one behind the other
pub run_twice : (number : ℕ) (a b c d : List ℕ) (files : Files) (file : FileId) → with_run number b d (with_run number a c files) file ≡ with_run number (a ++ b) (c ++ d) files file
run_twice number a b c d files Meta = append_assoc (files Meta) a b
run_twice number a b c d files Index = refl
run_twice number a b c d files (Volume k) = twice (same_file (Volume number) (Volume k)) (files (Volume k)) c d

-- ---- one result more in a run

module _ (e : Ends) (limit : ℕ) (run : Run) (mid : List MetaRecord) (at : Ends) (g : Told) (made : Made) (after_is : at ≡ after_run e run) (was : IsRunBounded e run) (small : AreSmall at) (is : IsMadeOf mid at limit g.0 g.1 made) (stays : made.crossing ≡ false) (limited : limit ≤ 1073741824) where
  abbrev one_longer : Run
  one_longer = joined_run run made g.0.stamp

  at_bounded : IsBounded at made
  at_bounded = bounded mid at limit g.0 g.1 made small limited is

  at_meta : at.meta ≡ e.meta + length run.records
  at_meta = ap (λ (x : Ends). x.meta) after_is ∙ ap (λ (k : ℕ). k + length run.records) (ready_meta run.crossing e)

  at_length : at.length ≡ (ready_ends run.crossing e).length + length run.items
  at_length = ap (λ (x : Ends). x.length) after_is

  pub longer_bounded : IsRunBounded e one_longer
  longer_bounded = record {
    some = omega arith;
    next = was.next;
    meta = omega (arith, at_meta, is.place.meta, length-append run.records made.records);
    room = omega (arith, at_length, at_bounded.room stays, length-append run.items made.item);
  }

  -- the ends are those of the longer run
  pub longer_after : after_run at (run_of made g.0.stamp) ≡ after_run e one_longer
  longer_after =
      ap (λ (b : Bool). ran_ends (length made.records) (length made.item) 1 g.0.stamp (ready_ends b at)) stays
      ∙ ap (λ (x : Ends). ran_ends (length made.records) (length made.item) 1 g.0.stamp x) after_is
      ∙ ran_twice (length run.records) (length made.records) (length run.items) (length made.item) run.count 1 run.stamp g.0.stamp (ready_ends run.crossing e)
      ∙ ap (λ (k : ℕ). ran_ends k (length run.items + length made.item) (run.count + 1) g.0.stamp (ready_ends run.crossing e)) (sym (length-append run.records made.records))
      ∙ ap (λ (k : ℕ). ran_ends (length (run.records ++ made.records)) k (run.count + 1) g.0.stamp (ready_ends run.crossing e)) (sym (length-append run.items made.item))

module _ (records : List MetaRecord) (e : Ends) (limit : ℕ) (run : Run) (group : List Told) (mid : List MetaRecord) (at : Ends) (g : Told) (now : List MetaRecord) (made : Made) (r : IsRunOf records e limit run group mid at) (is : IsMadeOf mid at limit g.0 g.1 made)
    (stays : made.crossing ≡ false) (added : Adds mid made.records now) (some : 0 < length g.0.sets) (limited : limit ≤ 1073741824) where
  abbrev start : Ends
  start = ready_ends run.crossing e

  abbrev longer : Run
  longer = joined_run run made g.0.stamp

  still_first : slice_get (group ++ g ∷ []) 0 ≡ Some r.first
  still_first = by group r.is
    where
      by : (gs : List Told) → slice_get gs 0 ≡ Some r.first → slice_get (gs ++ g ∷ []) 0 ≡ Some r.first
      by [] first = absurd cc
      by (x ∷ xs) first = first

  module _ (m n : Meant) (ends : AreEnds m e) (same : m.contents.records ≡ records) (enough : AreAllEnough (group ++ g ∷ [])) (base : IsBase m e run.crossing n) (there : AreEnds n start) where
    both : AreAllEnough group × AreAllEnough (g ∷ [])
    both = each-split (λ (x : Told). AreEnough x.1 x.0.sets) group (g ∷ []) enough

    was : MayRun m n e.volume start.volume limit run group mid
    was = r.may m n ends same both.0 base there

    abbrev v : Meant
    v = behind n was.records (samples_of group) run.stamp start.volume run.records run.items

    v_grown : Grown n was.records (samples_of group) run.stamp (with_run start.volume run.records run.items n.files) v
    v_grown = behind_grown n was.records (samples_of group) run.stamp start.volume run.records run.items

    v_ends : AreEnds v at
    v_ends = subst (AreEnds v) (sym r.after_is) (grown_ends n start was.records (samples_of group) run.records run.items run.stamp run.count v there was.last (samples_many group ∙ sym r.count_is) v_grown)

    w : MayBeWritten v at limit g.0 g.1 now made
    w = may_write mid at limit g now made is added v (sym was.now_is) some both.1

    v_base : IsBase v at made.crossing v
    v_base = subst (λ (b : Bool). IsBase v at b v) (sym stays) (base_already v at)

    samples_are : samples_of (group ++ g ∷ []) ≡ samples_of group ++ Sample g.0 ∷ []
    samples_are = samples_then group (g ∷ [])

    all_come : IsRunToCome n (was.records ++ w.is.metadata.missing) (samples_of group ++ Sample g.0 ∷ []) longer.records longer.items
    all_come = run_joined n v was.records w.is.metadata.missing (samples_of group) (Sample g.0 ∷ []) v_grown.longer.records v_grown.longer.items run.records made.records run.items made.item was.come (made_run v at limit g.0 g.1 now made v_ends w)

    last_stamp : IsLastStamp n (was.records ++ w.is.metadata.missing) (samples_of group ++ Sample g.0 ∷ []) g.0.stamp
    last_stamp = last_joined n v was.records w.is.metadata.missing (samples_of group) (Sample g.0 ∷ []) v_grown.longer.records v_grown.longer.items g.0.stamp refl (made_last v at limit g.0 g.1 now made v_ends w)

    same_next : (ready_ends made.crossing at).volume ≡ start.volume
    same_next = ap (λ (b : Bool). (ready_ends b at).volume) stays ∙ ap (λ (x : Ends). x.volume) r.after_is

    from_v : (o : Meant) → Grown n (was.records ++ w.is.metadata.missing) (samples_of group ++ Sample g.0 ∷ []) g.0.stamp (with_run start.volume longer.records longer.items n.files) o
        → Grown v w.is.metadata.missing (Sample g.0 ∷ []) g.0.stamp (with_run (ready_ends made.crossing at).volume made.records made.item v.files) o
    from_v o grown = record {
      started = grown.started;
      acknowledged_is = grown.acknowledged_is;
      gone_is = grown.gone_is;
      greatest_is = grown.greatest_is;
      longer = record {
        label = grown.longer.label;
        records = grown.longer.records ∙ sym (append_assoc n.contents.records was.records w.is.metadata.missing);
        entries = grown.longer.entries;
        items = grown.longer.items ∙ sym (append_assoc (items_in n) (samples_of group) (Sample g.0 ∷ [])) ∙ ap (λ xs. xs ++ Sample g.0 ∷ []) (sym v_grown.longer.items);
      };
      files_are = λ file. grown.files_are file ∙ sym (run_twice start.volume run.records made.records run.items made.item n.files file) ∙ ap (λ (k : ℕ). with_run k made.records made.item v.files file) (sym same_next);
    }

    all_logged : (o : Meant) → Grown n (was.records ++ w.is.metadata.missing) (samples_of group ++ Sample g.0 ∷ []) g.0.stamp (with_run start.volume longer.records longer.items n.files) o → LogsAll m e.volume limit (group ++ g ∷ []) o start.volume
    all_logged o grown =
        let one : LogsOne v at.volume limit g.0 g.1 o (ready_ends made.crossing at).volume = logs_one v v o at limit g.0 g.1 now made v_ends w v_base (from_v o grown) in
        let at_next : at.volume ≡ start.volume = ap (λ (x : Ends). x.volume) r.after_is in
        let here : LogsOne v start.volume limit g.0 g.1 o start.volume = subst (λ (k : ℕ). LogsOne v start.volume limit g.0 g.1 o k) same_next (subst (λ (k : ℕ). LogsOne v k limit g.0 g.1 o (ready_ends made.crossing at).volume) at_next one) in
        logs_then m v o e.volume start.volume start.volume limit group (g ∷ []) (was.all v v_grown) (o, start.volume, here, (refl, refl))

    now_behind : now ≡ n.contents.records ++ (was.records ++ w.is.metadata.missing)
    now_behind = after_is v at limit g.0 g.1 now made v_ends w ∙ append_assoc n.contents.records was.records w.is.metadata.missing

    longer_may : MayRun m n e.volume start.volume limit longer (group ++ g ∷ []) now
    longer_may = record {
      records = was.records ++ w.is.metadata.missing;
      come = subst (λ xs. IsRunToCome n (was.records ++ w.is.metadata.missing) xs longer.records longer.items) (sym samples_are) all_come;
      last = subst (λ xs. IsLastStamp n (was.records ++ w.is.metadata.missing) xs g.0.stamp) (sym samples_are) last_stamp;
      now_is = now_behind;
      all = λ o grown. all_logged o (subst (λ xs. Grown n (was.records ++ w.is.metadata.missing) xs g.0.stamp (with_run start.volume longer.records longer.items n.files) o) samples_are grown);
    }

  pub longer_run : IsRunOf records e limit longer (group ++ g ∷ []) now (after_run at (run_of made g.0.stamp))
  longer_run = record {
    count_is = omega (arith, r.count_is, length-append group (g ∷ []));
    bounded = longer_bounded e limit run mid at g made r.after_is r.bounded r.small is stays limited;
    after_is = longer_after e limit run mid at g made r.after_is r.bounded r.small is stays limited;
    small = one_small mid at limit g now made is added some r.small limited;
    loggable = loggable_then records mid now e at (after_run at (run_of made g.0.stamp)) limit group (g ∷ []) r.loggable (one_loggable mid at limit g now made is added);
    first = r.first;
    is = still_first;
    crossing_is = r.crossing_is;
    may = longer_may;
  }

-- ---- one result more behind the runs

cross_more : (s : Run) (runs : List Run) (made : Made) (t : Moment) → AllCross (s ∷ runs) → AllCross (with_made (s ∷ runs) made t)
cross_more s [] made t all = by made.crossing refl
  where
    by : (b : Bool) → made.crossing ≡ b → AllCross (if b then s ∷ run_of made t ∷ [] else joined_run s made t ∷ [])
    by true is = (all.0, (is, tt))
    by false is = (all.0, tt)
cross_more s (r ∷ runs) made t all = (all.0, cross_more r runs made t all.1)

pub runs_small : (records : List MetaRecord) (e : Ends) (limit : ℕ) (runs : List Run) (group : List Told) (now : List MetaRecord) (after : Ends) → AreSmall e → AreRuns records e limit runs group now after → AreSmall after
runs_small records e limit [] group now after small all = subst AreSmall (sym all.2) small
runs_small records e limit (r ∷ runs) group now after small all = runs_small all.3 all.4 limit runs all.1 now after all.5.small all.7

pub runs_bounded : (records : List MetaRecord) (e : Ends) (limit : ℕ) (runs : List Run) (group : List Told) (now : List MetaRecord) (after : Ends) → AreRuns records e limit runs group now after → AreRunsBounded e runs
runs_bounded records e limit [] group now after all = tt
runs_bounded records e limit (r ∷ runs) group now after all = (all.5.bounded, subst (λ (x : Ends). AreRunsBounded x runs) all.5.after_is (runs_bounded all.3 all.4 limit runs all.1 now after all.7))

pub runs_after : (records : List MetaRecord) (e : Ends) (limit : ℕ) (runs : List Run) (group : List Told) (now : List MetaRecord) (after : Ends) → AreRuns records e limit runs group now after → after ≡ after_runs e runs
runs_after records e limit [] group now after all = all.2
runs_after records e limit (r ∷ runs) group now after all = runs_after all.3 all.4 limit runs all.1 now after all.7 ∙ ap (λ (x : Ends). after_runs x runs) all.5.after_is

pub runs_count : (records : List MetaRecord) (e : Ends) (limit : ℕ) (runs : List Run) (group : List Told) (now : List MetaRecord) (after : Ends) → AreRuns records e limit runs group now after → counts_of runs ≡ length group
runs_count records e limit [] group now after all = ap length (sym all.0)
runs_count records e limit (r ∷ runs) group now after all = omega (arith, all.5.count_is, runs_count all.3 all.4 limit runs all.1 now after all.7, ap length all.2, length-append all.0 all.1)

pub runs_loggable : (records : List MetaRecord) (e : Ends) (limit : ℕ) (runs : List Run) (group : List Told) (now : List MetaRecord) (after : Ends) → AreRuns records e limit runs group now after → AreLoggable records e limit group now after
runs_loggable records e limit [] group now after all = subst (λ gs. AreLoggable records e limit gs now after) (sym all.0) (all.1, all.2)
runs_loggable records e limit (r ∷ runs) group now after all =
    subst (λ gs. AreLoggable records e limit gs now after) (sym all.2) (loggable_then records all.3 now e all.4 after limit all.0 all.1 all.5.loggable (runs_loggable all.3 all.4 limit runs all.1 now after all.7))

module _ (limit : ℕ) (g : Told) (mid now : List MetaRecord) (at : Ends) (made : Made) (is : IsMadeOf mid at limit g.0 g.1 made) (added : Adds mid made.records now) (some : 0 < length g.0.sets) (limited : limit ≤ 1073741824) where
  abbrev at_end : Ends
  at_end = after_run at (run_of made g.0.stamp)

  new_run : AreSmall at → IsRunOf mid at limit (run_of made g.0.stamp) (g ∷ []) now at_end
  new_run small = one_run mid at limit g now made is added some small limited

  -- behind one run
  behind_one : (records : List MetaRecord) (e : Ends) (r : Run) (first : List Told) → IsRunOf records e limit r first mid at → (b : Bool) → made.crossing ≡ b
      → AreRuns records e limit (if b then r ∷ run_of made g.0.stamp ∷ [] else joined_run r made g.0.stamp ∷ []) (first ++ g ∷ []) now at_end
  behind_one records e r first run true crosses_is = (first, g ∷ [], refl, mid, at, run, (crosses_is, tt), (g ∷ [], [], refl, now, at_end, new_run run.small, tt, (refl, refl, refl)))
  behind_one records e r first run false crosses_is = (first ++ g ∷ [], [], sym (append-nil (first ++ g ∷ [])), now, at_end, longer_run records e limit r first mid at g now made run is crosses_is added some limited, tt, (refl, refl, refl))

  pub runs_more : (records : List MetaRecord) (e : Ends) (runs : List Run) (group : List Told) → AreSmall e → AreRuns records e limit runs group mid at → AreRuns records e limit (with_made runs made g.0.stamp) (group ++ g ∷ []) now at_end
  runs_more records e [] group small all =
      let at_small : AreSmall at = subst AreSmall (sym all.2) small in
      subst (λ rs. AreRuns rs e limit (run_of made g.0.stamp ∷ []) (group ++ g ∷ []) now at_end) all.1
      (subst (λ (x : Ends). AreRuns mid x limit (run_of made g.0.stamp ∷ []) (group ++ g ∷ []) now at_end) all.2
      (subst (λ gs. AreRuns mid at limit (run_of made g.0.stamp ∷ []) (gs ++ g ∷ []) now at_end) (sym all.0) (g ∷ [], [], refl, now, at_end, new_run at_small, tt, (refl, refl, refl))))
  runs_more records e (r ∷ []) group small all =
      let run : IsRunOf records e limit r all.0 mid at = subst (λ (x : Ends). IsRunOf records e limit r all.0 mid x) (sym all.7.2) (subst (λ rs. IsRunOf records e limit r all.0 rs all.4) (sym all.7.1) all.5) in
      let whole : group ≡ all.0 = all.2 ∙ ap (λ gs. all.0 ++ gs) all.7.0 ∙ append-nil all.0 in
      subst (λ gs. AreRuns records e limit (with_made (r ∷ []) made g.0.stamp) (gs ++ g ∷ []) now at_end) (sym whole) (behind_one records e r all.0 run made.crossing refl)
  runs_more records e (r ∷ s ∷ runs) group small all = (
    all.0,
    all.1 ++ g ∷ [],
    ap (λ gs. gs ++ g ∷ []) all.2 ∙ append_assoc all.0 all.1 (g ∷ []),
    all.3,
    all.4,
    all.5,
    cross_more s runs made g.0.stamp all.6,
    runs_more all.3 all.4 (s ∷ runs) all.1 all.5.small all.7,
  )

-- ---- the last run of many

pub with_made_last : (runs : List Run) (last : Run) (made : Made) (t : Moment) → with_made (runs ++ last ∷ []) made t ≡ runs ++ (if made.crossing then last ∷ run_of made t ∷ [] else joined_run last made t ∷ [])
with_made_last [] last made t = refl
with_made_last (r ∷ []) last made t = refl
with_made_last (r ∷ s ∷ runs) last made t = ap (λ rs. r ∷ rs) (with_made_last (s ∷ runs) last made t)

pub last_count : (runs : List Run) (last : Run) → last.count ≤ counts_of (runs ++ last ∷ [])
last_count [] last = omega arith
last_count (r ∷ runs) last = omega (arith, last_count runs last)

-- what the metadata began with they still begin with
front_kept : (records : List MetaRecord) (e : Ends) (limit : ℕ) (group : List Told) (now : List MetaRecord) (after : Ends) → AreLoggable records e limit group now after → (more : List MetaRecord) × (now ≡ records ++ more)
front_kept records e limit [] now after all = ([], all.0 ∙ sym (append-nil records))
front_kept records e limit (g ∷ group) now after all =
    let rest = front_kept (records ++ all.0.missing) (planned_ends (crosses limit e.length (payload_length g.0 + 8)) (length (framed_records all.0.missing)) (payload_length g.0 + 8) g.0.stamp e) limit group now after all.1 in
    (all.0.missing ++ rest.0, rest.1 ∙ append_assoc records all.0.missing rest.0)

pub runs_front : (records : List MetaRecord) (e : Ends) (limit : ℕ) (runs : List Run) (group : List Told) (now : List MetaRecord) (after : Ends) → AreRuns records e limit runs group now after → take (length records) now ≡ records
runs_front records e limit runs group now after all =
    let rest = front_kept records e limit group now after (runs_loggable records e limit runs group now after all) in
    ap (take (length records)) rest.1 ∙ take-append_seam records rest.0

-- ---- judging one after another

module _ (records : List MetaRecord) (e : Ends) (limit : ℕ) (done : List Told) (known mid : List MetaRecord) (old held : Group) (g : Told) (small : AreSmall e) (all : AreRuns records e limit old.runs done known old.planned) (h : IsHeldMore known old limit g.0 g.1 mid held) (some : 0 < length g.0.sets) (limited : limit ≤ 1073741824) where
  pub held_runs : AreRuns records e limit held.runs (done ++ g ∷ []) mid held.planned
  held_runs = subst (λ rs. AreRuns records e limit rs (done ++ g ∷ []) mid held.planned) (sym h.runs_are)
      (subst (λ (x : Ends). AreRuns records e limit (with_made old.runs h.made g.0.stamp) (done ++ g ∷ []) mid x) (sym h.planned_is) (runs_more limit g known mid old.planned h.made h.is h.added some limited records e old.runs done small all))

pub small_after : (old held : Group) (known mid : List MetaRecord) (limit : ℕ) (g : Told) → AreSmall old.planned → limit ≤ 1073741824 → IsHeldMore known old limit g.0 g.1 mid held → 0 < length g.0.sets → AreSmall held.planned
small_after old held known mid limit g small limited h some = subst AreSmall (sym h.planned_is) (one_small known old.planned limit g mid h.made h.is h.added some small limited)

pub count_more : (runs : List Run) (made : Made) (t : Moment) → counts_of (with_made runs made t) ≡ counts_of runs + 1
count_more [] made t = refl
count_more (r ∷ []) made t = by made.crossing
  where
    by : (b : Bool) → counts_of (if b then r ∷ run_of made t ∷ [] else joined_run r made t ∷ []) ≡ (r.count + 0) + 1
    by true = omega arith
    by false = omega arith
count_more (r ∷ s ∷ runs) made t = omega (arith, count_more (s ∷ runs) made t)

pub count_after : (old held : Group) (known mid : List MetaRecord) (limit : ℕ) (g : Told) → IsHeldMore known old limit g.0 g.1 mid held → counts_of held.runs ≡ counts_of old.runs + 1
count_after old held known mid limit g h = ap counts_of h.runs_are ∙ count_more old.runs h.made g.0.stamp

-- the first of these is refused
pub refused_first : (records : List MetaRecord) (e : Ends) (limit : ℕ) (done all rest : List Told) (known now : List MetaRecord) (old group : Group) (g : Told) (fault : LogFault) → all ≡ g ∷ rest → AreRuns records e limit old.runs done known old.planned → now ≡ known
    → group ≡ old → IsRefused known old.planned limit g.0 g.1 fault → IsRefusedAfter records e limit done all now group 0 fault
refused_first records e limit done all rest known now old group g fault is runs same kept h = by fault h kept
  where
    held : (f : LogFault) → IsRefused known old.planned limit g.0 g.1 f → group ≡ old → AreHeldBefore records e limit done all now group 0 f
    held f r as_was = subst (λ (x : Group). AreHeldBefore records e limit done all now x 0 f) (sym as_was) (subst (λ rs. AreHeldBefore records e limit done all rs old 0 f) (sym same) record {
      runs = subst (λ gs. AreRuns records e limit old.runs gs known old.planned) (sym (append-nil done)) runs;
      refusal = record { one = g; is = ap (λ gs. slice_get gs 0) is; refused = r };
    })

    by : (f : LogFault) → IsRefused known old.planned limit g.0 g.1 f → group ≡ old → IsRefusedAfter records e limit done all now group 0 f
    by Closed r k = absurd r
    by (Live volume) r k = absurd r
    by (Large bytes) r k = held (Large bytes) r k
    by (NotLater last) r k = held (NotLater last) r k
    by (Changed pmid) r k = held (Changed pmid) r k
    by (Full file bytes) r k = held (Full file bytes) r k
    by NoMemory r k = ap (take (length records)) same ∙ runs_front records e limit old.runs done known old.planned runs
    by DiskFault r k = absurd r

-- one of those behind the first is refused
pub refused_later : (records : List MetaRecord) (e : Ends) (limit : ℕ) (done all rest : List Told) (now : List MetaRecord) (group : Group) (g : Told) (k n : ℕ) (fault : LogFault) → all ≡ g ∷ rest → n ≡ k + 1 → IsRefusedAfter records e limit (done ++ g ∷ []) rest now group k fault
    → IsRefusedAfter records e limit done all now group n fault
refused_later records e limit done all rest now group g k n fault is next h = by fault h
  where
    held : (f : LogFault) → AreHeldBefore records e limit (done ++ g ∷ []) rest now group k f → AreHeldBefore records e limit done all now group n f
    held f r =
        let past : n ≡ suc k = omega (arith, next) in
        record {
          runs = subst (λ gs. AreRuns records e limit group.runs gs now group.planned) (append_assoc done (g ∷ []) (take k rest) ∙ ap (λ gs. done ++ gs) (ap (take (suc k)) (sym is) ∙ ap (λ (x : ℕ). take x all) (sym past))) r.runs;
          refusal = record { one = r.refusal.one; is = ap (λ (x : ℕ). slice_get all x) past ∙ ap (λ gs. slice_get gs (suc k)) is ∙ r.refusal.is; refused = r.refusal.refused };
        }

    by : (f : LogFault) → IsRefusedAfter records e limit (done ++ g ∷ []) rest now group k f → IsRefusedAfter records e limit done all now group n f
    by Closed r = absurd r
    by (Live volume) r = absurd r
    by (Large bytes) r = held (Large bytes) r
    by (NotLater last) r = held (NotLater last) r
    by (Changed pmid) r = held (Changed pmid) r
    by (Full file bytes) r = held (Full file bytes) r
    by NoMemory r = r
    by DiskFault r = absurd r

pub some_sets : (all rest : List Told) (g : Told) → all ≡ g ∷ rest → AllByRecursion MayBeAsked all → 0 < length g.0.sets
some_sets all rest g is each = (subst (AllByRecursion MayBeAsked) is each).0.0

pub rest_asked : (all rest : List Told) (g : Told) → all ≡ g ∷ rest → AllByRecursion MayBeAsked all → AllByRecursion MayBeAsked rest
rest_asked all rest g is each = (subst (AllByRecursion MayBeAsked) is each).1
