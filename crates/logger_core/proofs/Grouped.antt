-- Results that are held: each one more is a run of its own, or joins the last.
use Rattle.std.proofs.Common.{suc, ◌≡◌, ℕ, ◌+◌, ◌<◌, ◌≤◌, Bool, List, [], ◌∷◌, ◌++◌, length, refl, sym, ap, ◌∙◌, subst, arith}
use Rattle.std.proofs.lemmas.List.{append-nil}
use Rattle.std.specs.Prelude.{Option}
use Rattle.pcp_base.specs.Time.{Moment}
use Rattle.pcp_base.specs.declared.file.FileId.{FileId}
use Rattle.pcp_base.specs.declared.file.FileId.TheVariants.{Meta, Volume}
use Rattle.pcp_base.specs.declared.result.Item.TheVariants.{Sample}
use Rattle.pcp_base.specs.declared.result.PmResult.{PmResult}
use Rattle.pcp_model.specs.declared.records.MetaRecord.{MetaRecord}
use Rattle.pcp_model.specs.Disk.{Files}
use Rattle.pcp_model.specs.Frame.{frame}
use Rattle.pcp_model.specs.Payload.{payload, payload_length}
use Rattle.pcp_model.specs.Written.{with_added}
use Rattle.archive_meta.specs.declared.facts.Facts.{Facts}
use Rattle.archive_meta.specs.Missing.{framed_records}
use Rattle.archive_meta.specs.Records.{Adds}
use Rattle.archive_meta.proofs.Frames.{added_only}
use Rattle.logger_core.specs.declared.ends.Ends.{Ends}
use Rattle.logger_core.specs.declared.preparing.Made.{Made}
use Rattle.logger_core.specs.Going.{AreSmall}
use Rattle.logger_core.specs.Grouping.{Told, LogsOne, LogsAll, AreAllEnough, AreLoggable, samples_of}
use Rattle.logger_core.specs.Held.{IsBase, Grown, MayRun, IsRunOf, IsRunBounded, run_of, after_run}
use Rattle.logger_core.specs.Logging.{IsLater, IsMadeOf}
use Rattle.logger_core.specs.LogSteps.{base_files, base_number, crosses, with_run}
use Rattle.logger_core.specs.Meant.{Meant, AreEnds, stood_in}
use Rattle.logger_core.specs.Planning.{planned_ends, ready_ends}
use Rattle.logger_core.specs.Writing.{IsBounded, MayBeWritten}
use Rattle.logger_core.proofs.Loggable.{run_of as made_run, last_of as made_last, after_is, entries_before, run_moved, last_moved}
use Rattle.logger_core.proofs.Planned.{ready_volume, run_small, run_bounded}
use Rattle.logger_core.proofs.Pointwise.{added_same}
use Rattle.logger_core.proofs.Refused.{bounded, loggable}

-- ---- lists of results

pub samples_then : (xs ys : List Told) → samples_of (xs ++ ys) ≡ samples_of xs ++ samples_of ys
samples_then [] ys = refl
samples_then (x ∷ xs) ys = ap (λ zs. Sample x.0 ∷ zs) (samples_then xs ys)

pub samples_many : (xs : List Told) → length (samples_of xs) ≡ length xs
samples_many [] = refl
samples_many (x ∷ xs) = ap suc (samples_many xs)

pub loggable_then : (records mid now : List MetaRecord) (e at after : Ends) (limit : ℕ) (xs ys : List Told) → AreLoggable records e limit xs mid at → AreLoggable mid at limit ys now after → AreLoggable records e limit (xs ++ ys) now after
loggable_then records mid now e at after limit [] ys first second = subst (λ rs. AreLoggable rs e limit ys now after) first.0 (subst (λ (x : Ends). AreLoggable mid x limit ys now after) first.1 second)
loggable_then records mid now e at after limit (x ∷ xs) ys first second =
    (first.0, loggable_then (records ++ first.0.missing) mid now (planned_ends (crosses limit e.length (payload_length x.0 + 8)) (length (framed_records first.0.missing)) (payload_length x.0 + 8) x.0.stamp e) at after limit xs ys first.1 second)

pub logs_then : (m n o : Meant) (a b c limit : ℕ) (xs ys : List Told) → LogsAll m a limit xs n b → LogsAll n b limit ys o c → LogsAll m a limit (xs ++ ys) o c
logs_then m n o a b c limit [] ys first second = subst (λ (x : Meant). LogsAll x a limit ys o c) first.0 (subst (λ (k : ℕ). LogsAll n k limit ys o c) first.1 second)
logs_then m n o a b c limit (x ∷ xs) ys first second = (first.0, first.1, first.2, logs_then first.0 n o first.1 b c limit xs ys first.3 second)

-- ---- one result

module _ (m n o : Meant) (e : Ends) (limit : ℕ) (answer : PmResult) (facts : Facts) (now : List MetaRecord) (made : Made) (ends : AreEnds m e) (w : MayBeWritten m e limit answer facts now made) (base : IsBase m e made.crossing n)
    (g : Grown n w.is.metadata.missing (Sample answer ∷ []) answer.stamp (with_run (ready_ends made.crossing e).volume made.records made.item n.files) o) where
  abbrev base_is : Files
  base_is = base_files made.crossing m.files m.contents e.volume m.greatest (stood_in m)

  files_now : (file : FileId) → o.files file ≡ with_run (base_number made.crossing e.volume) (framed_records w.is.metadata.missing) (frame (payload answer)) base_is file
  files_now file =
      g.files_are file
      ∙ ap (λ (k : ℕ). with_run k made.records made.item n.files file) (ready_volume made.crossing e)
      ∙ ap (λ t. with_run (base_number made.crossing e.volume) t made.item n.files file) w.is.metadata.is
      ∙ ap (λ t. with_run (base_number made.crossing e.volume) (framed_records w.is.metadata.missing) t n.files file) w.is.item_is
      ∙ added_same (Volume (base_number made.crossing e.volume)) (frame (payload answer)) (with_added Meta (framed_records w.is.metadata.missing) n.files) (with_added Meta (framed_records w.is.metadata.missing) base_is)
      (added_same Meta (framed_records w.is.metadata.missing) n.files base_is base.files_are) file

  pub logs_one : LogsOne m e.volume limit answer facts o (ready_ends made.crossing e).volume
  logs_one = record {
    started = g.started ∙ base.started;
    gone_is = g.gone_is ∙ base.gone_is;
    greatest_is = g.greatest_is;
    step = record {
      missing = w.is.metadata.missing;
      needed = w.is.metadata.needed;
      crossing = made.crossing;
      crosses_is = w.is.crossing_is ∙ ap (λ (k : ℕ). crosses limit k (payload_length answer + 8)) ends.length_is;
      is = files_now;
    };
    longer = record {
      label = g.longer.label ∙ base.label_same;
      records = g.longer.records ∙ ap (λ rs. rs ++ w.is.metadata.missing) base.records_same;
      entries = g.longer.entries ∙ append-nil n.contents.entries ∙ base.entries_are;
      items = g.longer.items ∙ ap (λ xs. xs ++ Sample answer ∷ []) base.items_same;
    };
    still = omega (arith, base.still, g.acknowledged_is);
    acknowledged_is = g.acknowledged_is ∙ base.acknowledged_is;
    next_is = ready_volume made.crossing e;
  }

-- ---- a run of one result

module _ (records : List MetaRecord) (e : Ends) (limit : ℕ) (g : Told) (now : List MetaRecord) (made : Made) (is : IsMadeOf records e limit g.0 g.1 made) (added : Adds records made.records now) where
  now_is : now ≡ records ++ is.metadata.missing
  now_is = added_only records now made.records added is.metadata.missing is.metadata.read

  planned_is : after_run e (run_of made g.0.stamp) ≡ planned_ends (crosses limit e.length (payload_length g.0 + 8)) (length (framed_records is.metadata.missing)) (payload_length g.0 + 8) g.0.stamp e
  planned_is =
      ap (λ (b : Bool). planned_ends b (length made.records) (length made.item) g.0.stamp e) is.crossing_is
      ∙ ap (λ (k : ℕ). planned_ends (crosses limit e.length (payload_length g.0 + 8)) k (length made.item) g.0.stamp e) (ap length is.metadata.is)
      ∙ ap (λ (k : ℕ). planned_ends (crosses limit e.length (payload_length g.0 + 8)) (length (framed_records is.metadata.missing)) k g.0.stamp e) is.item_length

  pub one_loggable : AreLoggable records e limit (g ∷ []) now (after_run e (run_of made g.0.stamp))
  one_loggable = (loggable records e limit g.0 g.1 made is, (now_is, planned_is))

  pub may_write : (m : Meant) → m.contents.records ≡ records → 0 < length g.0.sets → AreAllEnough (g ∷ []) → MayBeWritten m e limit g.0 g.1 now made
  may_write m same some enough = record { is = subst (λ rs. IsMadeOf rs e limit g.0 g.1 made) (sym same) is; some = some; enough = enough.0; added = subst (λ rs. Adds rs made.records now) (sym same) added }

  one_may : 0 < length g.0.sets → (m n : Meant) → AreEnds m e → m.contents.records ≡ records → AreAllEnough (g ∷ []) → IsBase m e made.crossing n → AreEnds n (ready_ends made.crossing e)
      → MayRun m n e.volume (ready_ends made.crossing e).volume limit (run_of made g.0.stamp) (g ∷ []) now
  one_may some m n ends same enough base there =
      let w : MayBeWritten m e limit g.0 g.1 now made = may_write m same some enough in
      let later : IsLater n.greatest g.0.stamp = subst (λ (o : Option Moment). IsLater o g.0.stamp) (ends.greatest ∙ sym base.greatest_is) is.later in
      record {
        records = w.is.metadata.missing;
        come = run_moved m n base.started base.records_same base.items_same w.is.metadata.missing (Sample g.0 ∷ []) made.records made.item (made_run m e limit g.0 g.1 now made ends w);
        last = last_moved m n base.started base.records_same base.items_same w.is.metadata.missing (Sample g.0 ∷ []) g.0.stamp (entries_before n.contents n.greatest g.0.stamp there.above later) (made_last m e limit g.0 g.1 now made ends w);
        now_is = after_is m e limit g.0 g.1 now made ends w ∙ ap (λ rs. rs ++ w.is.metadata.missing) (sym base.records_same);
        all = λ o grown. (o, (ready_ends made.crossing e).volume, logs_one m n o e limit g.0 g.1 now made ends w base grown, (refl, refl));
      }

  module _ (some : 0 < length g.0.sets) (small : AreSmall e) (limited : limit ≤ 1073741824) where
    is_bounded : IsBounded e made
    is_bounded = bounded records e limit g.0 g.1 made small limited is

    one_bounded : IsRunBounded e (run_of made g.0.stamp)
    one_bounded = run_bounded e made g.0.stamp is_bounded

    pub one_small : AreSmall (after_run e (run_of made g.0.stamp))
    one_small = run_small e made.crossing (length made.records) (length made.item) 1 g.0.stamp small one_bounded.next one_bounded.meta is.place.index one_bounded.room

    pub one_run : IsRunOf records e limit (run_of made g.0.stamp) (g ∷ []) now (after_run e (run_of made g.0.stamp))
    one_run = record {
      count_is = refl;
      bounded = one_bounded;
      after_is = refl;
      small = one_small;
      loggable = one_loggable;
      first = g;
      is = refl;
      crossing_is = is.crossing_is;
      may = one_may some;
    }
