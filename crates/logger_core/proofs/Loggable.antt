-- What was made of a result is a run that may be written, and what its writing leaves.
use Rattle.std.proofs.Common.{◌≡◌, inl, inr, ℕ, ℤ, ◌+◌, ◌<◌, ◌≤◌, List, [], ◌∷◌, ◌++◌, length, take, map, Option, None, Some, refl, sym, ap, ◌∙◌, subst, arith}
use Rattle.std.specs.Prelude.{Contains, Result, Ok, Err, IfOk}
use Rattle.std.specs.List.{AllByRecursion}
use Rattle.std.proofs.lemmas.List.{append-nil}
use Rattle.pcp_base.specs.Time.{Moment, microseconds}
use Rattle.pcp_base.specs.declared.desc.Desc.{Desc}
use Rattle.pcp_base.specs.declared.file.FileId.{FileId}
use Rattle.pcp_base.specs.declared.file.FileId.TheVariants.{Meta, Volume}
use Rattle.pcp_base.specs.declared.result.Item.{Item}
use Rattle.pcp_base.specs.declared.result.Item.TheVariants.{Sample}
use Rattle.pcp_base.specs.declared.result.PmResult.{PmResult}
use Rattle.pcp_model.specs.declared.records.MetaRecord.{MetaRecord}
use Rattle.pcp_model.specs.declared.records.MetaRecord.TheVariants.{Description, Domain, Other}
use Rattle.pcp_model.specs.Archive.{ArchiveContents, items_of}
use Rattle.pcp_model.specs.Described.{Described}
use Rattle.pcp_model.specs.Disk.{Files, Holdings}
use Rattle.pcp_model.specs.Frame.{frame, IsFrameable}
use Rattle.pcp_model.specs.Payload.{payload, payload_length, stamp_of}
use Rattle.pcp_model.specs.Records.{AreConsistent}
use Rattle.pcp_model.specs.Sound.{IsItemBy, IsRecordBy, NoItemAfter, NoDomainAfter}
use Rattle.pcp_model.specs.Written.{with_added}
use Rattle.pcp_model.proofs.Lists.{each-append, each-first, each-map}
use Rattle.pcp_model.proofs.Spelled.{is_sample, length-payload}
use Rattle.archive_meta.specs.declared.facts.Facts.{Facts}
use Rattle.archive_meta.specs.Facts.{fact_of}
use Rattle.archive_meta.specs.Missing.{AreMissing, AreMissingDomains, described_by, domains_of, missing_descriptions, framed_records, values_of_keys, undescribed_metrics}
use Rattle.archive_meta.proofs.Frames.{added_only}
use Rattle.archive_meta.proofs.NowDescribed.{missing_describe}
use Rattle.logger_core.specs.declared.ends.Ends.{Ends}
use Rattle.logger_core.specs.declared.preparing.Made.{Made}
use Rattle.logger_core.specs.Keeps.{Start}
use Rattle.logger_core.specs.Laws.{AreRecordsToCome, IsRecordAfter, Survives}
use Rattle.logger_core.specs.Logging.{IsLater}
use Rattle.logger_core.specs.LogSteps.{base_files, base_number, with_run, crosses}
use Rattle.logger_core.specs.Meant.{Meant, AreEnds, IsAt, SurvivesOf, items_in, stood_in}
use Rattle.logger_core.specs.Going.{GrownTo}
use Rattle.logger_core.specs.Runs.{Rise, IsRunToCome, IsLastStamp, IsReady, SurvivesWith}
use Rattle.logger_core.specs.Planning.{ran_ends}
use Rattle.logger_core.specs.Steps.{IsAbove, IsEntryBy, NoEntryAfter}
use Rattle.logger_core.specs.Writing.{MayBeWritten, ItemWritten}
use Rattle.logger_core.proofs.Pointwise.{added_same}
use Rattle.logger_core.proofs.Rests.{survives_with, survives_same}
use Rattle.logger_core.proofs.StillDescribed.{described_on}
use Rattle.logger_core.proofs.Whole.{each_contained}

-- ---- what was there is stamped earlier

abbrev IsBefore : Moment → Item → Type 0
IsBefore t x = microseconds (stamp_of x) < microseconds t

items_before : (c : ArchiveContents) (g : Option Moment) (t : Moment) → IsAbove c g → IsLater g t → AllByRecursion (IsBefore t) (items_of c.volumes)
items_before c None t none later = each-map (λ x. Contains (items_of c.volumes) x) (IsBefore t) (λ x there. absurd (none (stamp_of x) (inl (x, there, refl)))) (items_of c.volumes) (each_contained (items_of c.volumes))
items_before c (Some last) t is later = each-map (IsItemBy last) (IsBefore t) (λ x by. omega (arith, by, later)) (items_of c.volumes) is.0

record_by : (last t : Moment) → microseconds last < microseconds t → (r : MetaRecord) → IsRecordBy last r → IsRecordBy t r
record_by last t later (Description d names) by = tt
record_by last t later (Domain s i pairs) by = omega (arith, by, later)
record_by last t later Other by = tt

no_record : (c : ArchiveContents) (t : Moment) → IsAbove c None → (r : MetaRecord) → Contains c.records r → IsRecordBy t r
no_record c t none (Description d names) there = tt
no_record c t none (Domain s i pairs) there = absurd (none s (inr (inl (i, pairs, there))))
no_record c t none Other there = tt

domains_before : (c : ArchiveContents) (g : Option Moment) (t : Moment) → IsAbove c g → IsLater g t → NoDomainAfter t c.records
domains_before c None t none later = each-map (λ r. Contains c.records r) (IsRecordBy t) (no_record c t none) c.records (each_contained c.records)
domains_before c (Some last) t is later = each-map (IsRecordBy last) (IsRecordBy t) (record_by last t later) c.records is.1

pub entries_before : (c : ArchiveContents) (g : Option Moment) (t : Moment) → IsAbove c g → IsLater g t → NoEntryAfter t c.entries
entries_before c None t none later = each-map (λ e. Contains c.entries e) (IsEntryBy t) (λ e there. absurd (none e.stamp (inr (inr (e, there, refl))))) c.entries (each_contained c.entries)
entries_before c (Some last) t is later = each-map (IsEntryBy last) (IsEntryBy t) (λ e by. omega (arith, by, later)) c.entries is.2

-- ---- the records that are missing are descriptions, and domains from the result's moment on

module _ (P : MetaRecord → Type 0) (descriptions : (d : Desc) (names : List (List ℕ)) → P (Description d names)) (t : Moment) (domains : (i : ℕ) (pairs : List (ℤ × List ℕ)) → P (Domain t i pairs)) where
  each_description : (facts : List (Desc × List ℕ)) → AllByRecursion P (map described_by facts)
  each_description [] = tt
  each_description (f ∷ fs) = (descriptions f.0 (f.1 ∷ []), each_description fs)

  each_domain : (records : List MetaRecord) (ds : List (ℕ × List (ℤ × List ℕ))) (missing : List MetaRecord) → AreMissingDomains records t ds missing → AllByRecursion P missing
  each_domain records [] missing none = subst (AllByRecursion P) (sym none) tt
  each_domain records (d ∷ ds) missing (inl held) = each_domain records ds missing held.1
  each_domain records (d ∷ ds) missing (inr lacks) = subst (AllByRecursion P) (sym lacks.1.1) (domains d.0 d.1, each_domain records ds lacks.1.0 lacks.1.2)

  each_missing : (records : List MetaRecord) (facts : Facts) (answer : PmResult) (missing : List MetaRecord) → answer.stamp ≡ t → AreMissing records facts answer missing → AllByRecursion P missing
  each_missing records facts answer missing same needed =
      subst (AllByRecursion P) (sym needed.is) (each-append P (missing_descriptions records facts.metrics answer.sets) needed.domains
      (each_description (values_of_keys (fact_of facts.metrics) (undescribed_metrics records answer.sets)))
      (each_domain records (domains_of facts answer.sets) needed.domains (subst (λ s. AreMissingDomains records s (domains_of facts answer.sets) needed.domains) same needed.lacking)))

-- ---- the run of one result

module _ (m : Meant) (e : Ends) (limit : ℕ) (answer : PmResult) (facts : Facts) (after : List MetaRecord) (made : Made) (ends : AreEnds m e) (w : MayBeWritten m e limit answer facts after made) where
  abbrev missing : List MetaRecord
  missing = w.is.metadata.missing

  above : IsAbove m.contents e.greatest
  above = subst (IsAbove m.contents) (sym ends.greatest) ends.above

  before : AllByRecursion (IsBefore answer.stamp) (items_in m)
  before = items_before m.contents e.greatest answer.stamp above w.is.later

  no_item_after : NoItemAfter answer.stamp (items_in m)
  no_item_after = each-map (IsBefore answer.stamp) (IsItemBy answer.stamp) (λ x lt. omega (arith, lt)) (items_in m) before

  stamped_later : (x : Item) → IsBefore answer.stamp x → AllByRecursion (IsRecordAfter (stamp_of x)) missing
  stamped_later x lt = each_missing (IsRecordAfter (stamp_of x)) (λ d names. tt) answer.stamp (λ i pairs. lt) m.contents.records facts answer missing refl w.is.metadata.needed

  still_described : (k : ℕ) → AllByRecursion (λ x. Described m.contents.records x → Described (m.contents.records ++ take k missing) x) (items_in m)
  still_described k = each-map (IsBefore answer.stamp) (λ x. Described m.contents.records x → Described (m.contents.records ++ take k missing) x)
      (λ x lt d. described_on m.contents.records (take k missing) x (each-first (IsRecordAfter (stamp_of x)) k missing (stamped_later x lt)) d) (items_in m) before

  pub after_is : after ≡ m.contents.records ++ missing
  after_is = added_only m.contents.records after made.records w.added missing w.is.metadata.read

  consistent : AreConsistent (m.contents.records ++ missing)
  consistent = subst AreConsistent after_is w.added.consistent

  small : payload_length answer < 4294967296
  small = omega (arith, w.is.framed)

  frameable : IsFrameable (payload answer)
  frameable = record { least = omega (arith, length-payload answer); most = omega (arith, length-payload answer, w.is.framed) }

  pub run_of : IsRunToCome m missing (Sample answer ∷ []) made.records made.item
  run_of = record {
    meta_payloads = w.is.metadata.read.payloads;
    meta_is = w.is.metadata.read.is;
    come = record { read = w.is.metadata.read.read; agree = consistent; described = λ k le. still_described k };
    payloads = payload answer ∷ [];
    items_are = w.is.item_is ∙ sym (append-nil (frame (payload answer)));
    read = (frameable, is_sample answer w.is.range small w.some, tt);
    described = (missing_describe m.contents.records missing facts answer w.is.fit w.enough w.is.metadata.needed, tt);
    rise = (no_item_after, tt);
  }

  pub last_of : IsLastStamp m missing (Sample answer ∷ []) answer.stamp
  last_of = record {
    first = [];
    last = Sample answer;
    are = refl;
    stamped = refl;
    moment = w.is.range.moment;
    before = each-append (IsItemBy answer.stamp) (items_in m) (Sample answer ∷ []) no_item_after (omega arith, tt);
    domains = each-append (IsRecordBy answer.stamp) m.contents.records missing (domains_before m.contents e.greatest answer.stamp above w.is.later)
        (each_missing (IsRecordBy answer.stamp) (λ d names. tt) answer.stamp (λ i pairs. omega arith) m.contents.records facts answer missing refl w.is.metadata.needed);
    entries = entries_before m.contents e.greatest answer.stamp above w.is.later;
  }

-- ---- the same run behind an archive with the same records and items

module _ (m n : Meant) (same_start : n.start ≡ m.start) (same_records : n.contents.records ≡ m.contents.records) (same_items : items_in n ≡ items_in m) (records : List MetaRecord) (items : List Item) where
  come_moved : (payloads : List (List ℕ)) → AreRecordsToCome m.start m.contents payloads records → AreRecordsToCome n.start n.contents payloads records
  come_moved payloads come = record {
    read = come.read;
    agree = subst (λ rs. AreConsistent (rs ++ records)) (sym same_records) come.agree;
    described = λ k le. subst (λ xs. AllByRecursion (λ x. Described n.contents.records x → Described (n.contents.records ++ take k records) x) xs) (sym same_items)
        (subst (λ rs. AllByRecursion (λ x. Described rs x → Described (rs ++ take k records) x) (items_in m)) (sym same_records) (come.described k le));
  }

  pub run_moved : (meta_bytes item_bytes : List ℕ) → IsRunToCome m records items meta_bytes item_bytes → IsRunToCome n records items meta_bytes item_bytes
  run_moved meta_bytes item_bytes run = record {
    meta_payloads = run.meta_payloads;
    meta_is = run.meta_is;
    come = come_moved run.meta_payloads run.come;
    payloads = run.payloads;
    items_are = run.items_are;
    read = run.read;
    described = subst (λ rs. AllByRecursion (Described (rs ++ records)) items) (sym same_records) run.described;
    rise = subst (λ xs. Rise xs items) (sym same_items) run.rise;
  }

  pub last_moved : (t : Moment) → NoEntryAfter t n.contents.entries → IsLastStamp m records items t → IsLastStamp n records items t
  last_moved t entries last = record {
    first = last.first;
    last = last.last;
    are = last.are;
    stamped = last.stamped;
    moment = last.moment;
    before = subst (λ xs. NoItemAfter t (xs ++ items)) (sym same_items) last.before;
    domains = subst (λ rs. NoDomainAfter t (rs ++ records)) (sym same_records) last.domains;
    entries = entries;
  }

  pub survives_moved : (image : Files) → m.acknowledged ≤ n.acknowledged → SurvivesWith n items image → SurvivesWith m items image
  survives_moved image le w =
      subst (λ (s : Start). Survives s (items_in m ++ items) m.acknowledged image) same_start
      (survives_same n.start (items_in n ++ items) (items_in m ++ items) n.acknowledged m.acknowledged image (ap (λ xs. xs ++ items) same_items) w le)

pub survives_more : (m : Meant) (items : List Item) (image : Files) → SurvivesOf m image → SurvivesWith m items image
survives_more m items image w = survives_with m.start (items_in m) items m.acknowledged m.acknowledged image w (omega arith)

-- ---- what is left

module _ (m : Meant) (e start now : Ends) (held mid new : Holdings) (limit : ℕ) (answer : PmResult) (facts : Facts) (after : List MetaRecord) (made : Made) (at : IsAt m e held) (w : MayBeWritten m e limit answer facts after made) (ready : IsReady m e start made.crossing mid)
    (g : GrownTo ready.new w.is.metadata.missing [] (Sample answer ∷ []) (with_run start.volume made.records made.item ready.new.files) now new) (stamped : now.greatest ≡ Some answer.stamp) where
  abbrev base : Files
  base = base_files made.crossing m.files m.contents e.volume m.greatest (stood_in m)

  files_now : (file : FileId) → g.0.new.files file ≡ with_run (base_number made.crossing e.volume) (framed_records w.is.metadata.missing) (frame (payload answer)) base file
  files_now file =
      g.0.files_are file
      ∙ ap (λ (n : ℕ). with_run n made.records made.item ready.new.files file) ready.number
      ∙ ap (λ t. with_run (base_number made.crossing e.volume) t made.item ready.new.files file) w.is.metadata.is
      ∙ ap (λ t. with_run (base_number made.crossing e.volume) (framed_records w.is.metadata.missing) t ready.new.files file) w.is.item_is
      ∙ added_same (Volume (base_number made.crossing e.volume)) (frame (payload answer)) (with_added Meta (framed_records w.is.metadata.missing) ready.new.files) (with_added Meta (framed_records w.is.metadata.missing) base)
      (added_same Meta (framed_records w.is.metadata.missing) ready.new.files base ready.files_are) file

  pub item_written : ItemWritten m e now limit answer facts after new
  item_written = record {
    new = g.0.new;
    started = g.0.started ∙ ready.started;
    gone_is = g.0.gone_is ∙ ready.gone_is;
    greatest_is = sym g.1.greatest ∙ stamped;
    step = record {
      missing = w.is.metadata.missing;
      needed = w.is.metadata.needed;
      crossing = made.crossing;
      crosses_is = w.is.crossing_is ∙ ap (λ (n : ℕ). crosses limit n (payload_length answer + 8)) at.ends.length_is;
      is = files_now;
    };
    said = g.0.longer.records ∙ ap (λ rs. rs ++ w.is.metadata.missing) ready.records_same;
    items_are = g.0.longer.items ∙ ap (λ xs. xs ++ Sample answer ∷ []) ready.items_same;
    still = omega (arith, ready.still, g.0.acknowledged_is);
    acknowledged_is = g.0.acknowledged_is ∙ ready.acknowledged_is;
    label_same = g.0.longer.label ∙ ready.label_same;
    records_are = g.0.longer.records ∙ ap (λ rs. rs ++ w.is.metadata.missing) ready.records_same ∙ sym (after_is m e limit answer facts after made at.ends w);
    at = record { stands = g.0.stands; ends = g.1 };
  }

-- what a written run leaves, as a result
pub item_ok : {E : Type 0} (m : Meant) (e start : Ends) (held mid new : Holdings) (limit : ℕ) (answer : PmResult) (facts : Facts) (after : List MetaRecord) (made : Made) (at : IsAt m e held) (w : MayBeWritten m e limit answer facts after made) (ready : IsReady m e start made.crossing mid) (result : Result Ends E)
    (records item : List ℕ) → records ≡ made.records → item ≡ made.item → IfOk result (λ now. now ≡ ran_ends (length records) (length item) 1 answer.stamp start)
    → IfOk result (λ now. GrownTo ready.new w.is.metadata.missing [] (Sample answer ∷ []) (with_run start.volume records item ready.new.files) now new) → IfOk result (λ now. ItemWritten m e now limit answer facts after new)
item_ok m e start held mid new limit answer facts after made at w ready (Ok now) records item first second exact g =
    item_written m e start now held mid new limit answer facts after made at w ready
    (subst (λ t. GrownTo ready.new w.is.metadata.missing [] (Sample answer ∷ []) (with_run start.volume made.records t ready.new.files) now new) second
    (subst (λ t. GrownTo ready.new w.is.metadata.missing [] (Sample answer ∷ []) (with_run start.volume t item ready.new.files) now new) first g)) (ap (λ (x : Ends). x.greatest) exact)
item_ok m e start held mid new limit answer facts after made at w ready (Err x) records item first second exact g = tt

module _ (m : Meant) (e start : Ends) (held mid : Holdings) (limit : ℕ) (answer : PmResult) (facts : Facts) (after : List MetaRecord) (made : Made) (at : IsAt m e held) (w : MayBeWritten m e limit answer facts after made) (ready : IsReady m e start made.crossing mid) where
  moved_run : IsRunToCome ready.new w.is.metadata.missing (Sample answer ∷ []) made.records made.item
  moved_run = run_moved m ready.new ready.started ready.records_same ready.items_same w.is.metadata.missing (Sample answer ∷ []) made.records made.item (run_of m e limit answer facts after made at.ends w)

  pub ready_run : (records item : List ℕ) → records ≡ made.records → item ≡ made.item → IsRunToCome ready.new w.is.metadata.missing (Sample answer ∷ []) records item
  ready_run records item first second =
      subst (λ t. IsRunToCome ready.new w.is.metadata.missing (Sample answer ∷ []) t item) (sym first) (subst (λ t. IsRunToCome ready.new w.is.metadata.missing (Sample answer ∷ []) made.records t) (sym second) moved_run)

  later : IsLater ready.new.greatest answer.stamp
  later = subst (λ (o : Option Moment). IsLater o answer.stamp) (at.ends.greatest ∙ sym ready.greatest_is) w.is.later

  pub ready_last : IsLastStamp ready.new w.is.metadata.missing (Sample answer ∷ []) answer.stamp
  ready_last = last_moved m ready.new ready.started ready.records_same ready.items_same w.is.metadata.missing (Sample answer ∷ []) answer.stamp (entries_before ready.new.contents ready.new.greatest answer.stamp ready.at.ends.above later) (last_of m e limit answer facts after made at.ends w)

  pub ready_survives : (image : Files) → SurvivesWith ready.new (Sample answer ∷ []) image → SurvivesWith m (Sample answer ∷ []) image
  ready_survives image s = survives_moved m ready.new ready.started ready.records_same ready.items_same w.is.metadata.missing (Sample answer ∷ []) image ready.still s
