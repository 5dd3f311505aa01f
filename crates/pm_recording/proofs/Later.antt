-- Over moments that rise, and stand behind every stamp there, no result comes too early for the archive.
use Rattle.std.proofs.Common.{◌≡◌, inl, inr, ℕ, ℤ, suc, ◌+◌, ◌<◌, ◌≤◌, Bool, true, false, if◌then◌else◌, List, [], ◌∷◌, ◌++◌, length, map, Contains, Option, Some, None, option_to_list, refl, sym, ap, ◌∙◌, subst, arith, append_assoc}
use Rattle.std.proofs.lemmas.List.{append-nil}
use Rattle.std.specs.List.{AllByRecursion}
use Rattle.pcp_base.specs.Time.{Moment, microseconds}
use Rattle.pcp_base.specs.declared.desc.Desc.{Desc}
use Rattle.pcp_base.specs.declared.file.FileId.{FileId}
use Rattle.pcp_base.specs.declared.file.FileId.TheVariants as files
use Rattle.pcp_model.specs.declared.records.Entry.{Entry}
use Rattle.pcp_base.specs.declared.result.Item.TheVariants.{Sample}
use Rattle.pcp_base.specs.declared.result.PmResult.{PmResult}
use Rattle.pcp_model.specs.declared.records.MetaRecord.{MetaRecord}
use Rattle.pcp_model.specs.declared.records.MetaRecord.TheVariants.{Description, Domain, Other}
use Rattle.pcp_model.specs.Archive.{ArchiveContents, items_of}
use Rattle.pcp_model.specs.Disk.{Files}
use Rattle.pcp_model.specs.LabelFields.{LabelFields}
use Rattle.pcp_model.specs.Payload.{stamp_of}
use Rattle.pcp_model.specs.Sound.{IsItemBy, IsRecordBy, NoDomainAfter, NoItemAfter}
use Rattle.pcp_model.proofs.Lists.{each-append, each-map}
use Rattle.region_rule.specs.Seats.{Token}
use Rattle.archive_meta.specs.declared.facts.Facts.{Facts}
use Rattle.archive_meta.specs.Facts.{fact_of}
use Rattle.archive_meta.specs.Missing.{AreMissing, AreMissingDomains, described_by, domains_of, missing_descriptions, values_of_keys, undescribed_metrics}
use Rattle.fetch_answers.specs.declared.fetch.Fetched.{Fetched}
use Rattle.fetch_engine.specs.declared.server.Mounted.{Mounted}
use Rattle.log_schedule.specs.declared.config.Group.{Group}
use Rattle.logger_core.specs.declared.fault.LogFault.{LogFault}
use Rattle.logger_core.specs.declared.fault.LogFault.TheVariants as faults
use Rattle.logger_core.specs.Logging.{IsLater}
use Rattle.logger_core.specs.LogSteps.{entries_put, switch_entry}
use Rattle.logger_core.specs.Steps.{IsEntryBy, IsGreatest, IsStampIn, NoEntryAfter, due_in, fits_index, fitting, greatest_in, has_item, is_behind, last_entry, up_to, where_behind, with_entry}
use Rattle.logger_core.proofs.Whole.{each_contained}
use Rattle.logging_session.specs.Events.{Event, Lead, LeadFrom, opening}
use Rattle.logging_session.specs.Written.{Logs, Opens, Refuses, Report, Stand, Written, starting}
use Rattle.logging_session.proofs.ComeBack.{at_of}
use Rattle.logging_session.proofs.OneReason.{none_stamped}
use Rattle.run_script.specs.declared.script.Script.{Script}
use Rattle.script_runs.specs.declared.ending.Ending.{Ending}
use Rattle.script_runs.specs.declared.ending.Ending.TheVariants as ends
use Rattle.script_runs.specs.Archives.{IsRecovered, IsTurnedAway, ending_of, report_of, run_label}
use Rattle.script_runs.specs.Groups.{Plan}
use Rattle.run_archive.specs.Samples.{SampleTaken, stamps_of}
use Rattle.run_archive.specs.Shown.{AreShown, events_of, result_for, shown_by, with_result, with_sure_results}
use Rattle.record_run.specs.Beside.{IsSampled}
use Rattle.record_run.specs.Stopping.{ShowsLast, shown_last}
use Rattle.pm_recording.specs.Good.{AreLater, AreRising}

-- ---- what is logged has the greatest stamp

record_by : (last t : Moment) → microseconds last < microseconds t → (r : MetaRecord) → IsRecordBy last r → IsRecordBy t r
record_by last t later (Description d names) by = tt
record_by last t later (Domain s i pairs) by = omega (arith, by, later)
record_by last t later Other by = tt

no_record : (c : ArchiveContents) (t : Moment) → IsGreatest c None → (r : MetaRecord) → Contains c.records r → IsRecordBy t r
no_record c t none (Description d names) there = tt
no_record c t none (Domain s i pairs) there = absurd (none s (inr (inl (i, pairs, there))))
no_record c t none Other there = tt

items_by : (c : ArchiveContents) (g : Option Moment) (t : Moment) → IsGreatest c g → IsLater g t → NoItemAfter t (items_of c.volumes)
items_by c None t none later = each-map (λ x. Contains (items_of c.volumes) x) (IsItemBy t) (λ x there. absurd (none (stamp_of x) (inl (x, there, refl)))) (items_of c.volumes) (each_contained (items_of c.volumes))
items_by c (Some last) t is later = each-map (IsItemBy last) (IsItemBy t) (λ x by. omega (arith, by, later)) (items_of c.volumes) is.1

domains_by : (c : ArchiveContents) (g : Option Moment) (t : Moment) → IsGreatest c g → IsLater g t → NoDomainAfter t c.records
domains_by c None t none later = each-map (λ r. Contains c.records r) (IsRecordBy t) (no_record c t none) c.records (each_contained c.records)
domains_by c (Some last) t is later = each-map (IsRecordBy last) (IsRecordBy t) (record_by last t later) c.records is.2

entries_by : (c : ArchiveContents) (g : Option Moment) (t : Moment) → IsGreatest c g → IsLater g t → NoEntryAfter t c.entries
entries_by c None t none later = each-map (λ e. Contains c.entries e) (IsEntryBy t) (λ e there. absurd (none e.stamp (inr (inr (e, there, refl))))) c.entries (each_contained c.entries)
entries_by c (Some last) t is later = each-map (IsEntryBy last) (IsEntryBy t) (λ e by. omega (arith, by, later)) c.entries is.3

described : (t : Moment) (facts : List (Desc × List ℕ)) → NoDomainAfter t (map described_by facts)
described t [] = tt
described t (f ∷ fs) = (tt, described t fs)

listed : (t : Moment) (records : List MetaRecord) (ds : List (ℕ × List (ℤ × List ℕ))) (missing : List MetaRecord) → AreMissingDomains records t ds missing → NoDomainAfter t missing
listed t records [] missing none = subst (NoDomainAfter t) (sym none) tt
listed t records (d ∷ ds) missing (inl held) = listed t records ds missing held.1
listed t records (d ∷ ds) missing (inr lacks) = subst (NoDomainAfter t) (sym lacks.1.1) (omega arith, listed t records ds lacks.1.0 lacks.1.2)

missing_by : (records : List MetaRecord) (facts : Facts) (answer : PmResult) (missing : List MetaRecord) → AreMissing records facts answer missing → NoDomainAfter answer.stamp missing
missing_by records facts answer missing needed =
    subst (NoDomainAfter answer.stamp) (sym needed.is) (each-append (IsRecordBy answer.stamp) (missing_descriptions records facts.metrics answer.sets) needed.domains
    (described answer.stamp (values_of_keys (fact_of facts.metrics) (undescribed_metrics records answer.sets)))
    (listed answer.stamp records (domains_of facts answer.sets) needed.domains needed.lacking))

-- ---- the entries that are put have the greatest stamp

kept_by : (b : Bool) (e : Entry) (t : Moment) → IsEntryBy t e → NoEntryAfter t (option_to_list (if b then Some e else None))
kept_by true e t by = (by, tt)
kept_by false e t by = tt

where_by : (last o : Option Entry) (t : Moment) → NoEntryAfter t (option_to_list o) → NoEntryAfter t (option_to_list (where_behind last o))
where_by last None t by = tt
where_by last (Some e) t by = kept_by (is_behind last e) e t by.0

fitting_by : (size : ℕ) (e : Entry) (t : Moment) → IsEntryBy t e → NoEntryAfter t (option_to_list (fitting size e))
fitting_by size e t by = kept_by (fits_index size e) e t by

due_by : (all : Files) (c : ArchiveContents) (number : ℕ) (g : Option Moment) (stood : Bool) (t : Moment) → IsLater g t → NoEntryAfter t (option_to_list (due_in all c number g stood))
due_by all c number None stood t later = tt
due_by all c number (Some s) false t later = tt
due_by all c number (Some s) true t later =
    let e : Entry = up_to s number (length (all files.Meta)) (length (all (files.Volume number))) in
    where_by (last_entry c.entries) (fitting (length (all files.Index)) e) t (fitting_by (length (all files.Index)) e t (omega (arith, later)))

switch_by : (g : Option Moment) (size next meta : ℕ) (t : Moment) → IsLater g t → NoEntryAfter t (option_to_list (switch_entry g size next meta))
switch_by None size next meta t later = tt
switch_by (Some s) size next meta t later = fitting_by size (up_to s next meta 132) t (omega (arith, later))

put_by : (b : Bool) (all : Files) (c : ArchiveContents) (number : ℕ) (g : Option Moment) (stood : Bool) (t : Moment) → IsLater g t → NoEntryAfter t (entries_put b all c number g stood)
put_by false all c number g stood t later = tt
put_by true all c number g stood t later =
    let flushed : Files = with_entry (due_in all c number g stood) all in
    each-append (IsEntryBy t) (option_to_list (due_in all c number g stood)) (option_to_list (switch_entry g (length (flushed files.Index)) (number + 1) (length (flushed files.Meta))))
    (due_by all c number g stood t later) (switch_by g (length (flushed files.Index)) (number + 1) (length (flushed files.Meta)) t later)

not_above : (c : ArchiveContents) (s t : Moment) → IsStampIn c s → NoItemAfter t (items_of c.volumes) → NoDomainAfter t c.records → NoEntryAfter t c.entries → microseconds s ≤ microseconds t
not_above c s t (inl (x, has, same)) items domains entries = subst (λ (m : Moment). microseconds m ≤ microseconds t) same (at_of (IsItemBy t) (items_of c.volumes) x items has)
not_above c s t (inr (inl (indom, pairs, has))) items domains entries = at_of (IsRecordBy t) c.records (Domain s indom pairs) domains has
not_above c s t (inr (inr (e, has, same))) items domains entries = subst (λ (m : Moment). microseconds m ≤ microseconds t) same (at_of (IsEntryBy t) c.entries e entries has)

module _ (limit : ℕ) (r : Report) (old new : Written) (logs : Logs limit r old new) where
  abbrev now : Moment
  now = r.result.stamp

  -- the greatest stamp that the files give, which the result is after
  abbrev before : Option Moment
  before = greatest_in old.contents

  is_greatest : IsGreatest old.contents before
  is_greatest = logs.ends_are.are.found refl

  is_later : IsLater before now
  is_later = subst (λ (g : Option Moment). IsLater g now) logs.ends_are.are.greatest logs.loggable.later

  items_now : NoItemAfter now (items_of new.contents.volumes)
  items_now = subst (NoItemAfter now) (sym logs.items) (each-append (IsItemBy now) (items_of old.contents.volumes) (Sample r.result ∷ [])
      (items_by old.contents before now is_greatest is_later) (omega arith, tt))

  domains_now : NoDomainAfter now new.contents.records
  domains_now = subst (NoDomainAfter now) (sym logs.records) (each-append (IsRecordBy now) old.contents.records logs.step.missing
      (domains_by old.contents before now is_greatest is_later)
      (missing_by old.contents.records r.facts r.result logs.step.missing logs.step.needed))

  entries_now : NoEntryAfter now new.contents.entries
  entries_now = subst (NoEntryAfter now) (sym logs.entries) (each-append (IsEntryBy now) old.contents.entries
      (entries_put logs.step.crossing old.files old.contents old.volume before (has_item old.contents))
      (entries_by old.contents before now is_greatest is_later)
      (put_by logs.step.crossing old.files old.contents old.volume before (has_item old.contents) now is_later))

  logged_last : (s : Moment) → IsStampIn new.contents s → microseconds s ≤ microseconds now
  logged_last s is = not_above new.contents s now is items_now domains_now entries_now

-- ---- the events of results

-- each is made sure
abbrev reports : List Fetched → List Event
reports [] = []
reports (f ∷ results) = Event.logged (report_of f) ∷ Event.synced ∷ reports results

reports_behind : (e : Event) (events : List Event) (results : List Fetched) → with_sure_results (e ∷ events) results ≡ e ∷ events ++ reports results
reports_behind e events [] = ap (λ (es : List Event). e ∷ es) (sym (append-nil events))
reports_behind e events (f ∷ results) =
    reports_behind e ((events ++ Event.logged (report_of f) ∷ []) ++ Event.synced ∷ []) results
    ∙ ap (λ (es : List Event). e ∷ es) (append_assoc (events ++ Event.logged (report_of f) ∷ []) (Event.synced ∷ []) (reports results) ∙ append_assoc events (Event.logged (report_of f) ∷ []) (Event.synced ∷ reports results))

-- the first one opens the archive, or else the next result does
opened_first : (now : Moment) (results : List Fetched) → (stamp : Moment) × (opening now (events_of results) ≡ Event.opened stamp ∷ reports results)
opened_first now [] = (now, refl)
opened_first now (f ∷ results) =
    let are : events_of (f ∷ results) ≡ Event.opened f.result.stamp ∷ reports (f ∷ results) = reports_behind (Event.opened f.result.stamp) (Event.logged (report_of f) ∷ Event.synced ∷ []) results in
    (f.result.stamp, ap (λ (es : List Event). opening now es) are)

-- a sync changes nothing
synced_leads : (l : LabelFields) (limit : ℕ) (w : Written) (events : List Event) (last : Written) → Lead l limit (Stand.opened w) (Event.synced ∷ events) (Stand.opened last) → Lead l limit (Stand.opened w) events (Stand.opened last)
synced_leads l limit w events last (next, stays, more) = subst (λ (stand : Stand). Lead l limit stand events (Stand.opened last)) stays more

-- ---- what stands is stamped before a moment

module _ (now : Moment) where
  abbrev IsEarlier : Moment → Type 0
  IsEarlier t = microseconds t < microseconds now

  abbrev Earlier : Written → Type 0
  Earlier w = (t : Moment) → IsStampIn w.contents t → IsEarlier t

  found_earlier : (start left : Files) (moments : List Moment) → AreLater start moments → IsRecovered start left → Contains moments now → (l : LabelFields) (w : Written) → Opens l left w → Earlier w
  found_earlier start left moments later recovered has l w (inl x, whole) t is = absurd (none_stamped l t (subst (λ (c : ArchiveContents). IsStampIn c t) x.2 is))
  found_earlier start left moments later recovered has l w (inr x, whole) t is = later left w.contents recovered x.1 t now is has

  logged_earlier : (limit : ℕ) (r : Report) (old new : Written) → Logs limit r old new → IsEarlier r.result.stamp → Earlier new
  logged_earlier limit r old new logs before t is = let by = logged_last limit r old new logs t is in omega (arith, by, before)

  all_earlier : (l : LabelFields) (limit : ℕ) (old : Written) (results : List Fetched) (last : Written) → Lead l limit (Stand.opened old) (reports results) (Stand.opened last)
      → AllByRecursion (λ (f : Fetched). IsEarlier f.result.stamp) results → Earlier old → Earlier last
  all_earlier l limit old [] last is before here = let same : last ≡ old = cc in subst Earlier (sym same) here
  all_earlier l limit old (f ∷ results) last (next, (new, logs, is), more) before here =
      all_earlier l limit new results last (synced_leads l limit new (reports results) last (subst (λ (stand : Stand). Lead l limit stand (Event.synced ∷ reports results) (Stand.opened last)) is more)) before.1
      (logged_earlier limit (report_of f) old new logs before.0)

  led_earlier : (start left : Files) (moments : List Moment) → AreLater start moments → IsRecovered start left → Contains moments now → (l : LabelFields) (limit : ℕ) (stamp : Moment) (results : List Fetched) (last : Written)
      → LeadFrom l limit left (Event.opened stamp ∷ reports results) (Stand.opened last) → AllByRecursion (λ (f : Fetched). IsEarlier f.result.stamp) results → Earlier last
  led_earlier start left moments later recovered has l limit stamp results last (next, (w, opens, is), more) before =
      all_earlier l limit w results last (subst (λ (stand : Stand). Lead l limit stand (reports results) (Stand.opened last)) is more) before (found_earlier start left moments later recovered has (starting l stamp) w opens)

-- ---- the results of samples have their stamps

shows_now : (pmids : List ℕ) (f shows : Fetched) → result_for pmids f ≡ Some shows → shows.result.stamp ≡ f.result.stamp
shows_now [] f shows is = absurd (cc)
shows_now (p ∷ pmids) f shows is = let same : f ≡ shows = cc in ap (λ (x : Fetched). x.result.stamp) (sym same)

stamp_shown : (groups : List Group) (plans : Option (List Plan)) (s : SampleTaken) (shows : Fetched) → shown_by groups plans s ≡ Some shows → shows.result.stamp ≡ s.stamp
stamp_shown groups plans s shows is = shows_now _ _ shows is

module _ (P : Moment → Type 0) where
  abbrev HaveResults : List Fetched → Type 0
  HaveResults results = AllByRecursion (λ (f : Fetched). P f.result.stamp) results

  with_one : (o : Option Fetched) (rest : List Fetched) → ((f : Fetched) → o ≡ Some f → P f.result.stamp) → HaveResults rest → HaveResults (with_result o rest)
  with_one None rest this others = others
  with_one (Some f) rest this others = (this f refl, others)

  results_have : (groups : List Group) (plans : Option (List Plan)) (samples : List SampleTaken) (results : List Fetched) (later : Option (List Plan)) → AreShown groups plans samples results later → AllByRecursion P (stamps_of samples) → HaveResults results
  results_have groups plans [] results later shown all = subst HaveResults (sym shown.0) tt
  results_have groups plans (s ∷ samples) results later (next, rest, few, passed, is, more) all =
      subst HaveResults (sym is) (with_one (shown_by groups plans s) rest (λ f shows. subst P (sym (stamp_shown groups plans s f shows)) all.0) (results_have groups (Some next) samples rest later more all.1))

-- ---- the last moment

stamps-append : (samples more : List SampleTaken) → stamps_of (samples ++ more) ≡ stamps_of samples ++ stamps_of more
stamps-append [] more = refl
stamps-append (s ∷ samples) more = ap (λ (l : List Moment). s.stamp ∷ l) (stamps-append samples more)

has_between : (before : List Moment) (t : Moment) (behind : List Moment) → Contains (before ++ t ∷ behind) t
has_between [] t behind = (0, omega arith, refl)
has_between (x ∷ before) t behind = let more = has_between before t behind in (suc more.0, omega (arith, more.1), more.2)

rising_front : (before : List Moment) (t : Moment) (behind : List Moment) → AreRising (before ++ t ∷ behind) → AllByRecursion (IsEarlier t) before
rising_front [] t behind rising = tt
rising_front (x ∷ []) t behind rising = (rising.0, tt)
rising_front (x ∷ y ∷ before) t behind rising = let rest = rising_front (y ∷ before) t behind rising.1 in (omega (arith, rising.0, rest.0), rest)

-- no other fault ends so
full_apart : (file : FileId) (bytes : ℕ) (last : Moment) → ending_of (faults.Full file bytes) ≡ Some (ends.NotLater last) → ⊥
full_apart files.Meta bytes last is = cc
full_apart file bytes last is = cc

too_early : (limit : ℕ) (r : Report) (w : Written) (fault : LogFault) (last : Moment) → Refuses limit r w fault → ending_of fault ≡ Some (ends.NotLater last) → (t : Moment) × IsStampIn w.contents t × (microseconds r.result.stamp ≤ microseconds t)
too_early limit r w (faults.NotLater t) last refuses is =
    let same : greatest_in w.contents ≡ Some t = sym refuses.ends_are.are.greatest ∙ refuses.refused.2 in
    let greatest : IsGreatest w.contents (Some t) = subst (λ (g : Option Moment). IsGreatest w.contents g) same (refuses.ends_are.are.found refl) in (t, greatest.0, refuses.refused.3)
too_early limit r w (faults.Full file bytes) last refuses is = absurd (full_apart file bytes last is)
too_early limit r w fault last refuses is = absurd (cc)

module _ {script : Script} {server : List Mounted} {first final : List Token} {ending : Ending} {moments : List Moment} {results : List Fetched} (sampled : IsSampled script server first final ending moments results)
    (limit : ℕ) (start : Files) (all rest : List Moment) (are : all ≡ moments ++ rest) where
  -- the moments in front of a sample that logs nothing, which is the last one
  placed : (sample : SampleTaken) → sampled.unlogged ≡ sample ∷ [] → all ≡ stamps_of sampled.logged ++ sample.stamp ∷ (sampled.lacking ++ rest)
  placed sample one =
      let stamps : stamps_of (sampled.beside ++ sampled.behind) ≡ stamps_of sampled.logged ++ sample.stamp ∷ [] =
      ap stamps_of (sampled.are ∙ ap (λ (l : List SampleTaken). sampled.logged ++ l) one) ∙ stamps-append sampled.logged (sample ∷ []) in
      are ∙ ap (λ (l : List Moment). l ++ rest) (sampled.moments_are ∙ ap (λ (l : List Moment). l ++ sampled.lacking) stamps ∙ append_assoc (stamps_of sampled.logged) (sample.stamp ∷ []) sampled.lacking)
      ∙ append_assoc (stamps_of sampled.logged) (sample.stamp ∷ sampled.lacking) rest

  pub not_late : AreRising all → AreLater start all → (left : Files) → IsRecovered start left → (x : ShowsLast sampled) (last : Moment) → IsTurnedAway limit left (events_of results) (shown_last sampled x) (ends.NotLater last) → ⊥
  not_late rising later left recovered x last away =
      let now = x.sample.stamp in
      let place = placed x.sample x.one in
      let front : AllByRecursion (IsEarlier now) (stamps_of sampled.logged) = rising_front (stamps_of sampled.logged) now (sampled.lacking ++ rest) (subst AreRising place rising) in
      let has : Contains all now = subst (λ (l : List Moment). Contains l now) (sym place) (has_between (stamps_of sampled.logged) now (sampled.lacking ++ rest)) in
      let before = results_have (IsEarlier now) script.config.groups None sampled.logged results sampled.plans sampled.shown front in
      let first = opened_first now results in
      let lead : LeadFrom run_label limit left (Event.opened first.0 ∷ reports results) (Stand.opened away.w) = subst (λ (events : List Event). LeadFrom run_label limit left events (Stand.opened away.w)) first.1 away.lead in
      let found = too_early limit (report_of (shown_last sampled x)) away.w away.fault last away.refuses away.ends in
      let low : microseconds found.0 < microseconds now = led_earlier now start left all later recovered has run_label limit first.0 results away.w lead before found.0 found.1 in
      let high : microseconds now ≤ microseconds found.0 = found.2 in
      omega (arith, low, high)
