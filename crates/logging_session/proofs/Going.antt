-- The archive of a session that is open: what a logger goes on with, and what a crash leaves of it.
use Rattle.std.proofs.Common.{◌≡◌, ℕ, ◌+◌, ◌-◌, ◌≤◌, false, List, [], ◌∷◌, ◌++◌, length, take, min, refl, sym, ap, ap₂, ◌∙◌, subst, arith, length-append}
use Rattle.std.specs.Prelude.{Contains, Option}
use Rattle.pcp_base.specs.Time.{Moment}
use Rattle.std.proofs.lemmas.List.Elements.{Contains-append_left}
use Rattle.std.proofs.lemmas.List.{append-nil, append_assoc, map-append, take-append-le, take_min}
use Rattle.pcp_base.specs.declared.file.FileId.TheVariants.{Meta, Index, Volume}
use Rattle.pcp_base.specs.declared.result.Item.{Item}
use Rattle.pcp_base.specs.declared.result.Item.TheVariants.{Sample}
use Rattle.pcp_model.specs.declared.records.MetaRecord.{MetaRecord}
use Rattle.pcp_model.specs.Archive.{ArchiveReading, Reads, items_of, scan}
use Rattle.pcp_model.specs.Disk.{CrashImage, Files, Holdings, IsSettled, contents_of}
use Rattle.pcp_model.specs.Frame.{frame}
use Rattle.pcp_model.specs.LabelFields.{LabelFields}
use Rattle.pcp_model.specs.Laws.{EndsWhole}
use Rattle.pcp_model.specs.Payload.{payload, payload_length}
use Rattle.pcp_model.specs.Recovered.{Recovers, recovered_reading}
use Rattle.pcp_model.proofs.Lists.{each-append}
use Rattle.archive_meta.specs.declared.facts.Facts.{Facts}
use Rattle.archive_meta.specs.Missing.{framed_records}
use Rattle.pcp_base.specs.declared.result.PmResult.{PmResult}
use Rattle.logger_core.specs.declared.ends.Ends.{Ends}
use Rattle.logger_core.specs.declared.fault.LogFault.{LogFault}
use Rattle.logger_core.specs.declared.fault.LogFault.TheVariants.{Closed, Live, Large, NotLater, Changed, Full, NoMemory, DiskFault}
use Rattle.logger_core.specs.Laws.{Survives}
use Rattle.logger_core.specs.LogSteps.{base_files, base_number, crosses, entries_put, with_run}
use Rattle.logger_core.specs.Grouping.{LogsAll, LogsOne, Told, samples_of}
use Rattle.logger_core.specs.Held.{counts_of}
use Rattle.logger_core.specs.Holding.{HeldBack, HoldsMore, IsHolding, written_back}
use Rattle.logger_core.specs.Logging.{IsLater, IsLoggable, IsRefused}
use Rattle.logger_core.specs.Meant.{Meant, items_in}
use Rattle.logger_core.specs.Recovering.{HoldsFirst}
use Rattle.logger_core.specs.Reopening.{as_found}
use Rattle.logger_core.specs.Steps.{greatest_in, has_item}
use Rattle.logger_core.specs.Runs.{SurvivesWith}
use Rattle.logger_core.proofs.GroupLogged.{no_runs}
use Rattle.logger_core.proofs.Grouped.{samples_many}
use Rattle.logger_core.proofs.HeldRuns.{runs_count}
use Rattle.logger_core.proofs.Rests.{few_acknowledged, image_survives, survives_same, survives_with}
use Rattle.logging_session.specs.ComingBack.{ComesBack, ComesBackTo, start_of}
use Rattle.logging_session.specs.Events.{Event, LeadFrom, acknowledged_by, items_by, logged_all}
use Rattle.logging_session.specs.Keeping.{AreApart, AreWhole, IsGoing, LogsEach, meant_of, told_of}
use Rattle.logging_session.specs.Written.{EndsAre, Logs, OpensFound, Refuses, Report, Stand, Written}
use Rattle.logging_session.proofs.ComeBack.{each_new, fewer, opened_comes, opened_items}
use Rattle.logging_session.proofs.Events.{items_more, sure_logged}
use Rattle.logging_session.proofs.Logged.{has_stamp}
use Rattle.logging_session.proofs.Meanings.{means_files}
use Rattle.logging_session.proofs.WholeStays.{whole_stays}
use Rattle.std.proofs.Math.Path.{fun_ext}

-- ---- what comes back with some items does so with more

pub comes_more : (items more : List Item) (k : ℕ) (left image : Files) → ComesBackTo items k left image → ComesBackTo (items ++ more) k left image
comes_more items more k left image comes = λ files r reads recovered.
    let h : ComesBack (start_of files r left) (scan r ++ items) (length (scan r) + k) image = comes files r reads recovered in
    record {
      reading = h.reading;
      reads = h.reads;
      comes = λ again recovers.
          let f : HoldsFirst (start_of files r left) (scan r ++ items) (length (scan r) + k) again (recovered_reading image h.reading) = h.comes again recovers in
          record {
            reads = f.reads;
            q = min f.q (length (scan r ++ items));
            items = f.items ∙ sym (take_min f.q (scan r ++ items)) ∙ sym (take-append-le (min f.q (length (scan r ++ items))) (scan r ++ items) more (omega arith))
                ∙ ap (λ (xs : List Item). take (min f.q (length (scan r ++ items))) xs) (append_assoc (scan r) items more);
            enough = f.enough;
            described = f.described;
            sound = f.sound;
          };
      new = h.new;
    }

pub comes_fewer : (items : List Item) (k n : ℕ) (left image : Files) → n ≤ k → ComesBackTo items k left image → ComesBackTo items n left image
comes_fewer items k n left image le comes = λ files r reads recovered. fewer (start_of files r left) (scan r ++ items) (length (scan r) + k) (length (scan r) + n) image (omega (arith, le)) (comes files r reads recovered)

-- ---- what survives comes back

module _ (left : Files) (l : LabelFields) (first : Written) (opens : OpensFound l left first.files first.contents) where
  abbrev found : List Item
  found = items_of first.contents.volumes

  pub survivors_come : (items : List Item) (k a : ℕ) (image : Files) → AreApart found items → length found + k ≤ a → Survives (as_found first.files first.contents).start (found ++ items) a image → ComesBackTo items k left image
  survivors_come items k a image apart enough w = λ files r reads recovered.
      let v : Survives (as_found first.files first.contents).start (found ++ items) (length found + k) image = survives_same (as_found first.files first.contents).start (found ++ items) (found ++ items) a (length found + k) image refl w enough in
      opened_comes left files r reads recovered l first.files first.contents opens items k image v (each_new (as_found first.files first.contents).start items (length found + k) image v apart)

-- a list of no length has nothing
none_pending : (pending : List Told) → length pending ≡ 0 → pending ≡ []
none_pending [] none = refl
none_pending (t ∷ pending) none = absurd (omega (arith, none))

module _ {l : LabelFields} (left : Files) (limit : ℕ) (events : List Event) (w : Written) (b : HeldBack) (held : Holdings) (g : IsGoing l left limit events w b held) where
  -- what is written, and what will be once all is
  abbrev m : Meant
  m = meant_of g.first g.written g.acknowledged

  abbrev o : Meant
  o = meant_of g.first w g.later

  abbrev items : List Item
  items = items_by events

  abbrev sure : ℕ
  sure = acknowledged_by events

  -- what is held
  abbrev more : List Item
  more = samples_of (told_of g.pending)

  all_items : items_in m ++ more ≡ items_of g.first.contents.volumes ++ items
  all_items = sym g.is.items_are ∙ g.items_are

  pub survivor_comes : (image : Files) → SurvivesWith m more image → ComesBackTo items sure left image
  survivor_comes image v =
      survivors_come left g.label g.first g.opens items sure g.acknowledged image g.apart g.enough (survives_same m.start (items_in m ++ more) (items_of g.first.contents.volumes ++ items) g.acknowledged g.acknowledged image all_items v (omega arith))

  -- of what is written the first ones survive
  standing_survives : (image : Files) → CrashImage held image → SurvivesWith m more image
  standing_survives image crash = survives_with m.start (items_in m) more g.acknowledged g.acknowledged image (image_survives m b.kept.ends.volume held g.is.at.stands image crash) (omega arith)

  pub going_comes : (image : Files) → CrashImage held image → ComesBackTo items sure left image
  going_comes image crash = survivor_comes image (standing_survives image crash)

  -- with as many as the logger counts as acknowledged
  pub going_counts : (files image : Files) (r : ArchiveReading) → CrashImage held image → Reads files r → Recovers files r left → ComesBack (start_of files r left) (scan r ++ items) b.kept.ends.acknowledged image
  going_counts files image r crash reads recovered =
      let found : List Item = items_of g.first.contents.volumes in
      let others : ℕ = g.acknowledged - length found in
      let v : Survives m.start (found ++ items) g.acknowledged image = survives_same m.start (items_in m ++ more) (found ++ items) g.acknowledged g.acknowledged image all_items (standing_survives image crash) (omega arith) in
      let same : found ≡ scan r = opened_items left files r reads recovered g.label g.first.files g.first.contents g.opens in
      fewer (start_of files r left) (scan r ++ items) (length (scan r) + others) b.kept.ends.acknowledged image (omega (arith, g.is.at.ends.acknowledged_is, g.enough, ap length same))
      (survivors_come left g.label g.first g.opens items others g.acknowledged image g.apart (omega (arith, g.enough)) v files r reads recovered)

  with_new : (x : Item) → items_in o ++ x ∷ [] ≡ items_of g.first.contents.volumes ++ (items ++ x ∷ [])
  with_new x = ap (λ (xs : List Item). xs ++ x ∷ []) g.items_are ∙ append_assoc (items_of g.first.contents.volumes) items (x ∷ [])

  -- what stood at the start stands in it
  found_in : (x : Item) → (Contains (items_in o) x → ⊥) → Contains (items_of g.first.contents.volumes) x → ⊥
  found_in x other has = other (subst (λ (xs : List Item). Contains xs x) (sym g.items_are) (Contains-append_left (items_of g.first.contents.volumes) items x has))

  apart_too : (x : Item) → (Contains (items_in o) x → ⊥) → AreApart (items_of g.first.contents.volumes) (items ++ x ∷ [])
  apart_too x other = each-append (λ (y : Item). Contains (items_of g.first.contents.volumes) y → ⊥) items (x ∷ []) g.apart (found_in x other, tt)

  -- a logger keeps its files whole
  pub going_whole : AreWhole (contents_of held)
  going_whole =
      let k = g.is.at.stands.keeps in
      subst AreWhole (sym (fun_ext g.is.at.stands.written)) (ArchiveReading.archive g.written.contents, k.is, whole_stays g.written.files g.written.contents b.kept.ends.volume k.is k.last k.indexed.0 k.indexed.1 k.whole)

  -- where nothing is held the disk holds what the events led to
  pub going_files : counts_of b.runs ≡ 0 → contents_of held ≡ w.files
  going_files none =
      let all : told_of g.pending ≡ [] = none_pending (told_of g.pending) (sym (runs_count g.written.contents.records b.kept.ends b.kept.limit b.runs (told_of g.pending) b.kept.records b.planned g.is.runs) ∙ none) in
      let logs : LogsAll m b.kept.ends.volume b.kept.limit [] o b.planned.volume = subst (λ (ts : List Told). LogsAll m b.kept.ends.volume b.kept.limit ts o b.planned.volume) all g.is.all in
      fun_ext g.is.at.stands.written ∙ sym (ap (λ (n : Meant). n.files) logs.0)

-- ---- what a logger keeps in numbers, but for what is acknowledged

abbrev with_all : ℕ → Ends → Ends
with_all n e = record { meta = e.meta; index = e.index; volume = e.volume; length = e.length; greatest = e.greatest; entry = e.entry; logged = e.logged; acknowledged = n }

module _ (records : List MetaRecord) (e : Ends) (n limit : ℕ) (answer : PmResult) (facts : Facts) where
  loggable_still : IsLoggable records e limit answer facts → IsLoggable records (with_all n e) limit answer facts
  loggable_still l = record {
    framed = l.framed;
    later = l.later;
    fit = l.fit;
    missing = l.missing;
    needed = l.needed;
    fits = l.fits;
    place = record { meta = l.place.meta; index = l.place.index; volume = l.place.volume };
  }

  refused_still : (fault : LogFault) → IsRefused records e limit answer facts fault → IsRefused records (with_all n e) limit answer facts fault
  refused_still Closed r = r
  refused_still (Live volume) r = r
  refused_still (Large bytes) r = r
  refused_still (NotLater last) r = r
  refused_still (Changed pmid) r = r
  refused_still (Full Meta bytes) r = r
  refused_still (Full Index bytes) r = r
  refused_still (Full (Volume k) bytes) r = r
  refused_still NoMemory r = r
  refused_still DiskFault r = r

-- ---- holding

logged_more : (reports : List Report) (r : Report) → logged_all (reports ++ r ∷ []) ≡ logged_all reports ++ Event.logged r ∷ []
logged_more [] r = refl
logged_more (q ∷ reports) r = ap (λ (es : List Event). Event.logged q ∷ es) (logged_more reports r)

each_more : (limit : ℕ) (first w : Written) (k : ℕ) (reports : List Report) (last : Written) (all : ℕ) (r : Report) (new : Written) (now : ℕ) → LogsEach limit first w k reports last all → Logs limit r last new
    → LogsOne (meant_of first last all) last.volume limit r.result r.facts (meant_of first new now) new.volume → LogsEach limit first w k (reports ++ r ∷ []) new now
each_more limit first w k [] last all r new now each logs one = (
  new,
  now,
  subst (λ (x : Written). Logs limit r x new) each.0 logs,
  subst (λ (x : Written). LogsOne (meant_of first x k) x.volume limit r.result r.facts (meant_of first new now) new.volume) each.0
      (subst (λ (n : ℕ). LogsOne (meant_of first last n) last.volume limit r.result r.facts (meant_of first new now) new.volume) each.1 one),
  (refl, refl),
)
each_more limit first w k (q ∷ reports) last all r new now each logs one = (each.0, each.1, each.2, each.3, each_more limit first each.0 each.1 reports last all r new now each.4 logs one)

told_more : (reports : List Report) (r : Report) → told_of (reports ++ r ∷ []) ≡ told_of reports ++ (r.result, r.facts) ∷ []
told_more reports r = map-append (λ (x : Report). (x.result, x.facts)) reports (r ∷ [])

module _ {l : LabelFields} (left : Files) (limit : ℕ) (events : List Event) (r : Report) (w : Written) (b : HeldBack) (held : Holdings) (g : IsGoing l left limit events w b held) where
  abbrev a : Meant
  a = meant_of g.first w g.later

  abbrev all_ends : Ends
  all_ends = with_all b.planned.logged b.planned

  ends_are : EndsAre w all_ends
  ends_are = record {
    are = record { meta = g.is.ends.meta; index = g.is.ends.index; length_is = g.is.ends.length_is; greatest = g.is.ends.greatest; moment = g.is.ends.moment; above = g.is.ends.above; found = g.is.ends.found; entry = g.is.ends.entry; logged = g.is.ends.logged; acknowledged_is = g.is.ends.logged };
    volume = g.volume;
  }

  pub turned_refuses : (e : LogFault) → IsRefused b.kept.records b.planned b.kept.limit r.result r.facts e → Refuses limit r w e
  turned_refuses e refused = record {
    ends = all_ends;
    ends_are = ends_are;
    refused = refused_still w.contents.records b.planned b.planned.logged limit r.result r.facts e
        (subst (λ (rs : List MetaRecord). IsRefused rs b.planned limit r.result r.facts e) (sym g.is.records_are) (subst (λ (n : ℕ). IsRefused b.kept.records b.planned n r.result r.facts e) g.limit_is refused));
  }

  loggable_here : IsLoggable b.kept.records b.planned b.kept.limit r.result r.facts → IsLoggable w.contents.records all_ends limit r.result r.facts
  loggable_here may =
      loggable_still w.contents.records b.planned b.planned.logged limit r.result r.facts
      (subst (λ (rs : List MetaRecord). IsLoggable rs b.planned limit r.result r.facts) (sym g.is.records_are) (subst (λ (n : ℕ). IsLoggable b.kept.records b.planned n r.result r.facts) g.limit_is may))

  is_new : IsLoggable b.kept.records b.planned b.kept.limit r.result r.facts → Contains (items_in a) (Sample r.result) → ⊥
  is_new may = has_stamp w.contents (greatest_in w.contents) (Sample r.result) g.is.ends.above (subst (λ (o : Option Moment). IsLater o r.result.stamp) g.is.ends.greatest may.later)

  pub hold_goes : (now : HeldBack) → IsLoggable b.kept.records b.planned b.kept.limit r.result r.facts → HoldsMore (meant_of g.first g.written g.acknowledged) b now (told_of g.pending) r.result r.facts a held → now.kept.limit ≡ b.kept.limit → now.kept.closed ≡ false
      → (new : Written) × Logs limit r w new × IsGoing l left limit (events ++ Event.logged r ∷ []) new now held
  hold_goes now may h limit_same open_ =
      let new : Written = record { files = h.next.files; contents = h.next.contents; volume = now.planned.volume } in
      let more : items_by (events ++ Event.logged r ∷ []) ≡ items_by events ++ Sample r.result ∷ [] = items_more events (Event.logged r) in
      let step = h.one.step in
      let stands = h.is.stands.keeps in
      let meant : h.next ≡ meant_of g.first new h.next.acknowledged = means_files g.first h.next now.planned.volume now.planned h.one.started h.one.gone_is h.is.ends stands.is in
      let logs : Logs limit r w new = record {
        ends = all_ends;
        ends_are = ends_are;
        loggable = loggable_here may;
        step = record {
          missing = step.missing;
          needed = step.needed;
          crossing = step.crossing;
          crosses_is = step.crosses_is ∙ ap₂ (λ (l n : ℕ). crosses l (length (w.files (Volume n))) (payload_length r.result + 8)) g.limit_is g.volume;
          is = λ file. step.is file
              ∙ ap (λ (n : ℕ). with_run (base_number step.crossing n) (framed_records step.missing) (frame (payload r.result)) (base_files step.crossing w.files w.contents n (greatest_in w.contents) (has_item w.contents)) file) g.volume;
        };
        is = stands.is;
        records = h.one.longer.records;
        entries = h.one.longer.entries ∙ ap (λ (n : ℕ). w.contents.entries ++ entries_put step.crossing w.files w.contents n (greatest_in w.contents) (has_item w.contents)) g.volume;
        items = h.one.longer.items;
        last = stands.last;
      } in
      let one : LogsOne a w.volume limit r.result r.facts (meant_of g.first new h.next.acknowledged) new.volume =
      subst (λ (n : ℕ). LogsOne a n limit r.result r.facts (meant_of g.first new h.next.acknowledged) new.volume) g.volume
      (subst (λ (n : ℕ). LogsOne a b.planned.volume n r.result r.facts (meant_of g.first new h.next.acknowledged) new.volume) g.limit_is
      (subst (λ (n : Meant). LogsOne a b.planned.volume b.kept.limit r.result r.facts n now.planned.volume) meant h.one)) in (
        new,
        logs,
        record {
          label = g.label;
          first = g.first;
          opens = g.opens;
          written = g.written;
          acknowledged = g.acknowledged;
          pending = g.pending ++ r ∷ [];
          later = h.next.acknowledged;
          is = subst (λ (ts : List Told). IsHolding (meant_of g.first g.written g.acknowledged) now ts (meant_of g.first new h.next.acknowledged) held) (sym (told_more g.pending r))
              (subst (λ (n : Meant). IsHolding (meant_of g.first g.written g.acknowledged) now (told_of g.pending ++ (r.result, r.facts) ∷ []) n held) meant h.is);
          volume = refl;
          open_ = open_;
          limit_is = limit_same ∙ g.limit_is;
          items_are = h.one.longer.items ∙ with_new left limit events w b held g (Sample r.result) ∙ ap (λ (xs : List Item). items_of g.first.contents.volumes ++ xs) (sym more);
          apart = subst (λ (xs : List Item). AreApart (items_of g.first.contents.volumes) xs) (sym more) (apart_too left limit events w b held g (Sample r.result) (is_new may));
          enough = omega (arith, g.enough, sure_logged events r);
          front = g.front;
          behind = ap (λ (es : List Event). es ++ Event.logged r ∷ []) g.behind ∙ append_assoc g.front (logged_all g.pending) (Event.logged r ∷ []) ∙ ap (λ (es : List Event). g.front ++ es) (sym (logged_more g.pending r));
          led = g.led;
          last = g.last;
          each = each_more limit g.first g.written g.acknowledged g.pending w g.later r new h.next.acknowledged g.each logs one;
          settled = λ none. absurd (omega (arith, ap length none, ap length more, length-append (items_by events) (Sample r.result ∷ [])));
        },
      )

-- ---- writing

module _ {l : LabelFields} (left : Files) (limit : ℕ) (events : List Event) (w : Written) (b : HeldBack) (old : Holdings) (g : IsGoing l left limit events w b old) where
  abbrev n : Meant
  n = meant_of g.first g.written g.acknowledged

  -- where nothing was logged nothing is held
  pub none_held : items_by events ≡ [] → b.runs ≡ []
  none_held none =
      let found : List Item = items_of g.first.contents.volumes in
      let few : g.acknowledged ≤ length (items_in n) = few_acknowledged n b.kept.ends.volume old g.is.at.stands in
      let pending : length (told_of g.pending) ≡ 0 = omega (arith, few, g.enough, samples_many (told_of g.pending), ap length (sym g.is.items_are ∙ g.items_are), length-append (items_in n) (samples_of (told_of g.pending)), length-append found (items_by events), ap length none) in
      no_runs g.written.contents.records b.kept.ends b.kept.limit b.runs (told_of g.pending) b.kept.records b.planned g.is.runs (none_pending (told_of g.pending) pending)

  pub write_goes : (now : HeldBack) (held : Holdings) → LeadFrom l limit left events (Stand.opened w) → IsHolding (meant_of g.first w g.later) now [] (meant_of g.first w g.later) held → now ≡ written_back b → (b.runs ≡ [] → held ≡ old) → IsGoing l left limit events w now held
  write_goes now held lead is same idle = record {
    label = g.label;
    first = g.first;
    opens = g.opens;
    written = w;
    acknowledged = g.later;
    pending = [];
    later = g.later;
    is = is;
    volume = ap (λ (x : HeldBack). x.planned.volume) same ∙ g.volume;
    open_ = ap (λ (x : HeldBack). x.kept.closed) same ∙ g.open_;
    limit_is = ap (λ (x : HeldBack). x.kept.limit) same ∙ g.limit_is;
    items_are = g.items_are;
    apart = g.apart;
    enough = omega (arith, g.enough, g.is.still);
    front = events;
    behind = sym (append-nil events);
    led = lead;
    last = subst (λ (k : ℕ). EndsWhole w.files w.contents k) g.volume g.is.stands.keeps.last;
    each = (refl, refl);
    settled = λ none. subst IsSettled (sym (idle (none_held none))) (g.settled none);
  }
