-- What a session keeps, by where its archive stands, and what a call makes of it.
use Rattle.std.proofs.Common.{◌≡◌, inr, ℕ, ◌+◌, Bool, true, false, List, [], ◌∷◌, ◌++◌, length, refl, sym, ap, ◌∙◌, subst, arith, append-nil, length-append}
use Rattle.std.specs.Prelude.{min}
use Rattle.pcp_base.specs.Time.{Moment}
use Rattle.pcp_base.specs.declared.file.FileId.{FileId}
use Rattle.pcp_base.specs.declared.file.FileId.TheVariants.{Meta, Index, Volume}
use Rattle.pcp_base.specs.declared.result.Item.{Item}
use Rattle.pcp_base.specs.declared.result.Item.TheVariants.{Sample}
use Rattle.pcp_model.specs.Archive.{ArchiveReading, Reads, items_of, scan}
use Rattle.pcp_model.specs.Disk.{CrashImage, Files, Holdings, IsSettled, contents_of}
use Rattle.pcp_model.specs.LabelFields.{LabelFields}
use Rattle.pcp_model.specs.Recovered.{Recovers}
use Rattle.pcp_outside.specs.declared.disk.Disk.{Ghosts as DiskGhosts}
use Rattle.pcp_outside.specs.Causes.{shown_count}
use Rattle.pcp_outside.specs.Devices.{LeavesOnly}
use Rattle.pcp_outside.proofs.Crash.{weaker}
use Rattle.archive_recovery.specs.declared.outcome.Archive.{Archive}
use Rattle.logger_core.specs.declared.ends.Ends.{Ends}
use Rattle.logger_core.specs.declared.fault.LogFault.{LogFault}
use Rattle.logger_core.specs.declared.fault.LogFault.TheVariants.{Closed, Live, Large, NotLater, Changed, Full, NoMemory, DiskFault}
use Rattle.logger_core.specs.Going.{IsFlushed, IsVolumeSure, all_acknowledged, counting_all}
use Rattle.logger_core.specs.Grouping.{Told, samples_of}
use Rattle.logger_core.specs.Held.{counts_of}
use Rattle.logger_core.specs.Holding.{HeldBack, HoldMayAnswer, HoldsMore, IsHolding, written_back}
use Rattle.logger_core.specs.Logging.{IsLoggable}
use Rattle.logger_core.specs.Meant.{Kept, IsLogger, Meant}
use Rattle.logger_core.specs.Reopening.{IsLeft, as_found}
use Rattle.logger_core.specs.Runs.{SurvivesWith}
use Rattle.logger_core.proofs.AsFound.{same_files}
use Rattle.logging_session.specs.declared.place.Place.{Place}
use Rattle.logging_session.specs.declared.place.Place.TheVariants.{Found, Open, Lost, Failed}
use Rattle.logging_session.specs.Answers.{ComesBackBy, IsMadeSure, TakeFails}
use Rattle.logging_session.specs.ComingBack.{ComesBack, ComesBackTo, start_of}
use Rattle.logging_session.specs.Events.{Event, LeadFrom, acknowledged_by, behind, items_by, opening, sure_event}
use Rattle.logging_session.specs.Keeping.{AllSure, AreWhole, Carried, IsGoing, IsPlace, IsUntouched, Keeps, held_in, meant_of, told_of}
use Rattle.logging_session.specs.Laws.{sure_in}
use Rattle.logging_session.specs.Opening.{IsOpened}
use Rattle.logging_session.specs.Written.{Flushes, Logs, Report, Stand, Written, files_of, starting}
use Rattle.logging_session.proofs.ComeBack.{fewer}
use Rattle.logging_session.proofs.Events.{behind_is, items_more, lead_more, opening_is}
use Rattle.logging_session.proofs.Flushes.{flush_goes, sync_goes}
use Rattle.logging_session.proofs.Going.{going_comes, going_counts, going_files, going_whole, hold_goes, none_held, survivor_comes, turned_refuses, write_goes}
use Rattle.logging_session.proofs.Logged.{is_settled, not_closed}
use Rattle.logging_session.proofs.Openings.{standing_comes}

-- the same session, which stands elsewhere
abbrev pub with_place : Carried → Place → Carried
with_place s p = record { label = s.label; limit = s.limit; logged = s.logged; place = p }

-- and where it stood before it is the same
pub put_back : (s t : Carried) (p : Place) → s ≡ t → s.place ≡ p → with_place s p ≡ t
put_back s t p same is = ap (λ (q : Place). with_place s q) (sym is) ∙ same

-- what recovery left is settled
pub left_settled : (held : Holdings) → AllSure held → IsSettled held
left_settled held sure = record { meta = sure Meta; index = inr (sure Index); volumes = λ k. sure (Volume k) }

-- ---- by where it stands

-- nothing was done
pub record StandsUntouched (left : Files) (events : List Event) (stand : Stand) (held : Holdings) : Type 0 where
  pub files : Files
  pub is : stand ≡ Stand.found files
  pub untouched : IsUntouched left events files held

-- a logger goes on
pub record StandsOpen (l : LabelFields) (left : Files) (limit : ℕ) (events : List Event) (stand : Stand) (b : HeldBack) (held : Holdings) : Type 0 where
  pub w : Written
  pub is : stand ≡ Stand.opened w
  pub going : IsGoing l left limit events w b held

found_stands : (l : LabelFields) (left : Files) (limit : ℕ) (events : List Event) (stand : Stand) (archive : Archive) (held : Holdings) → IsPlace l left limit events stand (Found archive) held → IsLeft archive held × StandsUntouched left events stand held
found_stands l left limit events (Stand.found files) archive held is = (is.0, record { files = files; is = refl; untouched = is.1 })
found_stands l left limit events (Stand.opened w) archive held is = absurd is

open_stands : (l : LabelFields) (left : Files) (limit : ℕ) (events : List Event) (stand : Stand) (b : HeldBack) (held : Holdings) → IsPlace l left limit events stand (Open b) held → StandsOpen l left limit events stand b held
open_stands l left limit events (Stand.found files) b held is = absurd is
open_stands l left limit events (Stand.opened w) b held is = record { w = w; is = refl; going = is }

-- what is untouched comes back
untouched_comes : (left : Files) (events : List Event) (files : Files) (held : Holdings) → IsUntouched left events files held → (image : Files) → ComesBackTo [] 0 (contents_of held) image → ComesBackBy events left image
untouched_comes left events files held u image comes =
    subst (λ (es : List Event). ComesBackBy es left image) (sym u.none) (subst (λ (f : Files). ComesBackTo [] 0 f image) u.stands comes)

-- why a result isn't held
module _ {l : LabelFields} (left : Files) (limit : ℕ) (events : List Event) (r : Report) (stand : Stand) (b : HeldBack) (old : Holdings) (o : StandsOpen l left limit events stand b old) where
  pub take_fails : (e : LogFault) → HoldMayAnswer b r.result r.facts e → TakeFails stand limit r e
  take_fails Closed may = not_closed b.kept.closed may o.going.open_
  take_fails (Live volume) may = absurd may.1
  take_fails (Large bytes) may = (o.w, o.is, turned_refuses left limit events r o.w b old o.going (Large bytes) may.1)
  take_fails (NotLater last) may = (o.w, o.is, turned_refuses left limit events r o.w b old o.going (NotLater last) may.1)
  take_fails (Changed pmid) may = (o.w, o.is, turned_refuses left limit events r o.w b old o.going (Changed pmid) may.1)
  take_fails (Full file bytes) may = (o.w, o.is, turned_refuses left limit events r o.w b old o.going (Full file bytes) may.1)
  take_fails NoMemory may = tt
  take_fails DiskFault may = absurd may.1

module _ (left : Files) (events : List Event) (s : Carried) (old : Holdings) (k : Keeps left events s old) where
  at_place : (p : Place) → s.place ≡ p → IsPlace s.label left s.limit events k.stand p old
  at_place p is = subst (λ (q : Place). IsPlace s.label left s.limit events k.stand q old) is k.place

  pub when_found : (archive : Archive) → s.place ≡ Found archive → IsLeft archive old × StandsUntouched left events k.stand old
  when_found archive is = found_stands s.label left s.limit events k.stand archive old (at_place (Found archive) is)

  pub when_open : (b : HeldBack) → s.place ≡ Open b → StandsOpen s.label left s.limit events k.stand b old
  when_open b is = open_stands s.label left s.limit events k.stand b old (at_place (Open b) is)

  pub when_opened_leads : (b : HeldBack) → (is : s.place ≡ Open b) → LeadFrom s.label s.limit left events (Stand.opened (when_open b is).w)
  when_opened_leads b is = subst (λ (t : Stand). LeadFrom s.label s.limit left events t) (when_open b is).is k.lead

  -- nothing was done before it is open
  pub idles : (archive : Archive) → s.place ≡ Found archive → (e : Event) → Keeps left (behind events e) s old
  idles archive is e =
      let u : StandsUntouched left events k.stand old = (when_found archive is).1 in
      subst (λ (es : List Event). Keeps left (behind es e) s old) (sym u.untouched.none) (subst (λ (es : List Event). Keeps left es s old) u.untouched.none k)

  pub idle_settles : (archive : Archive) → s.place ≡ Found archive → IsSettled old
  idle_settles archive is = let u : StandsUntouched left events k.stand old = (when_found archive is).1 in left_settled old u.untouched.sure

  -- once it is open it is opened no more
  pub opens_no_more : (b : HeldBack) → (is : s.place ≡ Open b) → (stamp : Moment) → Keeps left (opening stamp events) s old
  opens_no_more b is stamp =
      subst (λ (es : List Event). Keeps left es s old) (sym (opening_is s.label s.limit left events (when_open b is).w stamp (when_opened_leads b is))) k

  -- ---- opening

  pub found_comes : (archive : Archive) → s.place ≡ Found archive → (image : Files) → ComesBackTo [] 0 (contents_of old) image → ComesBackBy events left image
  found_comes archive is image comes = let u = (when_found archive is).1 in untouched_comes left events u.files old u.untouched image comes

  pub loses : (archive : Archive) (held : Holdings) → s.place ≡ Found archive → held ≡ old → Keeps left events (with_place s Lost) held
  loses archive held is still =
      let u : StandsUntouched left events k.stand old = (when_found archive is).1 in
      record {
        stand = k.stand;
        lead = k.lead;
        place = subst (λ (t : Stand). IsPlace s.label left s.limit events t Lost held) (sym u.is) (subst (λ (h : Holdings). IsUntouched left events u.files h) (sym still) u.untouched);
        counted = k.counted;
      }

  opens_none : (stamp : Moment) (kept : Kept) (b : HeldBack) (held : Holdings) → events ≡ [] → (o : IsOpened (starting s.label stamp) left kept held) → IsHolding (as_found o.files o.contents) b [] (as_found o.files o.contents) held → (b.kept.closed ≡ false) × (b.kept.limit ≡ s.limit)
      → b.planned ≡ kept.ends → Keeps left (Event.opened stamp ∷ []) (with_place s (Open b)) held
  opens_none stamp kept b held none o is may planned =
      let w : Written = record { files = o.files; contents = o.contents; volume = kept.ends.volume } in
      record {
        stand = Stand.opened w;
        lead = (Stand.opened w, (w, (o.opens, o.is.at.stands.keeps.last), refl), refl);
        place = record {
          label = starting s.label stamp;
          first = w;
          opens = o.opens;
          written = w;
          acknowledged = length (items_of o.contents.volumes);
          pending = [];
          later = length (items_of o.contents.volumes);
          is = is;
          volume = ap (λ (e : Ends). e.volume) planned;
          open_ = may.0;
          limit_is = may.1;
          items_are = sym (append-nil (items_of o.contents.volumes));
          apart = tt;
          enough = omega arith;
          front = Event.opened stamp ∷ [];
          behind = refl;
          led = (Stand.opened w, (w, (o.opens, o.is.at.stands.keeps.last), refl), refl);
          last = o.is.at.stands.keeps.last;
          each = (refl, refl);
          settled = λ no_items. left_settled held o.sure;
        };
        counted = k.counted ∙ ap (λ (es : List Event). shown_count (length (items_by es))) none;
      }

  pub opens : (archive : Archive) (stamp : Moment) (kept : Kept) (b : HeldBack) (held : Holdings) → s.place ≡ Found archive → IsOpened (starting s.label stamp) (contents_of old) kept held → ((m : Meant) → IsLogger m kept held → IsHolding m b [] m held)
      → (b.kept.closed ≡ false) × (b.kept.limit ≡ s.limit) → b.planned ≡ kept.ends → Keeps left (opening stamp events) (with_place s (Open b)) held
  opens archive stamp kept b held is o holding may planned =
      let u : StandsUntouched left events k.stand old = (when_found archive is).1 in
      let there : IsOpened (starting s.label stamp) left kept held = subst (λ (f : Files). IsOpened (starting s.label stamp) f kept held) u.untouched.stands o in
      subst (λ (es : List Event). Keeps left (opening stamp es) (with_place s (Open b)) held) (sym u.untouched.none)
      (opens_none stamp kept b held u.untouched.none there (holding (as_found there.files there.contents) there.is) may planned)

  -- ---- holding

  pub holds : (r : Report) (b now : HeldBack) (n : ℕ) → (is : s.place ≡ Open b) → IsLoggable b.kept.records b.planned b.kept.limit r.result r.facts
      → ((m : Meant) (pending : List Told) (o : Meant) → IsHolding m b pending o old → HoldsMore m b now pending r.result r.facts o old)
      → now.kept.limit ≡ b.kept.limit → now.kept.closed ≡ false → n ≡ shown_count (s.logged + 1) → Keeps left (events ++ Event.logged r ∷ []) (record { label = s.label; limit = s.limit; logged = n; place = Open now }) old
  holds r b now n is may hold limit_same open_ count =
      let o : StandsOpen s.label left s.limit events k.stand b old = when_open b is in
      let g : IsGoing s.label left s.limit events o.w b old = o.going in
      let goes : (new : Written) × Logs s.limit r o.w new × IsGoing s.label left s.limit (events ++ Event.logged r ∷ []) new now old =
      hold_goes left s.limit events r o.w b old g now may (hold (meant_of g.first g.written g.acknowledged) (told_of g.pending) (meant_of g.first o.w g.later) g.is) limit_same open_ in
      record {
        stand = Stand.opened goes.0;
        lead = lead_more s.label s.limit (Stand.found left) events (Stand.opened o.w) (Event.logged r) (Stand.opened goes.0) (when_opened_leads b is) (goes.0, goes.1, refl);
        place = goes.2;
        counted = omega (arith, count, k.counted, ap length (items_more events (Event.logged r)), length-append (items_by events) (Sample r.result ∷ []));
      }

  -- ---- writing

  pub writes : (b now : HeldBack) (held : Holdings) → (is : s.place ≡ Open b) → ((m o : Meant) (pending : List Told) → IsHolding m b pending o old → IsHolding o now [] o held) → now ≡ written_back b → (b.runs ≡ [] → held ≡ old) → Keeps left events (with_place s (Open now)) held
  writes b now held is write same idle =
      let o : StandsOpen s.label left s.limit events k.stand b old = when_open b is in
      let g : IsGoing s.label left s.limit events o.w b old = o.going in
      record {
        stand = Stand.opened o.w;
        lead = when_opened_leads b is;
        place = write_goes left s.limit events o.w b old g now held (when_opened_leads b is) (write (meant_of g.first g.written g.acknowledged) (meant_of g.first o.w g.later) (told_of g.pending) g.is) same idle;
        counted = k.counted;
      }

  -- whatever survives of what is written and held comes back
  pub held_comes : (b : HeldBack) → (is : s.place ≡ Open b) → (image : Files) → SurvivesWith (meant_of (when_open b is).going.first (when_open b is).going.written (when_open b is).going.acknowledged) (samples_of (told_of (when_open b is).going.pending)) image
      → ComesBackBy events left image
  held_comes b is = survivor_comes left s.limit events (when_open b is).w b old (when_open b is).going

  -- ---- making sure

  module _ (b now : HeldBack) (held : Holdings) (is : s.place ≡ Open b) (limit_same : now.kept.limit ≡ b.kept.limit) (open_ : now.kept.closed ≡ false) (none : now.runs ≡ []) (planned : now.planned ≡ now.kept.ends) (sure : IsVolumeSure now.kept.ends.volume held) where
    abbrev o : StandsOpen s.label left s.limit events k.stand b old
    o = when_open b is

    abbrev last : Meant
    last = meant_of o.going.first o.w o.going.later

    flushes : IsFlushed last (written_back b).kept now.kept held → Keeps left (behind events Event.flushed) (with_place s (Open now)) held
    flushes flush =
        let goes : (new : Written) × Flushes o.w new × IsGoing s.label left s.limit (events ++ Event.flushed ∷ []) new now held =
        flush_goes left s.limit events o.w b now old held o.going (when_opened_leads b is) limit_same open_ none planned sure flush in
        let lead = when_opened_leads b is in
        subst (λ (es : List Event). Keeps left es (with_place s (Open now)) held) (sym (behind_is s.label s.limit left events o.w Event.flushed lead)) record {
          stand = Stand.opened goes.0;
          lead = lead_more s.label s.limit (Stand.found left) events (Stand.opened o.w) Event.flushed (Stand.opened goes.0) lead (goes.0, goes.1, refl);
          place = goes.2;
          counted = omega (arith, k.counted, ap length (items_more events Event.flushed), length-append (items_by events) []);
        }

    syncs : IsLogger (all_acknowledged last) now.kept held → now.kept ≡ counting_all (written_back b).kept → Keeps left (behind events Event.synced) (with_place s (Open now)) held
    syncs sync same =
        let lead = when_opened_leads b is in
        subst (λ (es : List Event). Keeps left es (with_place s (Open now)) held) (sym (behind_is s.label s.limit left events o.w Event.synced lead)) record {
          stand = Stand.opened o.w;
          lead = lead_more s.label s.limit (Stand.found left) events (Stand.opened o.w) Event.synced (Stand.opened o.w) lead refl;
          place = sync_goes left s.limit events o.w b now old held o.going (when_opened_leads b is) limit_same open_ none planned sure sync same;
          counted = omega (arith, k.counted, ap length (items_more events Event.synced), length-append (items_by events) []);
        }

    sure_so : (puts_entry : Bool) → IsMadeSure puts_entry last (written_back b).kept now.kept held → Keeps left (behind events (sure_event puts_entry)) (with_place s (Open now)) held
    sure_so true done = flushes done
    sure_so false done = syncs done.0 done.1

    settles_so : (puts_entry : Bool) → IsMadeSure puts_entry last (written_back b).kept now.kept held → IsSettled held
    settles_so true done = is_settled done.new now.kept.ends.volume held done.is.at.stands sure
    settles_so false done = is_settled (all_acknowledged last) now.kept.ends.volume held done.0.at.stands sure

    module _ (puts_entry : Bool) (done : (m o : Meant) (pending : List Told) → IsHolding m b pending o old → IsMadeSure puts_entry o (written_back b).kept now.kept held) where
      made : IsMadeSure puts_entry last (written_back b).kept now.kept held
      made = done (meant_of o.going.first o.going.written o.going.acknowledged) last (told_of o.going.pending) o.going.is

      pub makes_sure : Keeps left (behind events (sure_event puts_entry)) (with_place s (Open now)) held
      makes_sure = sure_so puts_entry made

      pub sure_settles : IsSettled held
      sure_settles = settles_so puts_entry made

-- at any moment while it is written
pub batch_comes : {D : Type 0} (d : DiskGhosts D) (left : Files) (events : List Event) (s : Carried) (disk after : D) (k : Keeps left events s (d.held disk)) (b : HeldBack) → s.place ≡ Open b
    → ((m o : Meant) (pending : List Told) → IsHolding m b pending o (d.held disk) → LeavesOnly d.moment d.left_since disk after (SurvivesWith m (samples_of pending))) → LeavesOnly d.moment d.left_since disk after (ComesBackBy events left)
batch_comes d left events s disk after k b is run =
    let g = (when_open left events s (d.held disk) k b is).going in
    weaker d.moment d.left_since d.held disk after (SurvivesWith (meant_of g.first g.written g.acknowledged) (samples_of (told_of g.pending))) (ComesBackBy events left)
    (run (meant_of g.first g.written g.acknowledged) (meant_of g.first (when_open left events s (d.held disk) k b is).w g.later) (told_of g.pending) g.is) (held_comes left events s (d.held disk) k b is)

-- ---- whatever is kept

at_least_none : (events : List Event) (left files image : Files) (r : ArchiveReading) → ComesBack (start_of files r left) (scan r ++ items_by events) (length (scan r) + acknowledged_by events) image → ComesBack (start_of files r left) (scan r ++ items_by events) 0 image
at_least_none events left files image r comes = fewer (start_of files r left) (scan r ++ items_by events) (length (scan r) + acknowledged_by events) 0 image (omega arith) comes

module _ (l : LabelFields) (left : Files) (limit : ℕ) (events : List Event) (held : Holdings) where
  place_comes : (stand : Stand) (place : Place) → IsPlace l left limit events stand place held → (image : Files) → CrashImage held image → ComesBackBy events left image
  place_comes (Stand.found files) (Found archive) is image crash = untouched_comes left events files held is.1 image (standing_comes held [] image (same_files held is.1.sure image crash))
  place_comes (Stand.found files) Lost is image crash = untouched_comes left events files held is image (standing_comes held [] image (same_files held is.sure image crash))
  place_comes (Stand.found files) (Open b) is image crash = absurd is
  place_comes (Stand.found files) (Failed lost) is image crash = absurd is
  place_comes (Stand.opened w) (Open b) is image crash = going_comes left limit events w b held is image crash
  place_comes (Stand.opened w) (Found archive) is image crash = absurd is
  place_comes (Stand.opened w) Lost is image crash = absurd is
  place_comes (Stand.opened w) (Failed lost) is image crash = absurd is

  place_counts : (stand : Stand) (place : Place) → IsPlace l left limit events stand place held → (files image : Files) (r : ArchiveReading) → CrashImage held image → Reads files r → Recovers files r left
      → ComesBack (start_of files r left) (scan r ++ items_by events) (sure_in place) image
  place_counts (Stand.found f) (Found archive) is files image r crash reads recovered = at_least_none events left files image r (place_comes (Stand.found f) (Found archive) is image crash files r reads recovered)
  place_counts (Stand.found f) Lost is files image r crash reads recovered = at_least_none events left files image r (place_comes (Stand.found f) Lost is image crash files r reads recovered)
  place_counts (Stand.found f) (Open b) is files image r crash reads recovered = absurd is
  place_counts (Stand.found f) (Failed lost) is files image r crash reads recovered = absurd is
  place_counts (Stand.opened w) (Open b) is files image r crash reads recovered = going_counts left limit events w b held is files image r crash reads recovered
  place_counts (Stand.opened w) (Found archive) is files image r crash reads recovered = absurd is
  place_counts (Stand.opened w) Lost is files image r crash reads recovered = absurd is
  place_counts (Stand.opened w) (Failed lost) is files image r crash reads recovered = absurd is

  place_files : (stand : Stand) (place : Place) → IsPlace l left limit events stand place held → held_in place ≡ 0 → contents_of held ≡ files_of stand
  place_files (Stand.found files) (Found archive) is none = is.1.stands ∙ sym is.1.same
  place_files (Stand.found files) Lost is none = is.stands ∙ sym is.same
  place_files (Stand.found files) (Open b) is none = absurd is
  place_files (Stand.found files) (Failed lost) is none = absurd is
  place_files (Stand.opened w) (Open b) is none = going_files left limit events w b held is none
  place_files (Stand.opened w) (Found archive) is none = absurd is
  place_files (Stand.opened w) Lost is none = absurd is
  place_files (Stand.opened w) (Failed lost) is none = absurd is

  place_whole : (stand : Stand) (place : Place) → IsPlace l left limit events stand place held → AreWhole left → AreWhole (contents_of held)
  place_whole (Stand.found files) (Found archive) is whole = subst AreWhole (sym is.1.stands) whole
  place_whole (Stand.found files) Lost is whole = subst AreWhole (sym is.stands) whole
  place_whole (Stand.found files) (Open b) is whole = absurd is
  place_whole (Stand.found files) (Failed lost) is whole = absurd is
  place_whole (Stand.opened w) (Open b) is whole = going_whole left limit events w b held is
  place_whole (Stand.opened w) (Found archive) is whole = absurd is
  place_whole (Stand.opened w) Lost is whole = absurd is
  place_whole (Stand.opened w) (Failed lost) is whole = absurd is

  place_settled : (stand : Stand) (place : Place) → IsPlace l left limit events stand place held → items_by events ≡ [] → IsSettled held
  place_settled (Stand.found files) (Found archive) is none = left_settled held is.1.sure
  place_settled (Stand.found files) Lost is none = left_settled held is.sure
  place_settled (Stand.found files) (Open b) is none = absurd is
  place_settled (Stand.found files) (Failed lost) is none = absurd is
  place_settled (Stand.opened w) (Open b) is none = is.settled none
  place_settled (Stand.opened w) (Found archive) is none = absurd is
  place_settled (Stand.opened w) Lost is none = absurd is
  place_settled (Stand.opened w) (Failed lost) is none = absurd is

  -- nothing that was logged is held where nothing was logged
  place_holds_none : (stand : Stand) (place : Place) → IsPlace l left limit events stand place held → items_by events ≡ [] → held_in place ≡ 0
  place_holds_none (Stand.found files) (Found archive) is none = refl
  place_holds_none (Stand.found files) Lost is none = refl
  place_holds_none (Stand.found files) (Open b) is none = absurd is
  place_holds_none (Stand.found files) (Failed lost) is none = absurd is
  place_holds_none (Stand.opened w) (Open b) is none = ap counts_of (none_held left limit events w b held is none)
  place_holds_none (Stand.opened w) (Found archive) is none = absurd is
  place_holds_none (Stand.opened w) Lost is none = absurd is
  place_holds_none (Stand.opened w) (Failed lost) is none = absurd is

no_item : (items : List Item) → min (length items) 18446744073709551615 ≡ 0 → items ≡ []
no_item [] none = refl
no_item (x ∷ items) none = absurd (omega (arith, none))

module _ (left : Files) (events : List Event) (s : Carried) (held : Holdings) (k : Keeps left events s held) where
  pub kept_comes : (image : Files) → CrashImage held image → ComesBackBy events left image
  kept_comes image crash = place_comes s.label left s.limit events held k.stand s.place k.place image crash

  pub kept_counts : (files image : Files) (r : ArchiveReading) → CrashImage held image → Reads files r → Recovers files r left → ComesBack (start_of files r left) (scan r ++ items_by events) (sure_in s.place) image
  kept_counts files image r crash reads recovered = place_counts s.label left s.limit events held k.stand s.place k.place files image r crash reads recovered

  pub kept_files : held_in s.place ≡ 0 → (file : FileId) → contents_of held file ≡ files_of k.stand file
  kept_files none file = ap (λ (f : Files). f file) (place_files s.label left s.limit events held k.stand s.place k.place none)

  pub kept_whole : AreWhole left → AreWhole (contents_of held)
  kept_whole whole = place_whole s.label left s.limit events held k.stand s.place k.place whole

  pub kept_holds_none : items_by events ≡ [] → held_in s.place ≡ 0
  kept_holds_none none = place_holds_none s.label left s.limit events held k.stand s.place k.place none

  pub kept_none : s.logged ≡ 0 → items_by events ≡ []
  kept_none none = no_item (items_by events) (sym k.counted ∙ none)

  pub kept_settled : s.logged ≡ 0 → IsSettled held
  kept_settled none = place_settled s.label left s.limit events held k.stand s.place k.place (kept_none none)

  pub kept_some : (s.logged ≡ 0 → ⊥) → length (items_by events) ≡ 0 → ⊥
  kept_some some none = some (k.counted ∙ ap shown_count none)
