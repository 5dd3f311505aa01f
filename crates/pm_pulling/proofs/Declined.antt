-- A sample that the archive doesn't take is told.
use Rattle.std.proofs.Common.{◌≡◌, ◌≢◌, ◌⊎◌, inl, inr, ⊎_elim, ℕ, ◌+◌, ◌<◌, ◌≤◌, List, [], ◌∷◌, ◌++◌, length, length-append, append_assoc, append-nil, refl, sym, ap, ◌∙◌, subst, arith, Result, Ok, Err}
use Rattle.std.proofs.lemmas.Bool.{cases_lt}
use Rattle.pcp_model.specs.Disk.{Files, contents_of}
use Rattle.pcp_outside.specs.Sides.{SinkSide}
use Rattle.logger_core.specs.declared.fault.LogFault.{LogFault}
use Rattle.logger_core.specs.declared.fault.LogFault.TheVariants as logs
use Rattle.logging_session.specs.Course.{LeadsTo}
use Rattle.logging_session.specs.Events.{closing}
use Rattle.logging_run.specs.Closing.{Close}
use Rattle.logging_run.specs.Handing.{Handed, events_of}
use Rattle.logging_run.specs.Laws.{TakenIsNotTurnedAway, TurnedAwayForOne}
use Rattle.logging_run.specs.Named.{run_label}
use Rattle.logging_run.specs.Recovering.{IsRecovered}
use Rattle.logging_run.specs.Running.{IsTurnedAway}
use Rattle.logging_run.proofs.Taken.{taken as is_taken}
use Rattle.pmcd_client.specs.declared.faults.ReplyFault.{ReplyFault}
use Rattle.pmcd_client.specs.declared.faults.TalkFault.TheVariants as talks
use Rattle.pmcd_client.specs.Replies.{Standing}
use Rattle.pmcd_client.specs.Talks.{BreaksOff, Sample, Talks}
use Rattle.pm_words.specs.declared.words.PullWords.{PullWords}
use Rattle.pm_pulling.specs.declared.stop.Stop.{Stop}
use Rattle.pm_pulling.specs.declared.stop.Stop.TheVariants.{Talk}
use Rattle.pm_pulling.specs.Ends.{CallSide, HasRun}
use Rattle.pm_pulling.specs.Good.{IsUntakenSample, TakesEach, any_sink, source_of}
use Rattle.pm_pulling.specs.Pulling.{Came, Pulled, Says, TurnsAway, all_sure, report_of}
use Rattle.pm_pulling.specs.Stops.{away_status}
use Rattle.pm_pulling.proofs.Completes.{EndsOpen, RefusesNone, open_end, order_of}
use Rattle.pm_pulling.proofs.Dialogues.{front_broken, not_broken, one_front}
use Rattle.pm_pulling.proofs.Endings.{Seen}
use Rattle.pm_pulling.proofs.Standing.{broken_so, flushed_so, says_so}

-- ---- where two lists of samples part

head_one : (x y : Sample) (xs ys : List Sample) → x ∷ xs ≡ y ∷ ys → x ≡ y
head_one x y xs ys is = cc

tail_one : (x y : Sample) (xs ys : List Sample) → x ∷ xs ≡ y ∷ ys → xs ≡ ys
tail_one x y xs ys is = cc

-- a list with one behind it, of which another with one behind it is a front: both are the same, or one is among the first ones of the other
meet : (a b : List Sample) (y x : Sample) (extra : List Sample) → b ++ x ∷ [] ≡ (a ++ y ∷ []) ++ extra → ((a ≡ b) × (y ≡ x)) ⊎ ((more : List Sample) × (b ≡ a ++ y ∷ more))
meet [] [] y x extra is = inl (refl, sym (head_one x y [] extra is))
meet [] (z ∷ b) y x extra is = inr (b, ap (λ (w : Sample). w ∷ b) (head_one z y (b ++ x ∷ []) extra is))
meet (z ∷ a) [] y x extra is = let long = ap length is ∙ length-append (z ∷ a ++ y ∷ []) extra in let also = length-append a (y ∷ []) in absurd (omega (arith, long, also))
meet (z ∷ a) (w ∷ b) y x extra is =
    let same : w ≡ z = head_one w z (b ++ x ∷ []) ((a ++ y ∷ []) ++ extra) is in
    ⊎_elim (λ (h : (a ≡ b) × (y ≡ x)). inl (ap (λ (v : Sample). v ∷ a) (sym same) ∙ ap (λ (vs : List Sample). w ∷ vs) h.0, h.1))
    (λ (h : (more : List Sample) × (b ≡ a ++ y ∷ more)). inr (h.0, ap (λ (v : Sample). v ∷ b) same ∙ ap (λ (vs : List Sample). z ∷ vs) h.1))
    (meet a b y x extra (tail_one w z (b ++ x ∷ []) ((a ++ y ∷ []) ++ extra) is))

-- one that is as long as another of which it is a front is the whole of it
whole_front : (all shown extra : List Sample) → all ≡ shown ++ extra → length all ≤ length shown → shown ≡ all
whole_front all shown [] is few = sym (append-nil shown) ∙ sym is
whole_front all shown (x ∷ extra) is few = let long = ap length is ∙ length-append shown (x ∷ extra) in absurd (omega (arith, few, long))

sure_behind : (a b : List Sample) → all_sure (a ++ b) ≡ all_sure a ++ all_sure b
sure_behind [] b = refl
sure_behind (x ∷ a) b = ap (λ (hs : List Handed). Handed.sure (report_of x) ∷ hs) (sure_behind a b)

-- what leads to files was taken
pub led_taken : (limit : ℕ) (start left : Files) (samples : List Sample) (files : Files) → IsRecovered start left → LeadsTo run_label limit left (closing (events_of (all_sure samples))) files → TakesEach limit start samples
led_taken limit start left samples files recovered leads = λ before x rest fault other is away.
    is_taken limit start left (all_sure before) (all_sure rest) (report_of x) files fault other recovered
    (subst (λ (hs : List Handed). LeadsTo run_label limit left (closing (events_of hs)) files) (ap all_sure is ∙ sure_behind before (x ∷ rest)) leads)
    away

module _ {D : Type 0} (c : CallSide D) (k : SinkSide) (refuses_none : RefusesNone) (taken : TakenIsNotTurnedAway) (once : TurnedAwayForOne) (fault : LogFault) (other : fault ≢ logs.NoMemory) (u : IsUntakenSample c k fault) where
  abbrev all : List Sample
  all = u.before ++ u.x ∷ []

  abbrev Shows : List Sample → Type 0
  Shows samples = (more : List Sample) × (samples ≡ u.before ++ u.x ∷ more)

  many : length all ≡ length u.before + 1
  many = length-append u.before (u.x ∷ [])

  -- ---- what was logged and flushed isn't turned away

  handed_so : (logged more : List Sample) (last : List Handed) → logged ≡ u.before ++ u.x ∷ more → all_sure logged ++ last ≡ all_sure u.before ++ Handed.sure (report_of u.x) ∷ (all_sure more ++ last)
  handed_so logged more last is =
      ap (λ (xs : List Sample). all_sure xs ++ last) is ∙ ap (λ (hs : List Handed). hs ++ last) (sure_behind u.before (u.x ∷ more)) ∙ append_assoc (all_sure u.before) (all_sure (u.x ∷ more)) last

  not_logged : (result : Result (Unit {0}) Stop) (p : Pulled c.pull u.asked result) → p.close ≡ Close.flushed → Shows p.logged → ⊥
  not_logged result p closed (more, is) =
      let has = flushed_so c.pull u.asked result p closed u.clear.files in
      let was = has.recovered.was in
      taken u.asked.volume (contents_of (c.pull.disk.held c.pull.disk_was)) (contents_of (c.pull.disk.held has.middle)) (all_sure u.before) (all_sure more ++ p.last) (report_of u.x) (contents_of (c.pull.disk.held c.pull.disk_is)) fault other
      (record { reading = was.reading; was = was.was; recovered = was.recovered })
      (subst (λ (hs : List Handed). LeadsTo run_label u.asked.volume (contents_of (c.pull.disk.held has.middle)) (closing (events_of hs)) (contents_of (c.pull.disk.held c.pull.disk_is))) (handed_so p.logged more p.last is) has.files)
      u.away

  -- ---- what the replies gave

  abbrev Talked : List Sample → Type 0
  Talked shown = (s : Standing) × Talks u.asked.names c.pull.reply c.pull.request shown s

  fronts : (shown : List Sample) → Talked shown → ((extra : List Sample) × (all ≡ shown ++ extra)) ⊎ ((extra : List Sample) × (shown ≡ all ++ extra))
  fronts shown (s, talks) =
      one_front u.asked.names c.pull.reply (source_of c.pull.reply.left u.offers.0) c.pull.request any_sink u.clear.replies tt refl u.clear.bytes shown all s u.offers.1 talks u.offers.2

  shows_all : (shown extra : List Sample) → shown ≡ all ++ extra → Shows shown
  shows_all shown extra is = (extra, is ∙ append_assoc u.before (u.x ∷ []) extra)

  -- where as many samples came it is among them
  shows_it : (shown : List Sample) → Talked shown → length all ≤ length shown → Shows shown
  shows_it shown talked long =
      ⊎_elim (λ (f : (extra : List Sample) × (all ≡ shown ++ extra)). shows_all shown [] (whole_front all shown f.0 f.1 long ∙ sym (append-nil all))) (λ (f : (extra : List Sample) × (shown ≡ all ++ extra)). shows_all shown f.0 f.1) (fronts shown talked)

  not_done : HasRun c (Ok tt) → ⊥
  not_done ran =
      let p = subst (λ (a : PullWords). Pulled c.pull a (Ok tt)) (order_of c k refuses_none ran.asked u.asked ran.orders u.orders) ran.pulled in
      let says = subst (λ (xs : List Sample). Says Came.stands u.asked.names c.pull.reply c.pull.request xs) (ap (λ (xs : List Sample). p.logged ++ xs) p.why.2 ∙ append-nil p.logged) (says_so c.pull u.asked (Ok tt) p Came.stands p.why.0) in
      let few = u.few in let count = p.why.1 in let size = many in
      not_logged (Ok tt) p p.why.3.closed (shows_it p.logged says (omega (arith, few, count, size)))

  not_bad : (number : ℕ) (why : ReplyFault) → HasRun c (Err (Talk (talks.Peer number why))) → ⊥
  not_bad number why ran = by_length (cases_lt (length p.logged) (length all)) where
    p : Pulled c.pull u.asked (Err (Talk (talks.Peer number why)))
    p = subst (λ (a : PullWords). Pulled c.pull a (Err (Talk (talks.Peer number why)))) (order_of c k refuses_none ran.asked u.asked ran.orders u.orders) ran.pulled

    broken : BreaksOff u.asked.names c.pull.reply c.pull.request p.logged (talks.Peer number why)
    broken = subst (λ (xs : List Sample). BreaksOff u.asked.names c.pull.reply c.pull.request xs (talks.Peer number why)) (ap (λ (xs : List Sample). p.logged ++ xs) p.why.2 ∙ append-nil p.logged) (broken_so c.pull u.asked (Err (Talk (talks.Peer number why))) p (talks.Peer number why) p.why.0)

    by_length : (length p.logged < length all) ⊎ (length all ≤ length p.logged) → ⊥
    by_length (inl few) = not_broken u.asked.names (source_of c.pull.reply.left u.offers.0) c.pull.reply any_sink c.pull.request tt u.clear.replies refl u.clear.bytes all p.logged u.offers.1 number why u.offers.2 broken few
    by_length (inr long) =
        let found = front_broken u.asked.names (source_of c.pull.reply.left u.offers.0) c.pull.reply any_sink c.pull.request tt u.clear.replies refl u.clear.bytes all p.logged u.offers.1 number why u.offers.2 broken long in
        not_logged (Err (Talk (talks.Peer number why))) p p.why.3.closed (shows_all p.logged found.0 found.1)

  -- ---- which sample was turned away

  module _ (given : LogFault) (result : Result (Unit {0}) Stop) (p : Pulled c.pull u.asked result) (t : TurnsAway c.pull u.asked p.came p.logged p.unlogged p.last p.close given) (known : given ≢ logs.NoMemory) where
    came : Talked (p.logged ++ t.x ∷ [])
    came = subst (λ (xs : List Sample). Says Came.stands u.asked.names c.pull.reply c.pull.request (p.logged ++ xs)) t.shows.one (says_so c.pull u.asked result p Came.stands t.shows.stands)

    earlier : (more : List Sample) → u.before ≡ p.logged ++ t.x ∷ more → ⊥
    earlier more is = u.clear.takes p.logged t.x more given known is (t.away u.clear.files)

    later : (more : List Sample) → p.logged ≡ u.before ++ u.x ∷ more → ⊥
    later more is = not_logged result p t.shows.flushed.closed (more, is)

    this : p.logged ≡ u.before → t.x ≡ u.x → given ≡ fault
    this logged is =
        once u.asked.volume (contents_of (c.pull.disk.held c.pull.disk_was)) (events_of (all_sure u.before)) (report_of u.x) given fault known other
        (subst (λ (y : Sample). IsTurnedAway u.asked.volume (contents_of (c.pull.disk.held c.pull.disk_was)) (events_of (all_sure u.before)) (report_of y) given) is
        (subst (λ (xs : List Sample). IsTurnedAway u.asked.volume (contents_of (c.pull.disk.held c.pull.disk_was)) (events_of (all_sure xs)) (report_of t.x) given) logged (t.away u.clear.files)))
        u.away

    in_front : (extra : List Sample) → all ≡ (p.logged ++ t.x ∷ []) ++ extra → given ≡ fault
    in_front extra is = by_place (meet p.logged u.before t.x u.x extra is) where
      by_place : ((p.logged ≡ u.before) × (t.x ≡ u.x)) ⊎ ((more : List Sample) × (u.before ≡ p.logged ++ t.x ∷ more)) → given ≡ fault
      by_place (inl (logged, same)) = this logged same
      by_place (inr (more, behind)) = absurd (earlier more behind)

    behind : (extra : List Sample) → p.logged ++ t.x ∷ [] ≡ all ++ extra → given ≡ fault
    behind extra is = by_place (meet u.before p.logged u.x t.x extra is) where
      by_place : ((u.before ≡ p.logged) × (u.x ≡ t.x)) ⊎ ((more : List Sample) × (p.logged ≡ u.before ++ u.x ∷ more)) → given ≡ fault
      by_place (inl (logged, same)) = this (sym logged) (sym same)
      by_place (inr (more, more_is)) = absurd (later more more_is)

    one_fault : given ≡ fault
    one_fault = ⊎_elim (λ (f : (extra : List Sample) × (all ≡ (p.logged ++ t.x ∷ []) ++ extra)). in_front f.0 f.1) (λ (f : (extra : List Sample) × (p.logged ++ t.x ∷ [] ≡ all ++ extra)). behind f.0 f.1) (fronts (p.logged ++ t.x ∷ []) came)

  by_open : (n : ℕ) → EndsOpen c k refuses_none u.asked u.before u.clear n → (n ≡ away_status fault) ⊎ (n ≡ 9)
  by_open n (inl (inl (h, ran))) = absurd (not_done ran)
  by_open n (inl (inr (inl (h, (number, why, ran))))) = absurd (not_bad number why ran)
  by_open n (inl (inr (inr h))) = inr h
  by_open n (inr (given, result, p, t, known, is)) = inl (is ∙ ap away_status (one_fault given result p t known))

  pub told_away : (n : ℕ) → Seen c k n → (n ≡ away_status fault) ⊎ (n ≡ 9)
  told_away n saw = by_open n (open_end c k refuses_none u.asked u.before u.clear n u.orders saw)
