-- What stands where a run has ended: what was said, what was logged, and the files.
use Rattle.std.proofs.Common.{◌≡◌, ◌≢◌, ◌⊎◌, inl, inr, ℕ, ◌+◌, List, [], ◌∷◌, ◌++◌, append-nil, length, map, refl, sym, ap, ◌∙◌, subst, Result, Ok, Err}
use Rattle.pcp_base.specs.declared.result.Item.{Item}
use Rattle.pcp_base.specs.declared.result.Item.TheVariants as items
use Rattle.pcp_outside.specs.Causes.{Rose}
use Rattle.pcp_outside.specs.Sides.{SourceSide, SinkSide}
use Rattle.logger_core.specs.declared.fault.LogFault.{LogFault}
use Rattle.logger_core.specs.declared.fault.LogFault.TheVariants as logs
use Rattle.logging_session.specs.Crashes.{LosesAtMostOne}
use Rattle.logging_session.specs.Events.{closing}
use Rattle.logging_session.specs.Written.{Report}
use Rattle.logging_run.specs.declared.fault.RunFault.{RunFault}
use Rattle.logging_run.specs.declared.fault.RunFault.TheVariants as runs
use Rattle.logging_run.specs.Closing.{CameTo, Close, HasFlushed}
use Rattle.logging_run.specs.Handing.{AreSure, Handed, events_of, items_of_run, reports_of}
use Rattle.logging_run.specs.Laws.{ItemsAreReports, SureRunsLoseAtMostOne}
use Rattle.logging_run.specs.Recovering.{IsUnrecovered}
use Rattle.pmcd_client.specs.declared.faults.TalkFault.{TalkFault}
use Rattle.pmcd_client.specs.declared.faults.TalkFault.TheVariants as talks
use Rattle.pmcd_client.specs.Bytes.{EndsBy, NoneFails}
use Rattle.pmcd_client.specs.Talks.{BreaksOff, Sample}
use Rattle.pmcd_client.specs.Turns.{Turn}
use Rattle.pm_words.specs.declared.words.PullWords.{PullWords}
use Rattle.pm_pulling.specs.declared.stop.Stop.{Stop}
use Rattle.pm_pulling.specs.declared.stop.Stop.TheVariants.{Talk, Archive}
use Rattle.pm_pulling.specs.Ends.{CallSide, HasRun}
use Rattle.pm_pulling.specs.Facts.{HasFiled, results_of}
use Rattle.pm_pulling.specs.Pulling.{Came, IsFlushed, IsLast, IsRefusedMemory, IsSilent, IsUnbegun, PullSide, Pulled, Says, TurnsAway, all_sure, handed_in, report_of}

-- ---- the dialogue

read_ends : (i : SourceSide) (o : SinkSide) (n : ℕ) (took : List ℕ) (rest : List Turn) → EndsBy i o n took rest talks.ReadFault → Rose i.faults i.faults_after
read_ends i o n took [] ends = let e : talks.ReadFault ≡ talks.NoMemory = ends.1 in absurd (cc)
read_ends i o n took (turn ∷ later) ends = ends.1.source_rose

write_ends : (i : SourceSide) (o : SinkSide) (n : ℕ) (took : List ℕ) (rest : List Turn) → EndsBy i o n took rest talks.WriteFault → Rose o.faults o.faults_after
write_ends i o n took [] ends = let e : talks.WriteFault ≡ talks.NoMemory = ends.1 in absurd (cc)
write_ends i o n took (turn ∷ later) ends = ends.1.sink_rose

module _ (names : List (List ℕ)) (i : SourceSide) (o : SinkSide) (samples : List Sample) where
  pub read_rose : BreaksOff names i o samples talks.ReadFault → Rose i.faults i.faults_after
  read_rose (inl b) = read_ends i o (0 + length b.replies) b.stops.more_taken b.stops.rest b.stops.ends
  read_rose (inr b) = let e = b.is in absurd (cc)

  pub write_rose : BreaksOff names i o samples talks.WriteFault → Rose o.faults o.faults_after
  write_rose (inl b) = write_ends i o (0 + length b.replies) b.stops.more_taken b.stops.rest b.stops.ends
  write_rose (inr b) = let e = b.is in absurd (cc)

-- ---- what was logged

-- it was logged whole, or one more was turned away
abbrev pub IsWhole : List Handed → Type 0
IsWhole last = (last ≡ []) ⊎ ((x : Sample) × (last ≡ Handed.refused (report_of x) ∷ []))

results_with : (samples : List Sample) (last : List Handed) → reports_of last ≡ [] → map (λ (r : Report). items.Sample r.result) (reports_of (all_sure samples ++ last)) ≡ results_of samples
results_with [] last none = ap (map (λ (r : Report). items.Sample r.result)) none
results_with (x ∷ samples) last none = ap (λ (xs : List Item). items.Sample x.result ∷ xs) (results_with samples last none)

sure_with : (samples : List Sample) (last : List Handed) → AreSure last → AreSure (all_sure samples ++ last)
sure_with [] last sure = sure
sure_with (x ∷ samples) last sure = sure_with samples last sure

none_in : (last : List Handed) → IsWhole last → reports_of last ≡ []
none_in last (inl none) = ap reports_of none
none_in last (inr (x, is)) = ap reports_of is

sure_in : (last : List Handed) → IsWhole last → AreSure last
sure_in last (inl none) = subst AreSure (sym none) tt
sure_in last (inr (x, is)) = subst AreSure (sym is) tt

pub whole_items : ItemsAreReports → (samples : List Sample) (last : List Handed) → IsWhole last → items_of_run (all_sure samples ++ last) ≡ results_of samples
whole_items items_are samples last whole = items_are (all_sure samples ++ last) ∙ results_with samples last (none_in last whole)

pub whole_loses : SureRunsLoseAtMostOne → (samples : List Sample) (last : List Handed) → IsWhole last → LosesAtMostOne (closing (events_of (all_sure samples ++ last)))
whole_loses loses samples last whole = (loses (all_sure samples ++ last) (sure_with samples last (sure_in last whole))).1

-- also where one was on its way
pub any_loses : SureRunsLoseAtMostOne → (samples more : List Sample) (last : List Handed) → IsLast more last → LosesAtMostOne (events_of (all_sure samples ++ last))
any_loses loses samples [] last is = (loses (all_sure samples ++ last) (sure_with samples last (sure_in last (inl is)))).0
any_loses loses samples (x ∷ []) last (inl none) = (loses (all_sure samples ++ last) (sure_with samples last (sure_in last (inl none)))).0
any_loses loses samples (x ∷ []) last (inr (inl refused)) = (loses (all_sure samples ++ last) (sure_with samples last (sure_in last (inr (x, refused))))).0
any_loses loses samples (x ∷ []) last (inr (inr held)) =
    subst (λ (h : List Handed). LosesAtMostOne (events_of (all_sure samples ++ h))) (sym held) ((loses (all_sure samples) (subst AreSure (append-nil (all_sure samples)) (sure_with samples [] tt))).2 (report_of x))
any_loses loses samples (x ∷ y ∷ more) last is = absurd is

-- ---- the disk

module _ {D : Type 0} (p : PullSide D) (asked : PullWords) (result : Result (Unit {0}) Stop) (pulled : Pulled p asked result) where
  abbrev pub CameSo : Close → Type 0
  CameSo close = CameTo p.disk asked.volume (handed_in pulled) p.disk_was p.disk_is close

  pub came_so : (close : Close) → pulled.close ≡ close → p.disk.tells → CameSo close
  came_so close is tells = subst CameSo is (pulled.ran tells).came

  pub flushed_so : pulled.close ≡ Close.flushed → p.disk.tells → HasFlushed p.disk asked.volume (handed_in pulled) p.disk_was p.disk_is
  flushed_so is tells = came_so Close.flushed is tells

  abbrev pub Unbegun : RunFault → Type 0
  Unbegun = IsUnbegun p asked pulled.came pulled.logged pulled.unlogged pulled.last pulled.close

  abbrev pub Flushed : Type 0
  Flushed = IsFlushed p asked pulled.came pulled.logged pulled.unlogged pulled.last pulled.close

  pub unbegun_so : (fault : RunFault) → Unbegun fault → p.disk.tells → IsUnrecovered p.disk p.disk_was fault p.disk_is
  unbegun_so fault u tells = (came_so (Close.unrecovered fault) u.closed tells).0

  pub says_so : (came : Came) → pulled.came ≡ came → Says came asked.names p.reply p.request (pulled.logged ++ pulled.unlogged)
  says_so came is = subst (λ (x : Came). Says x asked.names p.reply p.request (pulled.logged ++ pulled.unlogged)) is pulled.says

  pub silent_so : (fault : RunFault) → Unbegun fault → IsSilent p.reply p.request
  silent_so fault u = (says_so Came.silent u.silent).0

  pub broken_so : (fault : TalkFault) → pulled.came ≡ Came.broken fault → BreaksOff asked.names p.reply p.request (pulled.logged ++ pulled.unlogged) fault
  broken_so fault is = says_so (Came.broken fault) is

  pub stands_so : pulled.came ≡ Came.stands → NoneFails p.reply p.request
  stands_so is = (says_so Came.stands is).1.passes.stand

  -- nothing was handed in of a last sample, or the archive turned it away
  pub none_last : pulled.unlogged ≡ [] → IsWhole pulled.last
  none_last none = inl (subst (λ (xs : List Sample). IsLast xs pulled.last) none pulled.is_last)

-- ---- the ends at which the disk hasn't failed

module _ {D : Type 0} (c : CallSide D) (items_are : ItemsAreReports) (loses : SureRunsLoseAtMostOne) where
  pub filed : (result : Result (Unit {0}) Stop) (ran : HasRun c result) → ran.pulled.close ≡ Close.flushed → IsWhole ran.pulled.last → HasFiled c ran
  filed result ran closed whole = record {
    items = whole_items items_are ran.pulled.logged ran.pulled.last whole;
    loses_one = whole_loses loses ran.pulled.logged ran.pulled.last whole;
    flushed = λ tells. flushed_so c.pull ran.asked result ran.pulled closed tells;
  }

  -- why files aren't recovered, but for a disk that fails
  abbrev pub IsOfFiles : RunFault → Type 0
  IsOfFiles (runs.Compressed file) = Unit {0}
  IsOfFiles (runs.NotArchive file at) = Unit {0}
  IsOfFiles runs.NoMemory = Unit {0}
  IsOfFiles fault = ⊥

  -- a run whose files weren't recovered, or one whose results are flushed: of each end but that of a disk that failed
  abbrev pub Stands : {result : Result (Unit {0}) Stop} → HasRun c result → Type 0
  Stands {result} ran = ((fault : RunFault) × IsOfFiles fault × (result ≡ Err (Archive fault)) × Unbegun c.pull ran.asked result ran.pulled fault) ⊎ ((ran.pulled.close ≡ Close.flushed) × HasFiled c ran)

  whole_stands : (result : Result (Unit {0}) Stop) (ran : HasRun c result) → ran.pulled.close ≡ Close.flushed → IsWhole ran.pulled.last → Stands ran
  whole_stands result ran closed whole = inr (closed, filed result ran closed whole)

  away_stands : (result : Result (Unit {0}) Stop) (ran : HasRun c result) (fault : LogFault) → TurnsAway c.pull ran.asked ran.pulled.came ran.pulled.logged ran.pulled.unlogged ran.pulled.last ran.pulled.close fault → Stands ran
  away_stands result ran fault away = whole_stands result ran away.shows.flushed.closed (inr (away.x, away.handed))

  refused_whole : (last : List Handed) (x : Sample) → (last ≡ []) ⊎ (last ≡ Handed.refused (report_of x) ∷ []) → IsWhole last
  refused_whole last x (inl none) = inl none
  refused_whole last x (inr is) = inr (x, is)

  pub stands : (result : Result (Unit {0}) Stop) → result ≢ Err (Archive runs.DiskFault) → (ran : HasRun c result) → Stands ran
  stands (Ok done) other ran = whole_stands (Ok done) ran ran.pulled.why.3.closed (none_last c.pull ran.asked (Ok done) ran.pulled ran.pulled.why.2)
  stands (Err (Talk fault)) other ran = whole_stands (Err (Talk fault)) ran ran.pulled.why.3.closed (none_last c.pull ran.asked (Err (Talk fault)) ran.pulled ran.pulled.why.2)
  stands (Err (Archive (runs.Compressed file))) other ran = inl (runs.Compressed file, tt, refl, ran.pulled.why)
  stands (Err (Archive (runs.NotArchive file at))) other ran = inl (runs.NotArchive file at, tt, refl, ran.pulled.why)
  stands (Err (Archive (runs.Large bytes))) other ran = away_stands (Err (Archive (runs.Large bytes))) ran (logs.Large bytes) ran.pulled.why
  stands (Err (Archive (runs.NotLater last))) other ran = away_stands (Err (Archive (runs.NotLater last))) ran (logs.NotLater last) ran.pulled.why
  stands (Err (Archive (runs.Changed pmid))) other ran = away_stands (Err (Archive (runs.Changed pmid))) ran (logs.Changed pmid) ran.pulled.why
  stands (Err (Archive (runs.Full file bytes))) other ran = away_stands (Err (Archive (runs.Full file bytes))) ran (logs.Full file bytes) ran.pulled.why
  stands (Err (Archive runs.NoMemory)) other ran = wanting ran.pulled.why where
    wanting : IsUnbegun c.pull ran.asked ran.pulled.came ran.pulled.logged ran.pulled.unlogged ran.pulled.last ran.pulled.close runs.NoMemory
        ⊎ IsRefusedMemory c.pull ran.asked ran.pulled.came ran.pulled.logged ran.pulled.unlogged ran.pulled.last ran.pulled.close → Stands ran
    wanting (inl unbegun) = inl (runs.NoMemory, tt, refl, unbegun)
    wanting (inr refused) = whole_stands (Err (Archive runs.NoMemory)) ran refused.shows.flushed.closed (refused_whole ran.pulled.last refused.x refused.handed)
  stands (Err (Archive runs.DiskFault)) other ran = absurd (other refl)

  -- what wasn't recovered so is as it was
  pub unrecovered_stays : (fault : RunFault) → IsOfFiles fault → IsUnrecovered c.pull.disk c.pull.disk_was fault c.pull.disk_is → c.pull.disk.held c.pull.disk_is ≡ c.pull.disk.held c.pull.disk_was
  unrecovered_stays (runs.Compressed file) is u = u.1
  unrecovered_stays (runs.NotArchive file at) is u = u.1
  unrecovered_stays runs.NoMemory is u = u
  unrecovered_stays fault is u = absurd is
