-- A whole pull, of its beginning, of the samples that were logged, and of its end.
use Rattle.std.proofs.Common.{◌≡◌, ◌≢◌, inl, inr, ℕ, ◌<◌, ◌≤◌, List, [], ◌∷◌, ◌++◌, length, length-append, append-nil, refl, sym, ap, ◌∙◌, subst, arith, Result, Ok, Err, IfErr, OnErr, OnOk}
use Rattle.pcp_model.specs.Disk.{CrashImage}
use Rattle.pcp_outside.specs.Causes.{Rose}
use Rattle.pcp_outside.specs.Sides.{SourceSide, SinkSide, sink_side, source_side}
use Rattle.pcp_outside.specs.declared.streams.Sink.{Ghosts as SinkGhosts}
use Rattle.pcp_outside.specs.declared.streams.Source.{Ghosts as SourceGhosts}
use Rattle.pcp_outside.specs.declared.disk.Disk.{Ghosts as DiskGhosts}
use Rattle.archive_recovery.specs.declared.outcome.RecoverFault.{RecoverFault}
use Rattle.archive_recovery.specs.declared.outcome.RecoverFault.TheVariants as recovery
use Rattle.logger_core.specs.declared.fault.LogFault.{LogFault}
use Rattle.logger_core.specs.declared.fault.LogFault.TheVariants as logs
use Rattle.logging_session.specs.Keeping.{Carried, IsFailed, lost_in}
use Rattle.logging_run.specs.declared.fault.RunFault.{RunFault}
use Rattle.logging_run.specs.declared.fault.RunFault.TheVariants as runs
use Rattle.logging_run.specs.Closing.{Close, Ran}
use Rattle.logging_run.specs.Handing.{Handed}
use Rattle.logging_run.specs.Recovering.{fault_of}
use Rattle.logging_run.specs.Running.{Fails, Rests, Stops, TurnsAway}
use Rattle.pmcd_client.specs.declared.faults.TalkFault.{TalkFault}
use Rattle.pmcd_client.specs.Replies.{Standing}
use Rattle.pmcd_client.specs.Talks.{BreaksOff, Sample, Talks}
use Rattle.pm_words.specs.declared.words.PullWords.{PullWords}
use Rattle.pm_words.specs.Sides.{IsUnread, Leaves}
use Rattle.pm_pulling.specs.declared.stop.Stop.{Stop}
use Rattle.pm_pulling.specs.declared.stop.Stop.TheVariants.{Talk, Archive}
use Rattle.pm_pulling.specs.Pulling.{Came, IsBehindNone, IsFlushed, IsLast, IsSilent, IsWithin, LogsAll, PullSide, Pulled, Says, TurnsAway as StopsAway, Why, all_sure, pull_side, report_of}
use Rattle.pm_pulling.specs.Ends.{IsUnrun}

unlike_stands : Came.stands ≢ Came.silent
unlike_stands e = cc

unlike_broken : (fault : TalkFault) → Came.broken fault ≢ Came.silent
unlike_broken fault e = cc

never_behind : (unlogged : List Sample) → IsBehindNone Came.stands unlogged
never_behind unlogged fault e = absurd cc

-- ---- before anything was asked

module _ {I L D : Type 0} (i : SourceGhosts I) (l : SinkGhosts L) (d : DiskGhosts D) (reply : I) (request : L) (disk : D) where
  pub nothing_said : IsSilent (source_side i reply reply) (sink_side l request request)
  nothing_said = record { untaken = λ tells. refl; unwritten = λ tells. refl; stand = record { source_stands = refl; sink_stands = refl } }

  pub nothing_done : IsUnrun (pull_side (source_side i reply reply) (sink_side l request request) d disk disk)
  nothing_done = record { silent = nothing_said; disk = refl }

module _ {D : Type 0} (p : PullSide D) (asked : PullWords) (fault : RunFault) (silent : Says Came.silent asked.names p.reply p.request []) (ran : p.disk.tells → Ran p.disk asked.volume [] p.disk_was p.disk_is (Close.unrecovered fault))
    (unread : IsUnread p.disk p.disk_was → Leaves p.disk p.disk_was p.disk_is CrashImage) where
  unbegun : Why p asked Came.silent [] [] [] (Close.unrecovered fault) (Err (Archive fault)) → Pulled p asked (Err (Archive fault))
  unbegun why = record {
    came = Came.silent;
    logged = [];
    unlogged = [];
    says = silent;
    most = refl;
    last = [];
    is_last = refl;
    close = Close.unrecovered fault;
    ran = ran;
    why = why;
    unread = unread;
  }

pub unrecovered : {D : Type 0} (p : PullSide D) (asked : PullWords) (why : RecoverFault) → Says Came.silent asked.names p.reply p.request []
    → (p.disk.tells → Ran p.disk asked.volume [] p.disk_was p.disk_is (Close.unrecovered (fault_of why))) → (IsUnread p.disk p.disk_was → Leaves p.disk p.disk_was p.disk_is CrashImage)
    → (fault_of why ≡ runs.DiskFault → Rose (p.disk.faults p.disk_was) (p.disk.faults p.disk_is)) → Pulled p asked (Err (Archive (fault_of why)))
unrecovered p asked (recovery.Compressed file) silent ran unread rose = unbegun p asked (runs.Compressed file) silent ran unread (record { silent = refl; closed = refl })
unrecovered p asked (recovery.NotArchive file at) silent ran unread rose = unbegun p asked (runs.NotArchive file at) silent ran unread (record { silent = refl; closed = refl })
unrecovered p asked recovery.NoMemory silent ran unread rose = unbegun p asked runs.NoMemory silent ran unread (inl (record { silent = refl; closed = refl }))
unrecovered p asked recovery.DiskFault silent ran unread rose = unbegun p asked runs.DiskFault silent ran unread (rose refl, inl (record { silent = refl; closed = refl }))

-- ---- once the files are recovered

module _ {D : Type 0} (p : PullSide D) (asked : PullWords) (unread : IsUnread p.disk p.disk_was → Leaves p.disk p.disk_was p.disk_is CrashImage) (came : Came) (logged unlogged : List Sample)
    (says : Says came asked.names p.reply p.request (logged ++ unlogged)) (most : IsWithin came (length (logged ++ unlogged)) asked.samples) (last : List Handed) (is_last : IsLast unlogged last) where
  -- what was logged was flushed
  flushed : (p.disk.tells → Ran p.disk asked.volume (all_sure logged ++ last) p.disk_was p.disk_is Close.flushed) → (result : Result (Unit {0}) Stop) → Why p asked came logged unlogged last Close.flushed result → Pulled p asked result
  flushed ran result why = record { came = came; logged = logged; unlogged = unlogged; says = says; most = most; last = last; is_last = is_last; close = Close.flushed; ran = ran; why = why; unread = unread }

  -- or the disk failed
  failed : came ≢ Came.silent → IsBehindNone came unlogged → (run : Carried) → Fails p.disk asked.volume (all_sure logged ++ last) run p.disk_was p.disk_is → Pulled p asked (Err (Archive runs.DiskFault))
  failed begun behind run fails = record {
    came = came;
    logged = logged;
    unlogged = unlogged;
    says = says;
    most = most;
    last = last;
    is_last = is_last;
    close = Close.failed (lost_in run.place);
    ran = fails.told;
    why = (fails.rose, inr (record { begun = begun; behind = behind; lost = lost_in run.place; closed = refl }));
    unread = unread;
  }

-- How the end answers: what was logged is flushed, and no call of the disk fails; or the disk fails, now or before.
pub record Finishes {D : Type 0} (p : PullSide D) (limit : ℕ) (run : Carried) (disk : D) (now : Carried) (result : Result ℕ RunFault) : Type 0 where
  pub done : p.disk.tells → (handed : List Handed) → Rests p.disk limit handed run p.disk_was disk → OnOk result (Ran p.disk limit handed p.disk_was p.disk_is Close.flushed)
  pub failed : (handed : List Handed) → Rests p.disk limit handed run p.disk_was disk → OnErr result (Fails p.disk limit handed now p.disk_was p.disk_is)
  pub kinds : IfErr result (λ (e : RunFault). e ≡ runs.DiskFault)
  pub closed : IsFailed run → (result ≡ Err runs.DiskFault) × (now ≡ run) × (p.disk_is ≡ disk)
  pub quiet : OnOk result (p.disk.faults p.disk_is ≡ p.disk.faults disk)

-- the end of a run: that of its samples, unless the disk fails in it
abbrev pub ended_by : Result ℕ RunFault → Result (Unit {0}) Stop → Result (Unit {0}) Stop
ended_by (Ok n) logged = logged
ended_by (Err fault) logged = Err (Archive fault)

-- what stands is flushed, or the disk fails in that
ended_rests : {D : Type 0} (p : PullSide D) (asked : PullWords) (disk : D) (run now : Carried) (finish : Result ℕ RunFault) → (IsUnread p.disk p.disk_was → Leaves p.disk p.disk_was p.disk_is CrashImage) → Finishes p asked.volume run disk now finish
    → (came : Came) (logged unlogged : List Sample) → Says came asked.names p.reply p.request (logged ++ unlogged) → IsWithin came (length (logged ++ unlogged)) asked.samples → (last : List Handed) → IsLast unlogged last → came ≢ Came.silent → IsBehindNone came unlogged
    → Rests p.disk asked.volume (all_sure logged ++ last) run p.disk_was disk
    → (result : Result (Unit {0}) Stop) → (IsFlushed p asked came logged unlogged last Close.flushed → Why p asked came logged unlogged last Close.flushed result) → Pulled p asked (ended_by finish result)
ended_rests p asked disk run now (Ok n) unread f came logged unlogged says most last is_last begun behind rests result why =
    flushed p asked unread came logged unlogged says most last is_last (λ tells. f.done tells (all_sure logged ++ last) rests) result (why (record { closed = refl; quiet = f.quiet ∙ rests.quiet }))
ended_rests p asked disk run now (Err fault) unread f came logged unlogged says most last is_last begun behind rests result why =
    subst (λ (e : RunFault). Pulled p asked (Err (Archive e))) (sym f.kinds) (failed p asked unread came logged unlogged says most last is_last begun behind now (f.failed (all_sure logged ++ last) rests))

-- the disk had failed before, and nothing more was done
ended_failed : {D : Type 0} (p : PullSide D) (asked : PullWords) (disk : D) (run now : Carried) (finish : Result ℕ RunFault) → (IsUnread p.disk p.disk_was → Leaves p.disk p.disk_was p.disk_is CrashImage) → Finishes p asked.volume run disk now finish
    → (came : Came) (logged unlogged : List Sample) → Says came asked.names p.reply p.request (logged ++ unlogged) → IsWithin came (length (logged ++ unlogged)) asked.samples → (last : List Handed) → IsLast unlogged last → came ≢ Came.silent → IsBehindNone came unlogged
    → Fails p.disk asked.volume (all_sure logged ++ last) run p.disk_was disk → Pulled p asked (ended_by finish (Err (Archive runs.DiskFault)))
ended_failed {D} p asked disk run now finish unread f came logged unlogged says most last is_last begun behind fails =
    let (is, same, still) = f.closed fails.failed in
    subst (λ (r : Result ℕ RunFault). Pulled p asked (ended_by r (Err (Archive runs.DiskFault)))) (sym is)
    (failed p asked unread came logged unlogged says most last is_last begun behind run (subst (λ (x : D). Fails p.disk asked.volume (all_sure logged ++ last) run p.disk_was x) (sym still) fails))

module _ {D : Type 0} (i : SourceSide) (o : SinkSide) (d : DiskGhosts D) (start disk final : D) (asked : PullWords) (run now : Carried) (finish : Result ℕ RunFault)
    (unread : IsUnread d start → Leaves d start final CrashImage) (f : Finishes (pull_side i o d start final) asked.volume run disk now finish) where
  abbrev p : PullSide D
  p = pull_side i o d start final

  abbrev Ended : Result (Unit {0}) Stop → Type 0
  Ended result = Pulled p asked (ended_by finish result)

  none_more : (samples : List Sample) → length samples ≤ asked.samples → length (samples ++ []) ≤ asked.samples
  none_more samples few = let long = ap length (append-nil samples) in omega (arith, few, long)

  none_fewer : (samples : List Sample) → length samples < asked.samples → length (samples ++ []) < asked.samples
  none_fewer samples few = let long = ap length (append-nil samples) in omega (arith, few, long)

  one_more : (samples : List Sample) (x : Sample) → length samples < asked.samples → length (samples ++ x ∷ []) ≤ asked.samples
  one_more samples x few = let long = length-append samples (x ∷ []) in omega (arith, few, long)

  alone : (samples : List Sample) → Rests d asked.volume (all_sure samples) run start disk → Rests d asked.volume (all_sure samples ++ []) run start disk
  alone samples rests = subst (λ (hs : List Handed). Rests d asked.volume hs run start disk) (sym (append-nil (all_sure samples))) rests

  ended_away : (samples : List Sample) (x : Sample) (s : Standing) (fault : LogFault) (result : Result (Unit {0}) Stop) → length samples < asked.samples → Talks asked.names i o (samples ++ x ∷ []) s → TurnsAway d asked.volume (all_sure samples) (report_of x) run start disk fault
      → ((last : List Handed) → StopsAway p asked Came.stands samples (x ∷ []) last Close.flushed fault → Why p asked Came.stands samples (x ∷ []) last Close.flushed result) → Ended result
  ended_away samples x s fault result few talks away why =
      ended_rests p asked disk run now finish unread f Came.stands samples (x ∷ []) (s, talks) (one_more samples x few) (Handed.refused (report_of x) ∷ []) (inr (inl refl)) unlike_stands (never_behind (x ∷ [])) away.runs.rests result
      (λ fl. why (Handed.refused (report_of x) ∷ []) (record { x = x; shows = record { stands = refl; one = refl; flushed = fl }; handed = refl; away = away.away }))

  ended_wanting : (samples : List Sample) (x : Sample) (s : Standing) → length samples < asked.samples → Talks asked.names i o (samples ++ x ∷ []) s → Stops d asked.volume (all_sure samples) (report_of x) run start disk runs.NoMemory → Ended (Err (Archive runs.NoMemory))
  ended_wanting samples x s few talks (inl rests) =
      ended_rests p asked disk run now finish unread f Came.stands samples (x ∷ []) (s, talks) (one_more samples x few) [] (inl refl) unlike_stands (never_behind (x ∷ [])) (alone samples rests) (Err (Archive runs.NoMemory))
      (λ fl. inr (record { x = x; shows = record { stands = refl; one = refl; flushed = fl }; handed = inl refl }))
  ended_wanting samples x s few talks (inr rests) =
      ended_rests p asked disk run now finish unread f Came.stands samples (x ∷ []) (s, talks) (one_more samples x few) (Handed.refused (report_of x) ∷ []) (inr (inl refl)) unlike_stands (never_behind (x ∷ [])) rests (Err (Archive runs.NoMemory))
      (λ fl. inr (record { x = x; shows = record { stands = refl; one = refl; flushed = fl }; handed = inr refl }))

  ended_failing : (samples : List Sample) (x : Sample) (s : Standing) → length samples < asked.samples → Talks asked.names i o (samples ++ x ∷ []) s → Stops d asked.volume (all_sure samples) (report_of x) run start disk runs.DiskFault → Ended (Err (Archive runs.DiskFault))
  ended_failing samples x s few talks (inl fails) =
      ended_failed p asked disk run now finish unread f Came.stands samples (x ∷ []) (s, talks) (one_more samples x few) [] (inl refl) unlike_stands (never_behind (x ∷ [])) (subst (λ (hs : List Handed). Fails d asked.volume hs run start disk) (sym (append-nil (all_sure samples))) fails)
  ended_failing samples x s few talks (inr fails) =
      ended_failed p asked disk run now finish unread f Came.stands samples (x ∷ []) (s, talks) (one_more samples x few) (Handed.held (report_of x) ∷ []) (inr (inr refl)) unlike_stands (never_behind (x ∷ [])) fails

  ended_archive : (samples : List Sample) (x : Sample) (s : Standing) (fault : RunFault) → length samples < asked.samples → Talks asked.names i o (samples ++ x ∷ []) s → Stops d asked.volume (all_sure samples) (report_of x) run start disk fault → Ended (Err (Archive fault))
  ended_archive samples x s (runs.Large bytes) few talks stops = ended_away samples x s (logs.Large bytes) (Err (Archive (runs.Large bytes))) few talks stops (λ last away. away)
  ended_archive samples x s (runs.NotLater last) few talks stops = ended_away samples x s (logs.NotLater last) (Err (Archive (runs.NotLater last))) few talks stops (λ last away. away)
  ended_archive samples x s (runs.Changed pmid) few talks stops = ended_away samples x s (logs.Changed pmid) (Err (Archive (runs.Changed pmid))) few talks stops (λ last away. away)
  ended_archive samples x s (runs.Full file bytes) few talks stops = ended_away samples x s (logs.Full file bytes) (Err (Archive (runs.Full file bytes))) few talks stops (λ last away. away)
  ended_archive samples x s runs.NoMemory few talks stops = ended_wanting samples x s few talks stops
  ended_archive samples x s runs.DiskFault few talks stops = ended_failing samples x s few talks stops
  ended_archive samples x s fault few talks stops = absurd stops

  pub ended : (result : Result (Unit {0}) Stop) → LogsAll (pull_side i o d start disk) asked.names asked.volume asked.samples run result → Ended result
  ended (Ok done) (samples, many, s, goes) =
      ended_rests p asked disk run now finish unread f Came.stands samples [] (s, subst (λ (xs : List Sample). Talks asked.names i o xs s) (sym (append-nil samples)) goes.talks) (none_more samples (omega (arith, many))) [] refl unlike_stands (never_behind [])
      (alone samples goes.runs.rests) (Ok done) (λ fl. (refl, many, refl, fl))
  ended (Err (Talk fault)) (samples, few, (broken, runs)) =
      ended_rests p asked disk run now finish unread f (Came.broken fault) samples [] (subst (λ (xs : List Sample). BreaksOff asked.names i o xs fault) (sym (append-nil samples)) broken) (none_fewer samples few) [] refl (unlike_broken fault) (λ other e. refl)
      (alone samples runs.rests) (Err (Talk fault)) (λ fl. (refl, few, refl, fl))
  ended (Err (Archive fault)) (samples, few, (x, s, talks, stops)) = ended_archive samples x s fault few talks stops
