-- How samples are logged one after another.
use Rattle.std.proofs.Common.{◌≡◌, ℕ, ◌+◌, ◌<◌, ◌≤◌, List, [], ◌∷◌, ◌++◌, length, length-append, refl, sym, ap, ◌∙◌, subst, arith, Ok, Err}
use Rattle.pcp_base.specs.declared.result.PmResult.{PmResult}
use Rattle.archive_meta.specs.declared.facts.Facts.{Facts}
use Rattle.pcp_outside.specs.Sides.{sink_side, source_side}
use Rattle.pcp_outside.specs.declared.disk.Disk.{Ghosts as DiskGhosts}
use Rattle.pcp_outside.specs.declared.streams.Sink.{Ghosts as SinkGhosts}
use Rattle.pcp_outside.specs.declared.streams.Source.{Ghosts as SourceGhosts}
use Rattle.logging_session.specs.Keeping.{Carried}
use Rattle.logging_run.specs.declared.fault.RunFault.{RunFault}
use Rattle.logging_run.specs.Handing.{Handed}
use Rattle.logging_run.specs.Running.{Runs, Stops}
use Rattle.pmcd_client.specs.declared.faults.TalkFault.{TalkFault}
use Rattle.pmcd_client.specs.Replies.{Standing}
use Rattle.pmcd_client.specs.Talks.{BreaksOff, Sample, Talks}
use Rattle.pm_words.specs.declared.words.PullWords.{PullWords}
use Rattle.pm_pulling.specs.declared.stop.Stop.{Stop}
use Rattle.pm_pulling.specs.declared.stop.Stop.TheVariants.{Talk, Archive}
use Rattle.pm_pulling.specs.Pulling.{GoesOn, LogsAll, LogsNext, PullSide, StopsBehind, all_sure, pull_side, report_of}

pub sure_more : (samples : List Sample) (x : Sample) → all_sure (samples ++ x ∷ []) ≡ all_sure samples ++ Handed.sure (report_of x) ∷ []
sure_more [] x = refl
sure_more (y ∷ samples) x = ap (λ (hs : List Handed). Handed.sure (report_of y) ∷ hs) (sure_more samples x)

-- ---- one sample

module _ {D : Type 0} (p : PullSide D) (names : List (List ℕ)) (limit : ℕ) (samples : List Sample) (s : Standing) (run : Carried) where
  pub one_logged : (x : Sample) → Talks names p.reply p.request (samples ++ x ∷ []) s → Runs p.disk limit (all_sure samples ++ Handed.sure (report_of x) ∷ []) run p.disk_was p.disk_is → LogsNext p names limit samples s run (Ok tt)
  one_logged x talks runs = (x, record { talks = talks; runs = subst (λ (hs : List Handed). Runs p.disk limit hs run p.disk_was p.disk_is) (sym (sure_more samples x)) runs })

  -- so it is with the facts that the dialogue tells
  pub logged_one : (answer : PmResult) (facts : Facts) → facts ≡ s.facts → Talks names p.reply p.request (samples ++ record { result = answer; facts = s.facts } ∷ []) s
      → Runs p.disk limit (all_sure samples ++ Handed.sure (record { result = answer; facts = facts }) ∷ []) run p.disk_was p.disk_is → LogsNext p names limit samples s run (Ok tt)
  logged_one answer facts same talks runs =
      one_logged (record { result = answer; facts = s.facts }) talks
      (subst (λ (f : Facts). Runs p.disk limit (all_sure samples ++ Handed.sure (record { result = answer; facts = f }) ∷ []) run p.disk_was p.disk_is) same runs)

  pub stopped_one : (answer : PmResult) (facts : Facts) (fault : RunFault) → facts ≡ s.facts → Talks names p.reply p.request (samples ++ record { result = answer; facts = s.facts } ∷ []) s
      → Stops p.disk limit (all_sure samples) (record { result = answer; facts = facts }) run p.disk_was p.disk_is fault → LogsNext p names limit samples s run (Err (Archive fault))
  stopped_one answer facts fault same talks stops =
      (record { result = answer; facts = s.facts }, s, talks, subst (λ (f : Facts). Stops p.disk limit (all_sure samples) (record { result = answer; facts = f }) run p.disk_was p.disk_is fault) same stops)

-- ---- samples so far

-- so many samples are logged, and the dialogue stands behind them
abbrev pub SoFar : {I L D : Type 0} → SourceGhosts I → SinkGhosts L → DiskGhosts D → PullWords → ℕ → I → I → L → L → D → D → Carried → Standing → Carried → Type 0
SoFar {D = D} i l d asked count reply_was reply_is request_was request_is disk_was disk_is run_was s run_is =
    (start : D) → Runs d asked.volume [] run_was start disk_was
    → (samples : List Sample) × (length samples ≡ count) × GoesOn (pull_side (source_side i reply_was reply_is) (sink_side l request_was request_is) d start disk_is) asked.names asked.volume samples s run_is

module _ {I L D : Type 0} (i : SourceGhosts I) (l : SinkGhosts L) (d : DiskGhosts D) (asked : PullWords) (reply_was reply_is : I) (request_was request_is : L) (disk_was : D) (run_was : Carried) where
  abbrev Side : D → D → PullSide D
  Side start disk = pull_side (source_side i reply_was reply_is) (sink_side l request_was request_is) d start disk

  pub none_yet : (s : Standing) → Talks asked.names (source_side i reply_was reply_is) (sink_side l request_was request_is) [] s → SoFar i l d asked 0 reply_was reply_is request_was request_is disk_was disk_was run_was s run_was
  none_yet s talks start runs = ([], refl, record { talks = talks; runs = runs })

  -- the dialogue wasn't opened
  pub unopened : (disk : D) (stop : Stop) (fault : TalkFault) → stop ≡ Talk fault → BreaksOff asked.names (source_side i reply_was reply_is) (sink_side l request_was request_is) [] fault → 1 ≤ asked.samples
      → (start : D) → Runs d asked.volume [] run_was start disk → LogsAll (Side start disk) asked.names asked.volume asked.samples run_was (Err stop)
  unopened disk stop fault is broken some start runs =
      ([], omega (arith, some), subst (λ (t : Stop). StopsBehind (Side start disk) asked.names asked.volume [] run_was t) (sym is) (broken, runs))

  -- one more
  pub one_more : (count : ℕ) (reply : I) (request : L) (before disk : D) (s after : Standing) (run now : Carried)
      → SoFar i l d asked count reply_was reply request_was request disk_was before run_was s run
      → ((names : List (List ℕ)) (limit : ℕ) (samples : List Sample) (first : I) (begun : L) (start : D) → GoesOn (pull_side (source_side i first reply) (sink_side l begun request) d start before) names limit samples s run
      → LogsNext (pull_side (source_side i first reply_is) (sink_side l begun request_is) d start disk) names limit samples after now (Ok tt))
      → SoFar i l d asked (count + 1) reply_was reply_is request_was request_is disk_was disk run_was after now
  one_more count reply request before disk s after run now far logs start runs =
      let (samples, many, goes) = far start runs in
      let next = logs asked.names asked.volume samples reply_was request_was start goes in
      (samples ++ next.0 ∷ [], length-append samples (next.0 ∷ []) ∙ ap (λ (n : ℕ). n + 1) many, next.1)

  -- it stopped at one
  pub stopped_at : (count : ℕ) (reply : I) (request : L) (before disk : D) (s after : Standing) (run now : Carried) (stop : Stop)
      → SoFar i l d asked count reply_was reply request_was request disk_was before run_was s run → count < asked.samples
      → ((names : List (List ℕ)) (limit : ℕ) (samples : List Sample) (first : I) (begun : L) (start : D) → GoesOn (pull_side (source_side i first reply) (sink_side l begun request) d start before) names limit samples s run
      → LogsNext (pull_side (source_side i first reply_is) (sink_side l begun request_is) d start disk) names limit samples after now (Err stop))
      → (start : D) → Runs d asked.volume [] run_was start disk_was → LogsAll (Side start disk) asked.names asked.volume asked.samples now (Err stop)
  stopped_at count reply request before disk s after run now stop far few logs start runs =
      let (samples, many, goes) = far start runs in (samples, omega (arith, many, few), logs asked.names asked.volume samples reply_was request_was start goes)
