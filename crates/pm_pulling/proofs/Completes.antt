-- What may be pulled is, and a peer whose reply doesn't fit is told.
use Rattle.std.proofs.Common.{◌≡◌, ◌≢◌, ◌⊎◌, inl, inr, ⊎_elim, ℕ, ◌<◌, ◌≤◌, List, [], ◌∷◌, ◌++◌, length, length-append, append_assoc, append-nil, refl, sym, ap, ◌∙◌, subst, arith, Some, None, Result, Ok, Err}
use Rattle.pcp_base.specs.declared.file.FileId.{FileId}
use Rattle.pcp_model.specs.Archive.{Readable}
use Rattle.pcp_model.specs.Disk.{Files, contents_of}
use Rattle.pcp_outside.specs.Sides.{SinkSide}
use Rattle.archive_recovery.specs.RecoverFaults.{IsRefused as IsNoArchive}
use Rattle.logger_core.specs.declared.fault.LogFault.{LogFault}
use Rattle.logger_core.specs.declared.fault.LogFault.TheVariants as logs
use Rattle.logging_run.specs.declared.fault.RunFault.TheVariants as runs
use Rattle.pmcd_client.specs.declared.faults.ReplyFault.{ReplyFault}
use Rattle.pmcd_client.specs.declared.faults.TalkFault.TheVariants as talks
use Rattle.pmcd_client.specs.Replies.{Standing}
use Rattle.pmcd_client.specs.Talks.{BreaksOff, Sample, Talks}
use Rattle.std.proofs.lemmas.Bool.{cases_lt}
use Rattle.pm_words.specs.declared.refusal.Refusal.TheVariants.{Usage, NoMemory}
use Rattle.pm_words.specs.declared.words.Command.TheVariants.{Pull}
use Rattle.pm_words.specs.declared.words.PullWords.{PullWords}
use Rattle.pm_pulling.specs.declared.stop.Stop.{Stop}
use Rattle.pm_pulling.specs.declared.stop.Stop.TheVariants.{Talk, Archive}
use Rattle.pm_pulling.specs.Ends.{CallSide, HasRun, Orders}
use Rattle.pm_pulling.specs.Good.{IsBadPeer, IsClear, IsGoodPull, any_sink, source_of}
use Rattle.pm_pulling.specs.Pulling.{Came, IsWithin, Pulled, Says, TurnsAway}
use Rattle.pm_pulling.proofs.Dialogues.{front_broken, not_broken, one_front}
use Rattle.pm_pulling.specs.Stops.{away_status}
use Rattle.pm_pulling.proofs.Endings.{Seen, Told, full_status}
use Rattle.pm_pulling.proofs.Standing.{broken_so, read_rose, says_so, unbegun_so, write_rose}

-- recovery refuses no files that can be read
abbrev pub RefusesNone : Type 0
RefusesNone = (files : Files) (file : FileId) (at : ℕ) → Readable files → IsNoArchive files file at → ⊥

module _ {D : Type 0} (c : CallSide D) (k : SinkSide) (refuses_none : RefusesNone) where
  pub order_of : (a b : PullWords) → Orders c.words a → Orders c.words b → a ≡ b
  order_of a b is also = let e : Ok (Pull a) ≡ Ok (Pull b) = sym is ∙ also in cc

  -- ---- over files and counts that don't stand in the way

  module _ (asked : PullWords) (samples : List Sample) (clear : IsClear c k asked samples) where
    -- the run is done, or a reply doesn't fit, or memory is refused
    abbrev pub EndsClear : ℕ → Type 0
    EndsClear n = ((n ≡ 0) × HasRun c (Ok tt)) ⊎ (((n ≡ 16) × ((number : ℕ) × (why : ReplyFault) × HasRun c (Err (Talk (talks.Peer number why))))) ⊎ (n ≡ 9))

    -- a sample that came behind these is one of them
    abbrev AreFront : (ran : PullWords) → Type 0
    AreFront ran = (shown : List Sample) (s : Standing) → Talks ran.names c.pull.reply c.pull.request shown s → length shown ≤ ran.samples → (extra : List Sample) × (samples ≡ shown ++ extra)

    -- or the archive turned a sample away that came, for this reason
    abbrev pub EndsAway : ℕ → Type 0
    EndsAway n = (fault : LogFault) × (result : Result (Unit {0}) Stop) × (p : Pulled c.pull asked result) × TurnsAway c.pull asked p.came p.logged p.unlogged p.last p.close fault × (fault ≢ logs.NoMemory) × (n ≡ away_status fault)

    abbrev pub EndsOpen : ℕ → Type 0
    EndsOpen n = EndsClear n ⊎ EndsAway n

    is_nine : (n : ℕ) → n ≡ 9 → EndsOpen n
    is_nine n h = inl (inr (inr h))

    open_run : (n : ℕ) (result : Result (Unit {0}) Stop) → Pulled c.pull asked result → HasRun c result → Told k result n → EndsOpen n
    open_run n (Ok done) p ran (inl h) = inl (inl (h, ran))
    open_run n (Ok done) p ran (inr (h, rose)) = absurd (clear.sink_kept rose)
    open_run n (Err (Talk talks.NoMemory)) p ran (inl h) = is_nine n h
    open_run n (Err (Talk talks.NoMemory)) p ran (inr (h, some)) = is_nine n h
    open_run n (Err (Talk talks.ReadFault)) p ran told = absurd (clear.reply_kept (read_rose asked.names c.pull.reply c.pull.request (p.logged ++ p.unlogged) (broken_so c.pull asked (Err (Talk talks.ReadFault)) p talks.ReadFault p.why.0)))
    open_run n (Err (Talk talks.WriteFault)) p ran told = absurd (clear.request_kept (write_rose asked.names c.pull.reply c.pull.request (p.logged ++ p.unlogged) (broken_so c.pull asked (Err (Talk talks.WriteFault)) p talks.WriteFault p.why.0)))
    open_run n (Err (Talk (talks.Peer number why))) p ran (inl h) = inl (inr (inl (h, (number, why, ran))))
    open_run n (Err (Talk (talks.Peer number why))) p ran (inr (h, some)) = is_nine n h
    open_run n (Err (Archive (runs.Compressed file))) p ran told = let e : None ≡ Some file = sym clear.unwrapped ∙ (unbegun_so c.pull asked (Err (Archive (runs.Compressed file))) p (runs.Compressed file) p.why clear.files).0 in absurd (cc)
    open_run n (Err (Archive (runs.NotArchive file at))) p ran told =
        absurd (refuses_none (contents_of (c.pull.disk.held c.pull.disk_was)) file at clear.readable (unbegun_so c.pull asked (Err (Archive (runs.NotArchive file at))) p (runs.NotArchive file at) p.why clear.files).0.1)
    open_run n (Err (Archive (runs.Large bytes))) p ran (inl h) = inr (logs.Large bytes, Err (Archive (runs.Large bytes)), p, p.why, (λ e. cc), h)
    open_run n (Err (Archive (runs.Large bytes))) p ran (inr (h, some)) = is_nine n h
    open_run n (Err (Archive (runs.NotLater last))) p ran (inl h) = inr (logs.NotLater last, Err (Archive (runs.NotLater last)), p, p.why, (λ e. cc), h)
    open_run n (Err (Archive (runs.NotLater last))) p ran (inr (h, some)) = is_nine n h
    open_run n (Err (Archive (runs.Changed pmid))) p ran (inl h) = inr (logs.Changed pmid, Err (Archive (runs.Changed pmid)), p, p.why, (λ e. cc), h)
    open_run n (Err (Archive (runs.Changed pmid))) p ran (inr (h, some)) = is_nine n h
    open_run n (Err (Archive (runs.Full file bytes))) p ran (inl h) = inr (logs.Full file bytes, Err (Archive (runs.Full file bytes)), p, p.why, (λ e. cc), h ∙ full_status file bytes)
    open_run n (Err (Archive (runs.Full file bytes))) p ran (inr (h, some)) = is_nine n h
    open_run n (Err (Archive runs.NoMemory)) p ran (inl h) = is_nine n h
    open_run n (Err (Archive runs.NoMemory)) p ran (inr (h, some)) = is_nine n h
    open_run n (Err (Archive runs.DiskFault)) p ran told = absurd (clear.disk_kept p.why.0)

    pub open_end : (n : ℕ) → Orders c.words asked → Seen c k n → EndsOpen n
    open_end n orders (inl (Usage at, refused, told)) = let e = sym refused.cause ∙ orders in absurd (cc)
    open_end n orders (inl (NoMemory, refused, inl h)) = is_nine n h
    open_end n orders (inl (NoMemory, refused, inr (h, some))) = is_nine n h
    open_end n orders (inl (e, refused, told)) = absurd refused.cause
    open_end n orders (inr (result, ran, told)) = open_run n result (subst (λ (a : PullWords). Pulled c.pull a result) (order_of ran.asked asked ran.orders orders) ran.pulled) ran told

    module _ (fronts : AreFront asked) where
      away : (fault : LogFault) → fault ≢ logs.NoMemory → (result : Result (Unit {0}) Stop) (p : Pulled c.pull asked result) → TurnsAway c.pull asked p.came p.logged p.unlogged p.last p.close fault → ⊥
      away fault known result p t =
          let says = subst (λ (xs : List Sample). Says Came.stands asked.names c.pull.reply c.pull.request (p.logged ++ xs)) t.shows.one (says_so c.pull asked result p Came.stands t.shows.stands) in
          let most : length (p.logged ++ p.unlogged) ≤ asked.samples = subst (λ (x : Came). IsWithin x (length (p.logged ++ p.unlogged)) asked.samples) t.shows.stands p.most in
          let few : length (p.logged ++ t.x ∷ []) ≤ asked.samples = subst (λ (xs : List Sample). length (p.logged ++ xs) ≤ asked.samples) t.shows.one most in
          let found = fronts (p.logged ++ t.x ∷ []) says.0 says.1 few in
          clear.takes p.logged t.x found.0 fault known (found.1 ∙ append_assoc p.logged (t.x ∷ []) found.0) (t.away clear.files)

      clear_of : (n : ℕ) → EndsOpen n → EndsClear n
      clear_of n (inl ends) = ends
      clear_of n (inr (fault, result, p, t, known, is)) = absurd (away fault known result p t)

    clear_end : (n : ℕ) → Orders c.words asked → AreFront asked → Seen c k n → EndsClear n
    clear_end n orders fronts saw = clear_of fronts n (open_end n orders saw)

  longer_front : (shown samples extra : List Sample) (n : ℕ) → shown ≡ samples ++ extra → length shown ≤ n → length samples ≡ n → (more : List Sample) × (samples ≡ shown ++ more)
  longer_front shown samples [] n are few many = ([], sym (append-nil samples) ∙ sym are ∙ sym (append-nil shown))
  longer_front shown samples (x ∷ extra) n are few many = let long = ap length are ∙ length-append samples (x ∷ extra) in absurd (omega (arith, few, many, long))

  -- ---- a peer that gives all samples

  module _ (good : IsGoodPull c k) where
    good_fronts : (shown : List Sample) (s : Standing) → Talks good.asked.names c.pull.reply c.pull.request shown s → length shown ≤ good.asked.samples → (extra : List Sample) × (good.samples ≡ shown ++ extra)
    good_fronts shown s talks few =
        ⊎_elim (λ (f : (extra : List Sample) × (good.samples ≡ shown ++ extra)). f) (λ (f : (extra : List Sample) × (shown ≡ good.samples ++ extra)). longer_front shown good.samples f.0 good.asked.samples f.1 few good.many)
        (one_front good.asked.names c.pull.reply (source_of c.pull.reply.left good.offers.0) c.pull.request any_sink good.clear.replies tt refl good.clear.bytes shown good.samples s good.offers.1 talks good.offers.2)

    no_bad : (number : ℕ) (why : ReplyFault) → HasRun c (Err (Talk (talks.Peer number why))) → ⊥
    no_bad number why ran =
        let p = subst (λ (a : PullWords). Pulled c.pull a (Err (Talk (talks.Peer number why)))) (order_of ran.asked good.asked ran.orders good.orders) ran.pulled in
        let broken = subst (λ (xs : List Sample). BreaksOff good.asked.names c.pull.reply c.pull.request (p.logged ++ xs) (talks.Peer number why)) p.why.2 (broken_so c.pull good.asked (Err (Talk (talks.Peer number why))) p (talks.Peer number why) p.why.0) in
        let few = p.why.1 in let many = good.many in let long : length (p.logged ++ []) ≡ length p.logged = ap length (append-nil p.logged) in
        not_broken good.asked.names (source_of c.pull.reply.left good.offers.0) c.pull.reply any_sink c.pull.request tt good.clear.replies refl good.clear.bytes good.samples (p.logged ++ []) good.offers.1 number why good.offers.2 broken (omega (arith, few, many, long))

    by_end : (n : ℕ) → EndsClear good.asked good.samples good.clear n → (n ≡ 0) ⊎ (n ≡ 9)
    by_end n (inl (h, ran)) = inl h
    by_end n (inr (inl (h, (number, why, ran)))) = absurd (no_bad number why ran)
    by_end n (inr (inr h)) = inr h

    pub completes : (n : ℕ) → Seen c k n → (n ≡ 0) ⊎ (n ≡ 9)
    completes n saw = by_end n (clear_end good.asked good.samples good.clear n good.orders good_fronts saw)

  -- ---- a peer whose reply doesn't fit

  module _ (bad : IsBadPeer c k) where
    bad_fronts : (shown : List Sample) (s : Standing) → Talks bad.asked.names c.pull.reply c.pull.request shown s → length shown ≤ bad.asked.samples → (extra : List Sample) × (bad.samples ≡ shown ++ extra)
    bad_fronts shown s talks few = by_length (cases_lt (length bad.samples) (length shown)) where
      by_length : (length bad.samples < length shown) ⊎ (length shown ≤ length bad.samples) → (extra : List Sample) × (bad.samples ≡ shown ++ extra)
      by_length (inl more) =
          absurd (not_broken bad.asked.names c.pull.reply (source_of c.pull.reply.left bad.misfits.0) c.pull.request any_sink bad.clear.replies tt refl bad.clear.bytes shown bad.samples s bad.number bad.why talks bad.misfits.1 more)
      by_length (inr fewer) =
          front_broken bad.asked.names c.pull.reply (source_of c.pull.reply.left bad.misfits.0) c.pull.request any_sink bad.clear.replies tt refl bad.clear.bytes shown bad.samples s bad.number bad.why talks bad.misfits.1 fewer

    no_done : HasRun c (Ok tt) → ⊥
    no_done ran =
        let p = subst (λ (a : PullWords). Pulled c.pull a (Ok tt)) (order_of ran.asked bad.asked ran.orders bad.orders) ran.pulled in
        let says = subst (λ (xs : List Sample). Says Came.stands bad.asked.names c.pull.reply c.pull.request (p.logged ++ xs)) p.why.2 (says_so c.pull bad.asked (Ok tt) p Came.stands p.why.0) in
        let few = bad.few in let many = p.why.1 in let long : length (p.logged ++ []) ≡ length p.logged = ap length (append-nil p.logged) in
        not_broken bad.asked.names c.pull.reply (source_of c.pull.reply.left bad.misfits.0) c.pull.request any_sink bad.clear.replies tt refl bad.clear.bytes (p.logged ++ []) bad.samples says.0 bad.number bad.why says.1 bad.misfits.1 (omega (arith, few, many, long))

    by_peer : (n : ℕ) → EndsClear bad.asked bad.samples bad.clear n → (n ≡ 16) ⊎ (n ≡ 9)
    by_peer n (inl (h, ran)) = absurd (no_done ran)
    by_peer n (inr (inl (h, ran))) = inl h
    by_peer n (inr (inr h)) = inr h

    pub told_peer : (n : ℕ) → Seen c k n → (n ≡ 16) ⊎ (n ≡ 9)
    told_peer n saw = by_peer n (clear_end bad.asked bad.samples bad.clear n bad.orders bad_fronts saw)
