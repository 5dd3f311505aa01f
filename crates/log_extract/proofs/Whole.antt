-- A whole extract, of its beginning, of the items that were logged, and of its end.
use Rattle.std.proofs.Common.{◌≡◌, inl, inr, ℕ, ◌≤◌, arith, List, [], ◌∷◌, ◌++◌, length, append-nil, refl, sym, ap, ◌∙◌, subst, Result, Ok, Err, IfErr, IfOk, OnErr, OnOk}
use Rattle.pcp_base.specs.declared.result.Item.{Item}
use Rattle.pcp_base.specs.declared.result.Item.TheVariants.{Sample, Mark}
use Rattle.pcp_base.specs.declared.result.PmResult.{PmResult}
use Rattle.pcp_base.specs.Time.{microseconds}
use Rattle.pcp_model.proofs.Lists.{each-map}
use Rattle.pcp_model.specs.Archive.{ArchiveReading, Readable, scan}
use Rattle.pcp_model.specs.Disk.{CrashImage, Files, Holdings, contents_of}
use Rattle.pcp_model.specs.Payload.{stamp_of}
use Rattle.pcp_model.specs.Sound.{IsSound, NeverFalls}
use Rattle.pcp_model.specs.declared.records.MetaRecord.{MetaRecord}
use Rattle.pcp_outside.specs.Causes.{Rose, shown_count}
use Rattle.pcp_outside.specs.Devices.{LeavesOnly}
use Rattle.pcp_outside.specs.declared.disk.Disk.{Ghosts as DiskGhosts}
use Rattle.archive_loading.specs.Looks.{Looks}
use Rattle.archive_merge.specs.Merging.{at_each, samples_of}
use Rattle.archive_merge.specs.Order.{NoneBefore, Rises}
use Rattle.logger_core.specs.declared.fault.LogFault.{LogFault}
use Rattle.logger_core.specs.declared.fault.LogFault.TheVariants as logs
use Rattle.logging_session.specs.Keeping.{Carried, IsFailed, lost_in}
use Rattle.logging_session.specs.Written.{Report}
use Rattle.logging_run.specs.declared.fault.RunFault.{RunFault}
use Rattle.logging_run.specs.declared.fault.RunFault.TheVariants as runs
use Rattle.logging_run.specs.Closing.{Close, Ran}
use Rattle.logging_run.specs.Handing.{Handed, each_held}
use Rattle.logging_run.specs.Running.{Fails, Rests, Stops, TurnsAway}
use Rattle.logging_run.proofs.Events.{held_reports}
use Rattle.log_extract.specs.declared.cursor.Cursor.{Cursor}
use Rattle.log_extract.specs.declared.fault.ExtractFault.{ExtractFault}
use Rattle.log_extract.specs.declared.fault.ExtractFault.TheVariants.{Archive, Merge, Source as Unread}
use Rattle.log_extract.specs.Cursors.{Leaves, OpensSource}
use Rattle.log_extract.specs.Extracting.{AreStill, ComesNext, EndsAt, ExtractSide, Extracted, HasMerged, IsFlushed, IsPassed, IsQuiet, Why}
use Rattle.log_extract.specs.Extracting.{TurnsAway as StopsAway}
use Rattle.log_extract.specs.Faults.{begin_fault, ended_by}
use Rattle.log_extract.specs.Judging.{Judged, judge, judged}
use Rattle.log_extract.specs.Logging.{AreLeft, BeginWith, BlamesSources, judged_left, HasLogged, IsMisfit, IsNextOf, LogsAll}
use Rattle.log_extract.specs.Sources.{IsSource, Source}
use Rattle.log_extract.proofs.Opening.{QuietIn}

-- ---- results of sound archives

fall_none : (x : Item) (items : List Item) → NeverFalls (x ∷ items) → NoneBefore (stamp_of x) (samples_of items)
fall_none x [] falls = tt
fall_none x (Sample r ∷ items) falls = let low = falls.0 in (low, lower (fall_none (Sample r) items falls.1))
  where
    lower : NoneBefore r.stamp (samples_of items) → NoneBefore (stamp_of x) (samples_of items)
    lower all = each-map (λ q. microseconds r.stamp ≤ microseconds q.stamp) (λ q. microseconds (stamp_of x) ≤ microseconds q.stamp) (λ q h. let low = falls.0 in omega (arith, h, low)) (samples_of items) all
fall_none x (Mark t ∷ items) falls =
    each-map (λ q. microseconds t ≤ microseconds q.stamp) (λ q. microseconds (stamp_of x) ≤ microseconds q.stamp) (λ q h. let low = falls.0 in omega (arith, h, low)) (samples_of items) (fall_none (Mark t) items falls.1)

falls_on : (x : Item) (items : List Item) → NeverFalls (x ∷ items) → NeverFalls items
falls_on x [] falls = tt
falls_on x (y ∷ items) falls = falls.1

falls_rise : (items : List Item) → NeverFalls items → Rises (samples_of items)
falls_rise [] falls = tt
falls_rise (Sample r ∷ items) falls = (fall_none (Sample r) items falls, falls_rise items (falls_on (Sample r) items falls))
falls_rise (Mark t ∷ items) falls = falls_rise items (falls_on (Mark t) items falls)

sound_falls : (files : Files) (reading : ArchiveReading) → IsSound files reading → NeverFalls (scan reading)
sound_falls files ArchiveReading.nothing sound = tt
sound_falls files (ArchiveReading.archive c) sound = sound.0

pub source_rises : {D : Type 0} (d : DiskGhosts D) (disk : D) (source : Source) → IsSource d disk source → Rises (samples_of source.items)
source_rises d disk source is = subst (λ (items : List Item). Rises (samples_of items)) (sym is.items_are) (falls_rise (scan is.reading) (sound_falls (contents_of (d.held disk)) is.reading is.sound))

-- the sources, and that all of their results were left
pub record Begun {A B D : Type 0} (p : ExtractSide A B D) (Left : List PmResult → List PmResult → Type 0) (comes : List PmResult → List PmResult → List Judged) : Type 0 where
  pub first : Source
  pub second : Source
  pub first_is : IsSource p.first p.first_was first
  pub second_is : IsSource p.second p.second_was second
  pub left : Left (samples_of first.items) (samples_of second.items)
  pub all : judged first second ≡ comes (samples_of first.items) (samples_of second.items)

module _ {A B D : Type 0} (p : ExtractSide A B D) where
  pub begun_so : (first_mid : A) (second_mid : B) (ours theirs : Cursor) → Looks p.first p.first_was first_mid → Looks p.second p.second_was second_mid → OpensSource p.first p.first_was ours → OpensSource p.second p.second_was theirs
      → p.first.tells → p.second.tells → Begun p (AreLeft p.first p.second first_mid second_mid ours theirs) (judged_left ours theirs)
  begun_so first_mid second_mid ours theirs first_looks second_looks one two first_tells second_tells = record {
    first = one.source;
    second = two.source;
    first_is = one.is;
    second_is = two.is;
    left = record {
      first_tells = first_tells;
      second_tells = second_tells;
      first_left = subst (λ (h : Holdings). Leaves (contents_of h) ours (samples_of one.source.items)) (sym (first_looks.held first_tells)) one.leaves;
      second_left = subst (λ (h : Holdings). Leaves (contents_of h) theirs (samples_of two.source.items)) (sym (second_looks.held second_tells)) two.leaves;
      first_rises = source_rises p.first p.first_was one.source one.is;
      second_rises = source_rises p.second p.second_was two.source two.is;
    };
    all =
        ap (λ (rs : List MetaRecord). at_each (judge rs two.source.records) (samples_of one.source.items) (samples_of two.source.items)) (sym one.records)
        ∙ ap (λ (rs : List MetaRecord). at_each (judge ours.reader.records rs) (samples_of one.source.items) (samples_of two.source.items)) (sym two.records);
  }

  -- nothing was merged yet
  pub nothing_merged : (ours theirs : Cursor) (fault : RunFault) → OpensSource p.first p.first_was ours → OpensSource p.second p.second_was theirs → HasMerged p [] [] (Err (Archive fault))
  nothing_merged ours theirs fault one two = record {
    first = one.source;
    second = two.source;
    first_is = one.is;
    second_is = two.is;
    more = judged one.source two.source;
    begin = refl;
    next = tt;
    ends = tt;
  }

pub passed_so : {D : Type 0} (d : DiskGhosts D) (disk : D) (cursor : Cursor) → (d.tells → OpensSource d disk cursor) → IsPassed d disk
passed_so d disk cursor opens tells = let o : OpensSource d disk cursor = opens tells in (o.source, o.is)

-- How the end answers: what was logged is flushed, and no call of the disk fails; or the disk fails, now or before.
pub record Finishes {D : Type 0} (d : DiskGhosts D) (limit : ℕ) (start disk final : D) (run now : Carried) (result : Result ℕ RunFault) : Type 0 where
  pub done : d.tells → (handed : List Handed) → Rests d limit handed run start disk → OnOk result (Ran d limit handed start final Close.flushed)
  pub failed : (handed : List Handed) → Rests d limit handed run start disk → OnErr result (Fails d limit handed now start final)
  pub counted : IfOk result (λ (n : ℕ). n ≡ run.logged)
  pub kinds : IfErr result (λ (e : RunFault). e ≡ runs.DiskFault)
  pub closed : IsFailed run → (result ≡ Err runs.DiskFault) × (now ≡ run) × (final ≡ disk)
  pub quiet : OnOk result (d.faults final ≡ d.faults disk)

module _ {A B D : Type 0} (p : ExtractSide A B D) (limit : ℕ) (first_passed : IsPassed p.first p.first_was) (second_passed : IsPassed p.second p.second_was)
    (unread : p.disk.tells → (Readable (contents_of (p.disk.held p.disk_was)) → ⊥) → LeavesOnly p.disk.moment p.disk.left_since p.disk_was p.disk_is (CrashImage (p.disk.held p.disk_was))) where
  -- ---- files that aren't recovered

  module _ (quiet : AreStill p) (told : (fault : RunFault) → p.first.tells → p.second.tells → HasMerged p [] [] (Err (Archive fault))) where
    unbegun : (fault : RunFault) → (p.disk.tells → Ran p.disk limit [] p.disk_was p.disk_is (Close.unrecovered fault)) → Why p limit [] [] (Close.unrecovered fault) (Err (Archive fault)) → Extracted p limit (Err (Archive fault))
    unbegun fault ran why = record {
      first_passed = first_passed;
      second_passed = second_passed;
      reports = [];
      last = [];
      close = Close.unrecovered fault;
      merged = told fault;
      ran = ran;
      why = why;
      quiet = inl quiet;
      unread = unread;
    }

    pub unrecovered : (fault : RunFault) → (p.disk.tells → Ran p.disk limit [] p.disk_was p.disk_is (Close.unrecovered fault))
        → (fault ≡ runs.DiskFault → Rose (p.disk.faults p.disk_was) (p.disk.faults p.disk_is)) → Extracted p limit (Err (Archive (begin_fault fault)))
    unrecovered (runs.Compressed file) ran rose = unbegun (runs.Compressed file) ran (record { none = refl; unhanded = refl; closed = refl })
    unrecovered (runs.NotArchive file at) ran rose = unbegun (runs.NotArchive file at) ran (record { none = refl; unhanded = refl; closed = refl })
    unrecovered runs.NoMemory ran rose = unbegun runs.NoMemory ran (inl (record { none = refl; unhanded = refl; closed = refl }))
    unrecovered runs.DiskFault ran rose = unbegun runs.DiskFault ran (rose refl, inl (record { none = refl; unhanded = refl; closed = refl }))
    unrecovered fault ran rose = unbegun runs.NoMemory (λ tells. absurd (ran tells).came.0) (inl (record { none = refl; unhanded = refl; closed = refl }))

  -- ---- once the files are recovered

  module _ (disk : D) (run now : Carried) (finish : Result ℕ RunFault) (f : Finishes p.disk limit p.disk_was disk p.disk_is run now finish) where
    abbrev Ended : Result (Unit {0}) ExtractFault → Type 0
    Ended merged = Extracted p limit (ended_by finish merged)

    abbrev Merged : List Report → List Handed → Result ℕ ExtractFault → Type 0
    Merged reports last result = p.first.tells → p.second.tells → HasMerged p reports last result

    abbrev Blames : Result (Unit {0}) ExtractFault → Type 0
    Blames merged = IfErr merged (BlamesSources p.first p.second p.first_was p.first_is p.second_was p.second_is)

    abbrev Quiet : Result (Unit {0}) ExtractFault → Type 0
    Quiet merged = QuietIn p.first p.second p.first_was p.first_is p.second_was p.second_is merged

    -- where the output's disk failed at the end
    quiet_failed : (merged : Result (Unit {0}) ExtractFault) → Blames merged → Quiet merged → IsQuiet p (Err (Archive runs.DiskFault))
    quiet_failed (Ok done) blames quiet = inl quiet
    quiet_failed (Err (Unread number fault)) blames quiet = inr (refl, record { number = number; fault = fault; breaks = blames; other = quiet })
    quiet_failed (Err (Merge fault)) blames quiet = inl quiet
    quiet_failed (Err (Archive fault)) blames quiet = inl quiet

    -- where it didn't
    quiet_flushed : (n : ℕ) (merged : Result (Unit {0}) ExtractFault) → Quiet merged → IsQuiet p (ended_by (Ok n) merged)
    quiet_flushed n (Ok done) quiet = quiet
    quiet_flushed n (Err (Unread number fault)) quiet = quiet
    quiet_flushed n (Err (Merge fault)) quiet = quiet
    quiet_flushed n (Err (Archive fault)) quiet = inl quiet

    failed : (reports : List Report) (last : List Handed) (stand : Carried) → IsQuiet p (Err (Archive runs.DiskFault)) → Merged reports last (Err (Archive runs.DiskFault)) → Fails p.disk limit (each_held reports ++ last) stand p.disk_was p.disk_is → Extracted p limit (Err (Archive runs.DiskFault))
    failed reports last stand quiet merged fails = record {
      first_passed = first_passed;
      second_passed = second_passed;
      reports = reports;
      last = last;
      close = Close.failed (lost_in stand.place);
      merged = merged;
      ran = fails.told;
      why = (fails.rose, inr (lost_in stand.place, refl));
      quiet = quiet;
      unread = unread;
    }

    -- what stands is flushed, or the disk fails in that
    ended_rests : (answer : Result ℕ RunFault) → Finishes p.disk limit p.disk_was disk p.disk_is run now answer → (reports : List Report) (last : List Handed) → Rests p.disk limit (each_held reports ++ last) run p.disk_was disk → (merged : Result (Unit {0}) ExtractFault)
        → Blames merged → Quiet merged → Merged reports last (ended_by answer merged) → ((n : ℕ) → n ≡ run.logged → IsFlushed p limit reports last Close.flushed → Why p limit reports last Close.flushed (ended_by (Ok n) merged)) → Extracted p limit (ended_by answer merged)
    ended_rests (Ok n) g reports last rests merged blames quiet told why = record {
      first_passed = first_passed;
      second_passed = second_passed;
      reports = reports;
      last = last;
      close = Close.flushed;
      merged = told;
      ran = λ tells. g.done tells (each_held reports ++ last) rests;
      why = why n g.counted (record { closed = refl; quiet = g.quiet ∙ rests.quiet });
      quiet = quiet_flushed n merged quiet;
      unread = unread;
    }
    ended_rests (Err fault) g reports last rests merged blames quiet told why =
        let is : fault ≡ runs.DiskFault = g.kinds in
        subst (λ (e : RunFault). Extracted p limit (Err (Archive e))) (sym is)
        (failed reports last now (quiet_failed merged blames quiet) (subst (λ (e : RunFault). Merged reports last (Err (Archive e))) is told) (g.failed (each_held reports ++ last) rests))

    -- the disk had failed before, and nothing more was done
    ended_failed : AreStill p → (reports : List Report) (last : List Handed) → Fails p.disk limit (each_held reports ++ last) run p.disk_was disk → Merged reports last (Err (Archive runs.DiskFault)) → Ended (Err (Archive runs.DiskFault))
    ended_failed still reports last fails merged =
        let (is, stays, same) = f.closed fails.failed in
        subst (λ (r : Result ℕ RunFault). Extracted p limit (ended_by r (Err (Archive runs.DiskFault)))) (sym is)
        (failed reports last run (inl still) merged (subst (λ (x : D). Fails p.disk limit (each_held reports ++ last) run p.disk_was x) (sym same) fails))

    -- ---- what was merged

    module _ (Left : List PmResult → List PmResult → Type 0) (comes : List PmResult → List PmResult → List Judged) where
      module _ (begun : p.first.tells → p.second.tells → Begun p Left comes) where
        -- what comes next, where it ended so
        abbrev EndsOf : Result (Unit {0}) ExtractFault → List Judged → Type 0
        EndsOf (Ok done) more = more ≡ []
        EndsOf (Err (Merge fault)) more = IsMisfit fault more
        EndsOf (Err fault) more = Unit {0}

        ends_so : (answer : Result ℕ RunFault) (merged : Result (Unit {0}) ExtractFault) (more : List Judged) → EndsOf merged more → EndsAt p (ended_by answer merged) more
        ends_so (Ok n) (Ok done) more ends = ends
        ends_so (Ok n) (Err (Merge fault)) more ends = ends
        ends_so (Ok n) (Err (Unread number fault)) more ends = tt
        ends_so (Ok n) (Err (Archive fault)) more ends = tt
        ends_so (Err fault) merged more ends = tt

        merged_so : (reports : List Report) (last : List Handed) (merged : Result (Unit {0}) ExtractFault)
            → ((xs ys : List PmResult) → Left xs ys → (more : List Judged) × BeginWith (comes xs ys) reports more × ComesNext p last more × EndsOf merged more) → Merged reports last (ended_by finish merged)
        merged_so reports last merged told first_tells second_tells =
            let b : Begun p Left comes = begun first_tells second_tells in
            let (more, begin, next, ends) = told (samples_of b.first.items) (samples_of b.second.items) b.left in
            record { first = b.first; second = b.second; first_is = b.first_is; second_is = b.second_is; more = more; begin = b.all ∙ begin; next = next; ends = ends_so finish merged more ends }

        alone : (reports : List Report) → HasLogged p.disk limit run p.disk_was disk reports → Rests p.disk limit (each_held reports ++ []) run p.disk_was disk
        alone reports runs = subst (λ (hs : List Handed). Rests p.disk limit hs run p.disk_was disk) (sym (append-nil (each_held reports))) runs.rests

        counted_so : (reports : List Report) (n : ℕ) → HasLogged p.disk limit run p.disk_was disk reports → n ≡ run.logged → n ≡ shown_count (length reports)
        counted_so reports n runs is = is ∙ runs.rests.counted ∙ ap (λ (rs : List Report). shown_count (length rs)) (held_reports reports)

        -- the archive turned the next one away
        ended_away : AreStill p → (reports : List Report) (r : Report) (fault : LogFault) (why : RunFault) → TurnsAway p.disk limit (each_held reports) r run p.disk_was disk fault
            → ((xs ys : List PmResult) → Left xs ys → (more : List Judged) × BeginWith (comes xs ys) reports more × IsNextOf (Judged.fits r) more)
            → (StopsAway p limit reports (Handed.refused r ∷ []) Close.flushed fault → Why p limit reports (Handed.refused r ∷ []) Close.flushed (Err (Archive why))) → Ended (Err (Archive why))
        ended_away still reports r fault why away told so =
            ended_rests finish f reports (Handed.refused r ∷ []) away.runs.rests (Err (Archive why)) tt still
            (merged_so reports (Handed.refused r ∷ []) (Err (Archive why)) (λ xs ys left. let (more, begin, next) = told xs ys left in (more, begin, (refl, next), tt)))
            (λ n is fl. so (record { r = r; handed = refl; flushed = fl; away = away.away }))

        ended_archive : AreStill p → (reports : List Report) (r : Report) (fault : RunFault) → Stops p.disk limit (each_held reports) r run p.disk_was disk fault
            → ((xs ys : List PmResult) → Left xs ys → (more : List Judged) × BeginWith (comes xs ys) reports more × IsNextOf (Judged.fits r) more) → Ended (Err (Archive fault))
        ended_archive still reports r (runs.Large bytes) stops told = ended_away still reports r (logs.Large bytes) (runs.Large bytes) stops told (λ away. away)
        ended_archive still reports r (runs.NotLater stamp) stops told = ended_away still reports r (logs.NotLater stamp) (runs.NotLater stamp) stops told (λ away. away)
        ended_archive still reports r (runs.Changed pmid) stops told = ended_away still reports r (logs.Changed pmid) (runs.Changed pmid) stops told (λ away. away)
        ended_archive still reports r (runs.Full file bytes) stops told = ended_away still reports r (logs.Full file bytes) (runs.Full file bytes) stops told (λ away. away)
        ended_archive still reports r runs.NoMemory (inl rests) told =
            ended_rests finish f reports [] (subst (λ (hs : List Handed). Rests p.disk limit hs run p.disk_was disk) (sym (append-nil (each_held reports))) rests) (Err (Archive runs.NoMemory)) tt still
            (merged_so reports [] (Err (Archive runs.NoMemory)) (λ xs ys left. let (more, begin, next) = told xs ys left in (more, begin, tt, tt)))
            (λ n is fl. inr (record { handed = inl refl; flushed = fl }))
        ended_archive still reports r runs.NoMemory (inr rests) told =
            ended_rests finish f reports (Handed.refused r ∷ []) rests (Err (Archive runs.NoMemory)) tt still
            (merged_so reports (Handed.refused r ∷ []) (Err (Archive runs.NoMemory)) (λ xs ys left. let (more, begin, next) = told xs ys left in (more, begin, (refl, next), tt)))
            (λ n is fl. inr (record { handed = inr (r, refl); flushed = fl }))
        ended_archive still reports r runs.DiskFault (inl fails) told =
            ended_failed still reports [] (subst (λ (hs : List Handed). Fails p.disk limit hs run p.disk_was disk) (sym (append-nil (each_held reports))) fails) (λ first_tells second_tells.
            let b : Begun p Left comes = begun first_tells second_tells in
            let (more, begin, next) = told (samples_of b.first.items) (samples_of b.second.items) b.left in
            record { first = b.first; second = b.second; first_is = b.first_is; second_is = b.second_is; more = more; begin = b.all ∙ begin; next = tt; ends = tt })
        ended_archive still reports r runs.DiskFault (inr fails) told =
            ended_failed still reports (Handed.held r ∷ []) fails (λ first_tells second_tells.
            let b : Begun p Left comes = begun first_tells second_tells in
            let (more, begin, next) = told (samples_of b.first.items) (samples_of b.second.items) b.left in
            record { first = b.first; second = b.second; first_is = b.first_is; second_is = b.second_is; more = more; begin = b.all ∙ begin; next = (refl, next); ends = tt })
        ended_archive still reports r fault stops told = absurd stops

        pub ended : (merged : Result (Unit {0}) ExtractFault) → Blames merged → Quiet merged → LogsAll p.disk limit run p.disk_was disk Left comes merged → Ended merged
        ended (Ok done) blames quiet (reports, logged, told) =
            ended_rests finish f reports [] (alone reports logged) (Ok done) blames quiet (merged_so reports [] (Ok done) (λ xs ys left. ([], told xs ys left, tt, refl)))
            (λ n is fl. (counted_so reports n logged is, (refl, fl)))
        ended (Err (Merge fault)) blames quiet (reports, logged, told) =
            ended_rests finish f reports [] (alone reports logged) (Err (Merge fault)) blames quiet
            (merged_so reports [] (Err (Merge fault)) (λ xs ys left. let (more, begin, misfit) = told xs ys left in (more, begin, tt, misfit)))
            (λ n is fl. (refl, fl))
        ended (Err (Unread number fault)) blames quiet (reports, logged, told) =
            ended_rests finish f reports [] (alone reports logged) (Err (Unread number fault)) blames quiet
            (merged_so reports [] (Err (Unread number fault)) (λ xs ys left. let (more, begin) = told xs ys left in (more, begin, tt, tt)))
            (λ n is fl. (blames, (refl, fl)))
        ended (Err (Archive fault)) blames quiet (reports, r, stops, told) = ended_archive quiet reports r fault stops told
