-- What may be merged is, and an item that can't be described or that the archive doesn't take is told.
use Rattle.std.proofs.Common.{◌≡◌, ◌≢◌, ◌⊎◌, inl, inr, ⊎_elim, ℕ, List, [], ◌∷◌, ◌++◌, refl, sym, ap, ◌∙◌, subst, Some, None, Result, Ok, Err}
use Rattle.pcp_base.specs.declared.file.FileId.{FileId}
use Rattle.pcp_model.specs.Archive.{Readable}
use Rattle.pcp_model.specs.Disk.{Files, contents_of}
use Rattle.pcp_outside.specs.Sides.{SinkSide}
use Rattle.archive_check.specs.declared.fault.CheckFault.{CheckFault}
use Rattle.archive_check.specs.declared.fault.CheckFault.TheVariants as checks
use Rattle.archive_merge.specs.declared.fault.MergeFault.{MergeFault}
use Rattle.archive_merge.specs.declared.fault.MergeFault.TheVariants as merges
use Rattle.archive_reader.specs.declared.fault.ReaderFault.TheVariants as reads
use Rattle.archive_recovery.specs.RecoverFaults.{IsRefused as IsNoArchive}
use Rattle.logger_core.specs.declared.fault.LogFault.{LogFault}
use Rattle.logger_core.specs.declared.fault.LogFault.TheVariants as logs
use Rattle.logging_session.specs.Written.{Report}
use Rattle.logging_run.specs.declared.fault.RunFault.TheVariants as runs
use Rattle.logging_run.specs.Closing.{Close}
use Rattle.logging_run.specs.Handing.{Handed, each_held, events_of}
use Rattle.logging_run.specs.Laws.{TurnedAwayForOne}
use Rattle.logging_run.specs.Running.{IsTurnedAway}
use Rattle.log_extract.specs.declared.fault.ExtractFault.{ExtractFault}
use Rattle.log_extract.specs.declared.fault.ExtractFault.TheVariants.{Archive, Merge, Source as Unread}
use Rattle.log_extract.specs.Extracting.{ComesNext, EndsAt, Extracted, TurnsAway}
use Rattle.log_extract.specs.Judging.{Judged, all_fit, judged}
use Rattle.log_extract.specs.Logging.{BeginWith, BreaksOff, IsMisfit, IsNextOf}
use Rattle.log_extract.specs.Sources.{Source}
use Rattle.pm_words.specs.Refusals.{status_of}
use Rattle.pm_extracting.specs.Ends.{CallSide}
use Rattle.pm_extracting.specs.Good.{IsClearUpTo, IsGoodExtract, IsUnfitItem, IsUntakenItem, TakesEach}
use Rattle.pm_extracting.specs.Refusals.{away_status, fault_refusal, misfit_status}
use Rattle.pm_extracting.proofs.Barred.{by_source, by_told}
use Rattle.pm_extracting.proofs.Endings.{Seen, Told, full_status}
use Rattle.pm_extracting.proofs.Sources.{IsLacking, broken_blamed, broken_lacks, passes_sound, same_source}
use Rattle.pm_extracting.proofs.Standing.{flushed_so, unbegun_so}
use Rattle.pm_extracting.proofs.Taken.{flushed_taken}

-- recovery refuses no files that can be read
abbrev pub RefusesNone : Type 0
RefusesNone = (files : Files) (file : FileId) (at : ℕ) → Readable files → IsNoArchive files file at → ⊥

-- ---- two ways in which a list begins with items

abbrev Apart : List Report → List Report → List Judged → Type 0
Apart a b y = (r : Report) × (rest : List Report) × (a ≡ b ++ r ∷ rest) × IsNextOf (Judged.fits r) y

abbrev Compared : List Report → List Report → List Judged → List Judged → Type 0
Compared a b x y = ((a ≡ b) × (x ≡ y)) ⊎ (Apart b a x ⊎ Apart a b y)

head_is : (r s : Report) (x y : List Judged) → Judged.fits r ∷ x ≡ Judged.fits s ∷ y → r ≡ s
head_is r s x y is = cc

tail_is : (i j : Judged) (x y : List Judged) → i ∷ x ≡ j ∷ y → x ≡ y
tail_is i j x y is = cc

apart_more : (r s : Report) (a b : List Report) (y : List Judged) → r ≡ s → Apart a b y → Apart (r ∷ a) (s ∷ b) y
apart_more r s a b y same (q, rest, is, next) = (q, rest, ap (λ (t : Report). t ∷ a) same ∙ ap (λ (rs : List Report). s ∷ rs) is, next)

compare : (a b : List Report) (x y : List Judged) → all_fit a ++ x ≡ all_fit b ++ y → Compared a b x y
compare [] [] x y is = inl (refl, is)
compare [] (s ∷ b) x y is = inr (inl (s, b, refl, (all_fit b ++ y, is)))
compare (r ∷ a) [] x y is = inr (inr (r, a, refl, (all_fit a ++ x, sym is)))
compare (r ∷ a) (s ∷ b) x y is =
    let same : r ≡ s = head_is r s (all_fit a ++ x) (all_fit b ++ y) is in
    by_rest same (compare a b x y (tail_is (Judged.fits r) (Judged.fits s) (all_fit a ++ x) (all_fit b ++ y) is))
  where
    by_rest : r ≡ s → Compared a b x y → Compared (r ∷ a) (s ∷ b) x y
    by_rest same (inl (are, rest)) = inl (ap (λ (t : Report). t ∷ a) same ∙ ap (λ (rs : List Report). s ∷ rs) are, rest)
    by_rest same (inr (inl longer)) = inr (inl (apart_more s r b a x (sym same) longer))
    by_rest same (inr (inr longer)) = inr (inr (apart_more r s a b y same longer))

next_fits : (r s : Report) (later : List Judged) → IsNextOf (Judged.fits r) (Judged.fits s ∷ later) → s ≡ r
next_fits r s later (more, is) = head_is s r later more is

next_none : (r : Report) → IsNextOf (Judged.fits r) [] → ⊥
next_none r (more, is) = cc

next_misfit : (r : Report) (fault : MergeFault) (later : List Judged) → IsNextOf (Judged.fits r) (Judged.misfit fault ∷ later) → ⊥
next_misfit r fault later (more, is) = cc

none_fits : (r : Report) (later : List Judged) → [] ≡ Judged.fits r ∷ later → ⊥
none_fits r later is = cc

none_misfit : (fault : MergeFault) (later : List Judged) → [] ≡ Judged.misfit fault ∷ later → ⊥
none_misfit fault later is = cc

fits_misfit : (r : Report) (fault : MergeFault) (x y : List Judged) → Judged.fits r ∷ x ≡ Judged.misfit fault ∷ y → ⊥
fits_misfit r fault x y is = cc

one_misfit : (f g : MergeFault) (x y : List Judged) → Judged.misfit f ∷ x ≡ Judged.misfit g ∷ y → f ≡ g
one_misfit f g x y is = cc

module _ {A B D : Type 0} (c : CallSide A B D) (k : SinkSide) (refuses_none : RefusesNone) (once : TurnedAwayForOne) where
  module _ (given : List Report) (more : List Judged) (u : IsClearUpTo c k given more) where
    abbrev start : Files
    start = contents_of (c.extract.disk.held c.extract.disk_was)

    abbrev all : List Judged
    all = judged u.clear.first u.clear.second

    -- the archive took what was logged
    abbrev Took : List Report → Type 0
    Took logged = TakesEach u.volume start logged

    abbrev Away : List Report → Report → LogFault → Type 0
    Away logged r fault = IsTurnedAway u.volume start (events_of (each_held logged)) r fault

    -- ---- how a run may end over these sources and files: the whole merge was logged; an item can't be described; or the archive doesn't take it

    abbrev EndsDone : ℕ → Type 0
    EndsDone n = (n ≡ 0) × (logged : List Report) × BeginWith all logged [] × Took logged

    abbrev EndsUnfit : ℕ → Type 0
    EndsUnfit n = (fault : MergeFault) × (logged : List Report) × (later : List Judged) × BeginWith all logged (Judged.misfit fault ∷ later) × Took logged × (n ≡ misfit_status fault)

    abbrev EndsAway : ℕ → Type 0
    EndsAway n =
        (fault : LogFault) × (fault ≢ logs.NoMemory) × (logged : List Report) × (r : Report) × (later : List Judged) × BeginWith all logged (Judged.fits r ∷ later) × Took logged × Away logged r fault × (n ≡ away_status fault)

    abbrev EndsSo : ℕ → Type 0
    EndsSo n = (n ≡ 9) ⊎ (EndsDone n ⊎ (EndsUnfit n ⊎ EndsAway n))

    -- ---- what a run logged of the merge

    module _ (n : ℕ) (result : Result ℕ ExtractFault) (e : Extracted c.extract u.volume result) where
      abbrev Shown : Type 0
      Shown = (rest : List Judged) × BeginWith all e.reports rest × ComesNext c.extract e.last rest × EndsAt c.extract result rest

      shown : Shown
      shown =
          let m = e.merged u.clear.first_tells u.clear.second_tells in
          let one : m.first ≡ u.clear.first = same_source c.extract.first c.extract.first_was m.first u.clear.first m.first_is u.clear.first_is in
          let two : m.second ≡ u.clear.second = same_source c.extract.second c.extract.second_was m.second u.clear.second m.second_is u.clear.second_is in (
            m.more,
            subst (λ (s : Source). BeginWith (judged s u.clear.second) e.reports m.more) one (subst (λ (s : Source). BeginWith (judged m.first s) e.reports m.more) two m.begin),
            m.next,
            m.ends,
          )

      took : e.close ≡ Close.flushed → Took e.reports
      took closed =
          let has = flushed_so c.extract u.volume result e closed u.clear.files in
          let was = has.recovered.was in
          flushed_taken u.volume start (contents_of (c.extract.disk.held has.middle)) e.reports e.last (contents_of (c.extract.disk.held c.extract.disk_is)) (record { reading = was.reading; was = was.was; recovered = was.recovered }) has.files

      -- what was turned away is the next item
      next_away : (rest : List Judged) (r : Report) → e.last ≡ Handed.refused r ∷ [] → ComesNext c.extract e.last rest → IsNextOf (Judged.fits r) rest
      next_away rest r is next = let so : ComesNext c.extract (Handed.refused r ∷ []) rest = subst (λ (hs : List Handed). ComesNext c.extract hs rest) is next in so.1

      ended_away : (fault : LogFault) → fault ≢ logs.NoMemory → TurnsAway c.extract u.volume e.reports e.last e.close fault → n ≡ away_status fault → EndsSo n
      ended_away fault known away is =
          let (rest, begin, next, ends) = shown in
          let (later, so) = next_away rest away.r away.handed next in
          inr (inr (inr (fault, known, e.reports, away.r, later, subst (λ (js : List Judged). BeginWith all e.reports js) so begin, took away.flushed.closed, away.away u.clear.files, is)))

    -- ---- a lack of a source

    lacked : (n number : ℕ) (fault : CheckFault) → IsLacking fault → (fault ≡ checks.Reader reads.DiskFault → ⊥) → Told k (Err (Unread number fault)) n → n ≡ 9
    lacked n number (checks.Reader reads.DiskFault) lacks kept told = absurd (kept refl)
    lacked n number (checks.Reader reads.NoMemory) lacks kept told = ⊎_elim (λ (h : 9 ≡ n). sym h) (λ (h : n ≡ 9). h) (by_told k (Unread number (checks.Reader reads.NoMemory)) n told)
    lacked n number fault lacks kept told = absurd lacks

    broken_nine : (n number : ℕ) (fault : CheckFault) → BreaksOff c.extract.first c.extract.second c.extract.first_was c.extract.first_is c.extract.second_was c.extract.second_is number fault → Told k (Err (Unread number fault)) n → n ≡ 9
    broken_nine n number fault (inl (one, broken)) told =
        lacked n number fault (broken_lacks c.extract.first c.extract.first_was c.extract.first_is fault broken u.clear.first_tells)
        (λ is. u.clear.first_kept (broken_blamed c.extract.first c.extract.first_was c.extract.first_is fault broken is)) told
    broken_nine n number fault (inr (two, broken)) told =
        lacked n number fault (broken_lacks c.extract.second c.extract.second_was c.extract.second_is fault broken u.clear.second_tells)
        (λ is. u.clear.second_kept (broken_blamed c.extract.second c.extract.second_was c.extract.second_is fault broken is)) told

    -- ---- each end

    unfit_end : (n : ℕ) (fault : MergeFault) → (fault ≡ merges.NoMemory → ⊥) → n ≡ misfit_status fault → (e : Extracted c.extract u.volume (Err (Merge fault))) → EndsSo n
    unfit_end n fault known is e = by_misfit (shown n (Err (Merge fault)) e) where
      by_misfit : (rest : List Judged) × BeginWith all e.reports rest × ComesNext c.extract e.last rest × IsMisfit fault rest → EndsSo n
      by_misfit (rest, begin, next, inl none) = absurd (known none)
      by_misfit (rest, begin, next, inr (later, so)) = inr (inr (inl (fault, e.reports, later, subst (λ (js : List Judged). BeginWith all e.reports js) so begin, took n (Err (Merge fault)) e e.why.1.closed, is)))

    done_end : (n count : ℕ) → n ≡ 0 → Extracted c.extract u.volume (Ok count) → EndsSo n
    done_end n count zero e =
        let (rest, begin, next, ends) = shown n (Ok count) e in
        inr (inl (zero, e.reports, subst (λ (js : List Judged). BeginWith all e.reports js) ends begin, took n (Ok count) e e.why.1.1.closed))

    both : (n : ℕ) (result : Result ℕ ExtractFault) → Told k result n → Extracted c.extract u.volume result → EndsSo n
    both n (Ok count) (inl h) e = done_end n count (sym h) e
    both n (Ok count) (inr (inl (h, other))) e = inl h
    both n (Ok count) (inr (inr (h, done, rose))) e = absurd (u.clear.sink_kept rose)
    both n (Err (Unread number fault)) told e = inl (broken_nine n number fault e.why.0 told)
    both n (Err (Merge (merges.Lacks source pmid))) told e = ⊎_elim (λ (h : 18 ≡ n). unfit_end n (merges.Lacks source pmid) (λ is. cc) (sym h) e) (λ (h : n ≡ 9). inl h) (by_told k (Merge (merges.Lacks source pmid)) n told)
    both n (Err (Merge (merges.Clashes pmid))) told e = ⊎_elim (λ (h : 19 ≡ n). unfit_end n (merges.Clashes pmid) (λ is. cc) (sym h) e) (λ (h : n ≡ 9). inl h) (by_told k (Merge (merges.Clashes pmid)) n told)
    both n (Err (Merge merges.NoMemory)) told e = inl (⊎_elim (λ (h : 9 ≡ n). sym h) (λ (h : n ≡ 9). h) (by_told k (Merge merges.NoMemory) n told))
    both n (Err (Archive (runs.Compressed file))) told e =
        let u_ = unbegun_so c.extract u.volume (Err (Archive (runs.Compressed file))) e (runs.Compressed file) e.why u.clear.files in
        let none : None ≡ Some file = sym u.clear.unwrapped ∙ u_.0 in absurd (cc)
    both n (Err (Archive (runs.NotArchive file at))) told e =
        absurd (refuses_none start file at u.clear.readable (unbegun_so c.extract u.volume (Err (Archive (runs.NotArchive file at))) e (runs.NotArchive file at) e.why u.clear.files).0.1)
    both n (Err (Archive (runs.Large bytes))) told e =
        ⊎_elim (λ (h : 7 ≡ n). ended_away n (Err (Archive (runs.Large bytes))) e (logs.Large bytes) (λ is. cc) e.why (sym h)) (λ (h : n ≡ 9). inl h) (by_told k (Archive (runs.Large bytes)) n told)
    both n (Err (Archive (runs.NotLater last))) told e =
        ⊎_elim (λ (h : 12 ≡ n). ended_away n (Err (Archive (runs.NotLater last))) e (logs.NotLater last) (λ is. cc) e.why (sym h)) (λ (h : n ≡ 9). inl h) (by_told k (Archive (runs.NotLater last)) n told)
    both n (Err (Archive (runs.Changed pmid))) told e =
        ⊎_elim (λ (h : 13 ≡ n). ended_away n (Err (Archive (runs.Changed pmid))) e (logs.Changed pmid) (λ is. cc) e.why (sym h)) (λ (h : n ≡ 9). inl h) (by_told k (Archive (runs.Changed pmid)) n told)
    both n (Err (Archive (runs.Full file bytes))) told e =
        ⊎_elim (λ (h : status_of (fault_refusal (Archive (runs.Full file bytes))) ≡ n). ended_away n (Err (Archive (runs.Full file bytes))) e (logs.Full file bytes) (λ is. cc) e.why (sym h ∙ full_status file bytes)) (λ (h : n ≡ 9). inl h)
        (by_told k (Archive (runs.Full file bytes)) n told)
    both n (Err (Archive runs.NoMemory)) told e = inl (⊎_elim (λ (h : 9 ≡ n). sym h) (λ (h : n ≡ 9). h) (by_told k (Archive runs.NoMemory) n told))
    both n (Err (Archive runs.DiskFault)) told e = absurd (u.clear.disk_kept e.why.0)

    ends_so : (n : ℕ) → Seen c k n → EndsSo n
    ends_so n saw =
        by_source c k (EndsSo n) n u.volume u.orders (λ nine. inl nine)
        (λ fault ran back told. inl (lacked n 1 fault (passes_sound c.extract.first c.extract.first_was u.clear.first u.clear.first_is fault (back.why u.clear.first_tells)) (λ is. u.clear.first_kept (back.blamed is)) told))
        (λ fault ran passed back told. inl (lacked n 2 fault (passes_sound c.extract.second c.extract.second_was u.clear.second u.clear.second_is fault (back.why u.clear.second_tells)) (λ is. u.clear.second_kept (back.blamed is)) told))
        (both n) saw

    -- ---- where the items part

    side : (logged : List Report) (rest : List Judged) → BeginWith all logged rest → Compared given logged more rest
    side logged rest begin = compare given logged more rest (sym u.begin ∙ begin)

    -- an item that was turned away isn't one of those that the archive takes
    front_away : (fault : LogFault) → fault ≢ logs.NoMemory → (logged : List Report) (r : Report) (later : List Judged) → Away logged r fault → Apart given logged (Judged.fits r ∷ later) → ⊥
    front_away fault known logged r later away (s, rest, is, next) =
        u.clear.takes logged s rest fault known is (subst (λ (q : Report). Away logged q fault) (next_fits s r later next) away)

    -- one that isn't taken wasn't logged
    behind_away : (fault : LogFault) → fault ≢ logs.NoMemory → (logged : List Report) (r : Report) (later : List Judged) → Took logged → Away given r fault → Apart logged given (Judged.fits r ∷ later) → ⊥
    behind_away fault known logged r later taken away (s, rest, is, next) = taken given s rest fault known is (subst (λ (q : Report). Away given q fault) (next_fits s r later next) away)

  -- ---- the whole merge

  module _ (good : IsGoodExtract c k) where
    good_unfit : (fault : MergeFault) (logged : List Report) (later : List Judged) → Compared good.reports logged [] (Judged.misfit fault ∷ later) → ⊥
    good_unfit fault logged later (inl (are, is)) = none_misfit fault later is
    good_unfit fault logged later (inr (inl (s, rest, is, next))) = next_none s next
    good_unfit fault logged later (inr (inr (s, rest, is, next))) = next_misfit s fault later next

    good_away : (fault : LogFault) → fault ≢ logs.NoMemory → (logged : List Report) (r : Report) (later : List Judged) → Away good.reports [] good.all logged r fault → Compared good.reports logged [] (Judged.fits r ∷ later) → ⊥
    good_away fault known logged r later away (inl (are, is)) = none_fits r later is
    good_away fault known logged r later away (inr (inl (s, rest, is, next))) = next_none s next
    good_away fault known logged r later away (inr (inr apart)) = front_away good.reports [] good.all fault known logged r later away apart

    by_good : (n : ℕ) → EndsSo good.reports [] good.all n → (n ≡ 0) ⊎ (n ≡ 9)
    by_good n (inl nine) = inr nine
    by_good n (inr (inl (zero, logged, begin, taken))) = inl zero
    by_good n (inr (inr (inl (fault, logged, later, begin, taken, is)))) = absurd (good_unfit fault logged later (side good.reports [] good.all logged (Judged.misfit fault ∷ later) begin))
    by_good n (inr (inr (inr (fault, known, logged, r, later, begin, taken, away, is)))) = absurd (good_away fault known logged r later away (side good.reports [] good.all logged (Judged.fits r ∷ later) begin))

    pub completes : (n : ℕ) → Seen c k n → (n ≡ 0) ⊎ (n ≡ 9)
    completes n saw = by_good n (ends_so good.reports [] good.all n saw)

  -- ---- an item that the archive doesn't take

  module _ (fault : LogFault) (known : fault ≢ logs.NoMemory) (i : IsUntakenItem c k fault) where
    abbrev rest_of : List Judged
    rest_of = Judged.fits i.r ∷ i.more

    behind : (logged : List Report) → Took i.before rest_of i.up_to logged → Apart logged i.before rest_of → ⊥
    behind logged taken apart = behind_away i.before rest_of i.up_to fault known logged i.r i.more taken i.away apart

    untaken_done : (logged : List Report) → Took i.before rest_of i.up_to logged → Compared i.before logged rest_of [] → ⊥
    untaken_done logged taken (inl (are, is)) = none_fits i.r i.more (sym is)
    untaken_done logged taken (inr (inl apart)) = behind logged taken apart
    untaken_done logged taken (inr (inr (s, rest, is, next))) = next_none s next

    untaken_unfit : (other : MergeFault) (logged : List Report) (later : List Judged) → Took i.before rest_of i.up_to logged → Compared i.before logged rest_of (Judged.misfit other ∷ later) → ⊥
    untaken_unfit other logged later taken (inl (are, is)) = fits_misfit i.r other i.more later is
    untaken_unfit other logged later taken (inr (inl apart)) = behind logged taken apart
    untaken_unfit other logged later taken (inr (inr (s, rest, is, next))) = next_misfit s other later next

    untaken_away : (other : LogFault) → other ≢ logs.NoMemory → (logged : List Report) (r : Report) (later : List Judged) → Took i.before rest_of i.up_to logged → Away i.before rest_of i.up_to logged r other
        → Compared i.before logged rest_of (Judged.fits r ∷ later) → other ≡ fault
    untaken_away other also logged r later taken away (inl (are, is)) =
        let same : r ≡ i.r = sym (head_is i.r r i.more later is) in
        once i.up_to.volume (start i.before rest_of i.up_to) (events_of (each_held i.before)) i.r other fault also known
        (subst (λ (q : Report). Away i.before rest_of i.up_to i.before q other) same (subst (λ (rs : List Report). Away i.before rest_of i.up_to rs r other) (sym are) away))
        i.away
    untaken_away other also logged r later taken away (inr (inl apart)) = absurd (behind logged taken apart)
    untaken_away other also logged r later taken away (inr (inr apart)) = absurd (front_away i.before rest_of i.up_to other also logged r later away apart)

    by_untaken : (n : ℕ) → EndsSo i.before rest_of i.up_to n → (n ≡ away_status fault) ⊎ (n ≡ 9)
    by_untaken n (inl nine) = inr nine
    by_untaken n (inr (inl (zero, logged, begin, taken))) = absurd (untaken_done logged taken (side i.before rest_of i.up_to logged [] begin))
    by_untaken n (inr (inr (inl (other, logged, later, begin, taken, is)))) = absurd (untaken_unfit other logged later taken (side i.before rest_of i.up_to logged (Judged.misfit other ∷ later) begin))
    by_untaken n (inr (inr (inr (other, also, logged, r, later, begin, taken, away, is)))) =
        inl (is ∙ ap away_status (untaken_away other also logged r later taken away (side i.before rest_of i.up_to logged (Judged.fits r ∷ later) begin)))

    pub told_away : (n : ℕ) → Seen c k n → (n ≡ away_status fault) ⊎ (n ≡ 9)
    told_away n saw = by_untaken n (ends_so i.before rest_of i.up_to n saw)

  -- ---- an item that can't be described

  module _ (fault : MergeFault) (i : IsUnfitItem c k fault) where
    abbrev unfit_rest : List Judged
    unfit_rest = Judged.misfit fault ∷ i.more

    unfit_done : (logged : List Report) → Compared i.before logged unfit_rest [] → ⊥
    unfit_done logged (inl (are, is)) = none_misfit fault i.more (sym is)
    unfit_done logged (inr (inl (s, rest, is, next))) = next_misfit s fault i.more next
    unfit_done logged (inr (inr (s, rest, is, next))) = next_none s next

    unfit_unfit : (other : MergeFault) (logged : List Report) (later : List Judged) → Compared i.before logged unfit_rest (Judged.misfit other ∷ later) → other ≡ fault
    unfit_unfit other logged later (inl (are, is)) = sym (one_misfit fault other i.more later is)
    unfit_unfit other logged later (inr (inl (s, rest, is, next))) = absurd (next_misfit s fault i.more next)
    unfit_unfit other logged later (inr (inr (s, rest, is, next))) = absurd (next_misfit s other later next)

    unfit_away : (other : LogFault) → other ≢ logs.NoMemory → (logged : List Report) (r : Report) (later : List Judged) → Away i.before unfit_rest i.up_to logged r other → Compared i.before logged unfit_rest (Judged.fits r ∷ later) → ⊥
    unfit_away other also logged r later away (inl (are, is)) = fits_misfit r fault later i.more (sym is)
    unfit_away other also logged r later away (inr (inl (s, rest, is, next))) = next_misfit s fault i.more next
    unfit_away other also logged r later away (inr (inr apart)) = front_away i.before unfit_rest i.up_to other also logged r later away apart

    by_unfit : (n : ℕ) → EndsSo i.before unfit_rest i.up_to n → (n ≡ misfit_status fault) ⊎ (n ≡ 9)
    by_unfit n (inl nine) = inr nine
    by_unfit n (inr (inl (zero, logged, begin, taken))) = absurd (unfit_done logged (side i.before unfit_rest i.up_to logged [] begin))
    by_unfit n (inr (inr (inl (other, logged, later, begin, taken, is)))) = inl (is ∙ ap misfit_status (unfit_unfit other logged later (side i.before unfit_rest i.up_to logged (Judged.misfit other ∷ later) begin)))
    by_unfit n (inr (inr (inr (other, also, logged, r, later, begin, taken, away, is)))) = absurd (unfit_away other also logged r later away (side i.before unfit_rest i.up_to logged (Judged.fits r ∷ later) begin))

    pub told_unfit : (n : ℕ) → Seen c k n → (n ≡ misfit_status fault) ⊎ (n ≡ 9)
    told_unfit n saw = by_unfit n (ends_so i.before unfit_rest i.up_to n saw)
