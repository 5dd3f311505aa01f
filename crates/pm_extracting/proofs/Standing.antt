-- What stands where a run has ended: what was logged of the merge, and the files.
use Rattle.std.proofs.Common.{◌≡◌, ◌⊎◌, inl, inr, ⊎_elim, ℕ, List, [], ◌∷◌, ◌++◌, append-nil, length, take, refl, sym, ap, ◌∙◌, subst, Result, Ok, Err}
use Rattle.std.proofs.lemmas.List.{length-map}
use Rattle.pcp_base.specs.declared.result.Item.{Item}
use Rattle.pcp_base.specs.declared.result.Item.TheVariants as items
use Rattle.pcp_outside.specs.Causes.{shown_count}
use Rattle.archive_merge.specs.declared.fault.MergeFault.{MergeFault}
use Rattle.archive_merge.specs.Merging.{merge}
use Rattle.logger_core.specs.declared.fault.LogFault.{LogFault}
use Rattle.logger_core.specs.declared.fault.LogFault.TheVariants as logs
use Rattle.logging_session.specs.Written.{Report}
use Rattle.logging_run.specs.declared.fault.RunFault.{RunFault}
use Rattle.logging_run.specs.declared.fault.RunFault.TheVariants as runs
use Rattle.logging_run.specs.Closing.{CameTo, Close, HasFlushed, Ran}
use Rattle.logging_run.specs.Handing.{Handed, each_held, items_of_run, reports_of}
use Rattle.logging_run.specs.Laws.{ItemsAreReports}
use Rattle.logging_run.specs.Recovering.{IsUnrecovered}
use Rattle.log_extract.specs.declared.fault.ExtractFault.{ExtractFault}
use Rattle.log_extract.specs.declared.fault.ExtractFault.TheVariants.{Archive, Merge, Source as Unread}
use Rattle.log_extract.specs.Extracting.{ComesNext, ExtractSide, Extracted, HasMerged, IsRefused as IsTurnedBackBy, IsRefusedMemory, IsUnbegun, TurnsAway}
use Rattle.log_extract.specs.Judging.{Judged, all_fit, judged}
use Rattle.log_extract.specs.Laws.{AllIsMerged, ReportsAreMerged}
use Rattle.log_extract.specs.Logging.{BeginWith}
use Rattle.pm_extracting.specs.Ends.{AreFirst, BeginMerge, CallSide, HasExtracted, HasLogged, HasRun, MakeMerge, handed_in, results_of}
use Rattle.pm_extracting.specs.Facts.{HasFiled}

-- ---- what was logged

-- it was logged whole, or one more was turned away
abbrev pub IsWhole : List Handed → Type 0
IsWhole last = (last ≡ []) ⊎ ((r : Report) × (last ≡ Handed.refused r ∷ []))

reports_with : (reports : List Report) (last : List Handed) → reports_of (each_held reports ++ last) ≡ reports ++ reports_of last
reports_with [] last = refl
reports_with (r ∷ reports) last = ap (λ (rs : List Report). r ∷ rs) (reports_with reports last)

none_in : (last : List Handed) → IsWhole last → reports_of last ≡ []
none_in last (inl none) = ap reports_of none
none_in last (inr (r, is)) = ap reports_of is

items_with : ItemsAreReports → (reports : List Report) (last : List Handed) → items_of_run (each_held reports ++ last) ≡ results_of (reports ++ reports_of last)
items_with items_are reports last = items_are (each_held reports ++ last) ∙ ap results_of (reports_with reports last)

whole_items : ItemsAreReports → (reports : List Report) (last : List Handed) → IsWhole last → items_of_run (each_held reports ++ last) ≡ results_of reports
whole_items items_are reports last whole = items_with items_are reports last ∙ ap (λ (rs : List Report). results_of (reports ++ rs)) (none_in last whole) ∙ ap results_of (append-nil reports)

-- ---- the merge

fit_behind : (a : List Report) (r : Report) (more : List Judged) → all_fit a ++ Judged.fits r ∷ more ≡ all_fit (a ++ r ∷ []) ++ more
fit_behind [] r more = refl
fit_behind (x ∷ a) r more = ap (λ (js : List Judged). Judged.fits x ∷ js) (fit_behind a r more)

module _ {A B D : Type 0} (p : ExtractSide A B D) where
  -- with what comes next, where that was on its way
  next_begin : (all : List Judged) (reports : List Report) (last : List Handed) (more : List Judged) → BeginWith all reports more → ComesNext p last more → (rest : List Judged) × BeginWith all (reports ++ reports_of last) rest
  next_begin all reports [] more begin next = (more, begin ∙ ap (λ (rs : List Report). all_fit rs ++ more) (sym (append-nil reports)))
  next_begin all reports (Handed.sure r ∷ handed) more begin next = absurd next
  next_begin all reports (Handed.held r ∷ handed) more begin (none, (later, is)) =
      let one : r ∷ [] ≡ reports_of (Handed.held r ∷ handed) = ap (λ (hs : List Handed). r ∷ reports_of hs) (sym none) in
      (later, begin ∙ ap (λ (js : List Judged). all_fit reports ++ js) is ∙ fit_behind reports r later ∙ ap (λ (rs : List Report). all_fit (reports ++ rs) ++ later) one)
  next_begin all reports (Handed.refused r ∷ handed) more begin (none, (later, is)) =
      let one : [] ≡ reports_of (Handed.refused r ∷ handed) = ap reports_of (sym none) in
      (more, begin ∙ ap (λ (rs : List Report). all_fit rs ++ more) (sym (append-nil reports) ∙ ap (λ (rs : List Report). reports ++ rs) one))

  module _ (merged : ReportsAreMerged) (result : Result ℕ ExtractFault) where
    first_of : (reports more_reports : List Report) (last : List Handed) (m : HasMerged p reports last result) (rest : List Judged) → BeginWith (judged m.first m.second) more_reports rest → AreFirst p (results_of more_reports)
    first_of reports more_reports last m rest begin = record {
      first = m.first;
      second = m.second;
      first_is = m.first_is;
      second_is = m.second_is;
      are = ap (λ (n : ℕ). take n (merge m.first.items m.second.items)) (length-map more_reports (λ (r : Report). items.Sample r.result)) ∙ merged m.first m.second more_reports rest begin;
    }

    -- what was logged comes first of the merge
    pub reports_first : (limit : ℕ) (e : Extracted p limit result) → BeginMerge p (results_of e.reports)
    reports_first limit e first second = let m = e.merged first second in first_of e.reports e.reports e.last m m.more m.begin

    -- and what was handed in, also where the last one was on its way
    pub handed_first : ItemsAreReports → (limit : ℕ) (e : Extracted p limit result) → BeginMerge p (items_of_run (handed_in e))
    handed_first items_are limit e first second =
        let m = e.merged first second in
        let with_last = next_begin (judged m.first m.second) e.reports e.last m.more m.begin m.next in
        subst (λ (xs : List Item). AreFirst p xs) (sym (items_with items_are e.reports e.last)) (first_of e.reports (e.reports ++ reports_of e.last) e.last m with_last.0 with_last.1)

  -- where none was refused it is the whole merge
  pub all_merge : AllIsMerged → (limit count : ℕ) (e : Extracted p limit (Ok count)) → MakeMerge p (results_of e.reports) count
  all_merge whole limit count e first second =
      let m = e.merged first second in
      let all : merge m.first.items m.second.items ≡ results_of e.reports = whole m.first m.second e.reports (subst (λ (js : List Judged). BeginWith (judged m.first m.second) e.reports js) m.ends m.begin) in
      let many : length e.reports ≡ length (merge m.first.items m.second.items) = sym (length-map e.reports (λ (r : Report). items.Sample r.result)) ∙ ap (λ (xs : List Item). length xs) (sym all) in record {
        first = m.first;
        second = m.second;
        first_is = m.first_is;
        second_is = m.second_is;
        are = all;
        count_is = e.why.0 ∙ ap shown_count many;
      }

  -- ---- the disk

  module _ (limit : ℕ) (result : Result ℕ ExtractFault) (e : Extracted p limit result) where
    pub came_so : (close : Close) → e.close ≡ close → p.disk.tells → CameTo p.disk limit (handed_in e) p.disk_was p.disk_is close
    came_so close is tells = subst (λ (x : Close). CameTo p.disk limit (handed_in e) p.disk_was p.disk_is x) is (p_ran tells).came where
      p_ran : p.disk.tells → Ran p.disk limit (handed_in e) p.disk_was p.disk_is e.close
      p_ran tells = e.ran tells

    pub flushed_so : e.close ≡ Close.flushed → p.disk.tells → HasFlushed p.disk limit (handed_in e) p.disk_was p.disk_is
    flushed_so is tells = came_so Close.flushed is tells

    abbrev pub Unbegun : RunFault → Type 0
    Unbegun = IsUnbegun p limit e.reports e.last e.close

    pub unbegun_so : (fault : RunFault) → Unbegun fault → p.disk.tells → IsUnrecovered p.disk p.disk_was fault p.disk_is
    unbegun_so fault u tells = (came_so (Close.unrecovered fault) u.closed tells).0

-- ---- runs by which both sources were passed

module _ {A B D : Type 0} (c : CallSide A B D) where
  pub extracted_so : (result : Result ℕ ExtractFault) (ran : HasRun c result) → (IsTurnedBackBy c.extract result → ⊥) → HasExtracted c result
  extracted_so result ran none = record {
    volume = ran.volume;
    orders = ran.orders;
    extracted = ⊎_elim (λ (back : IsTurnedBackBy c.extract result). absurd (none back)) (λ (e : Extracted c.extract ran.volume result). e) ran.extracts.came;
  }

  pub done_so : (count : ℕ) → HasRun c (Ok count) → HasExtracted c (Ok count)
  done_so count ran = extracted_so (Ok count) ran (λ back. back)

  pub merge_so : (fault : MergeFault) → HasRun c (Err (Merge fault)) → HasExtracted c (Err (Merge fault))
  merge_so fault ran = extracted_so (Err (Merge fault)) ran (λ back. back)

  pub archive_so : (fault : RunFault) → HasRun c (Err (Archive fault)) → HasExtracted c (Err (Archive fault))
  archive_so fault ran = extracted_so (Err (Archive fault)) ran (λ back. back)

  abbrev pub logged_so : AllIsMerged → (count : ℕ) → HasRun c (Ok count) → HasLogged c
  logged_so whole count ran = let e = done_so count ran in record { count = count; ran = e; whole = all_merge c.extract whole e.volume count e.extracted }

  module _ (items_are : ItemsAreReports) (merged : ReportsAreMerged) where
    pub filed : (result : Result ℕ ExtractFault) (ran : HasExtracted c result) → ran.extracted.close ≡ Close.flushed → IsWhole ran.extracted.last → HasFiled c ran
    filed result ran closed whole = record {
      items = whole_items items_are ran.extracted.reports ran.extracted.last whole;
      merged = reports_first c.extract merged result ran.volume ran.extracted;
      flushed = λ tells. flushed_so c.extract ran.volume result ran.extracted closed tells;
    }

    -- why files aren't recovered, but for a disk that fails
    abbrev pub IsOfRecovery : RunFault → Type 0
    IsOfRecovery (runs.Compressed file) = Unit {0}
    IsOfRecovery (runs.NotArchive file at) = Unit {0}
    IsOfRecovery runs.NoMemory = Unit {0}
    IsOfRecovery fault = ⊥

    -- a run whose files weren't recovered, or one whose items are flushed: of each end but that of a disk that failed
    abbrev pub Stands : {result : Result ℕ ExtractFault} → HasExtracted c result → Type 0
    Stands {result} ran = ((fault : RunFault) × IsOfRecovery fault × (result ≡ Err (Archive fault)) × Unbegun c.extract ran.volume result ran.extracted fault) ⊎ ((ran.extracted.close ≡ Close.flushed) × HasFiled c ran)

    whole_stands : (result : Result ℕ ExtractFault) (ran : HasExtracted c result) → ran.extracted.close ≡ Close.flushed → IsWhole ran.extracted.last → Stands ran
    whole_stands result ran closed whole = inr (closed, filed result ran closed whole)

    away_stands : (result : Result ℕ ExtractFault) (ran : HasExtracted c result) (fault : LogFault) → TurnsAway c.extract ran.volume ran.extracted.reports ran.extracted.last ran.extracted.close fault → Stands ran
    away_stands result ran fault away = whole_stands result ran away.flushed.closed (inr (away.r, away.handed))

    pub stands : (result : Result ℕ ExtractFault) → (result ≡ Err (Archive runs.DiskFault) → ⊥) → (ran : HasExtracted c result) → Stands ran
    stands (Ok count) other ran = whole_stands (Ok count) ran ran.extracted.why.1.1.closed (inl ran.extracted.why.1.0)
    stands (Err (Unread number fault)) other ran = whole_stands (Err (Unread number fault)) ran ran.extracted.why.1.1.closed (inl ran.extracted.why.1.0)
    stands (Err (Merge fault)) other ran = whole_stands (Err (Merge fault)) ran ran.extracted.why.1.closed (inl ran.extracted.why.0)
    stands (Err (Archive (runs.Compressed file))) other ran = inl (runs.Compressed file, tt, refl, ran.extracted.why)
    stands (Err (Archive (runs.NotArchive file at))) other ran = inl (runs.NotArchive file at, tt, refl, ran.extracted.why)
    stands (Err (Archive (runs.Large bytes))) other ran = away_stands (Err (Archive (runs.Large bytes))) ran (logs.Large bytes) ran.extracted.why
    stands (Err (Archive (runs.NotLater last))) other ran = away_stands (Err (Archive (runs.NotLater last))) ran (logs.NotLater last) ran.extracted.why
    stands (Err (Archive (runs.Changed pmid))) other ran = away_stands (Err (Archive (runs.Changed pmid))) ran (logs.Changed pmid) ran.extracted.why
    stands (Err (Archive (runs.Full file bytes))) other ran = away_stands (Err (Archive (runs.Full file bytes))) ran (logs.Full file bytes) ran.extracted.why
    stands (Err (Archive runs.NoMemory)) other ran = wanting ran.extracted.why where
      wanting : IsUnbegun c.extract ran.volume ran.extracted.reports ran.extracted.last ran.extracted.close runs.NoMemory ⊎ IsRefusedMemory c.extract ran.volume ran.extracted.reports ran.extracted.last ran.extracted.close → Stands ran
      wanting (inl unbegun) = inl (runs.NoMemory, tt, refl, unbegun)
      wanting (inr refused) = whole_stands (Err (Archive runs.NoMemory)) ran refused.flushed.closed refused.handed
    stands (Err (Archive runs.DiskFault)) other ran = absurd (other refl)

    -- what wasn't recovered so is as it was
    pub unrecovered_stays : (fault : RunFault) → IsOfRecovery fault → IsUnrecovered c.extract.disk c.extract.disk_was fault c.extract.disk_is → c.extract.disk.held c.extract.disk_is ≡ c.extract.disk.held c.extract.disk_was
    unrecovered_stays (runs.Compressed file) is u = u.1
    unrecovered_stays (runs.NotArchive file at) is u = u.1
    unrecovered_stays runs.NoMemory is u = u
    unrecovered_stays fault is u = absurd is
