-- What is shown is logged, or refused.
use Rattle.std.proofs.Common.{◌≡◌, ⊎_elim, inl, inr, ℕ, ◌+◌, ◌<◌, List, [], ◌∷◌, length, Some, refl, sym, ap, ◌∙◌, subst, arith}
use Rattle.pcp_base.specs.Time.{Moment}
use Rattle.pcp_base.specs.declared.file.FileId.TheVariants as files
use Rattle.pcp_model.specs.Disk.{Files}
use Rattle.pcp_model.specs.LabelFields.{LabelFields}
use Rattle.pcp_outside.specs.declared.disk.Disk.{Ghosts as DiskGhosts}
use Rattle.pcp_outside.specs.Causes.{shown_count}
use Rattle.region_rule.specs.Seats.{Token}
use Rattle.archive_meta.specs.Enough.{AreEnough}
use Rattle.fetch_answers.specs.declared.fetch.Fetched.{Fetched}
use Rattle.fetch_engine.specs.declared.server.Mounted.{Mounted}
use Rattle.logger_core.specs.declared.fault.LogFault.{LogFault}
use Rattle.logger_core.specs.declared.fault.LogFault.TheVariants.{Closed, Live, Large, NotLater, Changed, Full, NoMemory, DiskFault}
use Rattle.logging_session.specs.Course.{HasKept, HasNotLogged, HasTurnedAway, WentBy}
use Rattle.logging_session.specs.Events.{Event, LeadFrom, opening, with_report}
use Rattle.logging_session.specs.Keeping.{Carried}
use Rattle.logging_session.specs.Written.{Refuses, Stand}
use Rattle.script_runs.specs.declared.ending.Ending.{Ending}
use Rattle.script_runs.specs.declared.ending.Ending.TheVariants as ends
use Rattle.script_runs.specs.declared.ending.LimitKind.TheVariants as kinds
use Rattle.script_runs.specs.Archives.{ending_of, report_of, run_label}
use Rattle.script_runs.specs.Steps.{fetched_from}
use Rattle.run_archive.specs.Endings.{EndsUnlogged, ending_after}
use Rattle.run_archive.specs.Kept.{KeepsRun, LeavesUnlogged, OverAny, TurnsItAway}
use Rattle.run_archive.specs.Logging.{LogsOne, RefusesOne, Shows}
use Rattle.run_archive.specs.Shown.{result_for, with_result, with_results}

-- ---- a session that is kept

module _ {D : Type 0} (d : DiskGhosts D) (left : Files) (events : List Event) (start : D) (was is : Carried) (old new : D) where
  -- nothing was done
  pub keeps_still : is ≡ was → new ≡ old → KeepsRun d left events start was old → KeepsRun d left events start is new
  keeps_still same still keeps = subst (λ (s : Carried). KeepsRun d left events start s new) (sym same) (subst (λ (disk : D). KeepsRun d left events start was disk) (sym still) keeps)

-- ---- a result that isn't logged

pub why_unlogged : (fault : LogFault) → (fault ≡ Closed → ⊥) → EndsUnlogged (ending_after fault)
why_unlogged Closed open_ = absurd (open_ refl)
why_unlogged (Live volume) open_ = tt
why_unlogged (Large bytes) open_ = tt
why_unlogged (NotLater last) open_ = tt
why_unlogged (Changed pmid) open_ = tt
why_unlogged (Full files.Meta bytes) open_ = tt
why_unlogged (Full files.Index bytes) open_ = tt
why_unlogged (Full (files.Volume number) bytes) open_ = tt
why_unlogged NoMemory open_ = tt
why_unlogged DiskFault open_ = tt

module _ {D : Type 0} (d : DiskGhosts D) (left : Files) (events : List Event) (f : Fetched) (start : D) (was is : Carried) (new : D) (named : was.label ≡ run_label) (label : is.label ≡ was.label) (limit : is.limit ≡ was.limit) where
  abbrev opened : List Event
  opened = opening f.result.stamp events

  kept_so : (es : List Event) → HasKept d left es start is new → KeepsRun d left es start is new
  kept_so es kept = record { label = label ∙ named; kept = kept }

  leads_so : (stand : Stand) → LeadFrom was.label was.limit left opened stand → LeadFrom run_label is.limit left opened stand
  leads_so stand lead = subst (λ (l : LabelFields). LeadFrom l is.limit left opened stand) named (subst (λ (n : ℕ). LeadFrom was.label n left opened stand) (sym limit) lead)

  went_so : WentBy d was.label was.limit left events [] start new → WentBy d run_label is.limit left events [] start new
  went_so went = subst (λ (l : LabelFields). WentBy d l is.limit left events [] start new) named (subst (λ (n : ℕ). WentBy d was.label n left events [] start new) (sym limit) went)

  turns_away : (fault : LogFault) (ending : Ending) → ending_of fault ≡ Some ending → HasTurnedAway d left events (report_of f) start was is new fault → TurnsItAway d left events start f is new ending
  turns_away fault ending so h = record {
    kept = kept_so opened h.kept;
    away = record { w = h.w; lead = leads_so (Stand.opened h.w) h.lead; fault = fault; refuses = subst (λ (n : ℕ). Refuses n (report_of f) h.w fault) (sym limit) h.refuses; ends = so };
  }

  pub unlogged : (fault : LogFault) → (fault ≡ Closed → ⊥) → HasNotLogged d left events (report_of f) start was is new fault → LeavesUnlogged d left events start f is new (ending_after fault)
  unlogged Closed open_ h = absurd (open_ refl)
  unlogged (Live volume) open_ h = absurd h
  unlogged (Large bytes) open_ h = turns_away (Large bytes) (ends.Limit kinds.Record bytes) refl h
  unlogged (NotLater last) open_ h = turns_away (NotLater last) (ends.NotLater last) refl h
  unlogged (Changed pmid) open_ h = turns_away (Changed pmid) (ends.Changed pmid) refl h
  unlogged (Full files.Meta bytes) open_ h = turns_away (Full files.Meta bytes) (ends.Limit kinds.Meta bytes) refl h
  unlogged (Full files.Index bytes) open_ h = turns_away (Full files.Index bytes) (ends.Limit kinds.Index bytes) refl h
  unlogged (Full (files.Volume number) bytes) open_ h = turns_away (Full (files.Volume number) bytes) (ends.Limit kinds.Volume bytes) refl h
  unlogged NoMemory open_ h = ⊎_elim (λ (kept : HasKept d left events start is new). inl (kept_so events kept)) (λ (kept : HasKept d left opened start is new). inr (kept_so opened kept)) h
  unlogged DiskFault open_ went = went_so went

-- ---- what is shown

one_result : (pmids : List ℕ) (f g : Fetched) → 0 < length pmids → f ≡ g → f ∷ [] ≡ with_result (result_for pmids g) []
one_result [] f g some same = absurd (omega (arith, some))
one_result (pmid ∷ pmids) f g some same = ap (λ (h : Fetched). h ∷ []) same

no_result : (pmids : List ℕ) (g : Fetched) → length pmids ≡ 0 → [] ≡ with_result (result_for pmids g) []
no_result [] g none = refl
no_result (pmid ∷ pmids) g none = absurd (omega (arith, none))

module _ {D : Type 0} (d : DiskGhosts D) (server : List Mounted) (before : List Token) (pmids : List ℕ) (now : Moment) (after : List Token) (fetched : Fetched) (shows : Shows server before pmids now after fetched) where
  -- no metric was asked for
  pub nothing_logged : (session : Carried) (disk : D) → length pmids ≡ 0 → LogsOne d server before pmids now session disk session disk after
  nothing_logged session disk none = record {
    few = shows.few;
    values = shows.values;
    read = shows.read;
    logs = λ tells left events start keeps. subst (λ (fs : List Fetched). KeepsRun d left (with_results events fs) start session disk) (no_result pmids (fetched_from shows.values pmids now) none) keeps;
    counted = subst (λ (fs : List Fetched). session.logged ≡ session.logged + length fs) (no_result pmids (fetched_from shows.values pmids now) none) (omega arith);
  }

  module _ (was : Carried) (old : D) (is : Carried) (new : D) (some : 0 < length pmids) where
    -- the disk failed as place was made for it
    pub not_placed : (ending : Ending) → ending ≡ ends.DiskFault → is.limit ≡ was.limit → is.logged ≡ was.logged → OverAny d was old (λ left events start. WentBy d run_label was.limit left events [] start new) → RefusesOne d server before pmids now was old is new after ending
    not_placed ending why limit count fails = record {
      some = some;
      few = shows.few;
      values = shows.values;
      read = shows.read;
      why = subst EndsUnlogged (sym why) tt;
      logs = λ tells left events start keeps. subst (λ (e : Ending). LeavesUnlogged d left events start (fetched_from shows.values pmids now) is new e) (sym why)
          (subst (λ (n : ℕ). WentBy d run_label n left events [] start new) (sym limit) (fails tells left events start keeps));
      counted = count;
    }

    -- place was made for it, in this session and on this disk
    module _ (mid : Carried) (middle : D) (placed : OverAny d was old (λ left events start. KeepsRun d left events start mid middle)) (same : mid.logged ≡ was.logged) (label : is.label ≡ mid.label) (limit : is.limit ≡ mid.limit) (enough : AreEnough fetched.facts fetched.result.sets) where
      abbrev pub WasLogged : Type 0
      WasLogged = d.tells → AreEnough fetched.facts fetched.result.sets → (left : Files) (events : List Event) (start : D) → HasKept d left events start mid middle → HasKept d left (with_report events (report_of fetched)) start is new

      abbrev pub WasRefused : LogFault → Type 0
      WasRefused fault = d.tells → AreEnough fetched.facts fetched.result.sets → (left : Files) (events : List Event) (start : D) → HasKept d left events start mid middle → HasNotLogged d left events (report_of fetched) start mid is new fault

      pub result_logged : is.logged ≡ shown_count (mid.logged + 1) → was.logged < 18446744073709551615 → WasLogged → LogsOne d server before pmids now was old is new after
      result_logged count few done = record {
        few = shows.few;
        values = shows.values;
        read = shows.read;
        logs = λ tells left events start keeps.
            let kept : KeepsRun d left events start mid middle = placed tells left events start keeps in
            subst (λ (fs : List Fetched). KeepsRun d left (with_results events fs) start is new) (one_result pmids fetched (fetched_from shows.values pmids now) some shows.is)
            (record { label = label ∙ kept.label; kept = done tells enough left events start kept.kept });
        counted = subst (λ (fs : List Fetched). is.logged ≡ was.logged + length fs) (one_result pmids fetched (fetched_from shows.values pmids now) some shows.is) (omega (arith, count, few, same));
      }

      pub result_refused : (fault : LogFault) (ending : Ending) → ending ≡ ending_after fault → (fault ≡ Closed → ⊥) → is.logged ≡ mid.logged → WasRefused fault → RefusesOne d server before pmids now was old is new after ending
      result_refused fault ending so open_ count fails = record {
        some = some;
        few = shows.few;
        values = shows.values;
        read = shows.read;
        why = subst EndsUnlogged (sym so) (why_unlogged fault open_);
        logs = λ tells left events start keeps.
            let kept : KeepsRun d left events start mid middle = placed tells left events start keeps in
            subst (λ (e : Ending). LeavesUnlogged d left events start (fetched_from shows.values pmids now) is new e) (sym so)
            (subst (λ (f : Fetched). LeavesUnlogged d left events start f is new (ending_after fault)) shows.is
            (unlogged d left events fetched start mid is new kept.label label limit fault open_ (fails tells enough left events start kept.kept)));
        counted = count ∙ same;
      }
