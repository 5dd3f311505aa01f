-- What flushes do and write.
use Rattle.std.proofs.Common.{◌≡◌, ◌≢◌, ◌⊎◌, ⊎_elim, inl, inr, ℕ, ◌≤◌, zero, suc, List, [], ◌++◌, codes, refl, sym, ap, ◌∙◌, subst, arith}
use Rattle.pcp_model.specs.Disk.{Files}
use Rattle.pcp_model.specs.LabelFields.{LabelFields}
use Rattle.pcp_outside.specs.Causes.{Rose}
use Rattle.pcp_outside.specs.declared.disk.Disk.{Ghosts as DiskGhosts}
use Rattle.logger_core.specs.declared.fault.LogFault.{LogFault}
use Rattle.logger_core.specs.declared.fault.LogFault.TheVariants.{Closed, Live, Large, NotLater, Changed, Full, NoMemory, DiskFault}
use Rattle.logging_session.specs.Course.{HasKept, HasNotClosed, HasNotFlushed, WentBy}
use Rattle.logging_session.specs.Events.{Event, behind, closing, flushed_behind, items_by}
use Rattle.logging_session.specs.Keeping.{Carried}
use Rattle.logging_session.proofs.Events.{closing_none, closing_some}
use Rattle.logging_session.proofs.Sessions.{kept_none, kept_some}
use Rattle.script_runs.specs.declared.ending.Ending.{Ending}
use Rattle.script_runs.specs.declared.ending.Ending.TheVariants as ends
use Rattle.script_runs.specs.Archives.{run_label}
use Rattle.text_lines.specs.Spelling.{one_number}
use Rattle.run_archive.specs.Endings.{MayEnd, flushed_line, told_behind}
use Rattle.run_archive.specs.Kept.{KeepsRun}
use Rattle.run_archive.proofs.Causes.{rose_earlier}

module _ {D : Type 0} (d : DiskGhosts D) (left : Files) (events : List Event) (start : D) (was : Carried) (old : D) (keeps : KeepsRun d left events start was old) where
  -- where it was refused the disk went on under the run's label
  went_named : (disk : D) → WentBy d was.label was.limit left events [] start disk → WentBy d run_label was.limit left events [] start disk
  went_named disk went = subst (λ (l : LabelFields). WentBy d l was.limit left events [] start disk) keeps.label went

  -- before the first result nothing is done
  pub none_flushed : was.logged ≡ 0 → KeepsRun d left (flushed_behind (items_by events) events) start was old
  none_flushed none = subst (λ (es : List Event). KeepsRun d left es start was old) (sym (closing_none events (kept_none left events was (d.held old) keeps.kept.keeps none))) keeps

  -- and then it is flushed
  pub some_flushed : (is : Carried) (new : D) → (was.logged ≡ 0 → ⊥) → is.label ≡ was.label → HasKept d left (behind events Event.flushed) start is new → KeepsRun d left (flushed_behind (items_by events) events) start is new
  some_flushed is new some label kept = record {
    label = label ∙ keeps.label;
    kept = subst (λ (es : List Event). HasKept d left es start is new) (sym (closing_some events (kept_some left events was (d.held old) keeps.kept.keeps some))) kept;
  }

  -- what was refused for another reason than that it is closed was refused by the disk
  pub flush_failed : (is : Carried) (new : D) (fault : LogFault) → (fault ≡ Closed → ⊥) → HasNotFlushed d left events start was is new fault → WentBy d run_label was.limit left events [] start new
  flush_failed is new Closed open_ h = absurd (open_ refl)
  flush_failed is new (Live volume) open_ h = absurd h
  flush_failed is new (Large bytes) open_ h = absurd h
  flush_failed is new (NotLater last) open_ h = absurd h
  flush_failed is new (Changed pmid) open_ h = absurd h
  flush_failed is new (Full file bytes) open_ h = absurd h
  flush_failed is new NoMemory open_ h = absurd h
  flush_failed is new DiskFault open_ h = went_named new h

  -- the end of a session
  pub is_closed : (is : Carried) (new : D) → is.label ≡ was.label → HasKept d left (closing events) start is new → KeepsRun d left (closing events) start is new
  is_closed is new label kept = record { label = label ∙ keeps.label; kept = kept }

  pub close_failed : (new : D) (fault : LogFault) → HasNotClosed d left events start was new fault → WentBy d run_label was.limit left events [] start new
  close_failed new fault h = went_named new h.1

pub some_line : (output : List ℕ) (n : ℕ) → (n ≡ 0 → ⊥) → flushed_line output n ≡ output ++ one_number (codes "flushed") n
some_line output zero some = absurd (some refl)
some_line output (suc n) some = refl

pub no_line : (output : List ℕ) (n : ℕ) → n ≡ 0 → flushed_line output n ≡ output
no_line output n none = subst (λ (m : ℕ). flushed_line output m ≡ output) (sym none) refl

-- where the disk failed before it is told how many were logged, that stays so; and it doesn't fail then
pub told_failing : {A B : Type 0} (ending last : Ending) → (ending ≢ ends.Done → last ≡ ending) → (ending ≡ ends.Done → ((last ≡ ends.Done) × A) ⊎ ((last ≡ ends.NoMemory) × B)) → last ≡ ends.DiskFault → ending ≡ ends.DiskFault
told_failing {A} {B} ends.Done last others told is = ⊎_elim (λ (h : (last ≡ ends.Done) × A). let e : last ≡ ends.Done = h.0 in cc) (λ (h : (last ≡ ends.NoMemory) × B). let e : last ≡ ends.NoMemory = h.0 in cc) (told refl)
told_failing (ends.Condition line) last others told is = sym (others (λ e. cc)) ∙ is
told_failing ends.DiskFault last others told is = refl
told_failing (ends.NotArchive file at) last others told is = sym (others (λ e. cc)) ∙ is
told_failing (ends.Compressed file) last others told is = sym (others (λ e. cc)) ∙ is
told_failing (ends.Limit what number) last others told is = sym (others (λ e. cc)) ∙ is
told_failing (ends.ClockEnd samples) last others told is = sym (others (λ e. cc)) ∙ is
told_failing (ends.ClockFault samples) last others told is = sym (others (λ e. cc)) ∙ is
told_failing ends.NoMemory last others told is = sym (others (λ e. cc)) ∙ is
told_failing (ends.NotLater stamp) last others told is = sym (others (λ e. cc)) ∙ is
told_failing (ends.Changed pmid) last others told is = sym (others (λ e. cc)) ∙ is

pub failing_told : (ending last : Ending) → (ending ≢ ends.Done → last ≡ ending) → ending ≡ ends.DiskFault → last ≡ ends.DiskFault
failing_told ending last others is = others (λ done. let e : ends.DiskFault ≡ ends.Done = sym is ∙ done in cc) ∙ is

-- what is told behind what was written
module _ (last : Ending) (output new : List ℕ) (logged : ℕ) where
  told_other : (ending : Ending) → told_behind ending output logged ≡ output → (last ≡ ending) × (new ≡ output) → new ≡ told_behind last output logged
  told_other ending nothing h = h.1 ∙ sym nothing ∙ ap (λ (e : Ending). told_behind e output logged) (sym h.0)

  told_end : ((last ≡ ends.Done) × (new ≡ output ++ one_number (codes "logged") logged)) ⊎ ((last ≡ ends.NoMemory) × (new ≡ output)) → new ≡ told_behind last output logged
  told_end (inl (is, more)) = more ∙ ap (λ (e : Ending). told_behind e output logged) (sym is)
  told_end (inr h) = told_other ends.NoMemory refl h

  pub told_is : (ending : Ending) → (ending ≢ ends.Done → (last ≡ ending) × (new ≡ output))
      → (ending ≡ ends.Done → ((last ≡ ends.Done) × (new ≡ output ++ one_number (codes "logged") logged)) ⊎ ((last ≡ ends.NoMemory) × (new ≡ output))) → new ≡ told_behind last output logged
  told_is ends.Done others told = told_end (told refl)
  told_is (ends.Condition line) others told = told_other (ends.Condition line) refl (others (λ e. cc))
  told_is ends.DiskFault others told = told_other ends.DiskFault refl (others (λ e. cc))
  told_is (ends.NotArchive file at) others told = told_other (ends.NotArchive file at) refl (others (λ e. cc))
  told_is (ends.Compressed file) others told = told_other (ends.Compressed file) refl (others (λ e. cc))
  told_is (ends.Limit what number) others told = told_other (ends.Limit what number) refl (others (λ e. cc))
  told_is (ends.ClockEnd samples) others told = told_other (ends.ClockEnd samples) refl (others (λ e. cc))
  told_is (ends.ClockFault samples) others told = told_other (ends.ClockFault samples) refl (others (λ e. cc))
  told_is ends.NoMemory others told = told_other ends.NoMemory refl (others (λ e. cc))
  told_is (ends.NotLater stamp) others told = told_other (ends.NotLater stamp) refl (others (λ e. cc))
  told_is (ends.Changed pmid) others told = told_other (ends.Changed pmid) refl (others (λ e. cc))

-- ---- the cause of what is told

rose_later : (before mid after : ℕ) → mid ≤ after → Rose before mid → Rose before after
rose_later before mid after later (inl rose) = inl (omega (arith, later, rose))
rose_later before mid after later (inr full) = inr (omega (arith, later, full))

may_later : (before mid after : ℕ) (ending : Ending) → mid ≤ after → MayEnd before mid ending → MayEnd before after ending
may_later before mid after ends.DiskFault later may = rose_later before mid after later may
may_later before mid after ends.Done later may = tt
may_later before mid after (ends.Condition line) later may = tt
may_later before mid after (ends.NotArchive file at) later may = tt
may_later before mid after (ends.Compressed file) later may = tt
may_later before mid after (ends.Limit what number) later may = tt
may_later before mid after (ends.ClockEnd samples) later may = may
may_later before mid after (ends.ClockFault samples) later may = may
may_later before mid after ends.NoMemory later may = tt
may_later before mid after (ends.NotLater stamp) later may = tt
may_later before mid after (ends.Changed pmid) later may = tt

module _ (before mid after : ℕ) (earlier : before ≤ mid) (later : mid ≤ after) (ending flushed : Ending) (may : MayEnd before mid ending) where
  abbrev May : Ending → Type 0
  May e = MayEnd before after e

  may_stay : flushed ≡ ending → May flushed
  may_stay is = subst (λ (e : Ending). MayEnd before after e) (sym is) (may_later before mid after ending later may)

  may_flushed : (flushed ≡ ending) ⊎ (flushed ≡ ends.DiskFault) → (flushed ≡ ends.DiskFault → (ending ≡ ends.DiskFault) ⊎ Rose mid after) → May flushed
  may_flushed (inl is) cause = may_stay is
  may_flushed (inr is) cause = ⊎_elim (λ (was : ending ≡ ends.DiskFault). may_stay (is ∙ sym was)) (λ (rose : Rose mid after). subst (λ (e : Ending). MayEnd before after e) (sym is) (rose_earlier before mid after earlier rose)) (cause is)

told_may : {A B : Type 0} (before after : ℕ) (flushed last : Ending) → (flushed ≢ ends.Done → last ≡ flushed) → (flushed ≡ ends.Done → ((last ≡ ends.Done) × A) ⊎ ((last ≡ ends.NoMemory) × B)) → MayEnd before after flushed → MayEnd before after last
told_may {A} {B} before after ends.Done last others told may =
    ⊎_elim (λ (h : (last ≡ ends.Done) × A). subst (λ (e : Ending). MayEnd before after e) (sym h.0) tt) (λ (h : (last ≡ ends.NoMemory) × B). subst (λ (e : Ending). MayEnd before after e) (sym h.0) tt) (told refl)
told_may before after ends.DiskFault last others told may = subst (λ (e : Ending). MayEnd before after e) (sym (others (λ e. cc))) may
told_may before after (ends.Condition line) last others told may = subst (λ (e : Ending). MayEnd before after e) (sym (others (λ e. cc))) may
told_may before after (ends.NotArchive file at) last others told may = subst (λ (e : Ending). MayEnd before after e) (sym (others (λ e. cc))) may
told_may before after (ends.Compressed file) last others told may = subst (λ (e : Ending). MayEnd before after e) (sym (others (λ e. cc))) may
told_may before after (ends.Limit what number) last others told may = subst (λ (e : Ending). MayEnd before after e) (sym (others (λ e. cc))) may
told_may before after (ends.ClockEnd samples) last others told may = subst (λ (e : Ending). MayEnd before after e) (sym (others (λ e. cc))) may
told_may before after (ends.ClockFault samples) last others told may = subst (λ (e : Ending). MayEnd before after e) (sym (others (λ e. cc))) may
told_may before after ends.NoMemory last others told may = subst (λ (e : Ending). MayEnd before after e) (sym (others (λ e. cc))) may
told_may before after (ends.NotLater stamp) last others told may = subst (λ (e : Ending). MayEnd before after e) (sym (others (λ e. cc))) may
told_may before after (ends.Changed pmid) last others told may = subst (λ (e : Ending). MayEnd before after e) (sym (others (λ e. cc))) may

pub finish_may : {A B : Type 0} (before mid after : ℕ) (ending flushed last : Ending) → before ≤ mid → mid ≤ after → (flushed ≡ ending) ⊎ (flushed ≡ ends.DiskFault) → (flushed ≡ ends.DiskFault → (ending ≡ ends.DiskFault) ⊎ Rose mid after)
    → (flushed ≢ ends.Done → last ≡ flushed) → (flushed ≡ ends.Done → ((last ≡ ends.Done) × A) ⊎ ((last ≡ ends.NoMemory) × B)) → MayEnd before mid ending → MayEnd before after last
finish_may {A} {B} before mid after ending flushed last earlier later so cause others told may = told_may {A = A} {B = B} before after flushed last others told (may_flushed before mid after earlier later ending flushed may so cause)
