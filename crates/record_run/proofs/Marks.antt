-- Marks of the last results that were logged: what a line leaves of them, and where the run ends whose last ones are lost.
use Rattle.std.proofs.Common.{◌≡◌, ◌⊎◌, ⊎_elim, inl, inr, ℕ, suc, ◌+◌, ◌-◌, ◌<◌, ◌≤◌, List, [], ◌∷◌, ◌++◌, append-nil, append_assoc, codes, length, Some, refl, sym, ap, ◌∙◌, subst, arith}
use Rattle.std.specs.Prelude.{slice_get}
use Rattle.pcp_base.specs.Time.{Moment}
use Rattle.pcp_base.specs.declared.result.Item.{Item}
use Rattle.logging_session.specs.Events.{Event, items_by, logged_all, opening, with_report}
use Rattle.logging_session.specs.Written.{Report}
use Rattle.run_script.specs.declared.script.Line.{Line}
use Rattle.run_script.specs.declared.script.Line.TheVariants as lines
use Rattle.run_script.specs.declared.script.Script.{Script}
use Rattle.script_runs.specs.Archives.{report_of}
use Rattle.script_runs.specs.Runs.{RanFirst, shown}
use Rattle.script_runs.specs.Steps.{GoesOn, PassGoes, RunState, Ticks, flushing, pmids_at}
use Rattle.text_lines.specs.Spelling.{one_number}
use Rattle.record_run.specs.States.{AreMarked, GoOn, IsMarked, PutsMark}

-- ---- what a line writes stands behind the others

-- one state's lines are another's with more behind them
abbrev pub Grows : RunState → RunState → Type 0
Grows s t = (rest : List ℕ) × (t.output ≡ s.output ++ rest)

pass_grows : (script : Script) (s : RunState) (line : Line) (t : RunState) → PassGoes script s line t → Grows s t
pass_grows script s line t goes = (goes.found.1, ap (λ (x : RunState). x.output) goes.after)

tick_grows : (script : Script) (s : RunState) (now : Moment) (t : RunState) → Ticks script s now t → Grows s t
tick_grows script s now t ticks = (one_number (codes "tick") (length (pmids_at script s now)), ap (λ (x : RunState). x.output) ticks.after)

flush_grows : (items : List Item) (s t : RunState) → t ≡ flushing items s → Grows s t
flush_grows [] s t is = ([], ap (λ (x : RunState). x.output) is ∙ sym (append-nil s.output))
flush_grows (item ∷ items) s t is = (one_number (codes "flushed") (length (item ∷ items)), ap (λ (x : RunState). x.output) is)

pub line_grows : (script : Script) (s : RunState) (line : Line) (t : RunState) → GoesOn script s line t → Grows s t
line_grows script s (lines.Tick now) t goes = tick_grows script s now t goes
line_grows script s lines.Flush t goes = flush_grows (items_by s.events) s t goes
line_grows script s (lines.Attach at k) t goes = pass_grows script s (lines.Attach at k) t goes
line_grows script s (lines.Detach at k) t goes = pass_grows script s (lines.Detach at k) t goes
line_grows script s (lines.Swap at k item instance value) t goes = pass_grows script s (lines.Swap at k item instance value) t goes
line_grows script s (lines.Add at k item instance number) t goes = pass_grows script s (lines.Add at k item instance number) t goes
line_grows script s (lines.Begin at k image moment) t goes = pass_grows script s (lines.Begin at k image moment) t goes
line_grows script s (lines.Step at k) t goes = pass_grows script s (lines.Step at k) t goes
line_grows script s (lines.Finish at k) t goes = pass_grows script s (lines.Finish at k) t goes
line_grows script s (lines.Load at k) t goes = pass_grows script s (lines.Load at k) t goes
line_grows script s (lines.Word at k index) t goes = pass_grows script s (lines.Word at k index) t goes
line_grows script s (lines.Done at k) t goes = pass_grows script s (lines.Done at k) t goes

-- ---- results that were logged one behind another

pub logged_append : (xs ys : List Report) → logged_all (xs ++ ys) ≡ logged_all xs ++ logged_all ys
logged_append [] ys = refl
logged_append (x ∷ xs) ys = ap (λ (events : List Event). Event.logged x ∷ events) (logged_append xs ys)

-- behind one of them the archive is open
opened_some : (stamp : Moment) (front : List Event) (e : Event) (rest : List Event) → opening stamp (front ++ e ∷ rest) ≡ front ++ e ∷ rest
opened_some stamp [] e rest = refl
opened_some stamp (f ∷ front) e rest = refl

pub opened_same : (stamp : Moment) (events front : List Event) (e : Event) (rest : List Event) → events ≡ front ++ e ∷ rest → opening stamp events ≡ events
opened_same stamp events front e rest is = ap (λ (es : List Event). opening stamp es) is ∙ opened_some stamp front e rest ∙ sym is

-- ---- marks on the way

module _ (script : Script) (before after : ℕ) (s t : RunState) (on : before ≤ after) (grows : Grows s t) where
  mark_on : (mark : ℕ) (r : Report) (more added : List Report) → t.events ≡ s.events ++ logged_all added → IsMarked script before s mark r more → IsMarked script after t mark r (more ++ added)
  mark_on mark r more added events m =
      let first : List Event = opening m.next.3.0.now m.state.events in
      record {
        count = m.count;
        state = m.state;
        ran = m.ran;
        on = let later = m.on in omega (arith, on, later);
        next = (
          m.next.0,
          m.next.1,
          m.next.2,
          (
            m.next.3.0,
            m.next.3.1,
            events
                ∙ ap (λ (es : List Event). es ++ logged_all added) m.next.3.2
                ∙ append_assoc first (logged_all (r ∷ more)) (logged_all added)
                ∙ ap (λ (es : List Event). first ++ es) (sym (logged_append (r ∷ more) added)),
          ),
        );
        mark_is = m.mark_is;
        rest = m.rest ++ grows.0;
        output = grows.1 ∙ ap (λ (output : List ℕ). output ++ grows.0) m.output ∙ append_assoc m.state.output m.rest grows.0;
      }

  -- nothing was done to the archive
  pub marks_on : (marks : List ℕ) (reports : List Report) → t.events ≡ s.events → AreMarked script before s marks reports → AreMarked script after t marks reports
  marks_on [] reports same are = are
  marks_on (mark ∷ marks) [] same are = absurd are
  marks_on (mark ∷ marks) (r ∷ reports) same are = (
    subst (λ (more : List Report). IsMarked script after t mark r more) (append-nil reports) (mark_on mark r reports [] (same ∙ sym (append-nil s.events)) are.0),
    marks_on marks reports same are.1,
  )

  -- one more result was logged, and its mark was put behind the others
  pub marks_more : (marks : List ℕ) (reports : List Report) (mark : ℕ) (r : Report) → t.events ≡ with_report s.events r → IsMarked script after t mark r [] → AreMarked script before s marks reports
      → AreMarked script after t (marks ++ mark ∷ []) (reports ++ r ∷ [])
  marks_more [] reports mark r logged last are = subst (λ (rs : List Report). AreMarked script after t (mark ∷ []) (rs ++ r ∷ [])) (sym are) (last, refl)
  marks_more (m ∷ marks) [] mark r logged last are = absurd are
  marks_more (m ∷ marks) (x ∷ reports) mark r logged last are =
      let there : IsMarked script before s m x reports = are.0 in
      let first : List Event = opening there.next.3.0.now there.state.events in
      let open_ : opening r.result.stamp s.events ≡ s.events = opened_same r.result.stamp s.events first (Event.logged x) (logged_all reports) there.next.3.2 in
      (mark_on m x reports (r ∷ []) (logged ∙ ap (λ (es : List Event). es ++ Event.logged r ∷ []) open_) there, marks_more marks reports mark r logged last are.1)

-- the line behind the first ones, so many
module _ (script : Script) (count number : ℕ) (line : Line) (there : slice_get script.steps count ≡ Some (number, line)) (s t : RunState) (ran : RanFirst script count s) (goes : GoesOn script s line t) where
  grown : Grows s t
  grown = line_grows script s line t goes

  here : count ≤ count + 1
  here = omega arith

  module _ (old new : List ℕ) (p : PutsMark script s line t old new) where
    abbrev report : Report
    report = report_of (shown p.x)

    put : IsMarked script (count + 1) t (length s.output) report []
    put = record { count = count; state = s; ran = ran; on = omega arith; next = (number, line, there, (p.x, refl, p.logged)); mark_is = refl; rest = grown.0; output = grown.1 }

    marks_put : (reports : List Report) → AreMarked script count s old reports → (p.others ≡ old) ⊎ (p.others ≡ []) → (more : List Report) × AreMarked script (count + 1) t new more
    marks_put reports are (inl all) = (
      reports ++ report ∷ [],
      subst (λ (marks : List ℕ). AreMarked script (count + 1) t marks (reports ++ report ∷ [])) (sym (p.marks ∙ ap (λ (others : List ℕ). others ++ length s.output ∷ []) all))
          (marks_more script count (count + 1) s t here grown old reports (length s.output) report p.logged put are),
    )
    marks_put reports are (inr none) = (
      report ∷ [],
      subst (λ (marks : List ℕ). AreMarked script (count + 1) t marks (report ∷ [])) (sym (p.marks ∙ ap (λ (others : List ℕ). others ++ length s.output ∷ []) none)) (put, refl),
    )

  pub marks_go : (old new : List ℕ) (reports : List Report) → AreMarked script count s old reports → GoOn script s line t old new → (more : List Report) × AreMarked script (count + 1) t new more
  marks_go old new reports are (inl none) = ([], subst (λ (marks : List ℕ). AreMarked script (count + 1) t marks []) (sym none) refl)
  marks_go old new reports are (inr (inl (same, all))) = (
    reports,
    subst (λ (marks : List ℕ). AreMarked script (count + 1) t marks reports) (sym all) (marks_on script count (count + 1) s t here grown old reports same are),
  )
  marks_go old new reports are (inr (inr p)) = marks_put old new p reports are p.kept

-- ---- the mark of the first of the last ones

module _ (script : Script) (lines : ℕ) (t : RunState) where
  marked_many : (marks : List ℕ) (reports : List Report) → AreMarked script lines t marks reports → length reports ≡ length marks
  marked_many [] reports are = ap (λ (rs : List Report). length rs) are
  marked_many (mark ∷ marks) [] are = absurd are
  marked_many (mark ∷ marks) (r ∷ reports) are = let rest : length reports ≡ length marks = marked_many marks reports are.1 in omega (arith, rest)

  pub record MarkAt (marks : List ℕ) (many : ℕ) : Type 0 where
    pub mark : ℕ
    pub report : Report
    pub more : List Report
    pub there : slice_get marks (length marks - many) ≡ Some mark
    pub is : IsMarked script lines t mark report more
    pub so_many : length more + 1 ≡ many

  within_or : (many marks : ℕ) → many ≤ marks + 1 → (many ≤ marks) ⊎ (many ≡ marks + 1)
  within_or many marks h = grind arith

  marked_here : (mark : ℕ) (marks : List ℕ) (r : Report) (reports : List Report) (many : ℕ) → AreMarked script lines t (mark ∷ marks) (r ∷ reports) → many ≡ length marks + 1 → MarkAt (mark ∷ marks) many
  marked_here mark marks r reports many are all =
      let same : length reports ≡ length marks = marked_many marks reports are.1 in
      let first : length (mark ∷ marks) - many ≡ 0 = omega (arith, all) in
      record {
        mark = mark;
        report = r;
        more = reports;
        there = ap (λ (i : ℕ). slice_get (mark ∷ marks) i) first;
        is = are.0;
        so_many = omega (arith, same, all);
      }

  marked_behind : (mark : ℕ) (marks : List ℕ) (many : ℕ) → many ≤ length marks → MarkAt marks many → MarkAt (mark ∷ marks) many
  marked_behind mark marks many within m =
      let index : length (mark ∷ marks) - many ≡ suc (length marks - many) = omega (arith, within) in
      record {
        mark = m.mark;
        report = m.report;
        more = m.more;
        there = ap (λ (i : ℕ). slice_get (mark ∷ marks) i) index ∙ m.there;
        is = m.is;
        so_many = m.so_many;
      }

  pub marked_at : (marks : List ℕ) (reports : List Report) (many : ℕ) → AreMarked script lines t marks reports → 0 < many → many ≤ length marks → MarkAt marks many
  marked_at [] reports many are some within = absurd (omega (arith, some, within))
  marked_at (mark ∷ marks) [] many are some within = absurd are
  marked_at (mark ∷ marks) (r ∷ reports) many are some within =
      ⊎_elim (λ (less : many ≤ length marks). marked_behind mark marks many less (marked_at marks reports many are.1 some less))
      (λ (all : many ≡ length marks + 1). marked_here mark marks r reports many are all)
      (within_or many (length marks) (omega (arith, within)))
