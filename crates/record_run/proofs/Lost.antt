-- Where a run ends whose last results are lost.
use Rattle.std.proofs.Common.{◌≡◌, inl, inr, ℕ, zero, suc, ◌+◌, ◌-◌, ◌≤◌, List, [], ◌∷◌, ◌++◌, append-nil, append_assoc, length, length-append, take, Option, None, refl, sym, ap, ◌∙◌, subst, arith}
use Rattle.std.specs.Prelude.{slice_get}
use Rattle.std.proofs.Math.Seq.{take-append_seam}
use Rattle.std.proofs.lemmas.Option.{slice_get_past}
use Rattle.pcp_base.specs.declared.result.Item.{Item}
use Rattle.pcp_base.specs.declared.result.Item.TheVariants.{Sample}
use Rattle.pcp_model.specs.Disk.{Files}
use Rattle.pcp_model.specs.LabelFields.{LabelFields}
use Rattle.pcp_outside.specs.declared.disk.Disk.{Ghosts as DiskGhosts}
use Rattle.logging_session.specs.Course.{HasPassed, WentBy}
use Rattle.logging_session.specs.Events.{Event, items_by, logged_all, opening}
use Rattle.logging_session.specs.Written.{Report}
use Rattle.logging_session.proofs.Events.{opening_items}
use Rattle.run_script.specs.declared.script.Script.{Script}
use Rattle.script_runs.specs.Runs.{EndsBefore, FailsBehind, Loses, RanFirst}
use Rattle.script_runs.specs.Steps.{RunState}
use Rattle.run_archive.specs.Endings.{before_lost, up_to_mark}
use Rattle.record_run.specs.States.{AreMarked, Leads}
use Rattle.record_run.proofs.Marks.{MarkAt, marked_at, opened_same}

-- ---- items

items_append : (xs ys : List Event) → items_by (xs ++ ys) ≡ items_by xs ++ items_by ys
items_append [] ys = refl
items_append (Event.opened stamp ∷ xs) ys = items_append xs ys
items_append (Event.logged r ∷ xs) ys = ap (λ (items : List Item). Sample r.result ∷ items) (items_append xs ys)
items_append (Event.flushed ∷ xs) ys = items_append xs ys
items_append (Event.synced ∷ xs) ys = items_append xs ys

logged_many : (reports : List Report) → length (items_by (logged_all reports)) ≡ length reports
logged_many [] = refl
logged_many (r ∷ reports) = let rest : length (items_by (logged_all reports)) ≡ length reports = logged_many reports in omega (arith, rest)

-- What the disk went by it went by before the last ones were logged, which were then on their way.
pub went_lost : {D : Type 0} (d : DiskGhosts D) (l : LabelFields) (limit : ℕ) (left : Files) (all events : List Event) (lost : List Report) (start new : D) → all ≡ events ++ logged_all lost
    → WentBy d l limit left all [] start new → WentBy d l limit left events (items_by (logged_all lost)) start new
went_lost d l limit left all events lost start new is went = λ front rest so unlogged.
    subst (λ (items : List Item). HasPassed d l limit left front items start new) (append-nil (items_by all) ∙ ap (λ (es : List Event). items_by es) is ∙ items_append events (logged_all lost))
    (went front (rest ++ logged_all lost) (is ∙ ap (λ (es : List Event). es ++ logged_all lost) so ∙ append_assoc front rest (logged_all lost)) unlogged)

module _ (script : Script) (count : ℕ) (last : RunState) (marks : List ℕ) where
  -- what the lines did is what was done, and what is lost
  pub record LosesOf (limit : ℕ) (left : Files) (lines : ℕ) (state : RunState) (all : List Event) : Type 0 where
    pub events : List Event
    pub lost : List Report
    pub is : all ≡ events ++ logged_all lost
    pub loses : Loses script limit left lines state count last events (items_by (logged_all lost))

  -- the last ones are lost, so many: so many lines stand
  pub record EndsAt (many : ℕ) : Type 0 where
    pub lines : ℕ
    pub state : RunState
    pub ran : RanFirst script lines state
    pub on : lines ≤ count
    pub same : many ≡ 0 → (count ≡ lines) × (last ≡ state)
    pub before : EndsBefore script lines state count last
    pub output : before_lost marks many last.output ≡ state.output
    pub counted : length (items_by last.events) - many ≡ length (items_by state.events)
    pub loses : (limit : ℕ) (left : Files) (all : List Event) → FailsBehind script count last all → Leads limit left all → LosesOf limit left lines state all

  none_lost : RanFirst script count last → EndsAt 0
  none_lost ran = record {
    lines = count;
    state = last;
    ran = ran;
    on = omega arith;
    same = λ none. (refl, refl);
    before = inl (refl, refl);
    output = let past : slice_get marks (length marks - 0) ≡ None = slice_get_past marks (length marks - 0) (omega arith) in ap (λ (mark : Option ℕ). up_to_mark mark last.output) past;
    counted = omega arith;
    loses = λ limit left all did leads.
        record { events = all; lost = []; is = sym (append-nil all); loses = record { lost = []; all = all; did = did; is = sym (append-nil all); more_is = refl; begins = (refl, refl); leads = leads } };
  }

  module _ (many : ℕ) (some : (many ≡ 0) → ⊥) (m : MarkAt script count last marks many) where
    abbrev state : RunState
    state = m.is.state

    abbrev first : List Event
    first = opening m.is.next.3.0.now state.events

    abbrev lost : List Report
    lost = m.report ∷ m.more

    events_are : last.events ≡ first ++ logged_all lost
    events_are = m.is.next.3.2

    mark_output : before_lost marks many last.output ≡ state.output
    mark_output =
        ap (λ (mark : Option ℕ). up_to_mark mark last.output) m.there
        ∙ ap (λ (n : ℕ). take n last.output) m.is.mark_is
        ∙ ap (λ (output : List ℕ). take (length state.output) output) m.is.output
        ∙ take-append_seam state.output m.is.rest

    mark_counted : length (items_by last.events) - many ≡ length (items_by state.events)
    mark_counted =
        let items : items_by last.events ≡ items_by first ++ items_by (logged_all lost) = ap (λ (es : List Event). items_by es) events_are ∙ items_append first (logged_all lost) in
        let long : length (items_by last.events) ≡ length (items_by first) + length (items_by (logged_all lost)) = ap (λ (xs : List Item). length xs) items ∙ length-append (items_by first) (items_by (logged_all lost)) in
        let opens : length (items_by first) ≡ length (items_by state.events) = ap (λ (xs : List Item). length xs) (opening_items m.is.next.3.0.now state.events) in
        let each : length (items_by (logged_all lost)) ≡ length lost = logged_many lost in
        let so_many : length m.more + 1 ≡ many = m.so_many in
        omega (arith, long, opens, each, so_many)

    -- it was open, so that no opening stands behind
    all_same : (all : List Event) → FailsBehind script count last all → all ≡ last.events
    all_same all (inl is) = is
    all_same all (inr (number, line, there, (x, is))) = is ∙ opened_same x.now last.events first (Event.logged m.report) (logged_all m.more) events_are

    some_lost : EndsAt many
    some_lost = record {
      lines = m.is.count;
      state = state;
      ran = m.is.ran;
      on = let later = m.is.on in omega (arith, later);
      same = λ none. absurd (some none);
      before = inr (m.is.next.0, m.is.next.1, m.is.next.2, (m.is.next.3.0, m.more, events_are ∙ ap (λ (r : Report). first ++ logged_all (r ∷ m.more)) m.is.next.3.1));
      output = mark_output;
      counted = mark_counted;
      loses = λ limit left all did leads.
          let is : all ≡ first ++ logged_all lost = all_same all did ∙ events_are in
          record {
            events = first;
            lost = lost;
            is = is;
            loses = record {
              lost = lost;
              all = all;
              did = did;
              is = is;
              more_is = refl;
              begins = (m.is.next.0, m.is.next.1, m.is.next.2, (m.is.next.3.0, m.is.next.3.1, refl));
              leads = leads;
            };
          };
    }

  pub ends_at : RanFirst script count last → (reports : List Report) → AreMarked script count last marks reports → (many : ℕ) → many ≤ length marks → EndsAt many
  ends_at ran reports are zero within = none_lost ran
  ends_at ran reports are (suc n) within = some_lost (suc n) (λ none. omega (arith, none)) (marked_at script count last marks reports (suc n) are (omega arith) within)
