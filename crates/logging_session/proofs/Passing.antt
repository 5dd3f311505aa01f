-- Where the disk failed it held, at some moment, what the events lead to without the results that are lost.
use Rattle.std.proofs.Common.{zero, suc, ◌≡◌, ℕ, ◌+◌, List, [], ◌∷◌, ◌++◌, length, take, drop, refl, sym, ap, ◌∙◌, subst, append_assoc, arith}
use Rattle.std.specs.Prelude.{Contains}
use Rattle.std.proofs.lemmas.List.{append_cancel_right, append-nil, length-drop, take-append-drop}
use Rattle.pcp_base.specs.declared.file.FileId.{FileId}
use Rattle.pcp_base.specs.declared.result.Item.{Item}
use Rattle.pcp_base.specs.declared.result.Item.TheVariants.{Sample}
use Rattle.pcp_model.specs.Archive.{items_of}
use Rattle.pcp_model.specs.Disk.{Files, contents_of}
use Rattle.pcp_model.specs.LabelFields.{LabelFields}
use Rattle.pcp_model.proofs.Lists.{each-split}
use Rattle.pcp_outside.specs.declared.disk.Disk.{Ghosts as DiskGhosts}
use Rattle.pcp_outside.specs.Devices.{LeavesOnly}
use Rattle.pcp_outside.proofs.Crash.{joined, weaker}
use Rattle.logger_core.specs.declared.fault.LogFault.{LogFault}
use Rattle.logger_core.specs.declared.fault.LogFault.TheVariants.{Closed, DiskFault}
use Rattle.logger_core.specs.Grouping.{LogsAll, Told, samples_of}
use Rattle.logger_core.specs.Held.{counts_of}
use Rattle.logger_core.specs.Holding.{HeldBack, IsHolding}
use Rattle.logger_core.specs.Keeps.{Start}
use Rattle.logger_core.specs.Laws.{Survives}
use Rattle.logger_core.specs.Meant.{Meant, items_in}
use Rattle.logger_core.specs.Passing.{HasPassedRuns}
use Rattle.logger_core.specs.Runs.{SurvivesWith}
use Rattle.logger_core.proofs.HeldRuns.{runs_count}
use Rattle.logger_core.proofs.Grouped.{samples_then}
use Rattle.logger_core.proofs.Rests.{survives_same}
use Rattle.logging_session.specs.declared.place.Place.{Place}
use Rattle.logging_session.specs.declared.place.Place.TheVariants.{Failed, Open}
use Rattle.logging_session.specs.Answers.{HasPassedBut, OpenMayAnswer}
use Rattle.logging_session.specs.ComingBack.{ComesBackTo}
use Rattle.logging_session.specs.Course.{HasKept, HasPassed, HasPassedHeld, LeadsTo, WentBy, WereHeld}
use Rattle.logging_session.specs.Events.{EndsLogged, Event, Lead, acknowledged_by, items_by, logged_all}
use Rattle.logging_session.specs.Keeping.{AreApart, Carried, IsGoing, held_in, lost_in, meant_of, told_of}
use Rattle.logging_session.specs.Written.{Report, Stand, Written}
use Rattle.logging_session.proofs.Course.{found_none, front_sure}
use Rattle.logging_session.proofs.Going.{comes_more, survivors_come}
use Rattle.logging_session.proofs.OneChain.{leads_first}
use Rattle.logging_session.proofs.OneReason.{last_number}
use Rattle.logging_session.proofs.Sessions.{StandsOpen, when_open}

-- ---- lists of results, and of events

told_many : (reports : List Report) → length (told_of reports) ≡ length reports
told_many [] = refl
told_many (r ∷ reports) = ap suc (told_many reports)

logged_parts : (k : ℕ) (reports : List Report) → logged_all reports ≡ logged_all (take k reports) ++ logged_all (drop k reports)
logged_parts zero reports = refl
logged_parts (suc k) [] = refl
logged_parts (suc k) (r ∷ reports) = ap (λ (es : List Event). Event.logged r ∷ es) (logged_parts k reports)

items_first : (k : ℕ) (reports : List Report) → items_by (logged_all (take k reports)) ≡ samples_of (take k (told_of reports))
items_first zero reports = refl
items_first (suc k) [] = refl
items_first (suc k) (r ∷ reports) = ap (λ (xs : List Item). Sample r.result ∷ xs) (items_first k reports)

items_logged : (reports : List Report) → items_by (logged_all reports) ≡ samples_of (told_of reports)
items_logged [] = refl
items_logged (r ∷ reports) = ap (λ (xs : List Item). Sample r.result ∷ xs) (items_logged reports)

items_then : (xs ys : List Event) → items_by (xs ++ ys) ≡ items_by xs ++ items_by ys
items_then [] ys = refl
items_then (Event.opened t ∷ xs) ys = items_then xs ys
items_then (Event.logged r ∷ xs) ys = ap (λ (items : List Item). Sample r.result ∷ items) (items_then xs ys)
items_then (Event.flushed ∷ xs) ys = items_then xs ys
items_then (Event.synced ∷ xs) ys = items_then xs ys

lead_then : (l : LabelFields) (limit : ℕ) (first : Stand) (xs ys : List Event) (mid last : Stand) → Lead l limit first xs mid → Lead l limit mid ys last → Lead l limit first (xs ++ ys) last
lead_then l limit first [] ys mid last x y = subst (λ (s : Stand). Lead l limit s ys last) x y
lead_then l limit first (e ∷ xs) ys mid last x y = (x.0, x.1, lead_then l limit x.0 xs ys mid last x.2 y)

logs_items : (m n : Meant) (number next limit : ℕ) (group : List Told) → LogsAll m number limit group n next → items_in n ≡ items_in m ++ samples_of group
logs_items m n number next limit [] logs = ap items_in logs.0 ∙ sym (append-nil (items_in m))
logs_items m n number next limit (g ∷ group) logs =
    logs_items logs.0 n logs.1 next limit group logs.3 ∙ ap (λ (xs : List Item). xs ++ samples_of group) logs.2.longer.items ∙ append_assoc (items_in m) (Sample g.0 ∷ []) (samples_of group)

-- ---- runs that were written, and those that weren't

module _ {D : Type 0} (d : DiskGhosts D) (l : LabelFields) (left : Files) (limit : ℕ) (events : List Event) (w : Written) (b : HeldBack) (start old new : D) (g : IsGoing l left limit events w b (d.held old)) (k : ℕ)
    (p : HasPassedRuns d (meant_of g.first g.written g.acknowledged) b (told_of g.pending) k old new) (back : WereHeld d left events (counts_of b.runs) start old) where
  abbrev m : Meant
  m = meant_of g.first g.written g.acknowledged

  abbrev found : List Item
  found = items_of g.first.contents.volumes

  abbrev told : List Told
  told = told_of g.pending

  abbrev done : List Event
  done = g.front ++ logged_all (take k g.pending)

  abbrev lost : List Report
  lost = drop k g.pending

  are : events ≡ done ++ logged_all lost
  are = g.behind ∙ ap (λ (es : List Event). g.front ++ es) (logged_parts k g.pending) ∙ sym (append_assoc g.front (logged_all (take k g.pending)) (logged_all lost))

  many : length g.pending ≡ counts_of b.runs
  many = sym (told_many g.pending) ∙ sym (runs_count g.written.contents.records b.kept.ends b.kept.limit b.runs told b.kept.records b.planned g.is.runs)

  -- the items of what is written
  written_items : items_in m ≡ found ++ items_by g.front
  written_items = append_cancel_right (items_in m) (found ++ items_by g.front) (samples_of told)
      (sym g.is.items_are ∙ g.items_are ∙ ap (λ (es : List Event). found ++ items_by es) g.behind ∙ ap (λ (xs : List Item). found ++ xs) (items_then g.front (logged_all g.pending) ∙ ap (λ (xs : List Item). items_by g.front ++ xs) (items_logged g.pending))
      ∙ sym (append_assoc found (items_by g.front) (samples_of told)))

  done_items : items_by done ≡ items_by g.front ++ samples_of (take k told)
  done_items = items_then g.front (logged_all (take k g.pending)) ∙ ap (λ (xs : List Item). items_by g.front ++ xs) (items_first k g.pending)

  first_items : items_in m ++ samples_of (take k told) ≡ found ++ items_by done
  first_items = ap (λ (xs : List Item). xs ++ samples_of (take k told)) written_items ∙ append_assoc found (items_by g.front) (samples_of (take k told)) ∙ ap (λ (xs : List Item). found ++ xs) (sym done_items)

  all_items : items_in p.n ++ samples_of (drop k told) ≡ found ++ items_by events
  all_items =
      ap (λ (xs : List Item). xs ++ samples_of (drop k told)) (logs_items m p.n b.kept.ends.volume p.next b.kept.limit (take k told) p.all) ∙ append_assoc (items_in m) (samples_of (take k told)) (samples_of (drop k told))
      ∙ ap (λ (xs : List Item). items_in m ++ xs) (sym (samples_then (take k told) (drop k told)) ∙ ap samples_of (take-append-drop k told)) ∙ sym g.is.items_are ∙ g.items_are

  apart : AreApart found (items_by done)
  apart = (each-split (λ (x : Item). Contains found x → ⊥) (items_by done) (items_by (logged_all lost)) (subst (AreApart found) (ap items_by are ∙ items_then done (logged_all lost)) g.apart)).0

  first_comes : (image : Files) → SurvivesWith m (samples_of (take k told)) image → ComesBackTo (items_by done) 0 left image
  first_comes image v = survivors_come left g.label g.first g.opens (items_by done) 0 g.acknowledged image apart (omega (arith, g.enough)) (survives_same m.start (items_in m ++ samples_of (take k told)) (found ++ items_by done) g.acknowledged g.acknowledged image first_items v (omega arith))

  all_comes : (image : Files) → SurvivesWith p.n (samples_of (drop k told)) image → ComesBackTo (items_by events) (acknowledged_by done) left image
  all_comes image v = survivors_come left g.label g.first g.opens (items_by events) (acknowledged_by done) g.acknowledged image g.apart (omega (arith, g.enough, front_sure events done (logged_all lost) are))
      (survives_same m.start (items_in p.n ++ samples_of (drop k told)) (found ++ items_by events) p.n.acknowledged g.acknowledged image all_items
      (subst (λ (s : Start). Survives s (items_in p.n ++ samples_of (drop k told)) p.n.acknowledged image) p.started v) p.still)

  before : LeavesOnly d.moment d.left_since start p.at (ComesBackTo (items_by done) 0 left)
  before = joined d.moment d.left_since d.held start old p.at (ComesBackTo (items_by done) 0 left)
      (weaker d.moment d.left_since d.held start old (ComesBackTo (items_by g.front) 0 left) (ComesBackTo (items_by done) 0 left) (back g.front g.pending g.behind many)
      (λ image comes. subst (λ (xs : List Item). ComesBackTo xs 0 left image) (sym done_items) (comes_more (items_by g.front) (samples_of (take k told)) 0 left image comes)))
      (weaker d.moment d.left_since d.held old p.at (SurvivesWith m (samples_of (take k told))) (ComesBackTo (items_by done) 0 left) p.before first_comes)

  number : b.kept.ends.volume ≡ g.written.volume
  number = let at = g.is.at.stands.keeps.last in last_number at.before g.last.before b.kept.ends.volume g.written.volume at.items g.last.items (sym at.are ∙ g.last.are)

  there : (v : Written) × Lead l limit (Stand.opened g.written) (logged_all (take k g.pending)) (Stand.opened v) × (p.n.files ≡ v.files)
  there = leads_first l limit g.first w g.later k g.pending g.written g.acknowledged m p.n b.kept.ends.volume p.next record { files = refl; volume = number; label = refl; records = refl; entries = refl; items = refl; gone = refl; greatest = refl }
      g.is.at.stands.keeps.is g.each (subst (λ (n : ℕ). LogsAll m b.kept.ends.volume n (take k told) p.n p.next) g.limit_is p.all)

  led : LeadsTo l limit left done (contents_of (d.held p.at))
  led = record {
    stand = Stand.opened there.0;
    lead = lead_then l limit (Stand.found left) g.front (logged_all (take k g.pending)) (Stand.opened g.written) (Stand.opened there.0) g.led there.1;
    are = λ (file : FileId). p.stands file ∙ ap (λ (f : Files). f file) there.2;
  }

  passed : HasPassed d l limit left done (items_by events) start new
  passed = record {
    at = p.at;
    before = before;
    files = led;
    since = weaker d.moment d.left_since d.held p.at new (SurvivesWith p.n (samples_of (drop k told))) (ComesBackTo (items_by events) (acknowledged_by done) left) p.since all_comes;
  }

  pub passed_held : (t : Carried) → t.label ≡ l → t.limit ≡ limit → (gone : ℕ) → t.place ≡ Failed gone → k + gone ≡ counts_of b.runs → HasPassedHeld d left events start t new
  passed_held t label same gone is all = record {
    done = done;
    lost = lost;
    is = are;
    many = omega (arith, length-drop k g.pending, many, all, ap lost_in is);
    passed = subst (λ (x : LabelFields). HasPassed d x t.limit left done (items_by events) start new) (sym label) (subst (λ (n : ℕ). HasPassed d l n left done (items_by events) start new) (sym same) passed);
  }

-- ---- a call

-- a closed session says so, and it isn't the disk
pub not_the_disk : {A : Type 0} → Closed ≡ DiskFault → A
not_the_disk is = absurd cc

module _ {D : Type 0} (d : DiskGhosts D) (left : Files) (events : List Event) (start old new : D) (s t : Carried) (label : t.label ≡ s.label) (limit : t.limit ≡ s.limit) (h : HasKept d left events start s old) where
  -- where the disk failed while it wrote what was held, or then made it sure
  pub batch_passed : (b : HeldBack) → s.place ≡ Open b → (gone : ℕ) → t.place ≡ Failed gone → ((m o : Meant) (pending : List Told) → IsHolding m b pending o (d.held old) → HasPassedBut d m b pending gone old new) → HasPassedHeld d left events start t new
  batch_passed b is gone failed run =
      let o : StandsOpen s.label left s.limit events h.keeps.stand b (d.held old) = when_open left events s (d.held old) h.keeps b is in
      let g : IsGoing s.label left s.limit events o.w b (d.held old) = o.going in
      let r : HasPassedBut d (meant_of g.first g.written g.acknowledged) b (told_of g.pending) gone old new = run (meant_of g.first g.written g.acknowledged) (meant_of g.first o.w g.later) (told_of g.pending) g.is in
      passed_held d s.label left s.limit events o.w b start old new g r.written r.passed (subst (λ (p : Place). WereHeld d left events (held_in p) start old) is h.held) t label limit gone failed r.others

  -- where it failed before anything was done
  pub none_passed : events ≡ [] → lost_in t.place ≡ 0 → WentBy d s.label s.limit left events [] start new → HasPassedHeld d left events start t new
  none_passed none gone went =
      let p : HasPassed d s.label s.limit left events (items_by events ++ []) start new = went events [] (sym (append-nil events)) (λ ends. subst EndsLogged none ends) in
      record {
        done = events;
        lost = [];
        is = sym (append-nil events);
        many = sym gone;
        passed = subst (λ (x : LabelFields). HasPassed d x t.limit left events (items_by events) start new) (sym label) (subst (λ (n : ℕ). HasPassed d s.label n left events (items_by events) start new) (sym limit)
            (subst (λ (xs : List Item). HasPassed d s.label s.limit left events xs start new) (append-nil (items_by events)) p));
      }

  -- where it failed as the archive was opened
  pub open_passed : (before after : ℕ) (e : LogFault) → e ≡ DiskFault → OpenMayAnswer s t before after e → WentBy d s.label s.limit left events [] start new → HasPassedHeld d left events start t new
  open_passed before after e is may went =
      let why : OpenMayAnswer s t before after DiskFault = subst (λ (f : LogFault). OpenMayAnswer s t before after f) is may in
      none_passed (found_none left events s (d.held old) h.keeps why.0) (ap lost_in why.1) went
