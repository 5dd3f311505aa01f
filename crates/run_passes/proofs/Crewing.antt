-- A pass of a crew learns, acts, and the logger's pass learns: what that makes of the crew, and of the region as the fold has it.
use Rattle.std.proofs.Common.{◌≡◌, ◌≢◌, ℕ, zero, suc, ◌+◌, ◌<◌, ◌≤◌, ◌⊎◌, Bool, true, false, List, [], ◌∷◌, ◌++◌, map, length, length-append, length-set, append-nil, slice_get, slice_set, nat_lt, Option, Some, None, Ok, Err, MatchResult, if◌then◌else◌, inl, inr, ⊎_elim, sym, refl, ap, ◌∙◌, subst, arith}
use Rattle.std.proofs.lemmas.Option.{slice_get_within}
use mathlib.Core.Logic.{dite}
use native.Mathlib.Decide.{ℕ_discrete}
use Rattle.region_core.specs.declared.act.Entry.{Entry}
use Rattle.region_core.specs.declared.mode.Mode.{Mode}
use Rattle.region_core.specs.declared.mode.Mode.TheVariants.{Idle}
use Rattle.region_core.specs.State.{State, opening, IsIn}
use Rattle.region_core.specs.Journal.{state}
use Rattle.region_core.proofs.Lists.{at_get}
use Rattle.region_core.proofs.Totals.{total-set}
use Rattle.region_rule.specs.declared.view.View.{View}
use Rattle.region_rule.specs.Views.{opening_of, now, IsFront}
use Rattle.region_rule.specs.Tokens.{longer}
use Rattle.region_rule.specs.Calls.{Learns}
use Rattle.region_rule.specs.Seats.{MadeRegion, Token, IsSame}
use Rattle.region_words.specs.Images.{mmv}
use Rattle.script_runs.specs.Journals.{without_looks}
use Rattle.script_runs.specs.Regions.{Doing, ScriptRegion, or_idle, doing_of as does_in}
use Rattle.run_passes.specs.declared.said.Said.{Said}
use Rattle.run_passes.specs.declared.worker.Worker.{Worker}
use Rattle.run_passes.specs.declared.worker.Worker.TheVariants as workers
use Rattle.run_passes.specs.Workers.{IsPassOf, IsWorker, view_of, doing_of}
use Rattle.run_passes.specs.Works.{Step, Grows, Quiet, seen_log, region_by, IsAtWork, IsStep, Works, Rests, line_of}
use Rattle.run_passes.proofs.Calling.{moved}
use Rattle.run_passes.specs.Crews.{made_by, IsCrew, IsAlone, Stands}
use Rattle.run_passes.specs.Turns.{Answer, TakesTurn, Took, Acts}

-- Lists

pub get_set_same : {A : Type 0} (xs : List A) (k : ℕ) (x : A) → k < length xs → slice_get (slice_set xs k x) k ≡ Some x
get_set_same [] k x h = absurd (omega arith)
get_set_same (y ∷ ys) zero x h = refl
get_set_same (y ∷ ys) (suc k) x h = get_set_same ys k x (omega arith)

pub get_set_other : {A : Type 0} (xs : List A) (k j : ℕ) (x : A) → j ≢ k → slice_get (slice_set xs k x) j ≡ slice_get xs j
get_set_other [] k j x n = refl
get_set_other (y ∷ ys) zero zero x n = absurd (n refl)
get_set_other (y ∷ ys) zero (suc j) x n = refl
get_set_other (y ∷ ys) (suc k) zero x n = refl
get_set_other (y ∷ ys) (suc k) (suc j) x n = get_set_other ys k j x (λ e. n (ap suc e))

pub get_map : {A B : Type 0} (f : A → B) (xs : List A) (k : ℕ) (x : A) → slice_get xs k ≡ Some x → slice_get (map f xs) k ≡ Some (f x)
get_map f [] k x e = absurd (cc)
get_map f (y ∷ ys) zero x e = let same : y ≡ x = cc in ap (λ (z : _). Some (f z)) same
get_map f (y ∷ ys) (suc k) x e = get_map f ys k x e

pub map_set : {A B : Type 0} (f : A → B) (xs : List A) (k : ℕ) (x : A) → map f (slice_set xs k x) ≡ slice_set (map f xs) k (f x)
map_set f [] k x = refl
map_set f (y ∷ ys) zero x = refl
map_set f (y ∷ ys) (suc k) x = ap (λ (zs : List _). f y ∷ zs) (map_set f ys k x)

pub same_or_other : (j k : ℕ) → (j ≡ k) ⊎ (j ≢ k)
same_or_other j k = dite (ℕ_discrete j k) (λ e. inl e) (λ n. inr n)

-- Learning

-- of two lists, the second as long at least and a front of the longer, the second is it
longer_is : (xs ys : List Entry) → length xs ≤ length ys → IsFront ys (longer xs ys) → longer xs ys ≡ ys
longer_is xs ys h front = by_test (nat_lt (length xs) (length ys)) refl front
  where
    by_test : (b : Bool) → nat_lt (length xs) (length ys) ≡ b → IsFront ys (if b then ys else xs) → (if b then ys else xs) ≡ ys
    by_test true e f = refl
    by_test false e f = f.1 ∙ none f.0 (ap (λ (l : List Entry). length l) f.1 ∙ length-append ys f.0)
      where
        none : (rest : List Entry) → length xs ≡ length ys + length rest → ys ++ rest ≡ ys
        none [] g = simp append-nil
        none (x ∷ rest) g = absurd (omega arith)

pub learned_seen : (v n w : View) → Learns mmv v n w → length v.seen ≤ length n.seen → w.seen ≡ n.seen
learned_seen v n w l h =
    let e : w.seen ≡ longer v.seen n.seen = ap (λ (x : View). x.seen) l.is in
    e ∙ longer_is v.seen n.seen h (subst (λ (s : List Entry). IsFront n.seen s) e l.theirs)

pub learned_own : (v n w : View) → Learns mmv v n w → w.own ≡ v.own
learned_own v n w l = ap (λ (x : View). x.own) l.is

-- A worker by its token

pub number_by : (region : MadeRegion) (k : ℕ) (w : Worker) → IsWorker region k w → (view_of w).number ≡ k
number_by region k (workers.Idle pass) p = p.number_is
number_by region k (workers.Inside stint) p = p.number_is
number_by region k (workers.Changing change) p = p.number_is
number_by region k (workers.Reading reading) p = p.number_is
number_by region k workers.Away p = absurd p

pub opening_by_token : (region : MadeRegion) (k : ℕ) (m : Mode) (token : Token) → IsPassOf region k m token → opening_of token.view ≡ opening region.words region.passes
opening_by_token region k m token p =
    let start : token.view.start ≡ region.words = p.in_mode.start_is ∙ ap (λ (r : MadeRegion). r.words) p.region_is in
    let passes : token.view.passes ≡ region.passes = p.in_mode.passes_are ∙ ap (λ (r : MadeRegion). r.passes) p.region_is in
    λ i. opening (start i) (passes i)

opening_by : (region : MadeRegion) (k : ℕ) (w : Worker) → IsWorker region k w → opening_of (view_of w) ≡ opening region.words region.passes
opening_by region k (workers.Idle pass) p = opening_by_token region k Idle pass p
opening_by region k (workers.Inside stint) p = opening_by_token region k _ stint p
opening_by region k (workers.Changing change) p = opening_by_token region k _ change.token p
opening_by region k (workers.Reading reading) p = opening_by_token region k Idle reading.token p
opening_by region k workers.Away p = absurd p

-- what two have seen of one region is one region
same_state : (v w : View) (start : State) → opening_of v ≡ start → opening_of w ≡ start → v.seen ≡ w.seen → now v ≡ now w
same_state v w start e f g = λ i. state ((e ∙ sym f) i) (g i)

same_log : (n : ℕ) (v w : View) (start : State) → opening_of v ≡ start → opening_of w ≡ start → v.seen ≡ w.seen → seen_log n v ≡ seen_log n w
same_log n v w start e f g = λ i. without_looks ((e ∙ sym f) i) n (g i)

-- One turn

module _ (region : MadeRegion) (k : ℕ) (step : Step) (old new : List Worker) (before after : Token) (seen note : View) (answer : Answer)
    (crew : IsCrew region old before) (t : TakesTurn region k step seen old new note answer) (seen_is : seen.seen ≡ before.view.seen)
    (learns : Learns mmv before.view note after.view) (same : IsSame Idle Idle before after) where
  was : IsWorker region k t.was
  was = crew.each k t.was t.there

  ready : IsWorker region k t.ready
  ready = t.readied k was

  below : k < length old
  below = slice_get_within old k t.was t.there

  as_many : length new ≡ length old
  as_many = ap (λ (l : List Worker). length l) t.is ∙ length-set old k t.done

  ready_seen : (view_of t.ready).seen ≡ before.view.seen
  ready_seen = learned_seen (view_of t.was) seen (view_of t.ready) t.learns (subst (λ (s : List Entry). length (view_of t.was).seen ≤ length s) (sym seen_is) (crew.behind k t.was t.there)) ∙ seen_is

  ready_own : (view_of t.ready).own ≡ (view_of t.was).own
  ready_own = learned_own (view_of t.was) seen (view_of t.ready) t.learns

  grows : Grows (view_of t.ready) (view_of t.done)
  grows = by_answer answer t.works
    where
      by_answer : (a : Answer) → MatchResult a (λ line. Works region step t.ready t.done line) (λ _. Rests region t.ready t.done) → Grows (view_of t.ready) (view_of t.done)
      by_answer (Ok line) w = w.grows
      by_answer (Err fault) w = w.grows

  done : IsWorker region k t.done
  done = by_answer answer t.works
    where
      by_answer : (a : Answer) → MatchResult a (λ line. Works region step t.ready t.done line) (λ _. Rests region t.ready t.done) → IsWorker region k t.done
      by_answer (Ok line) w = w.stays k ready
      by_answer (Err fault) w = w.stays k ready

  seen_more : length before.view.seen ≤ length (view_of t.done).seen
  seen_more =
      let e : length (view_of t.ready).seen ≡ length before.view.seen = ap (λ (s : List Entry). length s) ready_seen in
      let a = grows.made in let b = grows.seen in omega arith

  after_seen : after.view.seen ≡ (view_of t.done).seen
  after_seen =
      learned_seen before.view note after.view learns (subst (λ (s : List Entry). length before.view.seen ≤ length s) (sym t.note_is) seen_more) ∙ t.note_is

  after_own : after.view.own ≡ before.view.own
  after_own = learned_own before.view note after.view learns

  -- how many entries there are
  counted : made_by new + length (view_of t.was).own ≡ made_by old + length (view_of t.done).own
  counted =
      ap (λ (l : List Worker). made_by l + length (view_of t.was).own) t.is
      ∙ total-set (λ (w : Worker). length (view_of w).own) old k t.was t.done (at_get old k t.was t.there)

  -- nobody else acted before, nor meanwhile
  alone_before : IsAlone new after → IsAlone old before
  alone_before alone =
      let a = counted in let b = grows.seen in let c = crew.made in
      let d : length after.view.own ≡ length before.view.own = ap (λ (s : List Entry). length s) after_own in
      let e : length after.view.seen ≡ length (view_of t.done).seen = ap (λ (s : List Entry). length s) after_seen in
      let f : length (view_of t.ready).own ≡ length (view_of t.was).own = ap (λ (s : List Entry). length s) ready_own in
      let g : length (view_of t.ready).seen ≡ length before.view.seen = ap (λ (s : List Entry). length s) ready_seen in
      omega arith

  quiet : IsAlone new after → Quiet (view_of t.ready) (view_of t.done)
  quiet alone =
      let a = counted in let c = crew.made in
      let d : length after.view.own ≡ length before.view.own = ap (λ (s : List Entry). length s) after_own in
      let e : length after.view.seen ≡ length (view_of t.done).seen = ap (λ (s : List Entry). length s) after_seen in
      let f : length (view_of t.ready).own ≡ length (view_of t.was).own = ap (λ (s : List Entry). length s) ready_own in
      let g : length (view_of t.ready).seen ≡ length before.view.seen = ap (λ (s : List Entry). length s) ready_seen in
      omega arith

  is_crew : IsCrew region new after
  is_crew = record {
    passes = crew.passes ∙ ap (λ (n : ℕ). n + 1) (sym as_many);
    some = subst (λ (n : ℕ). 0 < n) (sym as_many) crew.some;
    each = λ j w e. each j w (sym (ap (λ (l : List Worker). slice_get l j) t.is) ∙ e);
    behind = λ j w e. behind j w (sym (ap (λ (l : List Worker). slice_get l j) t.is) ∙ e);
    last = subst (λ (n : ℕ). IsPassOf region n Idle after) (sym as_many) (moved region (length old) Idle Idle before after same crew.last);
    made =
        let a = counted in let b = grows.seen in let c = crew.made in
        let d : length after.view.own ≡ length before.view.own = ap (λ (s : List Entry). length s) after_own in
        let e : length after.view.seen ≡ length (view_of t.done).seen = ap (λ (s : List Entry). length s) after_seen in
        let f : length (view_of t.ready).own ≡ length (view_of t.was).own = ap (λ (s : List Entry). length s) ready_own in
        let g : length (view_of t.ready).seen ≡ length before.view.seen = ap (λ (s : List Entry). length s) ready_seen in
        omega arith;
  }
    where
      each : (j : ℕ) (w : Worker) → slice_get (slice_set old k t.done) j ≡ Some w → IsWorker region j w
      each j w e = ⊎_elim
          (λ (s : j ≡ k).
          let here : Some t.done ≡ Some w = sym (ap (λ (i : ℕ). slice_get (slice_set old k t.done) i) s ∙ get_set_same old k t.done below) ∙ e in
          let is : t.done ≡ w = cc in
          subst (λ (i : ℕ). IsWorker region i w) (sym s) (subst (λ (x : Worker). IsWorker region k x) is done))
          (λ (n : j ≢ k). crew.each j w (sym (get_set_other old k j t.done n) ∙ e))
          (same_or_other j k)

      behind : (j : ℕ) (w : Worker) → slice_get (slice_set old k t.done) j ≡ Some w → length (view_of w).seen ≤ length after.view.seen
      behind j w e = ⊎_elim
          (λ (s : j ≡ k).
          let here : Some t.done ≡ Some w = sym (ap (λ (i : ℕ). slice_get (slice_set old k t.done) i) s ∙ get_set_same old k t.done below) ∙ e in
          let is : t.done ≡ w = cc in
          let f : length after.view.seen ≡ length (view_of w).seen = ap (λ (x : List Entry). length x) after_seen ∙ ap (λ (x : Worker). length (view_of x).seen) is in
          omega arith)
          (λ (n : j ≢ k).
          let a = crew.behind j w (sym (get_set_other old k j t.done n) ∙ e) in
          let b = seen_more in
          let f : length after.view.seen ≡ length (view_of t.done).seen = ap (λ (x : List Entry). length x) after_seen in
          omega arith)
          (same_or_other j k)

  -- The fold's region

  start : State
  start = opening region.words region.passes

  module _ (alone : IsAlone new after) (r : ScriptRegion) (stands : Stands r old before) where
    doing_there : slice_get r.doing k ≡ Some (doing_of t.ready)
    doing_there = ap (λ (l : List Doing). slice_get l k) stands.doing ∙ (get_map doing_of old k t.was t.there ∙ ap (λ (d : Doing). Some d) (sym t.doing))

    at_work : IsAtWork region (length old) k t.ready r
    at_work = record {
      other = λ e. let b = below in absurd (omega arith);
      is_worker = ready;
      there = subst (λ (n : ℕ). IsIn (view_of t.ready).mode (now (view_of t.ready)) n) (number_by region k t.ready ready) t.learns.knows.mode;
      doing = doing_there;
      is =
          let before_start : opening_of before.view ≡ opening region.words region.passes = opening_by_token region (length old) Idle before crew.last in
          let ready_start : opening_of (view_of t.ready) ≡ opening region.words region.passes = opening_by region k t.ready ready in
          let s : r.state ≡ now (view_of t.ready) = stands.state ∙ same_state before.view (view_of t.ready) (opening region.words region.passes) before_start ready_start (sym ready_seen) in
          let g : r.log ≡ seen_log (length old) (view_of t.ready) = stands.log ∙ same_log (length old) before.view (view_of t.ready) (opening region.words region.passes) before_start ready_start (sym ready_seen) in
          λ i. record { file = r.file; cluster = r.cluster; state = s i; doing = r.doing; log = g i };
    }

    stands_then : Stands (region_by r (length old) k t.done) new after
    stands_then =
        let after_start : opening_of after.view ≡ opening region.words region.passes = opening_by_token region (length old) Idle after (moved region (length old) Idle Idle before after same crew.last) in
        let done_start : opening_of (view_of t.done) ≡ opening region.words region.passes = opening_by region k t.done done in
        record {
          state = same_state (view_of t.done) after.view (opening region.words region.passes) done_start after_start (sym after_seen);
          log = same_log (length old) (view_of t.done) after.view (opening region.words region.passes) done_start after_start (sym after_seen) ∙ ap (λ (n : ℕ). seen_log n after.view) (sym as_many);
          doing = ap (λ (d : List Doing). slice_set d k (doing_of t.done)) stands.doing ∙ (sym (map_set doing_of old k t.done) ∙ ap (λ (l : List Worker). map doing_of l) (sym t.is));
        }

    step_there : (line : Option _) → step r k (doing_of t.ready) ≡ line → step r k (does_in r k) ≡ line
    step_there line e = ap (λ (o : Option Doing). step r k (or_idle o)) doing_there ∙ e

    took : Took step r k (λ next. Stands next new after) answer
    took = by_answer answer t.works
      where
        by_line : (line : Option Said) → IsStep step r (length old) k t.ready t.done line → Took step r k (λ next. Stands next new after) (Ok line)
        by_line None s = (step_there None s.0, subst (λ (x : ScriptRegion). Stands x new after) (sym s.1) stands_then)
        by_line (Some line) s = (region_by r (length old) k t.done, step_there (Some (region_by r (length old) k t.done, line_of line)) s, refl, refl, stands_then)

        by_answer : (a : Answer) → MatchResult a (λ line. Works region step t.ready t.done line) (λ _. Rests region t.ready t.done) → Took step r k (λ next. Stands next new after) a
        by_answer (Ok line) w = by_line line (w.does (length old) k r at_work (quiet alone))
        by_answer (Err fault) w = subst (λ (x : ScriptRegion). Stands x new after) (sym (w.same (length old) k r at_work (quiet alone))) stands_then

  pub acts : Acts region k step old new before after answer
  acts = record { crew = is_crew; as_many = as_many; alone = alone_before; took = took }
