-- A pass is taken from its crew, and comes back.
use Rattle.std.proofs.Common.{◌≡◌, ◌≢◌, ℕ, zero, suc, ◌<◌, Bool, List, [], ◌∷◌, length, get_or, length-set, eq-eqb, ne_eqb, slice_get, slice_set, Some, Ok, Err, MatchResult, if◌then◌else◌, ⊎_elim, sym, ap, ◌∙◌, subst, arith}
use Rattle.std.proofs.lemmas.Option.{slice_get_within}
use Rattle.region_rule.specs.declared.view.View.{View}
use Rattle.region_rule.specs.Calls.{Learns}
use Rattle.region_rule.specs.Tokens.{note_of}
use Rattle.region_rule.specs.Seats.{MadeRegion}
use Rattle.region_words.specs.Images.{mmv}
use Rattle.script_runs.specs.Regions.{Doing}
use Rattle.run_passes.specs.declared.deed.Deed.{Deed}
use Rattle.run_passes.specs.declared.worker.Worker.{Worker}
use Rattle.run_passes.specs.Workers.{IsWorker, view_of, doing_of}
use Rattle.run_passes.specs.Works.{Step, Works, Rests, ended_doing}
use Rattle.run_passes.specs.Sweeps.{EndedAt}
use Rattle.run_passes.specs.Turns.{Answer, TakesTurn}
use Rattle.run_passes.proofs.Crewing.{get_set_same, get_set_other, same_or_other}
use Rattle.run_passes.proofs.Seated.{the_one, set_set}

pub was_there : {A : Type 0} (items : List A) (k : ℕ) (x w : A) → k < length items → x ≡ get_or items k x → w ≡ x → slice_get items k ≡ Some w
was_there {A} items k x w h e same = at_item items k x h (sym e) ∙ ap (λ (y : A). Some y) (sym same)
  where
    at_item : (items : List A) (k : ℕ) (x : A) → k < length items → get_or items k x ≡ x → slice_get items k ≡ Some x
    at_item [] k x h e = absurd (omega arith)
    at_item (y ∷ ys) zero x h e = ap (λ (z : A). Some z) e
    at_item (y ∷ ys) (suc k) x h e = at_item ys k x (omega arith) e

pub done_here : (region : MadeRegion) (step : Step) (k : ℕ) (ready done : Worker) (answer : Answer) → MatchResult answer (λ line. Works region step ready done line) (λ _. Rests region ready done) → IsWorker region k ready → IsWorker region k done
done_here region step k ready done (Ok line) w h = w.stays k h
done_here region step k ready done (Err fault) w h = w.stays k h

pub turned_by : (region : MadeRegion) (k : ℕ) (step : Step) (items : List Worker) (away was ready done back : Worker) (seen note : View) (answer : Answer) → slice_get items k ≡ Some was → Learns mmv (view_of was) seen (view_of ready) → doing_of ready ≡ doing_of was
    → ((j : ℕ) → IsWorker region j was → IsWorker region j ready) → MatchResult answer (λ line. Works region step ready done line) (λ _. Rests region ready done) → back ≡ done → note ≡ note_of (view_of done)
    → TakesTurn region k step seen items (slice_set (slice_set items k away) k back) note answer
turned_by region k step items away was ready done back seen note answer there learns doing readied works same noted = record {
  was = was;
  there = there;
  ready = ready;
  learns = learns;
  doing = doing;
  readied = readied;
  done = done;
  is = set_set items k away back ∙ ap (λ (w : Worker). slice_set items k w) same;
  works = works;
  note_is = ap (λ (v : View). v.seen) noted;
}

pub ended_by : (deed : Deed) (k : ℕ) (items : List Worker) (away was ready done back : Worker) → slice_get items k ≡ Some was → doing_of ready ≡ doing_of was → doing_of done ≡ ended_doing deed (doing_of ready) → back ≡ done
    → EndedAt deed k items (slice_set (slice_set items k away) k back)
ended_by deed k items away was ready done back there doing ends same j x y e f = ⊎_elim
    (λ (s : j ≡ k).
    let x_is : was ≡ x = the_one items k was x there (ap (λ (i : ℕ). slice_get items i) (sym s) ∙ e) in
    let set : slice_get (slice_set (slice_set items k away) k back) k ≡ Some back = get_set_same (slice_set items k away) k back (within_set (slice_get_within items k was there)) in
    let y_is : back ≡ y = the_one (slice_set (slice_set items k away) k back) k back y set (ap (λ (i : ℕ). slice_get (slice_set (slice_set items k away) k back) i) (sym s) ∙ f) in
    ap (λ (w : Worker). doing_of w) (sym y_is ∙ same)
    ∙ (ends ∙ (ap (λ (d : Doing). ended_doing deed d) (doing ∙ ap (λ (w : Worker). doing_of w) x_is)
    ∙ sym (ap (λ (b : Bool). if b then ended_doing deed (doing_of x) else doing_of x) (eq-eqb j k s)))))
    (λ (s : j ≢ k).
    let y_is : x ≡ y = the_one items j x y e (sym (get_set_other (slice_set items k away) k j back s ∙ get_set_other items k j away s) ∙ f) in
    ap (λ (w : Worker). doing_of w) (sym y_is) ∙ sym (ap (λ (b : Bool). if b then ended_doing deed (doing_of x) else doing_of x) (ne_eqb j k s)))
    (same_or_other j k)
  where
    within_set : k < length items → k < length (slice_set items k away)
    within_set h = subst (λ (n : ℕ). k < n) (sym (length-set items k away)) h
