-- A list of entries has as many as all numbers together, and so shows that nobody else made one.
use Rattle.std.proofs.Common.{◌≡◌, ◌≢◌, ℕ, zero, suc, ◌+◌, ◌<◌, ◌≤◌, ◌⊎◌, Bool, true, false, List, [], ◌∷◌, ◌++◌, length, nat_lt, eqb, eq-eqb, ne_eqb, slice_get, Some, if◌then◌else◌, inl, inr, ⊎_elim, sym, refl, ap, ◌∙◌, subst, arith}
use Rattle.std.proofs.lemmas.Bool.{ltb-true, lt-ltb}
use Rattle.std.proofs.lemmas.List.{length-replicate}
use Rattle.std.proofs.lemmas.Option.{slice_get_within}
use mathlib.Core.Logic.{dite}
use native.Mathlib.Decide.{dec_le}
use Rattle.region_core.specs.declared.act.Entry.{Entry}
use Rattle.region_core.specs.declared.mode.Mode.TheVariants.{Idle}
use Rattle.region_core.specs.State.{opening}
use Rattle.region_core.specs.Journal.{own, own_then, IsJournal}
use Rattle.region_core.proofs.Runs.{none_past}
use Rattle.region_rule.specs.declared.view.View.{View}
use Rattle.region_rule.specs.Views.{count, one_if, opening_of}
use Rattle.region_rule.specs.Tokens.{HasLists}
use Rattle.region_rule.proofs.Fronts.{count-append}
use Rattle.region_rule.specs.Calls.{Gathers}
use Rattle.region_rule.specs.Seats.{MadeRegion, Token, IsSame}
use Rattle.region_words.specs.Images.{mmv}
use Rattle.script_runs.specs.Journals.{without_looks}
use Rattle.script_runs.specs.Closing.{closed_region}
use Rattle.script_runs.specs.Regions.{ScriptRegion}
use Rattle.run_passes.specs.declared.worker.Worker.{Worker}
use Rattle.run_passes.specs.Workers.{IsPassOf, view_of}
use Rattle.run_passes.proofs.Calling.{moved}
use Rattle.run_passes.specs.Crews.{made_by, IsCrew, IsAlone, Stands}
use Rattle.run_passes.specs.Sweeps.{Goes, GathersAllBut}
use Rattle.run_passes.proofs.Crewing.{opening_by_token, same_or_other}

-- f at k and the numbers behind it, n in all
abbrev sum_from : (ℕ → ℕ) → ℕ → ℕ → ℕ
sum_from f k zero = 0
sum_from f k (suc n) = f k + sum_from f (suc k) n

sum_zero : (f : ℕ → ℕ) (k n : ℕ) → ((j : ℕ) → f j ≡ 0) → sum_from f k n ≡ 0
sum_zero f k zero none = refl
sum_zero f k (suc n) none = let a = none k in let b = sum_zero f (suc k) n none in omega arith

sum_more : (f : ℕ → ℕ) (k n : ℕ) → sum_from f k (suc n) ≡ sum_from f k n + f (k + n)
sum_more f k zero = let e : k + 0 ≡ k = omega arith in let g : f (k + 0) ≡ f k = ap f e in omega arith
sum_more f k (suc n) = let a = sum_more f (suc k) n in let e : suc k + n ≡ k + suc n = omega arith in let g : f (suc k + n) ≡ f (k + suc n) = ap f e in omega arith

sum_same : (f g : ℕ → ℕ) (k n : ℕ) → ((j : ℕ) → f j ≡ g j) → sum_from f k n ≡ sum_from g k n
sum_same f g k zero same = refl
sum_same f g k (suc n) same = let a = same k in let b = sum_same f g (suc k) n same in omega arith

-- one number among them counts once more
sum_one : (f g : ℕ → ℕ) (b k n : ℕ) → k ≤ b → b < k + n → g b ≡ f b + 1 → ((j : ℕ) → j ≢ b → g j ≡ f j) → sum_from g k n ≡ sum_from f k n + 1
sum_one f g b k zero low high here else_ = absurd (omega arith)
sum_one f g b k (suc n) low high here else_ = ⊎_elim
    (λ (e : k ≡ b).
    let a : g k ≡ f k + 1 = subst (λ (j : ℕ). g j ≡ f j + 1) (sym e) here in
    let rest : sum_from g (suc k) n ≡ sum_from f (suc k) n = past (suc k) n (omega arith) in
    omega arith)
    (λ (e : k ≢ b).
    let a : g k ≡ f k = else_ k e in
    let rest = sum_one f g b (suc k) n (omega arith) (omega arith) here else_ in
    omega arith)
    (same_or_other k b)
  where
    past : (k n : ℕ) → b < k → sum_from g k n ≡ sum_from f k n
    past k zero h = refl
    past k (suc n) h = let a : g k ≡ f k = else_ k (λ e. absurd (omega arith)) in let rest = past (suc k) n (omega arith) in omega arith

-- an entry is its pass's
own_here : (e : Entry) (es : List Entry) → length (own e.by (e ∷ es)) ≡ length (own e.by es) + 1
own_here e es = ap (λ (b : Bool). length (own_then b e (own e.by es))) (eq-eqb e.by e.by refl) ∙ more
  where
    more : length (e ∷ own e.by es) ≡ length (own e.by es) + 1
    more = omega arith

own_else : (k : ℕ) (e : Entry) (es : List Entry) → k ≢ e.by → length (own k (e ∷ es)) ≡ length (own k es)
own_else k e es n = ap (λ (b : Bool). length (own_then b e (own k es))) (ne_eqb e.by k (λ s. n (sym s)))

counts : (n : ℕ) (es : List Entry) → ((k : ℕ) → n ≤ k → own k es ≡ []) → length es ≡ sum_from (λ k. length (own k es)) 0 n
counts n [] none = sym (sum_zero (λ k. 0) 0 n (λ j. refl))
counts n (e ∷ es) none =
    let rest : length es ≡ sum_from (λ k. length (own k es)) 0 n = counts n es (λ k h. none_rest k (none k h)) in
    let one : sum_from (λ k. length (own k (e ∷ es))) 0 n ≡ sum_from (λ k. length (own k es)) 0 n + 1 =
    sum_one (λ k. length (own k es)) (λ k. length (own k (e ∷ es))) e.by 0 n (omega arith) (below (same_or_less e.by n)) (own_here e es) (λ j m. own_else j e es m) in
    omega arith
  where
    none_rest : (k : ℕ) → own k (e ∷ es) ≡ [] → own k es ≡ []
    none_rest k h = by_test (eqb e.by k) h
      where
        by_test : (b : Bool) → own_then b e (own k es) ≡ [] → own k es ≡ []
        by_test true f = absurd (cc)
        by_test false f = f

    same_or_less : (a b : ℕ) → (a < b) ⊎ (b ≤ a)
    same_or_less a b = by_test (nat_lt a b) refl
      where
        differ : true ≡ false → ⊥
        differ g = cc

        by_test : (t : Bool) → nat_lt a b ≡ t → (a < b) ⊎ (b ≤ a)
        by_test true f = inl (ltb-true a b f)
        by_test false f = dite (dec_le b a) (λ (h : b ≤ a). inr h) (λ n. let less : a < b = omega arith in absurd (differ (sym (lt-ltb a b less) ∙ f)))

    below : (e.by < n) ⊎ (n ≤ e.by) → e.by < 0 + n
    below h = ⊎_elim (λ (l : e.by < n). omega arith) (λ (g : n ≤ e.by). let a : length (own e.by (e ∷ es)) ≡ 0 = ap (λ (l : List Entry). length l) (none e.by g) in let b = own_here e es in absurd (omega arith)) h

-- what a crew made, by its numbers
made_is : (f : ℕ → ℕ) (crew : List Worker) (k : ℕ) → ((j : ℕ) (w : Worker) → slice_get crew j ≡ Some w → f (k + j) ≡ length (view_of w).own) → sum_from f k (length crew) ≡ made_by crew
made_is f [] k each = refl
made_is f (w ∷ ws) k each =
    let e : k + 0 ≡ k = omega arith in
    let a : f (k + 0) ≡ length (view_of w).own = each 0 w refl in
    let g : f (k + 0) ≡ f k = ap f e in
    let rest : sum_from f (suc k) (length ws) ≡ made_by ws = made_is f ws (suc k) (λ j x h. let s : suc k + j ≡ k + suc j = omega arith in ap f s ∙ each (suc j) x h) in
    omega arith

-- once all are gathered
pub alone_gathered : (region : MadeRegion) (crew : List Worker) (before now : Token) → IsCrew region crew before → GathersAllBut region crew 0 before now → IsAlone crew before
alone_gathered region crew before now is g =
    let journal : IsJournal mmv region.words region.passes now.view.seen = g.journal is.some in
    let wide : length (opening region.words region.passes).modes ≡ region.passes = length-replicate region.passes Idle in
    let none : (k : ℕ) → region.passes ≤ k → own k now.view.seen ≡ [] = λ k h. none_past mmv (opening region.words region.passes) k now.view.seen journal.legal (subst (λ (n : ℕ). n ≤ k) (sym wide) h) in
    let all : length now.view.seen ≡ sum_from (λ k. length (own k now.view.seen)) 0 region.passes = counts region.passes now.view.seen none in
    let theirs : sum_from (λ k. length (own k now.view.seen)) 0 (length crew) ≡ made_by crew = made_is (λ k. length (own k now.view.seen)) crew 0 (λ j w h. ap (λ (k : ℕ). length (own k now.view.seen)) (from_zero j) ∙ ap (λ (l : List Entry). length l) (g.theirs j w (omega arith) h)) in
    let mine : length (own (length crew) now.view.seen) ≡ length before.view.own = ap (λ (l : List Entry). length l) (g.mine is.some ∙ g.own_is) in
    let passes : sum_from (λ k. length (own k now.view.seen)) 0 region.passes ≡ sum_from (λ k. length (own k now.view.seen)) 0 (suc (length crew)) =
    ap (λ (n : ℕ). sum_from (λ k. length (own k now.view.seen)) 0 n) (is.passes ∙ plus_one (length crew)) in
    let split = sum_more (λ k. length (own k now.view.seen)) 0 (length crew) in
    let seen : length now.view.seen ≡ length before.view.seen = ap (λ (l : List Entry). length l) g.seen in
    let zero_plus : 0 + length crew ≡ length crew = omega arith in
    let last : length (own (0 + length crew) now.view.seen) ≡ length before.view.own = ap (λ (n : ℕ). length (own n now.view.seen)) zero_plus ∙ mine in
    omega arith
  where
    plus_one : (n : ℕ) → n + 1 ≡ suc n
    plus_one n = omega arith

    from_zero : (j : ℕ) → 0 + j ≡ j
    from_zero j = omega arith

-- one is gathered
pub gather_more : (region : MadeRegion) (crew : List Worker) (left : ℕ) (before now next pass : Token) (worker : Worker) → IsCrew region crew before → slice_get crew left ≡ Some worker → view_of worker ≡ pass.view → pass.view.number ≡ left
    → GathersAllBut region crew (suc left) before now → Gathers mmv now.view pass.view next.view → IsSame Idle Idle now next → GathersAllBut region crew left before next
gather_more region crew left before now next pass worker is there view number g gathers same = record {
  last = moved region (length crew) Idle Idle now next same g.last;
  seen = seen ∙ g.seen;
  own_is = ap (λ (v : View). v.own) gathers.is ∙ g.own_is;
  theirs = λ k w h e. ⊎_elim
      (λ (s : k ≡ left).
      let w_is : worker ≡ w = let f : Some worker ≡ Some w = sym there ∙ (ap (λ (n : ℕ). slice_get crew n) (sym s) ∙ e) in cc in
      let lists = subst (λ (l : List (ℕ × List Entry)). HasLists next.view.seen l) (ap (λ (v : View). v.kept) gathers.is) gathers.knows.lists in
      ap (λ (n : ℕ). own n next.view.seen) (s ∙ sym number) ∙ (lists.0 ∙ (ap (λ (v : View). v.own) (sym view) ∙ ap (λ (x : Worker). (view_of x).own) w_is)))
      (λ (n : k ≢ left). ap (λ (l : List Entry). own k l) seen ∙ g.theirs k w (omega arith) e)
      (same_or_other k left);
  kept = λ k w h e.
      let many : count k next.view.kept ≡ one_if (eqb pass.view.number k) + count k (pass.view.kept ++ now.view.kept) = ap (λ (v : View). count k v.kept) gathers.is in
      let apart : count k (pass.view.kept ++ now.view.kept) ≡ count k pass.view.kept + count k now.view.kept = count-append k pass.view.kept now.view.kept in
      ⊎_elim
      (λ (s : k ≡ left). let here : one_if (eqb pass.view.number k) ≡ 1 = ap (λ (b : Bool). one_if b) (eq-eqb pass.view.number k (number ∙ sym s)) in omega arith)
      (λ (n : k ≢ left). let before : 0 < count k now.view.kept = g.kept k w (omega arith) e in omega arith)
      (same_or_other k left);
  knows = λ h. gathers.knows;
  journal = journal;
  mine = λ h. subst (λ (n : ℕ). own n next.view.seen ≡ next.view.own) (moved region (length crew) Idle Idle now next same g.last).number_is gathers.knows.had;
}
  where
    not_more : length pass.view.seen ≤ length now.view.seen
    not_more =
        let a = is.behind left worker there in
        let b : length (view_of worker).seen ≡ length pass.view.seen = ap (λ (v : View). length v.seen) view in
        let c : length now.view.seen ≡ length before.view.seen = ap (λ (l : List Entry). length l) g.seen in omega arith

    stays : (b : Bool) → nat_lt (length now.view.seen) (length pass.view.seen) ≡ b → (if b then pass.view.seen else now.view.seen) ≡ now.view.seen
    stays true e = let less = ltb-true (length now.view.seen) (length pass.view.seen) e in let m = not_more in absurd (omega arith)
    stays false e = refl

    seen : next.view.seen ≡ now.view.seen
    seen = ap (λ (v : View). v.seen) gathers.is ∙ stays (nat_lt (length now.view.seen) (length pass.view.seen)) refl

    next_is : IsPassOf region (length crew) Idle next
    next_is = moved region (length crew) Idle Idle now next same g.last

    journal : left < length crew → IsJournal mmv region.words region.passes next.view.seen
    journal h =
        let start : next.view.start ≡ region.words = next_is.in_mode.start_is ∙ ap (λ (m : MadeRegion). m.words) next_is.region_is in
        let passes : next.view.passes ≡ region.passes = next_is.in_mode.passes_are ∙ ap (λ (m : MadeRegion). m.passes) next_is.region_is in
        subst (λ (ws : List ℕ). IsJournal mmv ws region.passes next.view.seen) start (subst (λ (n : ℕ). IsJournal mmv next.view.start n next.view.seen) passes gathers.knows.journal)

pub none_gathered : (region : MadeRegion) (crew : List Worker) (before : Token) → IsCrew region crew before → GathersAllBut region crew (length crew) before before
none_gathered region crew before is = record {
  last = is.last;
  seen = refl;
  own_is = refl;
  theirs = λ k w h e. let b = slice_get_within crew k w e in absurd (omega arith);
  kept = λ k w h e. let b = slice_get_within crew k w e in absurd (omega arith);
  knows = λ h. absurd (omega arith);
  journal = λ h. absurd (omega arith);
  mine = λ h. absurd (omega arith);
}

-- what was seen then is the fold's journal
pub seen_closed : (region : MadeRegion) (old crew : List Worker) (first before now : Token) → Goes region closed_region old crew first before → GathersAllBut region crew 0 before now → IsAlone crew before → (r : ScriptRegion) → Stands r old first
    → without_looks (opening region.words region.passes) (length old) now.view.seen ≡ (closed_region r).log
seen_closed region old crew first before now goes g alone r stands =
    let closed : Stands (closed_region r) crew before = goes.goes alone r stands in
    let start : opening_of before.view ≡ opening region.words region.passes = opening_by_token region (length crew) Idle before goes.crew.last in
    sym (closed.log ∙ (λ i. without_looks (start i) (goes.as_many i) (sym g.seen i)))
