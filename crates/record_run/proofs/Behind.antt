-- Behind the last entry of a writer there are loads alone: the state stays, and each reading shows it.
use Rattle.std.proofs.Common.{◌≡◌, ◌≢◌, ℕ, zero, suc, ◌+◌, ◌-◌, ◌<◌, ◌≤◌, Bool, true, eq-eqb, ne_eqb, List, [], ◌∷◌, ◌++◌, append_assoc, All, length, replicate, take, sym, refl, ap, ◌∙◌, subst, arith}
use Rattle.std.proofs.Math.Seq.{take-append-add}
use Rattle.std.proofs.lemmas.List.{append_cancel_left, length-replicate}
use Rattle.std.proofs.lemmas.List.Elements.{All-nil, All-cons, All-head, All-tail}
use mathlib.Core.Option.{some, some-injective}
use mathlib.Core.Logic.{dite}
use native.Mathlib.Decide.{ℕ_discrete, dec_le}
use Rattle.region_core.specs.declared.act.Act.{Act}
use Rattle.region_core.specs.declared.act.Act.TheVariants.{Load, Swap, Add, Enter, Leave, Take, Begin, Put, End, Free}
use Rattle.region_core.specs.declared.act.Entry.{Entry}
use Rattle.region_core.specs.declared.mode.Mode.{Mode}
use Rattle.region_core.specs.declared.mode.Mode.TheVariants.{Idle, Changing}
use Rattle.region_core.specs.Journal.{state, state_at, own, own_then, IsJournal}
use Rattle.region_core.specs.Shape.{Shaping, IsShape}
use Rattle.region_core.specs.State.{State, after, opening, IsIn, IsStable}
use Rattle.region_core.proofs.Gates.{none_changing}
use Rattle.region_core.proofs.Journals.{state-append, own-append}
use Rattle.region_core.proofs.Lists.{at_below, at_some, at_copies}
use Rattle.region_core.proofs.Positions.{sound_end}
use Rattle.region_core.proofs.Runs.{count_run, mode_after, none_past, other_first, others_rest}
use Rattle.script_runs.specs.Journals.{is_load}

abbrev pub AreLoads : List Entry → Type 0
AreLoads entries = All (λ (e : Entry). is_load e.act ≡ true) entries

-- a load leaves the state
pub load_still : (s : State) (k : ℕ) (act : Act) → is_load act ≡ true → after s k act ≡ s
load_still s k (Load w) e = refl
load_still s k (Swap w v) e = absurd (cc)
load_still s k (Add w d) e = absurd (cc)
load_still s k Enter e = absurd (cc)
load_still s k Leave e = absurd (cc)
load_still s k Take e = absurd (cc)
load_still s k (Begin n) e = absurd (cc)
load_still s k (Put w v) e = absurd (cc)
load_still s k (End n) e = absurd (cc)
load_still s k Free e = absurd (cc)

pub first_load : (e : Entry) (es : List Entry) → AreLoads (e ∷ es) → is_load e.act ≡ true
first_load e es h = All-head (λ (x : Entry). is_load x.act ≡ true) e es h

pub other_loads : (e : Entry) (es : List Entry) → AreLoads (e ∷ es) → AreLoads es
other_loads e es h = All-tail (λ (x : Entry). is_load x.act ≡ true) e es h

pub loads_keep : (s : State) (es : List Entry) → AreLoads es → state s es ≡ s
loads_keep s [] h = refl
loads_keep s (e ∷ es) h = ap (λ (t : State). state t es) (load_still s e.by e.act (first_load e es h)) ∙ loads_keep s es (other_loads e es h)

-- so do the first ones
loads_front : (s : State) (es : List Entry) (n : ℕ) → AreLoads es → state s (take n es) ≡ s
loads_front s es zero h = refl
loads_front s [] (suc n) h = refl
loads_front s (e ∷ es) (suc n) h = ap (λ (t : State). state t (take n es)) (load_still s e.by e.act (first_load e es h)) ∙ loads_front s es n (other_loads e es h)

loads_before : (xs ys : List Entry) → AreLoads (xs ++ ys) → AreLoads xs
loads_before [] ys h = All-nil (λ (x : Entry). is_load x.act ≡ true)
loads_before (x ∷ xs) ys h = All-cons (λ (e : Entry). is_load e.act ≡ true) x xs (first_load x (xs ++ ys) h) (loads_before xs ys (other_loads x (xs ++ ys) h))

pub loads_behind : (xs ys : List Entry) → AreLoads (xs ++ ys) → AreLoads ys
loads_behind [] ys h = h
loads_behind (x ∷ xs) ys h = loads_behind xs ys (other_loads x (xs ++ ys) h)

pub head_same : (x y : Entry) (xs ys : List Entry) → x ∷ xs ≡ y ∷ ys → x ≡ y
head_same x y xs ys e = cc

pub tail_same : (x y : Entry) (xs ys : List Entry) → x ∷ xs ≡ y ∷ ys → xs ≡ ys
tail_same x y xs ys e = cc

-- the entries of a pass, by the first one
pub own_mine : (e : Entry) (es : List Entry) (n : ℕ) → e.by ≡ n → own n (e ∷ es) ≡ e ∷ own n es
own_mine e es n same = ap (λ (b : Bool). own_then b e (own n es)) (eq-eqb e.by n same)

pub own_other : (e : Entry) (es : List Entry) (n : ℕ) → e.by ≢ n → own n (e ∷ es) ≡ own n es
own_other e es n differ = ap (λ (b : Bool). own_then b e (own n es)) (ne_eqb e.by n differ)

-- where one pass alone has entries, which are loads, all are
all_loads : (n : ℕ) (es : List Entry) → ((k : ℕ) → k ≢ n → own k es ≡ []) → AreLoads (own n es) → AreLoads es
all_loads n [] none loads = All-nil (λ (x : Entry). is_load x.act ≡ true)
all_loads n (e ∷ es) none loads = dite (ℕ_discrete e.by n)
    (λ (same : e.by ≡ n).
    let here : AreLoads (e ∷ own n es) = subst AreLoads (own_mine e es n same) loads in
    All-cons (λ (x : Entry). is_load x.act ≡ true) e es (first_load e (own n es) here) (all_loads n es (λ k differ. others_rest k e es (none k differ)) (other_loads e (own n es) here)))
    (λ (differ : e.by ≢ n). absurd (other_first e.by e es (none e.by differ) refl))

-- a pass that does nothing but load stays idle
idle_run : (s : State) (n : ℕ) (es : List Entry) → AreLoads (own n es) → IsIn Idle s n → IsIn Idle (state s es) n
idle_run s n [] loads idle = idle
idle_run s n (e ∷ es) loads idle = dite (ℕ_discrete e.by n)
    (λ (same : e.by ≡ n).
    let here : AreLoads (e ∷ own n es) = subst AreLoads (own_mine e es n same) loads in
    idle_run (after s e.by e.act) n es (other_loads e (own n es) here) (subst (λ (t : State). IsIn Idle t n) (sym (load_still s e.by e.act (first_load e (own n es) here))) idle))
    (λ (differ : e.by ≢ n).
    idle_run (after s e.by e.act) n es (subst AreLoads (own_other e es n differ) loads) (mode_after s e.by n e.act (λ (same : n ≡ e.by). differ (sym same)) ∙ idle))

idle_first : (words : List ℕ) (passes n : ℕ) → n < passes → IsIn Idle (opening words passes) n
idle_first words passes n below =
    let long = length-replicate passes Idle in
    let there = at_some (replicate passes Idle) n (omega arith) in
    there.1 ∙ ap (λ (m : Mode). some m) (sym (at_copies passes Idle n there.0 there.1))

-- The journal of a region, whose last pass only loads; where the others have ended, and have no entry any more
module _ (S : Shaping) (laws : IsShape S) (words : List ℕ) (passes n : ℕ) (front rest log : List Entry) (is : log ≡ front ++ rest) (journal : IsJournal S words passes log) (last : passes ≡ n + 1)
    (loads : AreLoads (own n log)) (quiet : (k : ℕ) → k < n → own k rest ≡ []) (idle : (k : ℕ) → k < n → IsIn Idle (state (opening words passes) log) k) where
  abbrev start : State
  start = opening words passes

  abbrev end : State
  end = state start log

  -- no other pass has an entry behind
  none_else : (k : ℕ) → k ≢ n → own k rest ≡ []
  none_else k differ = dite (dec_le (suc k) n)
      (λ (below : suc k ≤ n). quiet k (omega arith))
      (λ (above : ¬ (suc k ≤ n)).
      let many = length-replicate passes Idle in
      let nothing : own k log ≡ [] = none_past S start k log journal.legal (omega arith) in
      behind (own k front) (own k rest) (sym (own-append k front rest) ∙ (ap (λ (es : List Entry). own k es) (sym is) ∙ nothing)))
    where
      behind : (xs ys : List Entry) → xs ++ ys ≡ [] → ys ≡ []
      behind [] ys e = e
      behind (x ∷ xs) ys e = absurd (cc)

  pub loads_last : AreLoads rest
  loads_last = all_loads n rest none_else (loads_behind (own n front) (own n rest) (subst AreLoads (ap (λ (es : List Entry). own n es) is ∙ own-append n front rest) loads))

  end_there : end ≡ state start front
  end_there = ap (λ (es : List Entry). state start es) is ∙ (state-append start front rest ∙ loads_keep (state start front) rest loads_last)

  -- so each state from there on is the last one, in each part of the journal that goes so far
  pub still_at : (seen more : List Entry) → log ≡ seen ++ more → (r : List Entry) → seen ≡ front ++ r → (p : ℕ) → length front ≤ p → state_at start seen p ≡ end
  still_at seen more so r begins p far =
      let whole : front ++ rest ≡ front ++ (r ++ more) = sym is ∙ (so ∙ (ap (λ (es : List Entry). es ++ more) begins ∙ append_assoc front r more)) in
      let left : rest ≡ r ++ more = append_cancel_left front rest (r ++ more) whole in
      let some_loads : AreLoads r = loads_before r more (subst AreLoads left loads_last) in
      let at : length front + (p - length front) ≡ p = omega arith in
      ap (λ (n : ℕ). state start (take n seen)) (sym at)
      ∙ (ap (λ (es : List Entry). state start (take (length front + (p - length front)) es)) begins
      ∙ (ap (λ (es : List Entry). state start es) (take-append-add front r (p - length front))
      ∙ (state-append start front (take (p - length front) r) ∙ (loads_front (state start front) r (p - length front) some_loads ∙ sym end_there))))

  each_idle : (k : ℕ) → k < passes → IsIn Idle end k
  each_idle k below = dite (dec_le (suc k) n)
      (λ (writer : suc k ≤ n). idle k (omega arith))
      (λ (other : ¬ (suc k ≤ n)).
      let same : n ≡ k = omega arith in
      subst (λ (m : ℕ). IsIn Idle end m) same (idle_run start n log loads (idle_first words passes n (omega arith))))

  -- the generations agree there, and the words are an image
  pub stable_end : IsStable end
  stable_end =
      let sound = sound_end S laws words passes log journal in
      let many : length end.modes ≡ passes = count_run start log ∙ length-replicate passes Idle in
      let none : (k : ℕ) → IsIn Changing end k → ⊥ = λ k there.
      let below = at_below end.modes k Changing there in
      let same : Idle ≡ Changing = some-injective Idle Changing (sym (each_idle k (omega arith)) ∙ there) in
      absurd (cc) in
      sound.shut (none_changing end.modes none)

  pub image_end : S.IsImage end.words
  image_end = (sound_end S laws words passes log journal).image stable_end
