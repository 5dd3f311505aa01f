-- When all workers have stopped: which places were drawn, and how many sessions were served.
use Rattle.std.proofs.Common.{◌≡◌, ◌≢◌, ◌⊎◌, ℕ, zero, suc, ◌+◌, ◌<◌, ◌≤◌, Bool, true, false, cond, ltb, ltb-true, List, [], ◌∷◌, ◌++◌, length, map, sym, refl, ap, ◌∙◌, subst, inl, inr, ⊎_elim, arith}
use Rattle.std.specs.List.{AllByRecursion, sum_by}
use Rattle.std.proofs.lemmas.Bool.{lt-ltb, le-ltb, ltb-false}
use Rattle.std.proofs.lemmas.List.{length-append, length-map}
use Rattle.std.proofs.lemmas.List.Sums.{sum_by-cons}
use Rattle.fetch_engine.specs.declared.server.Mounted.{Mounted}
use Rattle.pcp_outside.specs.Doors.{Connection, Report}
use Rattle.pcp_outside.specs.Causes.{Rose}
use Rattle.pcp_outside.specs.declared.doors.Door.{Ghosts}
use Rattle.pmcd_server.specs.Draws.{sum_below, AreBelow}
use Rattle.pmcd_server.specs.Turns.{Turn}
use Rattle.pmcd_server.specs.Works.{Failure, Nowhere, AtNext, AtEnded, HasStopped, HasDrawnAll, AreReported, Work, IsWork}
use Rattle.pmcd_server.specs.Places.{Drawer}
use Rattle.pmcd_server.specs.Crews.{AllFailed, DrewAll, HaveServedOn, places_of, NoneFailed, SomeFailed, SomeRose, AllSame}

-- numbers below the count alone weigh, or those beyond it alone
abbrev near : ℕ → (ℕ → ℕ) → ℕ → ℕ
near count weigh n = cond (ltb n count) (weigh n) 0

abbrev beyond : ℕ → ℕ → ℕ
beyond count n = cond (ltb n count) 0 1

module _ (count : ℕ) (weigh : ℕ → ℕ) where
  near_is : (n : ℕ) → n < count → near count weigh n ≡ weigh n
  near_is n h = ap (λ (b : Bool). cond b (weigh n) 0) (lt-ltb n count h)

  near_none : (n : ℕ) → count ≤ n → near count weigh n ≡ 0
  near_none n h = ap (λ (b : Bool). cond b (weigh n) 0) (le-ltb n count h)

  near_all : (ps : List ℕ) → AllByRecursion (λ p. p < count) ps → sum_by (near count weigh) ps ≡ sum_by weigh ps
  near_all [] a = refl
  near_all (p ∷ ps) a = let h = near_all ps a.1 in let e = near_is p a.0 in omega (arith, sum_by-cons (near count weigh) p ps, sum_by-cons weigh p ps)

  near_far : (fs : List ℕ) → AllByRecursion (λ n. count ≤ n) fs → sum_by (near count weigh) fs ≡ 0
  near_far [] a = refl
  near_far (f ∷ fs) a = let h = near_far fs a.1 in let e = near_none f a.0 in omega (arith, sum_by-cons (near count weigh) f fs)

  low : (n : ℕ) → n ≤ count → sum_below (near count weigh) n ≡ sum_below weigh n
  low zero h = refl
  low (suc n) h = let e = low n (omega arith) in let f = near_is n (omega arith) in omega arith

  high : (n : ℕ) → count ≤ n → sum_below (near count weigh) n ≡ sum_below weigh count
  high zero h = let e : count ≡ 0 = omega arith in sym (ap (λ (k : ℕ). sum_below weigh k) e)
  high (suc n) h = step n h (high n) (ltb n count) refl
    where
      step : (n : ℕ) → count ≤ suc n → (count ≤ n → sum_below (near count weigh) n ≡ sum_below weigh count) → (b : Bool) → ltb n count ≡ b → sum_below (near count weigh) (suc n) ≡ sum_below weigh count
      step n h rest true is = let below = ltb-true n count is in let e : suc n ≡ count = omega arith in low (suc n) (omega arith) ∙ ap (λ (k : ℕ). sum_below weigh k) e
      step n h rest false is = let above = ltb-false n count is in let e = rest above in let f = near_none n above in omega arith

-- of the numbers drawn, each once, the places are those below the count
pub places_below : (count n : ℕ) (drawn ps fs : List ℕ) → AllByRecursion (λ p. p < count) ps → AllByRecursion (λ f. count ≤ f) fs
    → ((weigh : ℕ → ℕ) → sum_by weigh drawn ≡ sum_by weigh ps + sum_by weigh fs) → AreBelow drawn n → (m : ℕ) × (m ≤ count) × AreBelow ps m × (count ≤ n → m ≡ count)
places_below count n drawn ps fs nears fars weighs all = choose (ltb n count) refl
  where
    sums : (weigh : ℕ → ℕ) → sum_by weigh ps ≡ sum_below (near count weigh) n
    sums weigh =
        let a = weighs (near count weigh) in
        let b = all (near count weigh) in
        let c = near_all count weigh ps nears in
        let e = near_far count weigh fs fars in
        omega arith

    choose : (b : Bool) → ltb n count ≡ b → (m : ℕ) × (m ≤ count) × AreBelow ps m × (count ≤ n → m ≡ count)
    choose true is = let h = ltb-true n count is in (n, omega arith, (λ weigh. sums weigh ∙ low count weigh n (omega arith)), (λ le. absurd (omega arith)))
    choose false is = let h = ltb-false n count is in (count, omega arith, (λ weigh. sums weigh ∙ high count weigh n h), (λ le. refl))

-- the number of numbers
ones : (l : List ℕ) → sum_by (λ n. 1) l ≡ length l
ones [] = refl
ones (n ∷ ns) = let h = ones ns in omega (arith, sum_by-cons (λ (k : ℕ). 1) n ns)

ones_below : (n : ℕ) → sum_below (λ k. 1) n ≡ n
ones_below zero = refl
ones_below (suc n) = let h = ones_below n in omega arith

pub how_many : (ps : List ℕ) (n : ℕ) → AreBelow ps n → length ps ≡ n
how_many ps n all = sym (ones ps) ∙ all (λ k. 1) ∙ ones_below n

-- a number beyond the count is drawn only after all below it
beyond_some : (count : ℕ) (fs : List ℕ) → AllByRecursion (λ f. count ≤ f) fs → 0 < length fs → 0 < sum_by (beyond count) fs
beyond_some count [] a h = absurd (omega arith)
beyond_some count (f ∷ fs) a h = let e : beyond count f ≡ 1 = ap (λ (b : Bool). cond b 0 1) (le-ltb f count a.0) in omega (arith, sum_by-cons (beyond count) f fs)

beyond_none : (count n : ℕ) → n ≤ count → sum_below (beyond count) n ≡ 0
beyond_none count zero h = refl
beyond_none count (suc n) h = let e = beyond_none count n (omega arith) in let f : beyond count n ≡ 0 = ap (λ (b : Bool). cond b 0 1) (lt-ltb n count (omega arith)) in omega arith

pub all_drawn : (count n : ℕ) (drawn ps fs : List ℕ) → AllByRecursion (λ f. count ≤ f) fs → ((weigh : ℕ → ℕ) → sum_by weigh drawn ≡ sum_by weigh ps + sum_by weigh fs) → AreBelow drawn n
    → (0 < length fs) ⊎ (count ≤ length ps) → count ≤ n
all_drawn count n drawn ps fs fars weighs all (inl some) = decided (ltb n count) refl
  where
    decided : (b : Bool) → ltb n count ≡ b → count ≤ n
    decided true is =
        let h = ltb-true n count is in
        let a = weighs (beyond count) in
        let b = all (beyond count) in
        let c = beyond_some count fs fars some in
        let e = beyond_none count n (omega arith) in
        absurd (omega arith)
    decided false is = ltb-false n count is
all_drawn count n drawn ps fs fars weighs all (inr many) =
    let a = weighs (λ k. 1) in
    let b = all (λ k. 1) in
    let c = ones_below n in
    let e = ones ps in
    omega arith

module _ {P In Out Time : Type 0} (rows : List Mounted) (d : Ghosts P In Out Time) (count : ℕ) where
  -- the places are below the count
  pub places_near : (works : List (Work P)) → AllByRecursion (IsWork rows d count) works → AllByRecursion (λ p. p < count) (places_of works)
  places_near [] a = tt
  places_near (w ∷ works) a = both w.places (places_of works) a.0.0 (places_near works a.1)
    where
      both : (xs ys : List ℕ) → AllByRecursion (λ p. p < count) xs → AllByRecursion (λ p. p < count) ys → AllByRecursion (λ p. p < count) (xs ++ ys)
      both [] ys a b = b
      both (x ∷ xs) ys a b = (a.0, both xs ys a.1 b)

  rose_by : (failure : Failure) (m n before after : ℕ) → failure ≢ Nowhere → HasStopped failure m n before after → Rose before after
  rose_by Nowhere m n before after somewhere stopped = absurd (somewhere refl)
  rose_by AtNext m n before after somewhere stopped = stopped.1
  rose_by AtEnded m n before after somewhere stopped = stopped.1

  -- where some door failed, its count rose
  pub some_rose : (works : List (Work P)) → AllByRecursion (IsWork rows d count) works → SomeFailed works → SomeRose d (map (λ w. w.door) works) (map (λ w. w.door_after) works)
  some_rose [] a failed = failed
  some_rose (w ∷ works) a failed = ⊎_elim
      (λ (here : w.failure ≢ Nowhere). inl (rose_by w.failure (length w.places) (length w.turns) (d.faults w.door) (d.faults w.door_after) here a.0.1.stopped))
      (λ (there : SomeFailed works). inr (some_rose works a.1 there)) failed

  same_by : (failure : Failure) (m n before after : ℕ) → failure ≡ Nowhere → HasStopped failure m n before after → after ≡ before
  same_by failure m n before after well stopped = (subst (λ (f : Failure). HasStopped f m n before after) well stopped).1

  -- where none failed, each count stands
  pub all_same : (works : List (Work P)) → AllByRecursion (IsWork rows d count) works → NoneFailed works → AllSame d (map (λ w. w.door) works) (map (λ w. w.door_after) works)
  all_same [] a well = refl
  all_same (w ∷ works) a well = (same_by w.failure (length w.places) (length w.turns) (d.faults w.door) (d.faults w.door_after) well.0 a.0.1.stopped, all_same works a.1 well.1)

  sessions_of : (failure : Failure) (m n before after : ℕ) → failure ≡ Nowhere → HasStopped failure m n before after → m ≡ n
  sessions_of failure m n before after well stopped = (subst (λ (f : Failure). HasStopped f m n before after) well stopped).0

  -- a connection for each place
  pub connections : d.tells → (works : List (Work P)) → AllByRecursion (IsWork rows d count) works → NoneFailed works
      → sum_by (λ p. length (d.left p)) (map (λ w. w.door) works) ≡ sum_by (λ p. length (d.left p)) (map (λ w. w.door_after) works) + length (places_of works)
  connections tells [] a well = refl
  connections tells (w ∷ works) a well =
      let h = connections tells works a.1 well.1 in
      let many = length-append w.places (places_of works) in
      let sessions = sessions_of w.failure (length w.places) (length w.turns) (d.faults w.door) (d.faults w.door_after) well.0 a.0.1.stopped in
      let given : List Connection = map (λ (t : Turn). t.connection) w.turns in
      let left : length (d.left w.door) ≡ length given + length (d.left w.door_after) = ap (λ (l : List Connection). length l) (a.0.1.left tells) ∙ length-append given (d.left w.door_after) in
      let turns : length given ≡ length w.turns = length-map w.turns (λ (t : Turn). t.connection) in
      omega (arith, sum_by-cons (λ (p : P). length (d.left p)) w.door (map (λ (x : Work P). x.door) works), sum_by-cons (λ (p : P). length (d.left p)) w.door_after (map (λ (x : Work P). x.door_after) works))

  -- and a report
  pub reports : d.tells → (works : List (Work P)) → AllByRecursion (IsWork rows d count) works → NoneFailed works
      → sum_by (λ p. length (d.reports p)) (map (λ w. w.door_after) works) ≡ sum_by (λ p. length (d.reports p)) (map (λ w. w.door) works) + length (places_of works)
  reports tells [] a well = refl
  reports tells (w ∷ works) a well =
      let h = reports tells works a.1 well.1 in
      let many = length-append w.places (places_of works) in
      let sessions = sessions_of w.failure (length w.places) (length w.turns) (d.faults w.door) (d.faults w.door_after) well.0 a.0.1.stopped in
      let told : List Report = map (λ (t : Turn). t.report) w.turns in
      let kept : d.reports w.door_after ≡ d.reports w.door ++ told = subst (λ (f : Failure). AreReported f (d.reports w.door) (d.reports w.door_after) told) well.0 (a.0.1.reports tells) in
      let left : length (d.reports w.door_after) ≡ length (d.reports w.door) + length told = ap (λ (l : List Report). length l) kept ∙ length-append (d.reports w.door) told in
      let turns : length told ≡ length w.turns = length-map w.turns (λ (t : Turn). t.report) in
      omega (arith, sum_by-cons (λ (p : P). length (d.reports p)) w.door (map (λ (x : Work P). x.door) works), sum_by-cons (λ (p : P). length (d.reports p)) w.door_after (map (λ (x : Work P). x.door_after) works))

  -- what was drawn in all, from the start on
  from_none : (works : List (Work P)) (fs : List ℕ) (start last : Drawer) → start.drawn ≡ [] → DrewAll count works fs start last
      → (weigh : ℕ → ℕ) → sum_by weigh last.drawn ≡ sum_by weigh (places_of works) + sum_by weigh fs
  from_none works fs start last none drew weigh =
      let all = drew.drawn weigh in
      let nothing : sum_by weigh start.drawn ≡ 0 = ap (λ (l : List ℕ). sum_by weigh l) none in
      omega arith

  failed_or : {F : Type 0} (failure : Failure) → (failure ≡ Nowhere → F) → (failure ≢ Nowhere) ⊎ F
  failed_or Nowhere whole = inr (whole refl)
  failed_or AtNext whole = inl (λ h. let e : AtNext ≡ Nowhere = h in cc)
  failed_or AtEnded whole = inl (λ h. let e : AtEnded ≡ Nowhere = h in cc)

  -- a worker whose door didn't fail found no place left
  all_failed_or : (works : List (Work P)) (fs : List ℕ) → AllByRecursion (λ w. HasDrawnAll count w.places fs w.failure) works → AllFailed works ⊎ ((0 < length fs) ⊎ (count ≤ length (places_of works)))
  all_failed_or [] fs ends = inl tt
  all_failed_or (w ∷ works) fs ends =
      let long : length (places_of (w ∷ works)) ≡ length w.places + length (places_of works) = length-append w.places (places_of works) in
      ⊎_elim
      (λ (here : w.failure ≢ Nowhere). ⊎_elim (λ (there : AllFailed works). inl (here, there))
      (λ (whole : (0 < length fs) ⊎ (count ≤ length (places_of works))). inr (⊎_elim (λ (some : 0 < length fs). inl some) (λ (many : count ≤ length (places_of works)). inr (omega arith)) whole)) (all_failed_or works fs ends.1))
      (λ (whole : (0 < length fs) ⊎ (count ≤ length w.places)). inr (⊎_elim (λ (some : 0 < length fs). inl some) (λ (many : count ≤ length w.places). inr (omega arith)) whole))
      (failed_or w.failure ends.0)

  -- the places drawn are numbers from 0 upwards, each once, and all of them unless every door failed
  pub served_some : (works : List (Work P)) (fs : List ℕ) (start last : Drawer) → start.drawn ≡ [] → DrewAll count works fs start last → AreBelow last.drawn (length last.drawn)
      → AllByRecursion (IsWork rows d count) works → (m : ℕ) × (m ≤ count) × AreBelow (places_of works) m × HaveServedOn count m works
  served_some works fs start last none drew all each =
      let drawn = from_none works fs start last none drew in
      let m = places_below count (length last.drawn) last.drawn (places_of works) fs (places_near works each) drew.far drawn all in
      let on : HaveServedOn count m.0 works = ⊎_elim (λ (failed : AllFailed works). inr failed)
      (λ (whole : (0 < length fs) ⊎ (count ≤ length (places_of works))). inl (m.3 (all_drawn count (length last.drawn) last.drawn (places_of works) fs drew.far drawn all whole))) (all_failed_or works fs drew.ends) in
      (m.0, m.1, m.2, on)

  -- and all of them where no door failed
  pub served_all : (works : List (Work P)) (fs : List ℕ) (start last : Drawer) → start.drawn ≡ [] → DrewAll count works fs start last → AreBelow last.drawn (length last.drawn)
      → AllByRecursion (IsWork rows d count) works → NoneFailed works → 0 < length (map (λ w. w.seat) works) → AreBelow (places_of works) count
  served_all [] fs start last none drew all each well some = absurd (omega arith)
  served_all (w ∷ works) fs start last none drew all each well some =
      let m = served_some (w ∷ works) fs start last none drew all each in
      let whole : m.0 ≡ count = ⊎_elim (λ (is : m.0 ≡ count). is) (λ (failed : AllFailed (w ∷ works)). absurd (failed.0 well.0)) m.3 in
      subst (λ (n : ℕ). AreBelow (places_of (w ∷ works)) n) whole m.2
