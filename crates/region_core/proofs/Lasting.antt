-- What a reading told stays true in a longer journal, and of an earlier position.
use Rattle.std.proofs.Common.{◌≡◌, ℕ, zero, suc, ◌+◌, ◌<◌, ◌≤◌, List, ◌++◌, length, take, get_or, sym, ap, ◌∙◌, subst, arith}
use Rattle.std.proofs.lemmas.List.{take-append-le}
use Rattle.region_core.specs.declared.act.Act.TheVariants.{Load}
use Rattle.region_core.specs.declared.act.Entry.{Entry}
use Rattle.region_core.specs.Shape.{Shaping}
use Rattle.region_core.specs.State.{State, word, g1, g2}
use Rattle.region_core.specs.Journal.{state, state_at}
use Rattle.region_core.specs.Readings.{LoadsAt, Reading, HasLayout, IsFoundBetween, IsShownBetween, IsAgainBetween, IsAgainTimes}
use Rattle.region_core.proofs.Lists.{at_longer, at_below}

-- the state at a position that stands in the shorter log
pub state_longer : (start : State) (log more : List Entry) (p : ℕ) → p ≤ length log → state_at start (log ++ more) p ≡ state_at start log p
state_longer start log more p h = ap (λ (es : List Entry). state start es) (take-append-le p log more h)

pub loads_below : (log : List Entry) (k p w : ℕ) → LoadsAt log k p w → p < length log
loads_below log k p w loads = at_below log p (record { by = k; act = Load w }) loads

pub loads_longer : (log more : List Entry) (k p w : ℕ) → LoadsAt log k p w → LoadsAt (log ++ more) k p w
loads_longer log more k p w loads = at_longer log more p (record { by = k; act = Load w }) loads

-- a word that was found, also said of a wider stretch
pub found_longer : (S : Shaping) (start : State) (log more : List Entry) (k p q later : ℕ) (x : ℕ × ℕ) → q ≤ later → IsFoundBetween S start log k p q x → IsFoundBetween S start (log ++ more) k p later x
found_longer S start log more k p q later x h f =
    let below = loads_below log k f.0 x.0 f.3 in
    let before : f.0 < q = f.2 in
    (f.0, f.1, omega arith, loads_longer log more k f.0 x.0 f.3, f.4 ∙ ap (λ (s : State). word s x.0) (sym (state_longer start log more f.0 (omega arith))))

pub shown_longer : (S : Shaping) (start : State) (log more : List Entry) (earlier from k p q : ℕ) (reading : Reading S) → earlier ≤ from
    → IsShownBetween S start log from k reading p q → IsShownBetween S start (log ++ more) earlier k reading p q
shown_longer S start log more earlier from k p q reading h s =
    let below = loads_below log k q 1 s.closes in
    let since = s.since in
    record {
      since = omega arith;
      order = s.order;
      opens = loads_longer log more k p 2 s.opens;
      closes = loads_longer log more k q 1 s.closes;
      each = λ i d b. found_longer S start log more k p q q (get_or reading.found i d) (omega arith) (s.each i d b);
      stretch = λ r a b. subst (λ (t : State). HasLayout S t reading.generation reading.form) (sym (state_longer start log more r (omega arith))) (s.stretch r a b);
    }

pub again_longer : (start : State) (log more : List Entry) (earlier from k first last p q : ℕ) → earlier ≤ from
    → IsAgainBetween start log from k first last p q → IsAgainBetween start (log ++ more) earlier k first last p q
again_longer start log more earlier from k first last p q h a =
    let below = loads_below log k q 1 a.closes in
    let before = loads_below log k p 2 a.opens in
    let since = a.since in
    record {
      since = omega arith;
      order = a.order;
      opens = loads_longer log more k p 2 a.opens;
      closes = loads_longer log more k q 1 a.closes;
      first_is = a.first_is ∙ ap (λ (s : State). g2 s) (sym (state_longer start log more p (omega arith)));
      last_is = a.last_is ∙ ap (λ (s : State). g1 s) (sym (state_longer start log more q (omega arith)));
      differ = a.differ;
    }

pub times_longer : (start : State) (log more : List Entry) (n earlier from k : ℕ) → earlier ≤ from → IsAgainTimes start log n from k → IsAgainTimes start (log ++ more) n earlier k
times_longer start log more zero earlier from k h t = tt
times_longer start log more (suc n) earlier from k h t =
    (t.0, t.1, t.2, t.3, again_longer start log more earlier from k t.0 t.1 t.2 t.3 h t.4, times_longer start log more n (t.3 + 1) (t.3 + 1) k (omega arith) t.5)
