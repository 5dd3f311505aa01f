-- Each step keeps the rule of drawing, and who has every share knows all numbers that were drawn.
use Rattle.std.proofs.Common.{◌≡◌, ℕ, suc, ◌+◌, ◌-◌, ◌%◌, ◌^◌, ◌<◌, ◌≤◌, List, [], ◌∷◌, ◌++◌, length, set, slice_index, sym, refl, ap, ◌∙◌, subst, arith}
use Rattle.std.specs.List.{sum_by}
use Rattle.std.proofs.lemmas.List.Sums.{sum_by-append, sum_by_push}
use Rattle.std.proofs.lemmas.List.{length-append}
use Rattle.std.proofs.Math.Nat.{mod-eq_of_lt}
use mathlib.Core.Option.{some}
use lib.ListN.{get_elem?}
use Rattle.atomic_table.specs.Table.{State, Me, keeps, Allows, Splits, Joins}
use Rattle.pmcd_server.specs.declared.draws.Draws.{Draws}
use Rattle.pmcd_server.specs.Draws.{sum_below, AreBelow, AreDrawn, most, share, draws, Draw, after_sharing, after_taking}
use Rattle.pmcd_server.proofs.Sums.{sum_at_set, le_sum, alone}

abbrev pub IsRuled : State (Unit {0}) Draws → Type 0
IsRuled s = AreDrawn s.words s.views

-- the numbers below the next one
next_below : (weigh : ℕ → ℕ) (n : ℕ) → sum_below weigh (n + 1) ≡ sum_below weigh n + weigh n
next_below weigh n = let e : n + 1 ≡ suc n = omega arith in ap (λ (k : ℕ). sum_below weigh k) e

-- a number is drawn
drawn_at : (words : List ℕ) (id : ℕ) (v : Draws) (views : List Draws) → 0 < v.left → AreDrawn words views → get_elem? views id ≡ some v
    → AreDrawn (set words 0 ((slice_index words 0 + 1) % 2 ^ 64)) (set views id (draws (v.left - 1) (v.drawn ++ slice_index words 0 ∷ [])))
drawn_at words id v views left r at =
    let n : ℕ = r.many in
    let w : Draws = draws (v.left - 1) (v.drawn ++ n ∷ []) in
    let some_left : v.left ≤ sum_by (λ (u : Draws). u.left) views = le_sum (λ (u : Draws). u.left) views id v at in
    let room = r.room in
    let small : (n + 1) % 2 ^ 64 ≡ n + 1 = mod-eq_of_lt (omega arith) in
    let lefts : sum_by (λ (u : Draws). u.left) (set views id w) + v.left ≡ sum_by (λ (u : Draws). u.left) views + (v.left - 1) = sum_at_set (λ (u : Draws). u.left) views id v w at in
    let longer : length (v.drawn ++ n ∷ []) ≡ length v.drawn + 1 = length-append v.drawn (n ∷ []) in
    let counts : sum_by (λ (u : Draws). length u.drawn) (set views id w) + length v.drawn ≡ sum_by (λ (u : Draws). length u.drawn) views + length (v.drawn ++ n ∷ []) = sum_at_set (λ (u : Draws). length u.drawn) views id v w at in
    let counted = r.counted in
    let after : AreDrawn ((n + 1) ∷ []) (set views id w) = record {
      many = n + 1;
      word = refl;
      room = omega arith;
      counted = omega arith;
      below = λ weigh.
          let h = sum_at_set (λ (u : Draws). sum_by weigh u.drawn) views id v w at in
          let below = r.below weigh in
          let more = sum_by_push weigh v.drawn n in
          let next = next_below weigh n in
          omega arith;
    } in
    subst (λ (ws : List ℕ). AreDrawn (set ws 0 ((slice_index ws 0 + 1) % 2 ^ 64)) (set views id (draws (v.left - 1) (v.drawn ++ slice_index ws 0 ∷ [])))) (sym r.word)
    (subst (λ (k : ℕ). AreDrawn (k ∷ []) (set views id w)) (sym small) after)

-- at the start nothing was drawn
pub starts : AreDrawn (0 ∷ []) (draws most [] ∷ [])
starts = record { many = 0; word = refl; room = refl; counted = refl; below = λ weigh. refl }

-- a draw keeps the rule
pub draw_allows : (slots id : ℕ) (me : Me (Unit {0}) Draws) → 0 < me.0.left → Allows IsRuled slots id me 0 (λ (n : ℕ). (n + 1) % 2 ^ 64) (λ n new. Draw me n new)
draw_allows slots id me left s r many at small =
    let v : Draws = me.0 in
    (draws (v.left - 1) (v.drawn ++ slice_index s.words 0 ∷ []), keeps, tt, drawn_at s.words id v s.views left r at, (refl, refl))

-- so does a share that is handed out
pub share_splits : (id : ℕ) (v : Draws) → share ≤ v.left → Splits IsRuled id v (after_sharing v) (draws share [])
share_splits id v left s r at =
    let w : Draws = after_sharing v in
    let both : List Draws = set s.views id w in
    let lefts = sum_at_set (λ (u : Draws). u.left) s.views id v w at in
    let pushed = sum_by_push (λ (u : Draws). u.left) both (draws share []) in
    let counts = sum_at_set (λ (u : Draws). length u.drawn) s.views id v w at in
    let counts_on = sum_by_push (λ (u : Draws). length u.drawn) both (draws share []) in
    let room = r.room in
    let counted = r.counted in
    record {
      many = r.many;
      word = r.word;
      room = omega arith;
      counted = omega arith;
      below = λ weigh.
          let h = sum_at_set (λ (u : Draws). sum_by weigh u.drawn) s.views id v w at in
          let on = sum_by_push (λ (u : Draws). sum_by weigh u.drawn) both (draws share []) in
          let below = r.below weigh in
          omega arith;
    }

-- and one that is taken back
pub take_joins : (id : ℕ) (v : Draws) (other : ℕ) (w : Draws) → Joins IsRuled id v other w (after_taking v w) (draws 0 [])
take_joins id v other w s r at apart there =
    let both : Draws = after_taking v w in
    let first : List Draws = set s.views id both in
    let lefts = sum_at_set (λ (u : Draws). u.left) s.views id v both at in
    let lefts_on = sum_at_set (λ (u : Draws). u.left) first other w (draws 0 []) there in
    let counts = sum_at_set (λ (u : Draws). length u.drawn) s.views id v both at in
    let counts_on = sum_at_set (λ (u : Draws). length u.drawn) first other w (draws 0 []) there in
    let longer = length-append v.drawn w.drawn in
    let room = r.room in
    let counted = r.counted in
    record {
      many = r.many;
      word = r.word;
      room = omega arith;
      counted = omega arith;
      below = λ weigh.
          let h = sum_at_set (λ (u : Draws). sum_by weigh u.drawn) s.views id v both at in
          let on = sum_at_set (λ (u : Draws). sum_by weigh u.drawn) first other w (draws 0 []) there in
          let more = sum_by-append weigh v.drawn w.drawn in
          let below = r.below weigh in
          omega arith;
    }

-- without a number nothing weighs
empty_weighs : (weigh : ℕ → ℕ) (numbers : List ℕ) → length numbers ≡ 0 → sum_by weigh numbers ≡ 0
empty_weighs weigh [] e = refl
empty_weighs weigh (n ∷ ns) e = absurd (omega arith)

-- who has every share drew all numbers that were drawn
pub all_are_drawn : (words : List ℕ) (views : List Draws) (id : ℕ) (v : Draws) → AreDrawn words views → get_elem? views id ≡ some v → v.left + length v.drawn ≡ most → AreBelow v.drawn (length v.drawn)
all_are_drawn words views id v r at all weigh =
    let lefts : v.left ≤ sum_by (λ (u : Draws). u.left) views = le_sum (λ (u : Draws). u.left) views id v at in
    let counts : length v.drawn ≤ sum_by (λ (u : Draws). length u.drawn) views = le_sum (λ (u : Draws). length u.drawn) views id v at in
    let room = r.room in
    let counted = r.counted in
    let many : r.many ≡ length v.drawn = omega arith in
    let only : sum_by (λ (u : Draws). sum_by weigh u.drawn) views ≡ sum_by weigh v.drawn =
    alone (λ (u : Draws). length u.drawn) (λ (u : Draws). sum_by weigh u.drawn) (λ u e. empty_weighs weigh u.drawn e) views id v at (omega arith) in
    sym only ∙ (r.below weigh ∙ ap (λ (k : ℕ). sum_below weigh k) many)
