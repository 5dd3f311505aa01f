-- A worker beside the others.
use Rattle.std.proofs.Common.{◌≡◌, ◌≢◌, ℕ, ◌+◌, ◌-◌, ◌<◌, ◌≤◌, Bool, true, false, ◌&&◌, List, [], ◌∷◌, ◌++◌, length, MatchBool, refl, ap, ◌∙◌, inl, inr, ⊎_elim, arith}
use Rattle.std.specs.List.{AllByRecursion, sum_by}
use Rattle.std.proofs.lemmas.List.{length-append}
use Rattle.std.proofs.lemmas.List.Sums.{sum_by-append}
use Rattle.fetch_engine.specs.declared.server.Mounted.{Mounted}
use Rattle.pcp_outside.specs.declared.doors.Door.{Ghosts}
use Rattle.pmcd_server.specs.Draws.{share}
use Rattle.pmcd_server.specs.Places.{Drawer}
use Rattle.fetch_engine.specs.Servers.{Seated}
use Rattle.pmcd_server.specs.Works.{Nowhere, Work, IsWork, Drew, HasDrawnAll}
use Rattle.pmcd_server.specs.Crews.{AreWorks, DrewAll, NoneFailed, SomeFailed, places_of}

all_append : {X : Type 0} (Q : X → Type 0) (xs ys : List X) → AllByRecursion Q xs → AllByRecursion Q ys → AllByRecursion Q (xs ++ ys)
all_append Q [] ys a b = b
all_append Q (x ∷ xs) ys a b = (a.0, all_append Q xs ys a.1 b)

all_weaker : {X : Type 0} (Q R : X → Type 0) → ((x : X) → Q x → R x) → (xs : List X) → AllByRecursion Q xs → AllByRecursion R xs
all_weaker Q R f [] a = tt
all_weaker Q R f (x ∷ xs) a = (f x a.0, all_weaker Q R f xs a.1)

module _ {P In Out Time : Type 0} (rows : List Mounted) (d : Ghosts P In Out Time) (count : ℕ) where
  -- none at all
  pub no_works : AreWorks rows d count [] [] [] [] []
  no_works = record { begin = refl; at = refl; end = refl; leave = refl; each = tt }

  pub are_works : (w : Work P) (works : List (Work P)) (seats seats_after : List Seated) (doors doors_after : List P) → IsWork rows d count w → AreWorks rows d count seats doors works seats_after doors_after
      → AreWorks rows d count (w.seat ∷ seats) (w.door ∷ doors) (w ∷ works) (w.seat_after ∷ seats_after) (w.door_after ∷ doors_after)
  are_works w works seats seats_after doors doors_after one others = record {
    begin = ap (λ (l : List Seated). w.seat ∷ l) others.begin;
    at = ap (λ (l : List P). w.door ∷ l) others.at;
    end = ap (λ (l : List Seated). w.seat_after ∷ l) others.end;
    leave = ap (λ (l : List P). w.door_after ∷ l) others.leave;
    each = (one, others.each);
  }

pub no_items : {X : Type 0} (l : List X) → length l ≡ 0 → l ≡ []
no_items [] e = refl
no_items (x ∷ xs) e = absurd (omega arith)

-- nothing was drawn
pub drew_none : {P : Type 0} (count : ℕ) (a : Drawer) → DrewAll {P = P} count [] [] a a
drew_none count a = record { word = refl; room = refl; drawn = λ weigh. omega arith; far = tt; ends = tt }

-- A share was handed out, a worker drew with it, the others with the rest, and it was taken back.
pub drew_together : {P : Type 0} (count : ℕ) (w : Work P) (works : List (Work P)) (far others_far : List ℕ) (before kept own own_after after last : Drawer)
    → share ≤ before.left
    → kept ≡ record { word = before.word; left = before.left - share; drawn = before.drawn }
    → own ≡ record { word = before.word; left = share; drawn = [] }
    → Drew count w.places far own own_after
    → HasDrawnAll count w.places far w.failure
    → DrewAll count works others_far kept after
    → last ≡ record { word = after.word; left = after.left + own_after.left; drawn = after.drawn ++ own_after.drawn }
    → DrewAll count (w ∷ works) (far ++ others_far) before last
drew_together {P = P} count w works far others_far before kept own own_after after last enough kept_is own_is drew all others last_is =
    let kept_left : kept.left ≡ before.left - share = ap (λ (x : Drawer). x.left) kept_is in
    let kept_drawn : kept.drawn ≡ before.drawn = ap (λ (x : Drawer). x.drawn) kept_is in
    let own_left : own.left ≡ share = ap (λ (x : Drawer). x.left) own_is in
    let own_drawn : own.drawn ≡ [] = ap (λ (x : Drawer). x.drawn) own_is in
    let own_none : length own.drawn ≡ 0 = ap (λ (l : List ℕ). length l) own_drawn in
    let last_left : last.left ≡ after.left + own_after.left = ap (λ (x : Drawer). x.left) last_is in
    let last_drawn : last.drawn ≡ after.drawn ++ own_after.drawn = ap (λ (x : Drawer). x.drawn) last_is in
    let last_many : length last.drawn ≡ length after.drawn + length own_after.drawn = ap (λ (l : List ℕ). length l) last_drawn ∙ length-append after.drawn own_after.drawn in
    let kept_many : length kept.drawn ≡ length before.drawn = ap (λ (l : List ℕ). length l) kept_drawn in
    let room = drew.room in
    let others_room = others.room in
    let both : own_after.drawn ≡ w.places ++ far = drew.drawn ∙ ap (λ (l : List ℕ). l ++ (w.places ++ far)) own_drawn in
    record {
      word = ap (λ (x : Drawer). x.word) last_is ∙ others.word ∙ ap (λ (x : Drawer). x.word) kept_is;
      room = omega arith;
      drawn = λ weigh.
          let sums : sum_by weigh last.drawn ≡ sum_by weigh after.drawn + sum_by weigh own_after.drawn = ap (λ (l : List ℕ). sum_by weigh l) last_drawn ∙ sum_by-append weigh after.drawn own_after.drawn in
          let mine : sum_by weigh own_after.drawn ≡ sum_by weigh w.places + sum_by weigh far = ap (λ (l : List ℕ). sum_by weigh l) both ∙ sum_by-append weigh w.places far in
          let theirs = others.drawn weigh in
          let start : sum_by weigh kept.drawn ≡ sum_by weigh before.drawn = ap (λ (l : List ℕ). sum_by weigh l) kept_drawn in
          let places : sum_by weigh (places_of (w ∷ works)) ≡ sum_by weigh w.places + sum_by weigh (places_of works) = sum_by-append weigh w.places (places_of works) in
          let beyond : sum_by weigh (far ++ others_far) ≡ sum_by weigh far + sum_by weigh others_far = sum_by-append weigh far others_far in
          omega arith;
      far = all_append (λ (n : ℕ). count ≤ n) far others_far drew.far others.far;
      ends =
          let long : length (far ++ others_far) ≡ length far + length others_far = length-append far others_far in (
            (λ well. ⊎_elim (λ (some : 0 < length far). inl (omega arith)) (λ (whole : count ≤ length w.places). inr whole) (all well)),
            all_weaker (λ (x : Work P). HasDrawnAll count x.places others_far x.failure) (λ (x : Work P). HasDrawnAll count x.places (far ++ others_far) x.failure)
                (λ x ends well. ⊎_elim (λ (some : 0 < length others_far). inl (omega arith)) (λ (whole : count ≤ length x.places). inr whole) (ends well)) works others.ends,
          );
    }

-- what two calls answer together
pub failed_together : {P : Type 0} (w : Work P) (works : List (Work P)) (one others : Bool) → MatchBool one (w.failure ≡ Nowhere) (w.failure ≢ Nowhere) → MatchBool others (NoneFailed works) (SomeFailed works)
    → MatchBool (one && others) (NoneFailed (w ∷ works)) (SomeFailed (w ∷ works))
failed_together w works true true a b = (a, b)
failed_together w works true false a b = inr b
failed_together w works false true a b = inl a
failed_together w works false false a b = inl a
