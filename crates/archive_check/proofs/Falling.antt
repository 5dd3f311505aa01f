-- Items' stamps never fall, or they fall first in one place.
use Rattle.std.proofs.Common.{◌≡◌, ◌⊎◌, inl, inr, ⊎_elim, ◌<◌, ◌≤◌, List, [], ◌∷◌, ◌++◌, refl, sym, ap, ◌∙◌, subst, arith}
use Rattle.std.proofs.lemmas.Bool.{cases_lt}
use Rattle.pcp_base.specs.Time.{Moment, microseconds}
use Rattle.pcp_base.specs.declared.result.Item.{Item}
use Rattle.pcp_model.specs.Payload.{stamp_of}
use Rattle.pcp_model.specs.Sound.{NeverFalls}
use Rattle.archive_check.specs.Breaches.{Falls}

abbrev NotAfter : Item → Item → Type 0
NotAfter x y = microseconds (stamp_of x) ≤ microseconds (stamp_of y)

abbrev After : Item → Item → Type 0
After x y = microseconds (stamp_of y) < microseconds (stamp_of x)

rises_behind : (x : Item) (xs : List Item) → NeverFalls (x ∷ xs) → NeverFalls xs
rises_behind x [] rises = tt
rises_behind x (y ∷ xs) rises = rises.1

-- an item in front of those before a fall
in_front : (x y : Item) (items front : List Item) (a b : Item) (behind : List Item) → NotAfter x y → y ∷ items ≡ front ++ a ∷ b ∷ behind → NeverFalls (front ++ a ∷ []) → NeverFalls (x ∷ (front ++ a ∷ []))
in_front x y items [] a b behind low is good = let same : y ≡ a = cc in (subst (NotAfter x) same low, tt)
in_front x y items (f ∷ front) a b behind low is good = let same : y ≡ f = cc in (subst (NotAfter x) same low, good)

further : (x y : Item) (items : List Item) → NotAfter x y → (first second : Moment) → Falls (y ∷ items) first second → Falls (x ∷ y ∷ items) first second
further x y items low first second f = record {
  front = x ∷ f.front;
  x = f.x;
  y = f.y;
  behind = f.behind;
  are = ap (λ l. x ∷ l) f.are;
  good = in_front x y items f.front f.x f.y f.behind low f.are f.good;
  first_is = f.first_is;
  second_is = f.second_is;
  falls = f.falls;
}

abbrev pub FallsOrNot : List Item → Type 0
FallsOrNot items = NeverFalls items ⊎ ((first : Moment) × (second : Moment) × Falls items first second)

pub falls_or_not : (items : List Item) → FallsOrNot items
falls_or_not [] = inl tt
falls_or_not (x ∷ []) = inl tt
falls_or_not (x ∷ y ∷ items) =
    ⊎_elim (λ (lt : After x y).
    let f : Falls (x ∷ y ∷ items) (stamp_of x) (stamp_of y) =
    record {
      front = [];
      x = x;
      y = y;
      behind = items;
      are = refl;
      good = tt;
      first_is = refl;
      second_is = refl;
      falls = lt;
    } in
    let found : FallsOrNot (x ∷ y ∷ items) = inr (stamp_of x, stamp_of y, f) in found)
    (λ (low : NotAfter x y).
    ⊎_elim (λ (rises : NeverFalls (y ∷ items)). let found : FallsOrNot (x ∷ y ∷ items) = inl (low, rises) in found)
    (λ (f : (first : Moment) × (second : Moment) × Falls (y ∷ items) first second). let found : FallsOrNot (x ∷ y ∷ items) = inr (f.0, f.1, further x y items low f.0 f.1 f.2) in found) (falls_or_not (y ∷ items)))
    (cases_lt (microseconds (stamp_of y)) (microseconds (stamp_of x)))

rises_at : (front : List Item) (x y : Item) (behind : List Item) → NeverFalls (front ++ x ∷ y ∷ behind) → NotAfter x y
rises_at [] x y behind rises = rises.0
rises_at (f ∷ front) x y behind rises = rises_at front x y behind (rises_behind f (front ++ x ∷ y ∷ behind) rises)

pub never_falls : (items : List Item) (first second : Moment) → NeverFalls items → Falls items first second → ⊥
never_falls items first second rises f =
    let low : NotAfter f.x f.y = rises_at f.front f.x f.y f.behind (subst NeverFalls f.are rises) in omega (arith, low, f.falls)

-- the first pair of items whose stamps never fall up to a later pair
first_rises : (x y g : Item) (more gs : List Item) (z w : Item) (behind : List Item) → x ∷ y ∷ more ≡ g ∷ (gs ++ z ∷ w ∷ behind) → NeverFalls (g ∷ (gs ++ z ∷ [])) → NotAfter x y
first_rises x y g more [] z w behind is good = let one : x ≡ g = cc in let two : y ≡ z = cc in subst (λ a. NotAfter a y) (sym one) (subst (NotAfter g) (sym two) good.0)
first_rises x y g more (h ∷ gs) z w behind is good = let one : x ≡ g = cc in let two : y ≡ h = cc in subst (λ a. NotAfter a y) (sym one) (subst (NotAfter g) (sym two) good.0)

pub one_fall : (f g : List Item) (x y z w : Item) (bs cs : List Item) → f ++ x ∷ y ∷ bs ≡ g ++ z ∷ w ∷ cs → NeverFalls (f ++ x ∷ []) → NeverFalls (g ++ z ∷ []) → After x y → After z w → (x ≡ z) × (y ≡ w)
one_fall [] [] x y z w bs cs is a b p q = (let one : x ≡ z = cc in one, let two : y ≡ w = cc in two)
one_fall [] (g ∷ gs) x y z w bs cs is a b p q = let low : NotAfter x y = first_rises x y g bs gs z w cs is b in absurd (omega (arith, low, p))
one_fall (f ∷ fs) [] x y z w bs cs is a b p q = let low : NotAfter z w = first_rises z w f cs fs x y bs (sym is) a in absurd (omega (arith, low, q))
one_fall (f ∷ fs) (g ∷ gs) x y z w bs cs is a b p q =
    let rest : fs ++ x ∷ y ∷ bs ≡ gs ++ z ∷ w ∷ cs = cc in one_fall fs gs x y z w bs cs rest (rises_behind f (fs ++ x ∷ []) a) (rises_behind g (gs ++ z ∷ []) b) p q

pub falls_once : (items : List Item) (a b c d : Moment) → Falls items a b → Falls items c d → (a ≡ c) × (b ≡ d)
falls_once items a b c d f g =
    let same : (f.x ≡ g.x) × (f.y ≡ g.y) = one_fall f.front g.front f.x f.y g.x g.y f.behind g.behind (sym f.are ∙ g.are) f.good g.good f.falls g.falls in (
      f.first_is ∙ ap stamp_of same.0 ∙ sym g.first_is,
      f.second_is ∙ ap stamp_of same.1 ∙ sym g.second_is,
    )
