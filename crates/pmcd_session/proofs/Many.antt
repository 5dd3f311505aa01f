-- What each item of a list has, found one after another.
use Rattle.std.proofs.Common.{◌≡◌, ℕ, zero, suc, ◌+◌, ◌<◌, List, [], ◌∷◌, ◌++◌, length, take, get_or, Option, Some, None, refl, sym, ap, ◌∙◌, arith}
use Rattle.std.specs.Prelude.{option_map}
use Rattle.std.proofs.lemmas.List.{take_more}
use Rattle.pmcd_session.specs.Replies.{with_first, all_of}

with_last : {X : Type 0} → Option (List X) → Option X → Option (List X)
with_last None found = None
with_last (Some xs) None = None
with_last (Some xs) (Some x) = Some (xs ++ x ∷ [])

first_alone : {X : Type 0} (o : Option X) → with_first o (Some []) ≡ with_last (Some []) o
unfolding with_last
first_alone None = refl
first_alone (Some x) = refl

first_and_last : {X : Type 0} (o : Option X) (between : Option (List X)) (e : Option X) → with_first o (with_last between e) ≡ with_last (with_first o between) e
unfolding with_last
first_and_last None between e = refl
first_and_last (Some x) None e = refl
first_and_last (Some x) (Some xs) None = refl
first_and_last (Some x) (Some xs) (Some y) = refl

all_append : {A X : Type 0} (get : A → Option X) (list : List A) (a : A) → all_of get (list ++ a ∷ []) ≡ with_last (all_of get list) (get a)
all_append get [] a = first_alone (get a)
all_append get (b ∷ bs) a = ap (with_first (get b)) (all_append get bs a) ∙ first_and_last (get b) (all_of get bs) (get a)

-- one item more, behind items that all have something
pub all_more : {A X : Type 0} (get : A → Option X) (list : List A) (k : ℕ) (a d : A) (xs more : List X) (x : X) → k < length list → a ≡ get_or list k d
    → all_of get (take k list) ≡ Some xs → get a ≡ Some x → more ≡ xs ++ x ∷ [] → all_of get (take (k + 1) list) ≡ Some more
unfolding with_last
all_more get list k a d xs more x below is so_far has grows =
    ap (all_of get) (take_more list k d below) ∙ all_append get (take k list) (get_or list k d)
    ∙ ap (λ o. with_last o (get (get_or list k d))) so_far ∙ ap (with_last (Some xs)) (ap get (sym is) ∙ has) ∙ ap (λ l. Some l) (sym grows)

-- an item that has nothing
pub none_has : {A X : Type 0} (get : A → Option X) (list : List A) (k : ℕ) (a d : A) → k < length list → a ≡ get_or list k d → get a ≡ None → all_of get list ≡ None
none_has get [] k a d below is none = absurd (omega arith)
none_has get (b ∷ bs) zero a d below is none = ap (λ o. with_first o (all_of get bs)) (ap get (sym is) ∙ none)
none_has get (b ∷ bs) (suc k) a d below is none = behind (get b) (none_has get bs k a d (omega arith) is none)
  where
    behind : {X : Type 0} (o : Option X) {found : Option (List X)} → found ≡ None → with_first o found ≡ None
    behind None e = refl
    behind (Some x) e = ap (option_map (λ xs. x ∷ xs)) e
