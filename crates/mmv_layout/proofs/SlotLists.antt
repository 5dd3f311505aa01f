-- The value words of the values below a count, and the first of an item and an instance.
use Rattle.std.proofs.Common.{◌≡◌, ℕ, zero, suc, ◌+◌, ◌<◌, Bool, true, false, ◌⊎◌, List, [], ◌∷◌, ◌++◌, append-nil, length, slice_index_or, Option, None, Some, ap, ap₂, sym, subst, ◌∙◌, refl, arith, cond, add-one, ⊎_elim}
use Rattle.std.specs.List.{filter_map, find, cons_option, Contains}
use Rattle.std.specs.Option.{option_to_list, option_or}
use Rattle.std.proofs.lemmas.List.Elements.{filter_map-append, Contains-append_cases, Contains-append_left, Contains-append_right}
use Rattle.std.proofs.lemmas.List.Folds.{find-append}
use Rattle.mmv_layout.specs.Rows.{list_below}

one_of : {X Y : Type 0} (f : X → Option Y) (x : X) (y : Option Y) → f x ≡ y → filter_map f (x ∷ []) ≡ option_to_list y
one_of f x None e = ap (λ o. cons_option o []) e
one_of f x (Some y) e = ap (λ o. cons_option o []) e

gives_suc : {X Y : Type 0} (f : X → Option Y) (n : ℕ) (row : ℕ → X) (y : Option Y) → f (row n) ≡ y
    → filter_map f (list_below (suc n) row) ≡ filter_map f (list_below n row) ++ option_to_list y
unfolding list_below
gives_suc f n row y e =
    filter_map-append f (list_below n row) (row n ∷ []) ∙ ap (λ ys. filter_map f (list_below n row) ++ ys) (one_of f (row n) y e)

-- what one more gives, if it gives something
pub gives_none : {X Y : Type 0} (f : X → Option Y) (row : ℕ → X) → filter_map f (list_below 0 row) ≡ []
unfolding list_below
gives_none f row = refl

pub gives_nothing : {X Y : Type 0} (f : X → Option Y) (n : ℕ) (row : ℕ → X) → f (row n) ≡ None → filter_map f (list_below (n + 1) row) ≡ filter_map f (list_below n row)
gives_nothing f n row e = ap (λ m. filter_map f (list_below m row)) (add-one n) ∙ gives_suc f n row None e ∙ append-nil (filter_map f (list_below n row))

pub gives_one : {X Y : Type 0} (f : X → Option Y) (n : ℕ) (row : ℕ → X) (y : Y) → f (row n) ≡ Some y → filter_map f (list_below (n + 1) row) ≡ filter_map f (list_below n row) ++ y ∷ []
gives_one f n row y e = ap (λ m. filter_map f (list_below m row)) (add-one n) ∙ gives_suc f n row (Some y) e

-- none was found so far, and the next isn't it
pub finds_nothing : {X Y : Type 0} (p : Y → Bool) (f : X → Option Y) (n : ℕ) (row : ℕ → X) → find p (filter_map f (list_below n row)) ≡ None → f (row n) ≡ None
    → find p (filter_map f (list_below (n + 1) row)) ≡ None
finds_nothing p f n row none e = ap (find p) (gives_nothing f n row e) ∙ none

pub finds_other : {X Y : Type 0} (p : Y → Bool) (f : X → Option Y) (n : ℕ) (row : ℕ → X) (y : Y) → find p (filter_map f (list_below n row)) ≡ None → f (row n) ≡ Some y → p y ≡ false
    → find p (filter_map f (list_below (n + 1) row)) ≡ None
finds_other p f n row y none e other =
    ap (find p) (gives_one f n row y e) ∙ find-append p (filter_map f (list_below n row)) (y ∷ [])
    ∙ ap₂ option_or none (ap (λ b. cond b (Some y) None) other)

below_suc : (k n : ℕ) → k < suc n → (k < n) ⊎ (k ≡ n)
below_suc k n h = grind arith

-- the first that passes is the one found
pub finds_first : {X Y : Type 0} (p : Y → Bool) (f : X → Option Y) (n i : ℕ) (row : ℕ → X) (y : Y) → i < n → find p (filter_map f (list_below i row)) ≡ None → f (row i) ≡ Some y → p y ≡ true
    → find p (filter_map f (list_below n row)) ≡ Some y
finds_first p f zero i row y h none e this = absurd (omega arith)
finds_first p f (suc n) i row y h none e this =
    ⊎_elim
    (λ (before : i < n).
    ap (find p) (gives_suc f n row (f (row n)) refl) ∙ find-append p (filter_map f (list_below n row)) (option_to_list (f (row n)))
    ∙ ap (λ o. option_or o (find p (option_to_list (f (row n))))) (finds_first p f n i row y before none e this))
    (λ (last : i ≡ n).
    ap (find p) (gives_suc f n row (Some y) (ap (λ k. f (row k)) (sym last) ∙ e)) ∙ find-append p (filter_map f (list_below n row)) (y ∷ [])
    ∙ ap₂ option_or (ap (λ k. find p (filter_map f (list_below k row))) (sym last) ∙ none) (ap (λ b. cond b (Some y) None) this))
    (below_suc i n h)

in_option : {X : Type 0} (o : Option X) (y : X) → Contains (option_to_list o) y → o ≡ Some y
in_option None y (k, below, stands) = absurd (omega arith)
in_option (Some x) y (zero, below, stands) = ap Some stands
in_option (Some x) y (suc k, below, stands) = absurd (omega arith)

-- one of the numbers below n gives it
pub record GivenBy {X Y : Type 0} (f : X → Option Y) (n : ℕ) (row : ℕ → X) (y : Y) : Type 0 where
  pub index : ℕ
  pub below : index < n
  pub gives : f (row index) ≡ Some y

pub given_of : {X Y : Type 0} (f : X → Option Y) (n : ℕ) (row : ℕ → X) (y : Y) → Contains (filter_map f (list_below n row)) y → GivenBy f n row y
unfolding list_below
given_of f zero row y (k, below, stands) = absurd (omega arith)
given_of f (suc n) row y h =
    ⊎_elim
    (λ (before : Contains (filter_map f (list_below n row)) y).
    let g : GivenBy f n row y = given_of f n row y before in record { index = g.index; below = omega arith; gives = g.gives })
    (λ (last : Contains (option_to_list (f (row n))) y). record { index = n; below = omega arith; gives = in_option (f (row n)) y last })
    (Contains-append_cases (filter_map f (list_below n row)) (option_to_list (f (row n))) y
    (subst (λ ys. Contains ys y) (gives_suc f n row (f (row n)) refl) h))

-- what one of the numbers below n gives is among what all give
pub given_among : {X Y : Type 0} (f : X → Option Y) (n k : ℕ) (row : ℕ → X) (y : Y) → k < n → f (row k) ≡ Some y → Contains (filter_map f (list_below n row)) y
unfolding list_below
given_among f zero k row y below e = absurd (omega arith)
given_among f (suc n) k row y below e =
    subst (λ ys. Contains ys y) (sym (gives_suc f n row (f (row n)) refl))
    (⊎_elim
    (λ (before : k < n). Contains-append_left (filter_map f (list_below n row)) (option_to_list (f (row n))) y (given_among f n k row y before e))
    (λ (last : k ≡ n). Contains-append_right (filter_map f (list_below n row)) (option_to_list (f (row n))) y
    (subst (λ o. Contains (option_to_list o) y) (sym (ap (λ k. f (row k)) (sym last) ∙ e)) (0, omega arith, refl)))
    (below_suc k n below))

none_some : {X : Type 0} (x : X) → None ≡ Some x → ⊥
none_some x h = cc

some_same : {X : Type 0} (x y : X) → Some x ≡ Some y → x ≡ y
some_same x y h = cc

-- what is found is among them, and passes
pub found_among : {X : Type 0} (p : X → Bool) (xs : List X) (y : X) → find p xs ≡ Some y → Contains xs y × (p y ≡ true)
found_among p [] y h = absurd (none_some y h)
found_among p (x ∷ xs) y h = here (p x) refl h (found_among p xs y)
  where
    here : (t : Bool) → p x ≡ t → cond t (Some x) (find p xs) ≡ Some y → (find p xs ≡ Some y → Contains xs y × (p y ≡ true)) → Contains (x ∷ xs) y × (p y ≡ true)
    here true e h rest = ((0, omega arith, some_same x y h), sym (ap p (some_same x y h)) ∙ e)
    here false e h rest = let ((k, below, stands), passes) = rest h in ((suc k, omega arith, stands), passes)

-- where nothing is found, none passes
pub found_none : (X : Type 0) (p : X → Bool) (xs : List X) → find p xs ≡ None → (k : ℕ) (d : X) → k < length xs → p (slice_index_or xs k d) ≡ false
found_none X p [] h k d below = absurd (omega arith)
found_none X p (x ∷ xs) h k d below = here (p x) refl h (found_none X p xs) k below
  where
    here : (t : Bool) → p x ≡ t → cond t (Some x) (find p xs) ≡ None → (find p xs ≡ None → (k : ℕ) (d : X) → k < length xs → p (slice_index_or xs k d) ≡ false)
        → (k : ℕ) → k < suc (length xs) → p (slice_index_or (x ∷ xs) k d) ≡ false
    here true e h rest k below = absurd (none_some x (sym h))
    here false e h rest zero below = e
    here false e h rest (suc k) below = rest h k d (omega arith)

-- functions that agree on the rows below the count
pub gives_same : {X Y : Type 0} (f g : X → Option Y) (n : ℕ) (row : ℕ → X) → ((k : ℕ) → k < n → f (row k) ≡ g (row k)) → filter_map f (list_below n row) ≡ filter_map g (list_below n row)
unfolding list_below
gives_same f g zero row same = refl
gives_same f g (suc n) row same =
    gives_suc f n row (g (row n)) (same n (omega arith)) ∙ ap (λ ys. ys ++ option_to_list (g (row n))) (gives_same f g n row (λ k below. same k (omega arith)))
    ∙ sym (gives_suc g n row (g (row n)) refl)
