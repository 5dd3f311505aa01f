-- A queue of minima: what a value changes that leaves the window, or enters it, and what stands at its front.
use Rattle.std.proofs.Common.{◌≡◌, ℕ, ◌+◌, ◌≤◌, get_or, ℤ, neg_ℤ, Bool, true, false, cond, ◌&&◌, List, [], ◌∷◌, ◌++◌, length, map, drop, Option, Some, None, refl, sym, ap, ap₂, ◌∙◌, subst, arith, ⊎_elim, append-nil}
use Rattle.std.specs.Prelude.{int_lt, int_le}
use Rattle.std.specs.Ordering.{int_eq}
use Rattle.std.specs.List.{list_all}
use Rattle.std.specs.Int.{int_min, int_max}
use Rattle.std.specs.Option.{option_to_list}
use Rattle.std.proofs.lemmas.Bool.{and_parts, and_from, cases_Bool, cond_both, both_ways}
use Rattle.std.proofs.lemmas.List.Folds.{list_all-append}
use Rattle.std.proofs.lemmas.Int.{ints, clamps}
use Rattle.rule_watch.specs.Queues.{minima, first_of, first_is, last_of, ends_above, trimmed}
use Rattle.rule_watch.specs.Aggregates.{least, greatest}

-- The order

le_le : (a b c : ℤ) → int_le a b ≡ true → int_le b c ≡ true → int_le a c ≡ true
le_le a b c h k = grind (arith, ints)

lt_le : (a b c : ℤ) → int_lt a b ≡ true → int_le b c ≡ true → int_lt a c ≡ true
lt_le a b c h k = grind (arith, ints)

lt_weak : (a b : ℤ) → int_lt a b ≡ true → int_le a b ≡ true
lt_weak a b h = grind (arith, ints)

not_le : (a b : ℤ) → int_le a b ≡ false → int_lt b a ≡ true
not_le a b h = grind (arith, ints)

not_lt : (a b : ℤ) → int_lt a b ≡ false → int_le b a ≡ true
not_lt a b h = grind (arith, ints)

le_not : (a b : ℤ) → int_le a b ≡ true → int_lt b a ≡ false
le_not a b h = grind (arith, ints)

le_same : (a : ℤ) → int_le a a ≡ true
le_same a = grind (arith, ints)

eq_same : (a : ℤ) → int_eq a a ≡ true
eq_same a = grind (arith, ints)

eq_true : (a b : ℤ) → int_eq a b ≡ true → a ≡ b
eq_true a b h = grind (arith, ints)

neg_neg : (x : ℤ) → x ≡ neg_ℤ (neg_ℤ x)
neg_neg x = omega (arith, ints)

max_is_min : (x m : ℤ) → int_max x (neg_ℤ m) ≡ neg_ℤ (int_min (neg_ℤ x) m)
max_is_min x m = omega (arith, ints, clamps)

-- Tests of all numbers

all_weaker : (p q : ℤ → Bool) → ((x : ℤ) → p x ≡ true → q x ≡ true) → (xs : List ℤ) → list_all p xs ≡ true → list_all q xs ≡ true
all_weaker p q weaker [] h = refl
all_weaker p q weaker (x ∷ xs) h =
    let parts = and_parts (p x) (list_all p xs) h in
    and_from (q x) (list_all q xs) (weaker x parts.0) (all_weaker p q weaker xs parts.1)

all_with : (p : ℤ → Bool) (xs : List ℤ) (y : ℤ) (b : Bool) → p y ≡ b → list_all p (xs ++ y ∷ []) ≡ (list_all p xs && b)
all_with p xs y true h = list_all-append p xs (y ∷ []) ∙ ap (λ t. list_all p xs && (t && true)) h
all_with p xs y false h = list_all-append p xs (y ∷ []) ∙ ap (λ t. list_all p xs && (t && true)) h

and_true : (b : Bool) → (b && true) ≡ b
and_true true = refl
and_true false = refl

and_false : (b : Bool) → (b && false) ≡ false
and_false true = refl
and_false false = refl

all_minima : (p : ℤ → Bool) (xs : List ℤ) → list_all p xs ≡ true → list_all p (minima xs) ≡ true
all_minima p [] h = refl
all_minima p (x ∷ xs) h =
    let parts = and_parts (p x) (list_all p xs) h in
    let later = all_minima p xs parts.1 in
    cond_both (list_all (int_le x) xs) (x ∷ minima xs) (minima xs) (λ ys. list_all p ys ≡ true) (λ _. and_from (p x) (list_all p (minima xs)) parts.0 later) (λ _. later)

-- Its length

pub few_minima : (xs : List ℤ) → length (minima xs) ≤ length xs
few_minima [] = omega arith
few_minima (x ∷ xs) =
    let later : length (minima xs) ≤ length xs = few_minima xs in
    cond_both (list_all (int_le x) xs) (x ∷ minima xs) (minima xs) (λ ys. length ys ≤ length (x ∷ xs)) (λ _. omega arith) (λ _. omega arith)

-- A newer value

pub trimmed_none : (n : ℤ) (xs : List ℤ) → list_all (int_lt n) xs ≡ true → trimmed n xs ≡ []
trimmed_none n [] h = refl
trimmed_none n (x ∷ xs) h = ap (λ b. cond b [] (x ∷ trimmed n xs)) h

-- A number at the end that is above is trimmed.
trimmed_above : (n y : ℤ) (xs : List ℤ) → int_lt n y ≡ true → trimmed n (xs ++ y ∷ []) ≡ trimmed n xs
trimmed_above n y [] h = ap (λ b. cond (b && true) [] (y ∷ [])) h
trimmed_above n y (x ∷ xs) h =
    ap₂ (λ b ys. cond (int_lt n x && b) [] (x ∷ ys)) (all_with (int_lt n) xs y true h ∙ and_true (list_all (int_lt n) xs)) (trimmed_above n y xs h)

last_is : (xs : List ℤ) (y : ℤ) → last_of (xs ++ y ∷ []) ≡ y
last_is [] y = refl
last_is (x ∷ []) y = refl
last_is (x ∷ z ∷ zs) y = last_is (z ∷ zs) y

ends_with : (n y : ℤ) (xs : List ℤ) → ends_above n (xs ++ y ∷ []) ≡ int_lt n y
ends_with n y [] = refl
ends_with n y (x ∷ xs) = ap (int_lt n) (last_is (x ∷ xs) y)

pub trims_more : (n : ℤ) (items xs : List ℤ) (o : Option ℤ) → items ≡ xs ++ option_to_list o → ends_above n items ≡ true → trimmed n xs ≡ trimmed n items
trims_more n items xs None e h = ap (trimmed n) (sym (append-nil xs) ∙ sym e)
trims_more n items xs (Some y) e h =
    sym (trimmed_above n y xs (sym (ends_with n y xs) ∙ ap (ends_above n) (sym e) ∙ h)) ∙ ap (trimmed n) (sym e)

not_all : (n : ℤ) (x : ℤ) (xs : List ℤ) → int_lt n (last_of (x ∷ xs)) ≡ false → list_all (int_lt n) (x ∷ xs) ≡ false
not_all n x [] h = ap (λ b. b && true) h
not_all n x (y ∷ ys) h = ap (λ b. int_lt n x && b) (not_all n y ys h) ∙ and_false (int_lt n x)

-- Nothing is trimmed where the last number isn't above.
pub trimmed_all : (n : ℤ) (xs : List ℤ) → ends_above n xs ≡ false → trimmed n xs ≡ xs
trimmed_all n [] h = refl
trimmed_all n (x ∷ []) h = ap (λ b. cond (b && true) [] (x ∷ [])) h
trimmed_all n (x ∷ y ∷ ys) h =
    ap (λ b. cond b [] (x ∷ trimmed n (y ∷ ys))) (not_all n x (y ∷ ys) h) ∙ ap (λ zs. x ∷ zs) (trimmed_all n (y ∷ ys) h)

entered_more : (n x : ℤ) (xs : List ℤ) → minima (xs ++ n ∷ []) ≡ trimmed n (minima xs) ++ n ∷ [] → minima (x ∷ (xs ++ n ∷ [])) ≡ trimmed n (minima (x ∷ xs)) ++ n ∷ []
entered_more n x xs later = ⊎_elim least_so_far not_least (cases_Bool (list_all (int_le x) xs))
  where
    not_least : list_all (int_le x) xs ≡ false → minima (x ∷ (xs ++ n ∷ [])) ≡ trimmed n (minima (x ∷ xs)) ++ n ∷ []
    not_least f =
        ap (λ b. cond b (x ∷ minima (xs ++ n ∷ [])) (minima (xs ++ n ∷ []))) (list_all-append (int_le x) xs (n ∷ []) ∙ ap (λ b. b && list_all (int_le x) (n ∷ [])) f)
        ∙ later ∙ ap (λ b. trimmed n (cond b (x ∷ minima xs) (minima xs)) ++ n ∷ []) (sym f)

    below : list_all (int_le x) xs ≡ true → int_le x n ≡ true → minima (x ∷ (xs ++ n ∷ [])) ≡ trimmed n (minima (x ∷ xs)) ++ n ∷ []
    below t u =
        ap (λ b. cond b (x ∷ minima (xs ++ n ∷ [])) (minima (xs ++ n ∷ []))) (all_with (int_le x) xs n true u ∙ and_true (list_all (int_le x) xs) ∙ t)
        ∙ ap (λ ys. x ∷ ys) later
        ∙ ap (λ b. cond (b && list_all (int_lt n) (minima xs)) [] (x ∷ trimmed n (minima xs)) ++ n ∷ []) (sym (le_not x n u))
        ∙ ap (λ b. trimmed n (cond b (x ∷ minima xs) (minima xs)) ++ n ∷ []) (sym t)

    above : list_all (int_le x) xs ≡ true → int_le x n ≡ false → minima (x ∷ (xs ++ n ∷ [])) ≡ trimmed n (minima (x ∷ xs)) ++ n ∷ []
    above t v =
        let over : int_lt n x ≡ true = not_le x n v in
        let all : list_all (int_lt n) (minima xs) ≡ true = all_minima (int_lt n) xs (all_weaker (int_le x) (int_lt n) (λ y h. lt_le n x y over h) xs t) in
        ap (λ b. cond b (x ∷ minima (xs ++ n ∷ [])) (minima (xs ++ n ∷ []))) (all_with (int_le x) xs n false v ∙ and_false (list_all (int_le x) xs))
        ∙ later ∙ ap (λ ys. ys ++ n ∷ []) (trimmed_none n (minima xs) all)
        ∙ ap (λ b. cond b [] (x ∷ trimmed n (minima xs)) ++ n ∷ []) (sym (and_from (int_lt n x) (list_all (int_lt n) (minima xs)) over all))
        ∙ ap (λ b. trimmed n (cond b (x ∷ minima xs) (minima xs)) ++ n ∷ []) (sym t)

    least_so_far : list_all (int_le x) xs ≡ true → minima (x ∷ (xs ++ n ∷ [])) ≡ trimmed n (minima (x ∷ xs)) ++ n ∷ []
    least_so_far t = ⊎_elim (below t) (above t) (cases_Bool (int_le x n))

pub entered : (n : ℤ) (values : List ℤ) → minima (values ++ n ∷ []) ≡ trimmed n (minima values) ++ n ∷ []
entered n [] = refl
entered n (x ∷ xs) = entered_more n x xs (entered n xs)

-- The oldest value

-- A number that isn't above all of some that are at least another is at least that one.
lower : (x y : ℤ) (xs : List ℤ) → list_all (int_le x) xs ≡ false → list_all (int_le y) xs ≡ true → int_le y x ≡ true
lower x y xs f t = ⊎_elim (λ h. h) (λ h. absurd (both_ways (list_all (int_le x) xs) f (all_weaker (int_le y) (int_le x) (λ z k. le_le x y z (lt_weak x y (not_le y x h)) k) xs t))) (cases_Bool (int_le y x))

head_more : (y x : ℤ) (xs : List ℤ) → (first_is y (minima xs) ≡ true → list_all (int_le y) xs ≡ true) → first_is y (minima (x ∷ xs)) ≡ true → list_all (int_le y) (x ∷ xs) ≡ true
head_more y x xs later h = ⊎_elim first behind (cases_Bool (list_all (int_le x) xs))
  where
    first : list_all (int_le x) xs ≡ true → list_all (int_le y) (x ∷ xs) ≡ true
    first t =
        let same : x ≡ y = eq_true x y (ap (λ b. first_is y (cond b (x ∷ minima xs) (minima xs))) (sym t) ∙ h) in
        subst (λ z. list_all (int_le z) (x ∷ xs) ≡ true) same (and_from (int_le x x) (list_all (int_le x) xs) (le_same x) t)

    behind : list_all (int_le x) xs ≡ false → list_all (int_le y) (x ∷ xs) ≡ true
    behind f =
        let all : list_all (int_le y) xs ≡ true = later (ap (λ b. first_is y (cond b (x ∷ minima xs) (minima xs))) (sym f) ∙ h) in
        and_from (int_le y x) (list_all (int_le y) xs) (lower x y xs f all) all

-- The number at the front is not above any.
head_all : (y : ℤ) (xs : List ℤ) → first_is y (minima xs) ≡ true → list_all (int_le y) xs ≡ true
head_all y [] h = refl
head_all y (x ∷ xs) h = head_more y x xs (head_all y xs) h

module _ (x : ℤ) (rest queue : List ℤ) (is : queue ≡ minima (x ∷ rest)) where
  there : (b : Bool) → list_all (int_le x) rest ≡ b → queue ≡ cond b (x ∷ minima rest) (minima rest)
  there b h = is ∙ ap (λ t. cond t (x ∷ minima rest) (minima rest)) h

  -- The oldest value stands at the front and leaves it,
  pub left_front : first_is x queue ≡ true → drop 1 queue ≡ minima rest
  left_front h = ⊎_elim first other (cases_Bool (list_all (int_le x) rest))
    where
      first : list_all (int_le x) rest ≡ true → drop 1 queue ≡ minima rest
      first t = ap (drop 1) (there true t)

      other : list_all (int_le x) rest ≡ false → drop 1 queue ≡ minima rest
      other f = absurd (both_ways (list_all (int_le x) rest) f (head_all x rest (ap (first_is x) (sym (there false f)) ∙ h)))

  -- or was passed over by a later one.
  pub left_before : first_is x queue ≡ false → queue ≡ minima rest
  left_before h = ⊎_elim first (there false) (cases_Bool (list_all (int_le x) rest))
    where
      first : list_all (int_le x) rest ≡ true → queue ≡ minima rest
      first t = absurd (both_ways (first_is x queue) h (ap (first_is x) (there true t) ∙ eq_same x))

-- The least value

all_least : (p : ℤ → Bool) (y : ℤ) (ys : List ℤ) → list_all p (y ∷ ys) ≡ true → p (least (y ∷ ys)) ≡ true
all_least p y [] h = (and_parts (p y) true h).0
all_least p y (z ∷ zs) h =
    let parts = and_parts (p y) (list_all p (z ∷ zs)) h in
    let later = all_least p z zs parts.1 in
    cond_both (int_lt (least (z ∷ zs)) y) (least (z ∷ zs)) y (λ v. p v ≡ true) (λ _. later) (λ _. parts.0)

least_all : (x y : ℤ) (ys : List ℤ) → int_le x (least (y ∷ ys)) ≡ true → list_all (int_le x) (y ∷ ys) ≡ true
least_all x y [] h = and_from (int_le x y) true h refl
least_all x y (z ∷ zs) h =
    let test = int_lt (least (z ∷ zs)) y in
    let later = least_all x z zs in
    ⊎_elim
    (λ (t : test ≡ true).
    let low : int_le x (least (z ∷ zs)) ≡ true = ap (λ b. int_le x (cond b (least (z ∷ zs)) y)) (sym t) ∙ h in
    and_from (int_le x y) (list_all (int_le x) (z ∷ zs)) (le_le x (least (z ∷ zs)) y low (lt_weak (least (z ∷ zs)) y t)) (later low))
    (λ (f : test ≡ false).
    let low : int_le x y ≡ true = ap (λ b. int_le x (cond b (least (z ∷ zs)) y)) (sym f) ∙ h in
    and_from (int_le x y) (list_all (int_le x) (z ∷ zs)) low (later (le_le x y (least (z ∷ zs)) low (not_lt (least (z ∷ zs)) y f))))
    (cases_Bool test)

front_more : (x y : ℤ) (ys : List ℤ) → first_of (minima (y ∷ ys)) ≡ least (y ∷ ys) → first_of (minima (x ∷ y ∷ ys)) ≡ least (x ∷ y ∷ ys)
front_more x y ys later = ⊎_elim first behind (cases_Bool (list_all (int_le x) (y ∷ ys)))
  where
    first : list_all (int_le x) (y ∷ ys) ≡ true → first_of (minima (x ∷ y ∷ ys)) ≡ least (x ∷ y ∷ ys)
    first t =
        ap (λ b. first_of (cond b (x ∷ minima (y ∷ ys)) (minima (y ∷ ys)))) t
        ∙ ap (λ b. cond b (least (y ∷ ys)) x) (sym (le_not x (least (y ∷ ys)) (all_least (int_le x) y ys t)))

    over : list_all (int_le x) (y ∷ ys) ≡ false → int_le x (least (y ∷ ys)) ≡ true → int_le x (least (y ∷ ys)) ≡ false
    over f h = absurd (both_ways (list_all (int_le x) (y ∷ ys)) f (least_all x y ys h))

    below : list_all (int_le x) (y ∷ ys) ≡ false → int_le x (least (y ∷ ys)) ≡ false
    below f = ⊎_elim (over f) (λ h. h) (cases_Bool (int_le x (least (y ∷ ys))))

    behind : list_all (int_le x) (y ∷ ys) ≡ false → first_of (minima (x ∷ y ∷ ys)) ≡ least (x ∷ y ∷ ys)
    behind f =
        ap (λ b. first_of (cond b (x ∷ minima (y ∷ ys)) (minima (y ∷ ys)))) f
        ∙ later ∙ ap (λ b. cond b (least (y ∷ ys)) x) (sym (not_le x (least (y ∷ ys)) (below f)))

pub front_least : (values : List ℤ) → first_of (minima values) ≡ least values
front_least [] = refl
front_least (x ∷ []) = refl
front_least (x ∷ y ∷ ys) = front_more x y ys (front_least (y ∷ ys))

-- The greatest value is the least of the negative ones.
pub greatest_is : (values : List ℤ) → greatest values ≡ neg_ℤ (least (map neg_ℤ values))
greatest_is [] = refl
greatest_is (x ∷ []) = neg_neg x
greatest_is (x ∷ y ∷ ys) = ap (int_max x) (greatest_is (y ∷ ys)) ∙ max_is_min x (least (map neg_ℤ (y ∷ ys)))

-- The number at the end

last_at : (x y : ℤ) (xs : List ℤ) → get_or (x ∷ xs) (length xs) y ≡ last_of (x ∷ xs)
last_at x y [] = refl
last_at x y (z ∷ zs) = last_at z y zs

pub last_read : (xs : List ℤ) (m : ℕ) (x : ℤ) → m + 1 ≡ length xs → x ≡ get_or xs m x → x ≡ last_of xs
last_read [] m x long is = absurd (omega arith)
last_read (y ∷ ys) m x long is =
    let at : m ≡ length ys = omega arith in
    is ∙ ap (λ k. get_or (y ∷ ys) k x) at ∙ last_at y x ys

pub ends_at : (n : ℤ) (xs : List ℤ) (m : ℕ) (x : ℤ) → m + 1 ≡ length xs → x ≡ get_or xs m x → int_lt n x ≡ ends_above n xs
ends_at n [] m x long is = absurd (omega arith)
ends_at n (y ∷ ys) m x long is = ap (int_lt n) (last_read (y ∷ ys) m x long is)
