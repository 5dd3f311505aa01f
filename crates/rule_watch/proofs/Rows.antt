-- One more value of a metric, and one more row.
use Rattle.std.proofs.Common.{◌≡◌, ℕ, ℤ, ◌+◌, ◌<◌, Bool, true, false, cond, List, [], ◌∷◌, ◌++◌, length, map, take, get_or, refl, sym, ap, ◌∙◌, append-nil, append_assoc}
use Rattle.std.specs.Ordering.{int_eq}
use Rattle.std.specs.List.{filter}
use Rattle.std.proofs.lemmas.List.{take_more, flat_map_more}
use Rattle.rule_watch.specs.Groups.{Group, numbers_of}
use Rattle.rule_watch.specs.Rows.{Row, values_in, values_of}
use Rattle.rule_watch.specs.Windows.{last}
use Rattle.rule_watch.proofs.Windows.{last_last}

-- What a test picks of a list

module _ {A B : Type 0} (f : A → B) (p : A → Bool) where
  pick_one : (b : Bool) (x : A) (ys zs : List A) (ws : List B) → map f ys ≡ map f zs ++ ws → map f (cond b (x ∷ ys) ys) ≡ map f (cond b (x ∷ zs) zs) ++ ws
  pick_one true x ys zs ws h = ap (λ bs. f x ∷ bs) h
  pick_one false x ys zs ws h = h

  last_one : (b : Bool) (x : A) → map f (cond b (x ∷ []) []) ≡ cond b (f x ∷ []) []
  last_one true x = refl
  last_one false x = refl

  pub picked_with : (xs : List A) (x : A) (b : Bool) → p x ≡ b → map f (filter p (xs ++ x ∷ [])) ≡ map f (filter p xs) ++ cond b (f x ∷ []) []
  picked_with [] x b h = last_one (p x) x ∙ ap (λ t. cond t (f x ∷ []) []) h
  picked_with (y ∷ ys) x b h = pick_one (p y) y (filter p (ys ++ x ∷ [])) (filter p ys) (cond b (f x ∷ []) []) (picked_with ys x b h)

  -- The items before the next one, and that one.
  pub picked_more : (xs : List A) (i : ℕ) (x : A) (b : Bool) → i < length xs → x ≡ get_or xs i x → p x ≡ b → map f (filter p (take (i + 1) xs)) ≡ map f (filter p (take i xs)) ++ cond b (f x ∷ []) []
  picked_more xs i x b below is h =
      ap (λ front. map f (filter p front)) (take_more xs i x below ∙ ap (λ (z : A). take i xs ++ z ∷ []) (sym is))
      ∙ picked_with (take i xs) x b h

-- One more value of a metric

module _ (values : Group) (i : ℕ) (v : ℤ × ℤ) (below : i < length values) (is : v ≡ get_or values i v) where
  -- it goes to its own instance
  pub numbers_own : (q : ℤ) (n : ℕ) (before now : List ℤ) → now ≡ last n (before ++ numbers_of q (take i values))
      → cond (int_eq v.0 q) (last n (now ++ v.1 ∷ [])) now ≡ last n (before ++ numbers_of q (take (i + 1) values))
  numbers_own q n before now h = here (int_eq v.0 q) refl
    where
      more : (b : Bool) → int_eq v.0 q ≡ b → numbers_of q (take (i + 1) values) ≡ numbers_of q (take i values) ++ cond b (v.1 ∷ []) []
      more b g = picked_more (λ (x : ℤ × ℤ). x.1) (λ (x : ℤ × ℤ). int_eq x.0 q) values i v b below is g

      here : (b : Bool) → int_eq v.0 q ≡ b → cond b (last n (now ++ v.1 ∷ [])) now ≡ last n (before ++ numbers_of q (take (i + 1) values))
      here true g =
          ap (λ vs. last n (vs ++ v.1 ∷ [])) h
          ∙ last_last n (before ++ numbers_of q (take i values)) (v.1 ∷ [])
          ∙ ap (last n) (append_assoc before (numbers_of q (take i values)) (v.1 ∷ []) ∙ ap (λ vs. before ++ vs) (sym (more true g)))
      here false g = h ∙ ap (λ vs. last n (before ++ vs)) (sym (append-nil (numbers_of q (take i values))) ∙ sym (more false g))

-- one more row
pub values_of_more : (name : List ℕ) (q : ℤ) (rows : List Row) (row : Row) → values_of name q (rows ++ row ∷ []) ≡ values_of name q rows ++ values_in name q row
values_of_more name q rows row = sym (flat_map_more (values_in name q) [] rows row)
