-- A map of names as images come, and what stays where none comes.
use Rattle.std.proofs.Common.{◌≡◌, ℕ, ◌≤◌, Bool, true, false, List, [], ◌∷◌, ◌++◌, length, ap, ap₂, sym, subst, ◌∙◌, refl, arith, cond, Option, Some, None, is_some, bytes_eq, length-append, Vec, Global}
use Rattle.std.specs.List.{list_any, position}
use Rattle.std.specs.Ordering.{nat_cmp}
use Rattle.std.specs.Cmp.Lexicographic.{slice_cmp}
use Rattle.std.specs.Map.{lookup}
use Rattle.std.specs.BTreeMap.{BTreeMap, is_at, insert_entry}
use Rattle.std.proofs.lemmas.Slice.Eq.{bytes_eq-Decides}
use Rattle.mmv_writer.proofs.Firsts.{found_insert, position_some, position_snoc}
use Rattle.run_script.specs.declared.said.Said.{Said}
use Rattle.run_script.specs.Names.{place_in, Tells, TellsOneMore, Keeps, Stays}

none_of : {A : Type 0} (o : Option A) → is_some o ≡ false → o ≡ None
none_of None h = refl
none_of (Some a) h = cc

abbrev named : List ℕ → List ℕ × List ℕ → Bool
named q image = bytes_eq image.0 q

same_text : (xs ys : List ℕ) → bytes_eq xs ys ≡ true → xs ≡ ys
same_text xs ys h = (bytes_eq-Decides xs ys).0 h

is_same : (xs ys : List ℕ) → xs ≡ ys → bytes_eq xs ys ≡ true
is_same xs ys h = (bytes_eq-Decides xs ys).1 h

turned : (xs ys : List ℕ) → bytes_eq xs ys ≡ false → bytes_eq ys xs ≡ false
turned xs ys h = other (bytes_eq ys xs) refl
  where
    other : (b : Bool) → bytes_eq ys xs ≡ b → b ≡ false
    other true g = let wrong : bytes_eq xs ys ≡ true = is_same xs ys (sym (same_text ys xs g)) in cc
    other false g = refl

-- a name that some image has keeps the place of the first
pub first_stays : (names : BTreeMap (Vec ℕ Global) ℕ) (name : List ℕ) (at : ℕ) → is_some (place_in names name) ≡ true → TellsOneMore names names name at
first_stays names name at there images words long told q =
    told q ∙ here (list_any (named q) images) (bytes_eq name q) refl refl ∙ sym (position_snoc (named q) images (name, words))
  where
    here : (a b : Bool) → list_any (named q) images ≡ a → bytes_eq name q ≡ b → position (named q) images ≡ cond a (position (named q) images) (cond b (Some (length images)) None)
    here true b f g = refl
    here false false f g = none_of (position (named q) images) (position_some (named q) images ∙ f)
    here false true f g =
        let is : is_some (place_in names q) ≡ true = subst (λ s. is_some (place_in names s) ≡ true) (same_text name q g) there in
        let isnt : is_some (place_in names q) ≡ false = ap is_some (told q) ∙ position_some (named q) images ∙ f in
        cc

abbrev at_name : List ℕ → List (Vec ℕ Global × ℕ) → Option ℕ
at_name q entries = lookup (is_at (λ (k : Vec ℕ Global). slice_cmp nat_cmp q k.items)) entries

-- a name that no image has takes the place behind them
pub one_more : (old new : BTreeMap (Vec ℕ Global) ℕ) (key : Vec ℕ Global) (name : List ℕ) (at : ℕ) → key.items ≡ name → is_some (place_in old name) ≡ false
    → new.entries ≡ insert_entry (λ a b. slice_cmp nat_cmp a.items b.items) old.entries key at → TellsOneMore old new name at
one_more old new key name at is absent put images words long told q =
    put_in ∙ here (bytes_eq q name) refl ∙ sym (position_snoc (named q) images (name, words))
  where
    put_in : place_in new q ≡ cond (bytes_eq q name) (Some at) (place_in old q)
    put_in = ap (at_name q) put ∙ found_insert (λ k. k.items) q key at old.entries ∙ ap (λ t. cond (bytes_eq q t) (Some at) (place_in old q)) is

    other : (a b : Bool) → list_any (named q) images ≡ a → b ≡ false → position (named q) images ≡ cond a (position (named q) images) (cond b (Some (length images)) None)
    other true b f g = refl
    other false true f g = cc
    other false false f g = none_of (position (named q) images) (position_some (named q) images ∙ f)

    here : (b : Bool) → bytes_eq q name ≡ b → cond b (Some at) (place_in old q) ≡ cond (list_any (named q) images) (position (named q) images) (cond (bytes_eq name q) (Some (length images)) None)
    here true e =
        let none : list_any (named q) images ≡ false =
        sym (position_some (named q) images) ∙ ap is_some (sym (told q)) ∙ ap (λ s. is_some (place_in old s)) (same_text q name e) ∙ absent in
        let itself : bytes_eq name q ≡ true = is_same name q (sym (same_text q name e)) in
        ap Some (sym long) ∙ sym (ap₂ (λ a b. cond a (position (named q) images) (cond b (Some (length images)) None)) none itself)
    here false e = told q ∙ other (list_any (named q) images) (bytes_eq name q) refl (turned q name e)

-- one image more
pub image_kept : (old new : BTreeMap (Vec ℕ Global) ℕ) (before after : Said) (name words : List ℕ) (at : ℕ) → TellsOneMore old new name at → at ≡ length before.images
    → after.images ≡ before.images ++ (name, words) ∷ [] → after.regions ≡ before.regions → Keeps old before new after
image_kept old new before after name words at more e grown same number kept = record {
  told = subst (Tells new) (sym grown) (more before.images words (sym e) kept.told);
  images = omega (arith, kept.images, ap length grown, length-append before.images ((name, words) ∷ []));
  regions = subst (λ l. length l ≤ 64) (sym same) kept.regions;
}

-- no image more
pub stays : (before after : Said) → after.images ≡ before.images → (length before.regions ≤ 64 → length after.regions ≤ 64) → Stays before after
stays before after same few names number kept = record {
  told = subst (Tells names) (sym same) kept.told;
  images = omega (arith, kept.images, ap length same);
  regions = few kept.regions;
}
