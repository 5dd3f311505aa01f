-- Strings and the texts that they lacked.
use Rattle.std.proofs.Common.{◌≡◌, ℕ, ◌+◌, ◌<◌, length, take, get_or, ap, sym, ◌∙◌, append-nil, append_assoc, List, [], ◌∷◌, ◌++◌, refl, bytes_eq, if◌then◌else◌, Bool, true, false, is_some}
use Rattle.std.specs.List.{list_any, flat_map, position}
use Rattle.std.specs.Borrow.{Bor}
use Rattle.std.proofs.lemmas.List.{take_more}
use Rattle.std.proofs.lemmas.List.Concat.{flat_map-append}
use Rattle.mmv_writer.specs.Spelling.{with_missing}
use Rattle.mmv_writer.specs.Tables.{texts_behind}
use Rattle.mmv_writer.proofs.Firsts.{position_some}
use Rattle.mmv_writer.proofs.ReadTexts.{read_more}

pub missing_none : (strings : List (List ℕ)) → with_missing strings [] ≡ strings
unfolding with_missing
missing_none strings = refl

-- a text that is there adds nothing, and another stands at the end

pub missing_there : (strings : List (List ℕ)) (text : List ℕ) → is_some (position (λ other. bytes_eq other text) strings) ≡ true → strings ≡ with_missing strings (text ∷ [])
unfolding with_missing
missing_there strings text h = here (list_any (λ other. bytes_eq other text) strings) refl
  where
    here : (b : Bool) → list_any (λ other. bytes_eq other text) strings ≡ b → strings ≡ (if b then strings else strings ++ text ∷ [])
    here true e = refl
    here false e = let some : list_any (λ other. bytes_eq other text) strings ≡ true = sym (position_some (λ other. bytes_eq other text) strings) ∙ h in cc

pub missing_new : (strings : List (List ℕ)) (text : List ℕ) → is_some (position (λ other. bytes_eq other text) strings) ≡ false → strings ++ text ∷ [] ≡ with_missing strings (text ∷ [])
unfolding with_missing
missing_new strings text h = here (list_any (λ other. bytes_eq other text) strings) refl
  where
    here : (b : Bool) → list_any (λ other. bytes_eq other text) strings ≡ b → strings ++ text ∷ [] ≡ (if b then strings else strings ++ text ∷ [])
    here true e = let none : list_any (λ other. bytes_eq other text) strings ≡ false = sym (position_some (λ other. bytes_eq other text) strings) ∙ h in cc
    here false e = refl

-- texts after texts
pub missing_joined : (strings xs bs : List (List ℕ)) → with_missing (with_missing strings xs) bs ≡ with_missing strings (xs ++ bs)
unfolding with_missing
missing_joined strings [] bs = refl
missing_joined strings (text ∷ xs) bs = missing_joined (if list_any (λ other. bytes_eq other text) strings then strings else strings ++ text ∷ []) xs bs

-- what a loop over rows has joined so far, and that of the next row
pub joined_more : {T A : Type 0} (f : T → List A) (rows : List T) (i : ℕ) (d : T) → i < length rows → flat_map f (take i rows) ++ f (get_or rows i d) ≡ flat_map f (take (i + 1) rows)
joined_more f rows i d below =
    ap (λ t. flat_map f (take i rows) ++ t) (sym (append-nil (f (get_or rows i d))))
    ∙ sym (flat_map-append f (take i rows) (get_or rows i d ∷ [])) ∙ ap (flat_map f) (sym (take_more rows i d below))

-- the texts that a loop has passed were added, and then the next
pub missing_more : (start now next : List (List ℕ)) (texts : List (Bor (List ℕ))) (i : ℕ) (x : Bor (List ℕ)) → i < length texts → x ≡ get_or texts i x → now ≡ with_missing start (texts_behind (take i texts)) → next ≡ with_missing now (x.now ∷ []) → next ≡ with_missing start (texts_behind (take (i + 1) texts))
missing_more start now next texts i x below is h e =
    e ∙ ap (λ s. with_missing s (x.now ∷ [])) h ∙ missing_joined start (texts_behind (take i texts)) (x.now ∷ [])
    ∙ ap (with_missing start) (sym (read_more (take i texts) x) ∙ ap (λ y. texts_behind (take i texts ++ y ∷ [])) is ∙ ap texts_behind (sym (take_more texts i x below)))

-- what was written before, those of the entries that a loop has passed, and those of the next
pub written_more : {T A : Type 0} (f : T → List A) (start now next : List A) (rows : List T) (i : ℕ) (x : T) → i < length rows → x ≡ get_or rows i x → now ≡ start ++ flat_map f (take i rows) → next ≡ now ++ f x → next ≡ start ++ flat_map f (take (i + 1) rows)
written_more f start now next rows i x below is h e =
    e ∙ ap (λ s. s ++ f x) h ∙ append_assoc start (flat_map f (take i rows)) (f x) ∙ ap (λ y. start ++ (flat_map f (take i rows) ++ f y)) is
    ∙ ap (λ t. start ++ t) (joined_more f rows i x below)
