-- What a stint keeps of its region's layout stays so while the form of what it has seen stays.
use Rattle.std.proofs.Common.{◌≡◌, ℕ, suc, ◌<◌, ◌⊎◌, Bool, true, false, if◌then◌else◌, find, Contains, List, [], ◌∷◌, All, IfSome, length, Option, Some, None, map, ap, sym, refl, subst, ◌∙◌, ⊎_elim, arith}
use Rattle.std.specs.List.{zip}
use Rattle.mmv_layout.specs.Form.{Form}
use Rattle.mmv_layout.specs.declared.rows.Slot.{Slot}
use Rattle.region_core.specs.declared.mode.Mode.TheVariants.{Attached}
use Rattle.region_rule.specs.declared.view.View.{View}
use Rattle.region_rule.specs.Seats.{MadeRegion, Token, IsSame}
use Rattle.region_words.specs.Calls.{form_seen}
use Rattle.run_passes.specs.Keeping.{KeepsSlots, KeepsTexts}
use Rattle.run_passes.specs.Storing.{texts_seen}

pub slots_stay : (old new : Token) (slots : Option (List Slot)) → form_seen new.view ≡ form_seen old.view → new.region ≡ old.region → KeepsSlots old slots → KeepsSlots new slots
slots_stay old new None form region kept = tt
slots_stay old new (Some slots) form region kept =
    (kept.0 ∙ ap (λ (f : Form). f.slots) (sym form), subst (λ (r : MadeRegion). All (λ (slot : Slot). slot.word < length r.words) slots) (sym region) kept.1)

pub texts_stay : (old new : Token) (texts : Option (List (ℕ × List ℕ))) → form_seen new.view ≡ form_seen old.view → KeepsTexts old texts → KeepsTexts new texts
texts_stay old new None form kept = tt
texts_stay old new (Some texts) form kept = kept ∙ ap (λ (f : Form). zip f.offsets f.strings) (sym form)

-- a stint that looked is of its region still
pub region_stays : (old new : Token) → (new ≡ old) ⊎ IsSame Attached Attached old new → new.region ≡ old.region
region_stays old new stays = ⊎_elim (λ (e : new ≡ old). ap (λ (t : Token). t.region) e) (λ (s : IsSame Attached Attached old new). s.region) stays

-- What is found

pub found_there : {A : Type 0} (p : A → Bool) (xs : List A) (x : A) → find p xs ≡ Some x → Contains xs x
found_there p [] x e = absurd (cc)
found_there {A} p (y ∷ ys) x e = by_test (p y) e (λ f. found_there p ys x f)
  where
    by_test : (b : Bool) → (if b then Some y else find p ys) ≡ Some x → (find p ys ≡ Some x → Contains ys x) → Contains (y ∷ ys) x
    by_test true f rest = let same : y ≡ x = cc in (0, omega arith, same)
    by_test false f rest = let more = rest f in (suc more.0, omega arith, more.2)

pub zipped : {A B : Type 0} (xs : List (A × B)) (ls : List A) (rs : List B) → map (λ (x : A × B). x.0) xs ≡ ls → map (λ (x : A × B). x.1) xs ≡ rs → xs ≡ zip ls rs
zipped {A} {B} xs ls rs e f = parts xs ∙ (λ i. zip (e i) (f i))
  where
    parts : (xs : List (A × B)) → xs ≡ zip (map (λ (x : A × B). x.0) xs) (map (λ (x : A × B). x.1) xs)
    parts [] = refl
    parts (x ∷ xs) = ap (λ (l : List (A × B)). x ∷ l) (parts xs)

-- a value word that was found is a word of the region
pub found_below : (slots : List Slot) (p : Slot → Bool) (found : Option Slot) (n : ℕ) → All (λ (s : Slot). s.word < n) slots → found ≡ find p slots → IfSome found (λ (s : Slot). s.word < n)
found_below slots p None n all e = tt
found_below slots p (Some slot) n all e =
    let c : Contains slots slot = found_there p slots slot (sym e) in
    subst (λ (s : Slot). s.word < n) c.2 (all c.0 slot c.1)

-- the strings that were found are those of the form
pub texts_told : (texts : List (ℕ × List ℕ)) (v : View) → (map (λ (text : ℕ × List ℕ). text.0) texts ≡ (form_seen v).offsets) × (map (λ (text : ℕ × List ℕ). text.1) texts ≡ (form_seen v).strings) → texts ≡ texts_seen v
texts_told texts v told = zipped texts (form_seen v).offsets (form_seen v).strings told.0 told.1
