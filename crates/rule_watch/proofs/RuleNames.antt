-- Labels and names of metrics are words that no quote begins.
use Rattle.std.proofs.Common.{◌≡◌, ◌≢◌, ℕ, ◌≤◌, ◌==◌, Bool, true, false, ◌&&◌, ◌||◌, nat_le, cond, List, [], ◌∷◌, slice_index, refl, arith, ⊎_elim, All}
use Rattle.std.specs.List.{list_all}
use Rattle.std.proofs.lemmas.Bool.{and_parts, and_from, or_cases, eqb-true, leb-true}
use Rattle.std.proofs.lemmas.List.Elements.{All-nil, All-cons}
use Rattle.pcp_base.specs.Names.{is_letter, is_name_byte, IsComponent, IsName, spells, spells_component}
use Rattle.pcp_base.proofs.Spelling.{spelt, walks}
use Rattle.text_lines.specs.LayoutLaws.{IsNameByte, IsLineName}

abbrev Between : ℕ → ℕ → ℕ → Type 0
Between low high b = (low ≤ b) × (b ≤ high)

between : (low high b : ℕ) → (nat_le low b && nat_le b high) ≡ true → Between low high b
between low high b h = let t = and_parts (nat_le low b) (nat_le b high) h in (leb-true low b t.0, leb-true b high t.1)

letter_between : (b : ℕ) → is_letter b ≡ true → Between 65 122 b
letter_between b h =
    ⊎_elim
    (λ (l : (nat_le 65 b && nat_le b 90) ≡ true). let r : Between 65 90 b = between 65 90 b l in (r.0, omega arith))
    (λ (l : (nat_le 97 b && nat_le b 122) ≡ true). let r : Between 97 122 b = between 97 122 b l in (omega arith, r.1))
    (or_cases (nat_le 65 b && nat_le b 90) (nat_le 97 b && nat_le b 122) h)

name_between : (b : ℕ) → is_name_byte b ≡ true → Between 46 122 b
name_between b h =
    ⊎_elim
    (λ (l : is_letter b ≡ true). let r : Between 65 122 b = letter_between b l in (omega arith, r.1))
    (λ (l : ((nat_le 48 b && nat_le b 57) || b == 95) ≡ true).
    ⊎_elim
    (λ (m : (nat_le 48 b && nat_le b 57) ≡ true). let r : Between 48 57 b = between 48 57 b m in (omega arith, omega arith))
    (λ (m : b == 95 ≡ true). let r : b ≡ 95 = eqb-true b 95 m in (omega arith, omega arith))
    (or_cases (nat_le 48 b && nat_le b 57) (b == 95) l))
    (or_cases (is_letter b) ((nat_le 48 b && nat_le b 57) || b == 95) h)

name_byte : (b : ℕ) → Between 46 122 b → IsNameByte b
name_byte b r = ((omega arith, omega arith), λ e. omega arith, λ e. omega arith)

-- The bytes of a name

name_bytes : (start : Bool) (bs : List ℕ) → spells start bs ≡ true → All IsNameByte bs
name_bytes true [] h = cc
name_bytes false [] h = All-nil IsNameByte
name_bytes true (b ∷ bs) h =
    let t = and_parts (is_letter b) (spells false bs) h in
    let r : Between 65 122 b = letter_between b t.0 in
    All-cons IsNameByte b bs (name_byte b (omega arith, r.1)) (name_bytes false bs t.1)
name_bytes false (b ∷ bs) h = next (b == 46) refl h (name_bytes true bs) (name_bytes false bs)
  where
    next : (dot : Bool) → b == 46 ≡ dot → cond dot (spells true bs) (is_name_byte b && spells false bs) ≡ true → (spells true bs ≡ true → All IsNameByte bs) → (spells false bs ≡ true → All IsNameByte bs) → All IsNameByte (b ∷ bs)
    next true e h starts goes = let r : b ≡ 46 = eqb-true b 46 e in All-cons IsNameByte b bs (name_byte b (omega arith, omega arith)) (starts h)
    next false e h starts goes = let t = and_parts (is_name_byte b) (spells false bs) h in All-cons IsNameByte b bs (name_byte b (name_between b t.0)) (goes t.1)

unquoted : (b : ℕ) (bs : List ℕ) → is_letter b ≡ true → slice_index (b ∷ bs) 0 ≢ 34
unquoted b bs h e = let r : Between 65 122 b = letter_between b h in omega arith

spelled_name : (bytes : List ℕ) → spells true bytes ≡ true → IsLineName bytes
spelled_name [] h = cc
spelled_name (b ∷ bs) h =
    record { some = omega arith; unquoted = unquoted b bs (and_parts (is_letter b) (spells false bs) h).0; bytes = name_bytes true (b ∷ bs) h }

pub name_spells : (name : List ℕ) → IsName name → spells true name ≡ true
name_spells name is = (walks name (spells true name) refl).1 is

pub spells_name : (name : List ℕ) → spells true name ≡ true → IsName name
spells_name name h = spelt true name h

pub name_in_line : (name : List ℕ) → IsName name → IsLineName name
name_in_line name is = spelled_name name (name_spells name is)

-- A label

pub component_spells : (label : List ℕ) → IsComponent label → spells_component label ≡ true
component_spells [] is = absurd is
component_spells (b ∷ bs) is = and_from (is_letter b) (list_all is_name_byte bs) is.0 is.1

pub spells_label : (label : List ℕ) → spells_component label ≡ true → IsComponent label
spells_label [] h = cc
spells_label (b ∷ bs) h = and_parts (is_letter b) (list_all is_name_byte bs) h

component_bytes : (bs : List ℕ) → list_all is_name_byte bs ≡ true → All IsNameByte bs
component_bytes [] h = All-nil IsNameByte
component_bytes (b ∷ bs) h =
    let t = and_parts (is_name_byte b) (list_all is_name_byte bs) h in All-cons IsNameByte b bs (name_byte b (name_between b t.0)) (component_bytes bs t.1)

pub label_in_line : (label : List ℕ) → IsComponent label → IsLineName label
label_in_line [] is = absurd is
label_in_line (b ∷ bs) is =
    let r : Between 65 122 b = letter_between b is.0 in
    record { some = omega arith; unquoted = unquoted b bs is.0; bytes = All-cons IsNameByte b bs (name_byte b (omega arith, r.1)) (component_bytes bs is.1) }
