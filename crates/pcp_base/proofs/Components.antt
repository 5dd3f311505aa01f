-- A component as a test.
use Rattle.std.proofs.Common.{◌≡◌, ℕ, Bool, true, false, ◌&&◌, IsTrue, ◌↔◌, List, [], ◌∷◌, sym, refl}
use Rattle.std.specs.List.{list_all}
use Rattle.pcp_base.specs.Names.{is_letter, is_name_byte, IsComponent, spells_component}

both : (r a b : Bool) → (IsTrue r ↔ (IsTrue a × IsTrue b)) → r ≡ (a && b)
both true true true h = refl
both true true false h = sym (h.0 refl).1
both true false b h = sym (h.0 refl).0
both false true true h = h.1 (refl, refl)
both false true false h = refl
both false false b h = refl

neither : (r : Bool) → (IsTrue r ↔ ⊥) → r ≡ false
neither true h = absurd (h.0 refl)
neither false h = refl

pub is_spelled : (bytes : List ℕ) (r : Bool) → (IsTrue r ↔ IsComponent bytes) → r ≡ spells_component bytes
is_spelled [] r h = neither r h
is_spelled (b ∷ bs) r h = both r (is_letter b) (list_all is_name_byte bs) h
