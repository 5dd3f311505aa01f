-- A component of a name has no zero byte.
use Rattle.std.proofs.Common.{◌≡◌, ◌≢◌, ℕ, Bool, true, false, ◌&&◌, List, [], ◌∷◌, ap, refl}
use Rattle.std.specs.List.{list_all, AllByRecursion}
use Rattle.std.proofs.lemmas.List.Elements.{All-from_recursion}
use Rattle.pcp_base.specs.Names.{is_letter, is_name_byte, IsComponent}
use Rattle.pcp_base.specs.Texts.{IsText}

pub left : (a b : Bool) → (a && b) ≡ true → a ≡ true
left true b h = refl
left false b h = cc

pub right : (a b : Bool) → (a && b) ≡ true → b ≡ true
right true b h = h
right false b h = cc

pub letter_clean : (b : ℕ) → is_letter b ≡ true → b ≢ 0
letter_clean b h = λ e. let z : is_letter b ≡ false = ap is_letter e in cc

pub byte_clean : (b : ℕ) → is_name_byte b ≡ true → b ≢ 0
byte_clean b h = λ e. let z : is_name_byte b ≡ false = ap is_name_byte e in cc

bytes_clean : (bs : List ℕ) → list_all is_name_byte bs ≡ true → AllByRecursion (λ b. b ≢ 0) bs
bytes_clean [] h = tt
bytes_clean (b ∷ bs) h = (byte_clean b (left (is_name_byte b) (list_all is_name_byte bs) h), bytes_clean bs (right (is_name_byte b) (list_all is_name_byte bs) h))

pub component_clean : (bytes : List ℕ) → IsComponent bytes → IsText bytes
component_clean [] h = absurd h
component_clean (b ∷ bs) h = All-from_recursion (λ c. c ≢ 0) (b ∷ bs) (letter_clean b h.0, bytes_clean bs h.1)
