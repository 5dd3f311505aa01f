-- Texts behind references.
use Rattle.std.proofs.Common.{◌≡◌, ℕ, ◌+◌, ◌<◌, Bool, true, false, not, List, [], ◌∷◌, ◌++◌, length, take, get_or, ap, ap₂, sym, ◌∙◌, refl, arith, append-nil, cond, nat_lt, Some, None, bytes_eq}
use Rattle.std.specs.Borrow.{Bor}
use Rattle.std.specs.List.{position, position_or_len, flat_map}
use Rattle.std.proofs.lemmas.List.{take_more, map-append}
use Rattle.mmv_layout.specs.Fields.{first_words}
use Rattle.mmv_writer.specs.Offsets.{string_length}
use Rattle.mmv_writer.specs.Spelling.{string_section}
use Rattle.mmv_writer.specs.Tables.{texts_behind}

pub read_none : (texts : List (Bor (List ℕ))) → texts_behind texts ≡ texts_behind texts ++ []
read_none texts = sym (append-nil (texts_behind texts))

pub read_more : (texts : List (Bor (List ℕ))) (x : Bor (List ℕ)) → texts_behind (texts ++ x ∷ []) ≡ texts_behind texts ++ x.now ∷ []
read_more texts x = map-append (λ (text : Bor (List ℕ)). text.now) texts (x ∷ [])

pub length_read : (texts : List (Bor (List ℕ))) → length texts ≡ length (texts_behind texts)
length_read [] = refl
length_read (text ∷ texts) = let rest : length texts ≡ length (texts_behind texts) = length_read texts in omega arith

at_read : (q : List ℕ) (texts : List (Bor (List ℕ))) → position_or_len (λ other. bytes_eq other.now q) texts ≡ position_or_len (λ other. bytes_eq other q) (texts_behind texts)
at_read q [] = refl
at_read q (text ∷ texts) = ap (λ n. cond (not (bytes_eq text.now q)) (1 + n) 0) (at_read q texts)

-- the first that is equal to a text
pub position_read : (q : List ℕ) (texts : List (Bor (List ℕ))) → position (λ other. bytes_eq other.now q) texts ≡ position (λ other. bytes_eq other q) (texts_behind texts)
position_read q texts = ap₂ (λ n m. cond (nat_lt n m) (Some n) None) (at_read q texts) (length_read texts)

-- the words of strings
pub section_read : (texts : List (Bor (List ℕ))) → flat_map (λ text. first_words string_length text.now) texts ≡ string_section (texts_behind texts)
unfolding string_section
section_read [] = refl
section_read (text ∷ texts) = ap (λ words. first_words string_length text.now ++ words) (section_read texts)

-- one text more of those that a loop has passed
pub read_passed : (texts : List (Bor (List ℕ))) (x : Bor (List ℕ)) (strings : List (List ℕ)) (i : ℕ) → i < length strings → x.now ≡ get_or strings i x.now → texts_behind texts ≡ take i strings → texts_behind (texts ++ x ∷ []) ≡ take (i + 1) strings
read_passed texts x strings i below is h = read_more texts x ∙ ap₂ (λ xs y. xs ++ y ∷ []) h is ∙ sym (take_more strings i x.now below)
