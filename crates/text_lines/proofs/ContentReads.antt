-- The content of a value that is written is read again.
use Rattle.std.proofs.Common.{◌≡◌, ◌≢◌, ℕ, ℤ, pos, negsuc, ◌^◌, ◌<◌, ◌==◌, true, false, List, [], ◌∷◌, ◌++◌, length, refl, sym, ap, ◌∙◌, append-nil, arith, ne_eqb, decimal, Some, All}
use Rattle.std.specs.Fmt.{signed_decimal}
use Rattle.std.proofs.lemmas.List.Elements.{All-head}
use Rattle.text_lines.specs.declared.layout_line.Written.{Written}
use Rattle.text_lines.specs.declared.layout_line.Written.TheVariants as written
use Rattle.text_lines.specs.Laws.{EndsWord, IsTextByte, IsWhole}
use Rattle.text_lines.specs.Numbers.{whole_number, hex_number}
use Rattle.text_lines.specs.Words.{first_word, behind_word, take_as, starts_quoted, text_in_quotes}
use Rattle.text_lines.specs.Spelling.{hex_text, quoted_text, int_part, text_part, hex_part}
use Rattle.text_lines.proofs.Decimals.{decimal_is, decimal_nonempty, whole-decimal}
use Rattle.text_lines.proofs.Escapes.{quoted_of}
use Rattle.text_lines.proofs.Hexes.{length-hex, hex_is, glyph_is, hex_number-text}
use Rattle.text_lines.proofs.NumberParts.{word-whole, word-hex, hex_is_read}
use Rattle.text_lines.proofs.Splitting.{IsWord, first_word_of, behind_word_of}
use Rattle.text_lines.specs.LayoutLaws.{IsWritten}
use Rattle.text_lines.specs.LayoutLines.{number_content, raw_content, quoted_content, words_content, last_content}
use Rattle.text_lines.specs.LayoutSpelling.{content_part}

pub content_ends : (content : Written) → EndsWord (content_part content)
unfolding int_part text_part hex_part
content_ends (written.Number n) = refl
content_ends (written.Quoted text) = refl
content_ends (written.Raw value extra) = refl

-- a word that no quote begins
unquoted : (word more : List ℕ) → 0 < length word → All (λ b. b ≢ 34) word → starts_quoted (word ++ more) ≡ false
unquoted [] more some h = absurd (omega arith)
unquoted (b ∷ word) more some h = ne_eqb b 34 (All-head (λ c. c ≢ 34) b word h)

unquoted_word : (word : List ℕ) → 0 < length word → All (λ b. b ≢ 34) word → starts_quoted word ≡ false
unquoted_word word some h = ap starts_quoted (sym (append-nil word)) ∙ unquoted word [] some h

-- no byte of a number is a quote
unquoted-decimal : (n : ℕ) → n < 10 ^ 20 → All (λ b. b ≢ 34) (decimal n)
unquoted-decimal n h = decimal_is (λ b. b ≢ 34) (λ b low high e. omega arith) n h

unquoted-whole : (n : ℤ) → IsWhole n → starts_quoted (signed_decimal n) ≡ false
unquoted-whole (pos n) h = unquoted_word (decimal n) (decimal_nonempty n h) (unquoted-decimal n h)
unquoted-whole (negsuc n) h = refl

unquoted-hex : (count n : ℕ) → All (λ b. b ≢ 34) (hex_text count n)
unquoted-hex count n = hex_is (λ b. b ≢ 34) (λ d h e. omega (arith, glyph_is d h)) count n

-- A number is all that is left.
one_word : (word : List ℕ) (n : ℤ) → IsWord word → starts_quoted word ≡ false → whole_number word ≡ Some n → last_content (32 ∷ word) ≡ Some (written.Number n)
unfolding last_content words_content number_content
one_word word n h q e =
    let first : first_word word ≡ word = ap first_word (sym (append-nil word)) ∙ first_word_of word [] h tt in
    let behind : behind_word word ≡ [] = ap behind_word (sym (append-nil word)) ∙ behind_word_of word [] h tt in
    rw (q, behind, first, e)

-- Two words of digits are all that is left.
two_words : (value extra : ℕ) → value < 16 ^ 16 → extra < 16 ^ 16 → last_content (hex_part 16 value ++ hex_part 16 extra) ≡ Some (written.Raw value extra)
unfolding last_content words_content raw_content hex_part
two_words value extra h k =
    let word : List ℕ = hex_text 16 value in
    let more : List ℕ = 32 ∷ hex_text 16 extra in
    let quote : starts_quoted (word ++ more) ≡ false = unquoted word more (omega (arith, length-hex 16 value)) (unquoted-hex 16 value) in
    let first : first_word (word ++ more) ≡ word = first_word_of word more (word-hex 16 value) refl in
    let behind : behind_word (word ++ more) ≡ more = behind_word_of word more (word-hex 16 value) refl in
    let last : take_as (hex_number 16) more ≡ Some (extra, []) = ap (take_as (hex_number 16)) (sym (append-nil more)) ∙ hex_is_read 16 extra [] k tt in
    let there : length more == 0 ≡ false = ne_eqb (length more) 0 (λ e. omega arith) in
    rw (quote, behind, there, first, hex_number-text 16 value h, last)

starts_text : (text : List ℕ) → starts_quoted (quoted_text text) ≡ true
unfolding quoted_text
starts_text text = refl

last_quoted : (text : List ℕ) → All IsTextByte text → last_content (text_part text) ≡ Some (written.Quoted text)
unfolding last_content quoted_content text_part
last_quoted text h =
    let quote : starts_quoted (quoted_text text) ≡ true = starts_text text in
    let found : text_in_quotes (quoted_text text) ≡ Some (text, []) = ap text_in_quotes (sym (append-nil (quoted_text text))) ∙ quoted_of text [] h in
    rw (quote, found)

pub content_is_read : (content : Written) → IsWritten content → last_content (content_part content) ≡ Some content
unfolding int_part
content_is_read (written.Number n) h = one_word (signed_decimal n) n (word-whole n h) (unquoted-whole n h) (whole-decimal n h)
content_is_read (written.Quoted text) h = last_quoted text h
content_is_read (written.Raw value extra) h = two_words value extra h.0 h.1
