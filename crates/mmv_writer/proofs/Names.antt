-- Strings and name fields of a spelled image, as a reader finds them: a name field has its name, or leads to it.
use Rattle.std.proofs.Common.{◌≡◌, ◌≢◌, ℕ, ◌+◌, ◌*◌, ◌/◌, ◌<◌, ◌≤◌, Bool, true, false, not, ◌&&◌, ◌||◌, inl, inr, List, [], ◌∷◌, length, ap, ap₂, sym, subst, ◌∙◌, refl, arith, add-zero, cond, nat_eq, nat_lt, bytes_eq, slice_index}
use Rattle.std.specs.List.{position_or_len}
use Rattle.std.proofs.lemmas.Bool.{eqb-true, eqb-false}
use Rattle.std.proofs.lemmas.Bool.Decides.{nat_tests}
use Rattle.pcp_base.specs.Names.{spells}
use Rattle.mmv_layout.specs.Fields.{number64, byte_at, text_at, has_zero, first_words}
use Rattle.mmv_layout.specs.Sizes.{has_inline_names, name_width, name_room, string_size}
use Rattle.mmv_layout.specs.Contents.{version_in}
use Rattle.mmv_layout.specs.EntryFields.{name_start, name_text}
use Rattle.mmv_layout.specs.Entries.{string_at, leads_to_string, name_leads, name_ends, is_passed_over, has_text, has_name}
use Rattle.mmv_layout.specs.Says.{StringAt, NameAt}
use Rattle.mmv_layout.specs.declared.rows.Layout.{Layout}
use Rattle.mmv_writer.specs.Rules.{is_short_name}
use Rattle.mmv_writer.specs.Draft.{Each, IsStored, IsString}
use Rattle.mmv_writer.specs.Offsets.{string_length}
use Rattle.mmv_writer.specs.Spelling.{string_offset, name_words, image_with_strings}
use Rattle.mmv_writer.proofs.Standing.{Stands, word_read, byte_read, text_read, zero_read}
use Rattle.mmv_writer.proofs.Wanted.{Has, HasName, same_bytes}
use Rattle.mmv_writer.proofs.Positions.{Passes, first_passes, get_below}
use Rattle.mmv_writer.proofs.Spelt.{Fits, version_read, strings_from, strings_whole, offsets, find_strings}
use Rattle.mmv_writer.proofs.Marks.{string_is, string_stands, string_leads, stand_string}

pub fits_string : (n : ℕ) → nat_lt 255 n ≡ false → n < 256
fits_string n h = grind (arith, nat_tests)

-- a text stands at an offset, as a string
pub record TextStands (words : List ℕ) (offset : ℕ) (text : List ℕ) : Type 0 where
  pub reads : text_at words offset string_size ≡ text
  pub ends : has_zero words offset string_size ≡ true
  pub first : byte_at words offset ≡ slice_index text 0

plus_none : (n : ℕ) → n ≡ n + 0
plus_none n = sym (add-zero n)

-- a text that is among the strings stands at the offset of the first that is equal to it
text_stands : (draft : Layout) (s : List (List ℕ)) → Fits draft s → Each IsString s → (text : List ℕ) → Has s text → TextStands (image_with_strings draft s) (string_offset (offsets draft s) s text) text
text_stands draft s fit short text has =
    let words : List ℕ = image_with_strings draft s in
    let p : Passes s (position_or_len (λ other. bytes_eq other text) s) (λ other. bytes_eq other text) = first_passes (λ other. bytes_eq other text) s has in
    let is : IsString p.row = short (position_or_len (λ other. bytes_eq other text) s) p.row p.at in
    let stand : Stands words (strings_from draft s + string_length * position_or_len (λ other. bytes_eq other text) s) (first_words string_length p.row) = stand_string draft s (position_or_len (λ other. bytes_eq other text) s) p.row p.at in
    let offset : string_offset (offsets draft s) s text ≡ 8 * (strings_from draft s + string_length * position_or_len (λ other. bytes_eq other text) s) = string_stands draft s (position_or_len (λ other. bytes_eq other text) s) (string_offset (offsets draft s) s text) refl in
    let fits : length p.row < 256 = fits_string (length p.row) is.short in
    subst (TextStands words (string_offset (offsets draft s) s text)) (same_bytes p.row text p.is) (record {
      reads = text_read words (strings_from draft s + string_length * position_or_len (λ other. bytes_eq other text) s) string_length (string_offset (offsets draft s) s text) p.row stand is.stored offset fits;
      ends = zero_read words (strings_from draft s + string_length * position_or_len (λ other. bytes_eq other text) s) string_length (string_offset (offsets draft s) s text) p.row stand is.stored offset fits;
      first = ap (byte_at words) (plus_none (string_offset (offsets draft s) s text)) ∙ byte_read words (strings_from draft s + string_length * position_or_len (λ other. bytes_eq other text) s) string_length (string_offset (offsets draft s) s text) 0 p.row stand is.stored.bytes offset (omega arith);
    })

-- and it leads there
pub string_said : (draft : Layout) (s : List (List ℕ)) → Fits draft s → Each IsString s → (text : List ℕ) (offset : ℕ) → Has s text → offset ≡ string_offset (offsets draft s) s text → StringAt (image_with_strings draft s) offset text
string_said draft s fit short text offset has e =
    let p : Passes s (position_or_len (λ other. bytes_eq other text) s) (λ other. bytes_eq other text) = first_passes (λ other. bytes_eq other text) s has in
    let below : position_or_len (λ other. bytes_eq other text) s < length s = get_below s (position_or_len (λ other. bytes_eq other text) s) p.row p.at in
    let at : string_at (image_with_strings draft s) (position_or_len (λ other. bytes_eq other text) s) ≡ 8 * (strings_from draft s + string_length * position_or_len (λ other. bytes_eq other text) s) = string_is draft s fit (position_or_len (λ other. bytes_eq other text) s) below in
    let from : (offsets draft s).strings ≡ 8 * strings_from draft s = strings_whole draft s in (
      (position_or_len (λ other. bytes_eq other text) s, subst (λ n. position_or_len (λ other. bytes_eq other text) s < n) (sym (find_strings draft s fit).count) below, omega arith),
      sym (ap (λ o. text_at (image_with_strings draft s) o string_size) e ∙ (text_stands draft s fit short text has).reads),
    )

-- a name field that stands from word n on
pub record Named (draft : Layout) (s : List (List ℕ)) (n : ℕ) (name : List ℕ) : Type 0 where
  pub stands : Stands (image_with_strings draft s) n (name_words (offsets draft s) s name)
  pub stored : IsStored name
  pub short : is_short_name draft.version name ≡ true
  pub has : HasName s draft.version name

-- what is read of a name field
pub record ReadsName (words : List ℕ) (field : ℕ) (name : List ℕ) : Type 0 where
  pub leads : name_leads words field ≡ true
  pub ends : name_ends words field ≡ true
  pub text : name_text words field ≡ name
  pub first : byte_at words (name_start words field) ≡ slice_index name 0
  pub at : NameAt words field name

module _ (draft : Layout) (s : List (List ℕ)) (fit : Fits draft s) (n field : ℕ) (name : List ℕ) (is : Named draft s n name) (e : field ≡ 8 * n) where
  abbrev words : List ℕ
  words = image_with_strings draft s

  -- the bytes of the name fill the field
  inline : has_inline_names draft.version ≡ true → ReadsName words field name
  unfolding name_words name_width name_room name_leads name_ends name_text name_start
  inline one =
      let version : has_inline_names (version_in words) ≡ true = ap has_inline_names (version_read draft s fit) ∙ one in
      let stand : Stands words n (first_words 8 name) = subst (λ b. Stands words n (cond b (first_words (cond b 64 8 / 8) name) (string_offset (offsets draft s) s name ∷ []))) one is.stands in
      let short : length name < 64 = below (length name) 64 (subst (λ b. nat_lt (length name) (cond b 64 256) ≡ true) one is.short) in
      let text : text_at words field 64 ≡ name = text_read words n 8 field name stand is.stored e short in
      record {
        leads = ap (λ b. b || leads_to_string words (number64 words field)) version;
        ends = ap (λ b. has_zero words (cond b field (number64 words field)) (cond b 64 256)) version ∙ zero_read words n 8 field name stand is.stored e short;
        text = ap (λ b. text_at words (cond b field (number64 words field)) (cond b 64 256)) version ∙ text;
        first = ap (λ b. byte_at words (cond b field (number64 words field))) version ∙ ap (byte_at words) (plus_none field) ∙ byte_read words n 8 field 0 name stand is.stored.bytes e (omega arith);
        at = inl (eqb-true (version_in words) 1 version, sym text);
      }
    where
      below : (a b : ℕ) → nat_lt a b ≡ true → a < b
      below a b h = grind (arith, nat_tests)

  -- the field has the offset of the name's string
  referred : Each IsString s → has_inline_names draft.version ≡ false → ReadsName words field name
  unfolding name_words name_width name_room name_leads name_ends name_text name_start
  referred strings other =
      let version : has_inline_names (version_in words) ≡ false = ap has_inline_names (version_read draft s fit) ∙ other in
      let stand : Stands words n (string_offset (offsets draft s) s name ∷ []) = subst (λ b. Stands words n (cond b (first_words (cond b 64 8 / 8) name) (string_offset (offsets draft s) s name ∷ []))) other is.stands in
      let to : number64 words field ≡ string_offset (offsets draft s) s name = word_read words n 0 field (string_offset (offsets draft s) s name ∷ []) stand (omega arith) (omega arith) in
      let string : TextStands words (string_offset (offsets draft s) s name) name = text_stands draft s fit strings name (is.has other) in
      record {
        leads = ap (λ b. b || leads_to_string words (number64 words field)) version ∙ ap (leads_to_string words) to ∙ string_leads draft s fit name (is.has other);
        ends = ap (λ b. has_zero words (cond b field (number64 words field)) (cond b 64 256)) version ∙ ap (λ o. has_zero words o 256) to ∙ string.ends;
        text = ap (λ b. text_at words (cond b field (number64 words field)) (cond b 64 256)) version ∙ ap (λ o. text_at words o 256) to ∙ string.reads;
        first = ap (λ b. byte_at words (cond b field (number64 words field))) version ∙ ap (byte_at words) to ∙ string.first;
        at = inr (λ one. eqb-false (version_in words) 1 version one, string_said draft s fit strings name (number64 words field) (is.has other) to);
      }

  pub name_read : Each IsString s → ReadsName words field name
  name_read strings = here (has_inline_names draft.version) refl
    where
      here : (b : Bool) → has_inline_names draft.version ≡ b → ReadsName words field name
      here true one = inline one
      here false other = referred strings other

or_true : (a b : Bool) → b ≡ true → (a || b) ≡ true
or_true true b h = refl
or_true false b h = h

isnt_zero : (n : ℕ) → n ≢ 0 → not (nat_eq n 0) ≡ true
isnt_zero n h = grind (arith, nat_tests)

-- a name that is read and isn't empty
pub text_good : (words : List ℕ) (field : ℕ) (name : List ℕ) → ReadsName words field name → IsStored name → 0 < length name → has_text words field ≡ true
unfolding has_text
text_good words field name r stored some =
    or_true (is_passed_over words field) _ (ap₂ (λ a b. a && b) r.ends (isnt_zero (byte_at words (name_start words field)) (λ z. stored.nonzero 0 0 some (sym r.first ∙ z))))

-- a name that is read and keeps the rule for names
pub name_good : (words : List ℕ) (field : ℕ) (name : List ℕ) → ReadsName words field name → spells true name ≡ true → has_name words field ≡ true
unfolding has_name
name_good words field name r rule = or_true (is_passed_over words field) _ (ap₂ (λ a b. a && b) r.ends (ap (spells true) r.text ∙ rule))
