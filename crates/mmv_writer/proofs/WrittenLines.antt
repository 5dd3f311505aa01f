-- The rows of a draft may stand in lines.
use Rattle.std.proofs.Common.{◌≡◌, ◌≢◌, ℕ, zero, suc, ◌<◌, ◌≤◌, ℤ, Bool, true, false, ◌&&◌, ◌||◌, ◌⊎◌, inl, inr, cond, nat_eq, nat_le, List, [], ◌∷◌, length, refl, sym, subst, arith, ⊎_elim, Option, Some, None, All, IfSome, slice_index}
use Rattle.std.specs.List.{list_any}
use Rattle.std.specs.Ordering.{int_eq}
use Rattle.std.proofs.lemmas.Bool.{eqb-true, leb-true}
use Rattle.std.proofs.lemmas.Bool.Decides.{Decides-int_eq}
use Rattle.pcp_base.specs.Names.{is_letter, is_name_byte, spells}
use Rattle.pcp_base.specs.Texts.{IsText}
use Rattle.pcp_base.specs.declared.kind.Kind.{Kind}
use Rattle.mmv_layout.specs.declared.rows.IndomRow.{IndomRow}
use Rattle.mmv_layout.specs.declared.rows.Content.{Content}
use Rattle.mmv_layout.specs.declared.rows.Content.TheVariants as contents
use Rattle.mmv_layout.proofs.Below.{both_left, both_right}
use Rattle.text_lines.specs.Laws.{IsTextByte, IsInt32}
use Rattle.text_lines.specs.Contents.{written_of}
use Rattle.text_lines.proofs.ContentRanges.{content_stands}
use Rattle.text_lines.specs.LayoutLaws.{IsNameByte, IsLineName, IsWritten}
use Rattle.mmv_writer.proofs.Positions.{first_passes}
use Rattle.mmv_layout.specs.Entries.{is_serial}
use Rattle.mmv_writer.specs.Rules.{is_short_name, is_metric_name, fits_instance}
use Rattle.mmv_writer.specs.Draft.{Each, IsStored, IsHelp, IsNumber, IsDomain, HasDomain, IsContent}
use Rattle.mmv_writer.specs.TextLaws.{HasFields}
use Rattle.mmv_writer.proofs.TextDrafts.{tail_all, cons_all, no_all}

-- Texts

positive : (b : ℕ) → b ≢ 0 → 0 < b
positive zero h = absurd (h refl)
positive (suc b) h = omega arith

text_bytes : (text : List ℕ) → IsText text → ((j : ℕ) → slice_index text j < 256) → All IsTextByte text
text_bytes [] nonzero bytes = no_all IsTextByte
text_bytes (b ∷ bs) nonzero bytes =
    cons_all IsTextByte b bs (positive b (nonzero 0 0 (omega arith)), bytes 0) (text_bytes bs (tail_all (λ c. c ≢ 0) b bs nonzero) (λ j. bytes (suc j)))

pub text_of : (text : List ℕ) → IsStored text → All IsTextByte text
text_of text s = text_bytes text s.nonzero s.bytes

pub help_in_line : (help : Option (List ℕ)) → IsHelp help → IfSome help (All IsTextByte)
help_in_line None h = tt
help_in_line (Some text) h = text_of text h.stored

-- Names

or_cases : (a b : Bool) → (a || b) ≡ true → (a ≡ true) ⊎ (b ≡ true)
or_cases true b h = inl refl
or_cases false b h = inr h

abbrev Between : ℕ → ℕ → ℕ → Type 0
Between low high b = (low ≤ b) × (b ≤ high)

between : (low high b : ℕ) → (nat_le low b && nat_le b high) ≡ true → Between low high b
between low high b h = (leb-true low b (both_left (nat_le low b) (nat_le b high) h), leb-true b high (both_right (nat_le low b) (nat_le b high) h))

letter_between : (b : ℕ) → is_letter b ≡ true → Between 65 122 b
letter_between b h =
    ⊎_elim
    (λ (l : (nat_le 65 b && nat_le b 90) ≡ true). let r : Between 65 90 b = between 65 90 b l in (r.0, omega arith))
    (λ (l : (nat_le 97 b && nat_le b 122) ≡ true). let r : Between 97 122 b = between 97 122 b l in (omega arith, r.1))
    (or_cases (nat_le 65 b && nat_le b 90) (nat_le 97 b && nat_le b 122) h)

name_between : (b : ℕ) → is_name_byte b ≡ true → Between 46 122 b
name_between b h =
    ⊎_elim
    (λ (l : is_letter b ≡ true). let r : Between 65 122 b = letter_between b l in (omega arith, r.1))
    (λ (l : ((nat_le 48 b && nat_le b 57) || nat_eq b 95) ≡ true).
    ⊎_elim
    (λ (m : (nat_le 48 b && nat_le b 57) ≡ true). let r : Between 48 57 b = between 48 57 b m in (omega arith, omega arith))
    (λ (m : nat_eq b 95 ≡ true). let r : b ≡ 95 = eqb-true b 95 m in (omega arith, omega arith))
    (or_cases (nat_le 48 b && nat_le b 57) (nat_eq b 95) l))
    (or_cases (is_letter b) ((nat_le 48 b && nat_le b 57) || nat_eq b 95) h)

name_byte : (b : ℕ) → Between 46 122 b → IsNameByte b
name_byte b r = ((omega arith, omega arith), λ e. absurd (omega arith), λ e. absurd (omega arith))

name_bytes : (start : Bool) (bs : List ℕ) → spells start bs ≡ true → All IsNameByte bs
name_bytes true [] h = cc
name_bytes false [] h = no_all IsNameByte
name_bytes true (b ∷ bs) h =
    let r : Between 65 122 b = letter_between b (both_left (is_letter b) (spells false bs) h) in
    cons_all IsNameByte b bs (name_byte b (omega arith, r.1)) (name_bytes false bs (both_right (is_letter b) (spells false bs) h))
name_bytes false (b ∷ bs) h = next (nat_eq b 46) refl h (name_bytes true bs) (name_bytes false bs)
  where
    next : (dot : Bool) → nat_eq b 46 ≡ dot → cond dot (spells true bs) (is_name_byte b && spells false bs) ≡ true → (spells true bs ≡ true → All IsNameByte bs) → (spells false bs ≡ true → All IsNameByte bs) → All IsNameByte (b ∷ bs)
    next true e h starts goes = let r : b ≡ 46 = eqb-true b 46 e in cons_all IsNameByte b bs (name_byte b (omega arith, omega arith)) (starts h)
    next false e h starts goes = cons_all IsNameByte b bs (name_byte b (name_between b (both_left (is_name_byte b) (spells false bs) h))) (goes (both_right (is_name_byte b) (spells false bs) h))

unquoted : (name : List ℕ) → spells true name ≡ true → (0 < length name) × (slice_index name 0 ≢ 34)
unquoted [] h = cc
unquoted (b ∷ bs) h =
    let r : Between 65 122 b = letter_between b (both_left (is_letter b) (spells false bs) h) in (omega arith, λ e. absurd (omega arith))

pub name_in_line : (version : ℕ) (name : List ℕ) → is_metric_name version name ≡ true → IsLineName name
name_in_line version name h =
    let s : spells true name ≡ true = both_left (spells true name) (is_short_name version name) h in
    let u : (0 < length name) × (slice_index name 0 ≢ 34) = unquoted name s in
    record { some = u.0; unquoted = u.1; bytes = name_bytes true name s }

-- Numbers

serial_small : (serial : ℕ) → is_serial serial ≡ true → serial < 4294967296
serial_small serial h = let s : serial ≤ 1023 = leb-true serial 1023 (both_right (nat_le 1 serial) (nat_le serial 1023) h) in omega arith

pub id_in_line : (id : ℤ) → IsNumber id → IsInt32 id
id_in_line id (n, is, small) = subst IsInt32 (sym is) small

module _ (version : ℕ) (indoms : List IndomRow) (domains : Each (IsDomain version) indoms) where
  pub domain_in_line : (row : IndomRow) → IsDomain version row → row.serial < 4294967296
  domain_in_line row d = serial_small row.serial d.serial

  pub serial_in_line : (serial : Option ℕ) → HasDomain indoms serial → IfSome serial (λ s. s < 4294967296)
  serial_in_line None h = tt
  serial_in_line (Some serial) h =
      let p = first_passes (λ row. nat_eq row.serial serial) indoms h in
      subst (λ s. s < 4294967296) (eqb-true p.row.serial serial p.is) (domain_in_line p.row (domains _ p.row p.at))

  pub number_in_line : (serial : Option ℕ) (id : Option ℤ) → fits_instance indoms serial id ≡ true → IfSome id IsInt32
  number_in_line serial None h = tt
  number_in_line None (Some id) h = cc
  number_in_line (Some serial) (Some id) h =
      let p = first_passes (λ row. nat_eq row.serial serial && list_any (λ other. int_eq other.0 id) row.instances) indoms h in
      let q = first_passes (λ other. int_eq other.0 id) p.row.instances (both_right (nat_eq p.row.serial serial) (list_any (λ other. int_eq other.0 id) p.row.instances) p.is) in
      subst IsInt32 ((Decides-int_eq q.row.0 id).0 q.is) (id_in_line q.row.0 ((domains _ p.row p.at).instances _ q.row q.at).number)

-- Contents

pub content_in_line : (kind : Kind) (content : Content) → HasFields content → IsContent content → IsWritten (written_of kind content)
content_in_line kind (contents.Number n) fields is = content_stands kind (contents.Number n) fields
content_in_line kind (contents.Choice text) fields is = text_of text is.stored
content_in_line kind (contents.Raw value extra) fields is = fields
