-- A value's content that is written is read as that content.
use Rattle.std.proofs.Common.{◌≡◌, ℕ, ℤ, pos, negsuc, suc, ◌-◌, ◌*◌, ◌%◌, ◌^◌, ◌<◌, ◌≤◌, cond, nat_lt, nat_le, List, refl, ap, ◌∙◌, subst, arith, lt-ltb, le-ltb, le-leb, ltb-true, leb-true, Some, None}
use mathlib.Core.Logic.{inl, inr, ⊎_elim}
use Rattle.std.proofs.lemmas.Bool.{cond_both, cases_lt}
use Rattle.pcp_base.specs.declared.kind.Kind.{Kind}
use Rattle.pcp_base.specs.declared.kind.Kind.TheVariants as kinds
use Rattle.mmv_layout.specs.declared.rows.Content.{Content}
use Rattle.mmv_layout.specs.declared.rows.Content.TheVariants as contents
use Rattle.text_lines.specs.declared.layout_line.Written.TheVariants as written
use Rattle.text_lines.proofs.Taking.{passed, same_some}
use Rattle.text_lines.specs.Contents.{number_in_range, content_of, signed_number, written_number, number_as, text_as, raw_as}
use Rattle.text_lines.specs.LayoutLaws.{IsContent, IsWritten, WrittenContentIsRead, ReadContentIsContent, WrittenContentIsWritten}

-- a number that isn't negative, and one that is
turned_low : (half n : ℕ) → n < half → signed_number half n ≡ written.Number (pos n)
turned_low half n h = ap (λ q. cond q (written.Number (pos n)) (written.Number (negsuc (2 * half - suc n)))) (lt-ltb n half h)

turned_high : (half n : ℕ) → half ≤ n → signed_number half n ≡ written.Number (negsuc (2 * half - suc n))
turned_high half n h = ap (λ q. cond q (written.Number (pos n)) (written.Number (negsuc (2 * half - suc n)))) (le-ltb n half h)

ranged_plain : (low high n : ℕ) → n ≤ high → number_in_range low high (pos n) ≡ Some (contents.Number n)
ranged_plain low high n h = ap (λ q. cond q (Some (contents.Number n)) None) (le-leb n high h)

ranged_minus : (low high n : ℕ) → n < low → number_in_range low high (negsuc n) ≡ Some (contents.Number (18446744073709551615 - n))
ranged_minus low high n h = ap (λ q. cond q (Some (contents.Number (18446744073709551615 - n))) None) (lt-ltb n low h)

-- both halves of a number of 32 bits, and of 64
low_i32 : (n : ℕ) → n < 2147483648 → content_of kinds.I32 (written_number kinds.I32 n) ≡ Some (contents.Number n)
low_i32 n h =
    let m : n % 4294967296 ≡ n = omega arith in
    ap (λ x. content_of kinds.I32 (signed_number 2147483648 x)) m ∙ ap (content_of kinds.I32) (turned_low 2147483648 n h) ∙ ranged_plain 2147483648 2147483647 n (omega arith)

high_i32 : (n : ℕ) → 18446744071562067968 ≤ n → n < 18446744073709551616 → content_of kinds.I32 (written_number kinds.I32 n) ≡ Some (contents.Number n)
high_i32 n l h =
    let m : n % 4294967296 ≡ n - 18446744069414584320 = omega arith in
    let past : 2 * 2147483648 - suc (n - 18446744069414584320) ≡ 18446744073709551615 - n = omega arith in
    ap (λ x. content_of kinds.I32 (signed_number 2147483648 x)) m
    ∙ ap (content_of kinds.I32) (turned_high 2147483648 (n - 18446744069414584320) (omega arith))
    ∙ ap (λ x. number_in_range 2147483648 2147483647 (negsuc x)) past
    ∙ ranged_minus 2147483648 2147483647 (18446744073709551615 - n) (omega arith)
    ∙ ap (λ x. Some (contents.Number x)) (let back : 18446744073709551615 - (18446744073709551615 - n) ≡ n = omega arith in back)

low_i64 : (n : ℕ) → n < 9223372036854775808 → content_of kinds.I64 (written_number kinds.I64 n) ≡ Some (contents.Number n)
low_i64 n h = ap (content_of kinds.I64) (turned_low 9223372036854775808 n h) ∙ ranged_plain 9223372036854775808 9223372036854775807 n (omega arith)

high_i64 : (n : ℕ) → 9223372036854775808 ≤ n → n < 18446744073709551616 → content_of kinds.I64 (written_number kinds.I64 n) ≡ Some (contents.Number n)
high_i64 n l h =
    let past : 2 * 9223372036854775808 - suc n ≡ 18446744073709551615 - n = omega arith in
    ap (content_of kinds.I64) (turned_high 9223372036854775808 n l)
    ∙ ap (λ x. number_in_range 9223372036854775808 9223372036854775807 (negsuc x)) past
    ∙ ranged_minus 9223372036854775808 9223372036854775807 (18446744073709551615 - n) (omega arith)
    ∙ ap (λ x. Some (contents.Number x)) (let back : 18446744073709551615 - (18446744073709551615 - n) ≡ n = omega arith in back)

number_is_read : (kind : Kind) (n : ℕ) → IsContent kind (contents.Number n) → content_of kind (written_number kind n) ≡ Some (contents.Number n)
number_is_read kinds.I32 n h = ⊎_elim (low_i32 n) (λ r. high_i32 n r.0 r.1) h
number_is_read kinds.U32 n h = let m : n % 4294967296 ≡ n = omega arith in ap (λ x. content_of kinds.U32 (written.Number (pos x))) m ∙ ranged_plain 0 4294967295 n (omega arith)
number_is_read kinds.I64 n h = ⊎_elim (low_i64 n) (λ l. high_i64 n l h) (cases_lt n 9223372036854775808)
number_is_read kinds.U64 n h = ranged_plain 0 18446744073709551615 n (omega arith)
number_is_read kinds.Float n h = absurd h
number_is_read kinds.Double n h = absurd h
number_is_read kinds.Text n h = absurd h
number_is_read kinds.Elapsed n h = absurd h

text_is_read : (kind : Kind) (text : List ℕ) → IsContent kind (contents.Choice text) → text_as kind text ≡ Some (contents.Choice text)
text_is_read kinds.I32 text h = absurd h
text_is_read kinds.U32 text h = absurd h
text_is_read kinds.I64 text h = absurd h
text_is_read kinds.U64 text h = absurd h
text_is_read kinds.Float text h = absurd h
text_is_read kinds.Double text h = absurd h
text_is_read kinds.Text text h = refl
text_is_read kinds.Elapsed text h = absurd h

raw_is_read : (kind : Kind) (value extra : ℕ) → IsContent kind (contents.Raw value extra) → raw_as kind value extra ≡ Some (contents.Raw value extra)
raw_is_read kinds.I32 value extra h = absurd h
raw_is_read kinds.U32 value extra h = absurd h
raw_is_read kinds.I64 value extra h = absurd h
raw_is_read kinds.U64 value extra h = absurd h
raw_is_read kinds.Float value extra h = refl
raw_is_read kinds.Double value extra h = refl
raw_is_read kinds.Text value extra h = absurd h
raw_is_read kinds.Elapsed value extra h = refl

pub content_is_read : WrittenContentIsRead
content_is_read kind (contents.Number n) h = number_is_read kind n h
content_is_read kind (contents.Choice text) h = text_is_read kind text h
content_is_read kind (contents.Raw value extra) h = raw_is_read kind value extra h

-- what a range lets through
ranged_is : (P : Content → Type 0) (low high : ℕ) (n : ℤ) (content : Content) → ((m : ℕ) → m < low → P (contents.Number (18446744073709551615 - m))) → ((m : ℕ) → m ≤ high → P (contents.Number m)) → number_in_range low high n ≡ Some content → P content
ranged_is P low high (pos n) content f g e = let t = passed (nat_le n high) (contents.Number n) content e in subst P t.1 (g n (leb-true n high t.0))
ranged_is P low high (negsuc n) content f g e = let t = passed (nat_lt n low) (contents.Number (18446744073709551615 - n)) content e in subst P t.1 (f n (ltb-true n low t.0))

number_range : (kind : Kind) (n : ℤ) (content : Content) → number_as kind n ≡ Some content → IsContent kind content
number_range kinds.I32 n content e =
    ranged_is (IsContent kinds.I32) 2147483648 2147483647 n content (λ m l. inr (omega arith, omega arith)) (λ m l. inl (omega arith)) e
number_range kinds.U32 n content e =
    ranged_is (IsContent kinds.U32) 0 4294967295 n content (λ m l. absurd (omega arith)) (λ m l. omega arith) e
number_range kinds.I64 n content e =
    ranged_is (IsContent kinds.I64) 9223372036854775808 9223372036854775807 n content (λ m l. omega arith) (λ m l. omega arith) e
number_range kinds.U64 n content e =
    ranged_is (IsContent kinds.U64) 0 18446744073709551615 n content (λ m l. absurd (omega arith)) (λ m l. omega arith) e
number_range kinds.Float n content e = cc
number_range kinds.Double n content e = cc
number_range kinds.Text n content e = cc
number_range kinds.Elapsed n content e = cc

text_range : (kind : Kind) (text : List ℕ) (content : Content) → text_as kind text ≡ Some content → IsContent kind content
text_range kinds.I32 text content e = cc
text_range kinds.U32 text content e = cc
text_range kinds.I64 text content e = cc
text_range kinds.U64 text content e = cc
text_range kinds.Float text content e = cc
text_range kinds.Double text content e = cc
text_range kinds.Text text content e = subst (IsContent kinds.Text) (same_some (contents.Choice text) content e) tt
text_range kinds.Elapsed text content e = cc

raw_range : (kind : Kind) (value extra : ℕ) (content : Content) → raw_as kind value extra ≡ Some content → IsContent kind content
raw_range kinds.I32 value extra content e = cc
raw_range kinds.U32 value extra content e = cc
raw_range kinds.I64 value extra content e = cc
raw_range kinds.U64 value extra content e = cc
raw_range kinds.Float value extra content e = subst (IsContent kinds.Float) (same_some (contents.Raw value extra) content e) tt
raw_range kinds.Double value extra content e = subst (IsContent kinds.Double) (same_some (contents.Raw value extra) content e) tt
raw_range kinds.Text value extra content e = cc
raw_range kinds.Elapsed value extra content e = subst (IsContent kinds.Elapsed) (same_some (contents.Raw value extra) content e) tt

pub content_range : ReadContentIsContent
content_range kind (written.Number n) content e = number_range kind n content e
content_range kind (written.Quoted text) content e = text_range kind text content e
content_range kind (written.Raw value extra) content e = raw_range kind value extra content e

turned_stands : (half n : ℕ) → half ≤ 9223372036854775808 → n < 2 * half → IsWritten (signed_number half n)
turned_stands half n h l =
    cond_both (nat_lt n half) (written.Number (pos n)) (written.Number (negsuc (2 * half - suc n))) IsWritten
    (λ _. let small : n < 10 ^ 20 = omega arith in small) (λ _. let small : suc (2 * half - suc n) < 10 ^ 20 = omega arith in small)

plain_stands : (n : ℕ) → n < 18446744073709551616 → IsWritten (written.Number (pos n))
plain_stands n h = let small : n < 10 ^ 20 = omega arith in small

number_stands : (kind : Kind) (n : ℕ) → n < 18446744073709551616 → IsWritten (written_number kind n)
number_stands kinds.I32 n h = turned_stands 2147483648 (n % 4294967296) (omega arith) (omega arith)
number_stands kinds.U32 n h = plain_stands (n % 4294967296) (omega arith)
number_stands kinds.I64 n h = turned_stands 9223372036854775808 n (omega arith) (omega arith)
number_stands kinds.U64 n h = plain_stands n h
number_stands kinds.Float n h = plain_stands n h
number_stands kinds.Double n h = plain_stands n h
number_stands kinds.Text n h = plain_stands n h
number_stands kinds.Elapsed n h = plain_stands n h

pub content_stands : WrittenContentIsWritten
content_stands kind (contents.Number n) h = number_stands kind n h
content_stands kind (contents.Choice text) h = h
content_stands kind (contents.Raw value extra) h = h
