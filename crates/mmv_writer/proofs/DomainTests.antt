-- The domains and the instances of a spelled image are good.
use Rattle.std.proofs.Common.{◌≡◌, ◌≢◌, ℕ, ◌+◌, ◌*◌, ◌<◌, ◌≤◌, ℤ, pos, Bool, true, false, not, ◌&&◌, ◌||◌, List, [], ◌∷◌, length, take, ap, ap₂, sym, subst, ◌∙◌, refl, arith, nat_eq, nat_le, nat_lt, Some, bytes_eq, slice_index}
use Rattle.std.specs.List.{slice_get}
use Rattle.std.specs.Int.{w32, cast_unsigned}
use Rattle.std.specs.Ordering.{int_eq}
use Rattle.std.proofs.lemmas.Bool.{eq-eqb, eqb-true, eqb-false}
use Rattle.std.proofs.lemmas.Bool.Decides.{nat_tests}
use Rattle.mmv_layout.specs.Below.{all_below}
use Rattle.mmv_layout.specs.Fields.{number32, number64, byte_at, text_at, first_words}
use Rattle.mmv_layout.specs.EntryFields.{same_name, count_offset_in_indom, first_offset_in_indom, short_offset_in_indom, long_offset_in_indom, number_offset_in_instance, name_offset_in_instance}
use Rattle.mmv_layout.specs.Entries.{leads, name_leads, indom_at, instance_at, indom_count, instance_count, leads_to_instance, help_leads, is_instance_of, has_good_run, has_serial, is_new_indom, is_serial, is_good_indom, has_text, lies_in_run, is_same_instance, is_new_instance, is_instance_number, is_good_instance, indoms_are_good, instances_are_good}
use Rattle.mmv_layout.specs.declared.rows.IndomRow.{IndomRow}
use Rattle.mmv_layout.specs.declared.rows.Layout.{Layout}
use Rattle.mmv_layout.proofs.Below.{both_left, both_right}
use Rattle.mmv_writer.specs.Rules.{is_short_name}
use Rattle.mmv_writer.specs.Draft.{Each, IsString, IsInstance, IsDraft}
use Rattle.mmv_writer.specs.Offsets.{instances_in, counts_of, words_in}
use Rattle.mmv_writer.specs.Spelling.{halves, domain_offset, domain_words, name_words, instance_words, image_with_strings, first_instance}
use Rattle.mmv_writer.proofs.Rows.{either_left, either_right}
use Rattle.mmv_writer.proofs.Sections.{all_hold}
use Rattle.mmv_writer.proofs.Standing.{Stands, stands_right, word_read, high_read, byte_read, text_read, zero_read}
use Rattle.mmv_writer.proofs.Wanted.{HasHelp, HasName}
use Rattle.mmv_writer.proofs.Names.{ReadsName, name_read, text_good}
use Rattle.mmv_writer.proofs.Positions.{get_below, get_some, same_row, before_this, Member, member}
use Rattle.mmv_writer.proofs.Spelt.{Fits, version_read, domains_from, instances_from, offsets, find_indoms, find_instances}
use Rattle.mmv_writer.proofs.Marks.{indom_is, instance_is, size_spread, instance_stands, instance_offset_is, leads_there, indom_leads, instance_leads_to, help_good, stand_domain, stand_instance, serial_read, run_read, first_read, first_is, owner_read}
use Rattle.mmv_layout.specs.Sizes.{indom_size, instance_size}
use Rattle.mmv_writer.specs.Offsets.{name_length, indom_length, instance_length}

back : (draft : Layout) (s : List (List ℕ)) (at i : ℕ) → at ≡ 8 * (domains_from draft s + indom_length * i) → (offsets draft s).indoms + indom_size * i ≡ at
back draft s at i e = omega arith

good_run : (draft : Layout) (s : List (List ℕ)) → Fits draft s → IsDraft draft → (i at : ℕ) (row : IndomRow) → slice_get draft.indoms i ≡ Some row → at ≡ 8 * (domains_from draft s + indom_length * i) → has_good_run (image_with_strings draft s) at ≡ true
unfolding has_good_run is_instance_of
good_run draft s fit d i at row here e =
    let words : List ℕ = image_with_strings draft s in
    let run : number32 words (count_offset_in_indom at) ≡ length row.instances = run_read draft s fit d i (count_offset_in_indom at) row here (ap count_offset_in_indom e) in
    let all : instances_in (take i draft.indoms) + length row.instances ≤ instances_in draft.indoms = before_this draft.indoms i row here in
    let from : number64 words (first_offset_in_indom at) ≡ first_instance (offsets draft s) draft.indoms row = first_read draft s i (first_offset_in_indom at) row here (ap first_offset_in_indom e) in
    ap (λ v. all_below (number32 words (count_offset_in_indom at)) (λ k. leads_to_instance words (number64 words (first_offset_in_indom at) + instance_size v * k) && nat_eq (number64 words (number64 words (first_offset_in_indom at) + instance_size v * k)) at)) (version_read draft s fit)
    ∙ all_hold (number32 words (count_offset_in_indom at)) (λ k. leads_to_instance words (number64 words (first_offset_in_indom at) + instance_size draft.version * k) && nat_eq (number64 words (number64 words (first_offset_in_indom at) + instance_size draft.version * k)) at) (λ k below.
    let within : k < length row.instances = subst (λ n. k < n) run below in
    let (instance, inside) = get_some row.instances k within in
    let first : number64 words (first_offset_in_indom at) ≡ (offsets draft s).instances + instance_size draft.version * instances_in (take i draft.indoms) = from ∙ first_is draft s d i row here (omega arith) in
    let offset : number64 words (first_offset_in_indom at) + instance_size draft.version * k ≡ (offsets draft s).instances + instance_size draft.version * (instances_in (take i draft.indoms) + k) =
    ap (λ n. n + instance_size draft.version * k) first ∙ size_spread (offsets draft s).instances (instance_size draft.version) (instances_in (take i draft.indoms)) k in
    let owner : number64 words (number64 words (first_offset_in_indom at) + instance_size draft.version * k) ≡ at = owner_read draft s d i k (number64 words (first_offset_in_indom at) + instance_size draft.version * k) row instance here inside (instance_stands draft s (instances_in (take i draft.indoms) + k) _ offset) ∙ back draft s at i e in
    ap₂ (λ a b. a && b) (instance_leads_to draft s fit (instances_in (take i draft.indoms) + k) (number64 words (first_offset_in_indom at) + instance_size draft.version * k) (omega arith) offset) (eq-eqb (number64 words (number64 words (first_offset_in_indom at) + instance_size draft.version * k)) at owner))

new_indom : (draft : Layout) (s : List (List ℕ)) → Fits draft s → IsDraft draft → (i : ℕ) (row : IndomRow) → slice_get draft.indoms i ≡ Some row → is_new_indom (image_with_strings draft s) i ≡ true
unfolding is_new_indom has_serial
new_indom draft s fit d i row here =
    let below : i < length draft.indoms = get_below draft.indoms i row here in
    all_hold i (λ j. not (nat_eq (number32 (image_with_strings draft s) (indom_at (image_with_strings draft s) j)) (number32 (image_with_strings draft s) (indom_at (image_with_strings draft s) i)))) (λ j less.
    let (other, there) = get_some draft.indoms j (omega arith) in
    ap not (ap₂ nat_eq (serial_read draft s fit d j (indom_at (image_with_strings draft s) j) other there (indom_is draft s fit j (omega arith))) (serial_read draft s fit d i (indom_at (image_with_strings draft s) i) row here (indom_is draft s fit i below))
    ∙ d.serials j i other row less there here))

pub good_indom : (draft : Layout) (s : List (List ℕ)) → Fits draft s → IsDraft draft → Each (λ row. HasHelp s row.short × HasHelp s row.long) draft.indoms → (i : ℕ) → i < length draft.indoms → is_good_indom (image_with_strings draft s) i ≡ true
unfolding is_good_indom domain_words
good_indom draft s fit d helps i below =
    let (row, here) = get_some draft.indoms i below in
    let words : List ℕ = image_with_strings draft s in
    let offset : indom_at words i ≡ 8 * (domains_from draft s + indom_length * i) = indom_is draft s fit i below in
    let stand : Stands words (domains_from draft s + indom_length * i) (domain_words (offsets draft s) s draft.indoms row) = stand_domain draft s i row here in
    let short : help_leads words (short_offset_in_indom (indom_at words i)) ≡ true = help_good draft s fit row.short (short_offset_in_indom (indom_at words i)) (helps i row here).0 (word_read words (domains_from draft s + indom_length * i) 2 (short_offset_in_indom (indom_at words i)) (domain_words (offsets draft s) s draft.indoms row) stand (omega arith) (omega arith)) in
    let long : help_leads words (long_offset_in_indom (indom_at words i)) ≡ true = help_good draft s fit row.long (long_offset_in_indom (indom_at words i)) (helps i row here).1 (word_read words (domains_from draft s + indom_length * i) 3 (long_offset_in_indom (indom_at words i)) (domain_words (offsets draft s) s draft.indoms row) stand (omega arith) (omega arith)) in
    ap₂ (λ a b. a && b) (ap₂ (λ a b. a && b) (ap₂ (λ a b. a && b) (ap₂ (λ a b. a && b) short long) (good_run draft s fit d i (indom_at words i) row here offset)) (new_indom draft s fit d i row here))
    (ap is_serial (serial_read draft s fit d i (indom_at words i) row here offset) ∙ (d.domains i row here).serial)

pub good_indoms : (draft : Layout) (s : List (List ℕ)) → Fits draft s → IsDraft draft → Each (λ row. HasHelp s row.short × HasHelp s row.long) draft.indoms → indoms_are_good (image_with_strings draft s) ≡ true
unfolding indoms_are_good
good_indoms draft s fit d helps =
    all_hold (indom_count (image_with_strings draft s)) (is_good_indom (image_with_strings draft s)) (λ i below. good_indom draft s fit d helps i (subst (λ n. i < n) (find_indoms draft s fit).count below))

-- Instances

-- each name of an instance that doesn't stand in its field is among strings
abbrev pub HasNames : List (List ℕ) → Layout → Type 0
HasNames s draft = Each (λ row. Each (λ instance. HasName s draft.version instance.1) row.instances) draft.indoms

name_from : (draft : Layout) (s : List (List ℕ)) (i k : ℕ) (row : IndomRow) (instance : ℤ × List ℕ) → slice_get draft.indoms i ≡ Some row → slice_get row.instances k ≡ Some instance → Stands (image_with_strings draft s) (instances_from draft s + instance_length draft.version * (instances_in (take i draft.indoms) + k) + 2) (name_words (offsets draft s) s instance.1)
unfolding instance_words
name_from draft s i k row instance here within =
    stands_right (image_with_strings draft s) (instances_from draft s + instance_length draft.version * (instances_in (take i draft.indoms) + k)) (instances_from draft s + instance_length draft.version * (instances_in (take i draft.indoms) + k) + 2)
    (domain_offset (offsets draft s) draft.indoms row.serial ∷ halves 0 (cast_unsigned w32 instance.0) ∷ []) (name_words (offsets draft s) s instance.1) refl (stand_instance draft s i k row instance here within)

pub instance_name : (draft : Layout) (s : List (List ℕ)) → Fits draft s → IsDraft draft → Each IsString s → HasNames s draft → (i k at : ℕ) (row : IndomRow) (instance : ℤ × List ℕ) → slice_get draft.indoms i ≡ Some row → slice_get row.instances k ≡ Some instance → at ≡ 8 * (instances_from draft s + instance_length draft.version * (instances_in (take i draft.indoms) + k)) → ReadsName (image_with_strings draft s) (name_offset_in_instance at) instance.1
instance_name draft s fit d strings names i k at row instance here within e =
    let is : IsInstance draft.version instance = (d.domains i row here).instances k instance within in
    name_read draft s fit (instances_from draft s + instance_length draft.version * (instances_in (take i draft.indoms) + k) + 2) (name_offset_in_instance at) instance.1
    (record {
      stands = name_from draft s i k row instance here within;
      stored = is.stored;
      short = both_right (nat_le 1 (length instance.1)) (is_short_name draft.version instance.1) is.name;
      has = names i row here k instance within;
    }) (ap name_offset_in_instance e ∙ behind (instances_from draft s + instance_length draft.version * (instances_in (take i draft.indoms) + k))) strings
  where
    behind : (n : ℕ) → 8 * n + 16 ≡ 8 * (n + 2)
    behind n = omega arith

pub number_read : (draft : Layout) (s : List (List ℕ)) → IsDraft draft → (i k at n : ℕ) (row : IndomRow) (instance : ℤ × List ℕ) → slice_get draft.indoms i ≡ Some row → slice_get row.instances k ≡ Some instance → instance.0 ≡ pos n → n < 2147483648 → at ≡ number_offset_in_instance (8 * (instances_from draft s + instance_length draft.version * (instances_in (take i draft.indoms) + k))) → number32 (image_with_strings draft s) at ≡ n
unfolding instance_words
number_read draft s d i k at n row instance here within is fits e =
    high_read (image_with_strings draft s) (instances_from draft s + instance_length draft.version * (instances_in (take i draft.indoms) + k)) 1 at (instance_words (offsets draft s) s (domain_offset (offsets draft s) draft.indoms row.serial) instance) 0 n (stand_instance draft s i k row instance here within) (omega arith) (omega arith)
    (ap (λ id. halves 0 (cast_unsigned w32 id)) is) (omega arith) (omega arith)

some_name : (n : ℕ) → nat_le 1 n ≡ true → 0 < n
some_name n h = grind (arith, nat_tests)

named : (draft : Layout) (s : List (List ℕ)) → Fits draft s → IsDraft draft → Each IsString s → HasNames s draft → (i k at : ℕ) (row : IndomRow) (instance : ℤ × List ℕ) → slice_get draft.indoms i ≡ Some row → slice_get row.instances k ≡ Some instance → at ≡ 8 * (instances_from draft s + instance_length draft.version * (instances_in (take i draft.indoms) + k)) → (has_text (image_with_strings draft s) (name_offset_in_instance at) && name_leads (image_with_strings draft s) (name_offset_in_instance at)) ≡ true
named draft s fit d strings names i k at row instance here within e =
    let is : IsInstance draft.version instance = (d.domains i row here).instances k instance within in
    let name : ReadsName (image_with_strings draft s) (name_offset_in_instance at) instance.1 = instance_name draft s fit d strings names i k at row instance here within e in
    ap₂ (λ a b. a && b)
    (text_good (image_with_strings draft s) (name_offset_in_instance at) instance.1 name is.stored (some_name (length instance.1) (both_left (nat_le 1 (length instance.1)) (is_short_name draft.version instance.1) is.name)))
    name.leads

in_run : (draft : Layout) (s : List (List ℕ)) → Fits draft s → IsDraft draft → (i k at : ℕ) (row : IndomRow) (instance : ℤ × List ℕ) → slice_get draft.indoms i ≡ Some row → slice_get row.instances k ≡ Some instance → at ≡ 8 * (instances_from draft s + instance_length draft.version * (instances_in (take i draft.indoms) + k)) → lies_in_run (image_with_strings draft s) at ≡ true
unfolding lies_in_run
in_run draft s fit d i k at row instance here within e =
    let words : List ℕ = image_with_strings draft s in
    let inside : k < length row.instances = get_below row.instances k instance within in
    let below : i < length draft.indoms = get_below draft.indoms i row here in
    let owner : number64 words at ≡ (offsets draft s).indoms + indom_size * i = owner_read draft s d i k at row instance here within e in
    let run : number32 words (count_offset_in_indom (number64 words at)) ≡ length row.instances = run_read draft s fit d i (count_offset_in_indom (number64 words at)) row here (omega arith) in
    let first : number64 words (first_offset_in_indom (number64 words at)) ≡ (offsets draft s).instances + instance_size draft.version * instances_in (take i draft.indoms) = first_read draft s i (first_offset_in_indom (number64 words at)) row here (omega arith) ∙ first_is draft s d i row here (omega arith) in
    let offset : at ≡ number64 words (first_offset_in_indom (number64 words at)) + instance_size draft.version * k =
    instance_offset_is draft s (instances_in (take i draft.indoms) + k) at e ∙ sym (ap (λ n. n + instance_size draft.version * k) first ∙ size_spread (offsets draft s).instances (instance_size draft.version) (instances_in (take i draft.indoms)) k) in
    ap₂ (λ a b. a && b) (indom_leads draft s fit i (number64 words at) below owner)
    (ap (λ v. leads (number64 words (first_offset_in_indom (number64 words at))) (number32 words (count_offset_in_indom (number64 words at))) (instance_size v) at) (version_read draft s fit)
    ∙ leads_there (number64 words (first_offset_in_indom (number64 words at))) (number32 words (count_offset_in_indom (number64 words at))) (instance_size draft.version) at k (omega arith) offset)

-- another number and another name
differs : (a b : ℤ × List ℕ) (m n : ℕ) → a.0 ≡ pos m → b.0 ≡ pos n → (int_eq a.0 b.0 || bytes_eq a.1 b.1) ≡ false → (nat_eq m n || bytes_eq a.1 b.1) ≡ false
differs a b m n e f h = ap (λ t. t || bytes_eq a.1 b.1) (other_number m n (ap₂ (λ x y. int_eq x y) (sym e) (sym f) ∙ either_left (int_eq a.0 b.0) (bytes_eq a.1 b.1) h)) ∙ either_right (int_eq a.0 b.0) (bytes_eq a.1 b.1) h
  where
    other_number : (m n : ℕ) → int_eq (pos m) (pos n) ≡ false → nat_eq m n ≡ false
    other_number m n h = grind (arith, nat_tests)

and_false : (b : Bool) → (b && false) ≡ false
and_false true = refl
and_false false = refl

apart_in : (draft : Layout) (s : List (List ℕ)) → Fits draft s → IsDraft draft → Each IsString s → HasNames s draft → (i k j : ℕ) (row : IndomRow) (a b : ℤ × List ℕ) (at_a at_b : ℕ) → slice_get draft.indoms i ≡ Some row → slice_get row.instances j ≡ Some a → slice_get row.instances k ≡ Some b → j < k → at_a ≡ 8 * (instances_from draft s + instance_length draft.version * (instances_in (take i draft.indoms) + j)) → at_b ≡ 8 * (instances_from draft s + instance_length draft.version * (instances_in (take i draft.indoms) + k)) → is_same_instance (image_with_strings draft s) at_a at_b ≡ false
unfolding is_same_instance same_name
apart_in draft s fit d strings names i k j row a b at_a at_b here in_a in_b less ea eb =
    let words : List ℕ = image_with_strings draft s in
    let is_a : IsInstance draft.version a = (d.domains i row here).instances j a in_a in
    let is_b : IsInstance draft.version b = (d.domains i row here).instances k b in_b in
    let other : (int_eq a.0 b.0 || bytes_eq a.1 b.1) ≡ false = (d.domains i row here).apart j k a b less in_a in_b in
    let name_a : ReadsName words (name_offset_in_instance at_a) a.1 = instance_name draft s fit d strings names i j at_a row a here in_a ea in
    let name_b : ReadsName words (name_offset_in_instance at_b) b.1 = instance_name draft s fit d strings names i k at_b row b here in_b eb in
    let number_a : number32 words (number_offset_in_instance at_a) ≡ is_a.number.0 = number_read draft s d i j (number_offset_in_instance at_a) is_a.number.0 row a here in_a is_a.number.1 is_a.number.2 (ap number_offset_in_instance ea) in
    let number_b : number32 words (number_offset_in_instance at_b) ≡ is_b.number.0 = number_read draft s d i k (number_offset_in_instance at_b) is_b.number.0 row b here in_b is_b.number.1 is_b.number.2 (ap number_offset_in_instance eb) in
    ap (λ t. nat_eq (number64 words at_a) (number64 words at_b) && t) (ap₂ (λ x y. x || y) (ap₂ nat_eq number_a number_b) (ap₂ bytes_eq name_a.text name_b.text) ∙ differs a b is_a.number.0 is_b.number.0 is_a.number.1 is_b.number.1 other)
    ∙ and_false (nat_eq (number64 words at_a) (number64 words at_b))

isnt : (a b : ℕ) → a ≢ b → nat_eq a b ≡ false
isnt a b h = grind (arith, nat_tests)

other_instance : (draft : Layout) (s : List (List ℕ)) → Fits draft s → IsDraft draft → Each IsString s → HasNames s draft → (j q at_j at_q : ℕ) → (m : Member draft.indoms j) → (n : Member draft.indoms q) → j < q → at_j ≡ 8 * (instances_from draft s + instance_length draft.version * j) → at_q ≡ 8 * (instances_from draft s + instance_length draft.version * q) → is_same_instance (image_with_strings draft s) at_j at_q ≡ false
unfolding is_same_instance
other_instance draft s fit d strings names j q at_j at_q m n less ej eq = here (nat_eq m.i n.i) refl
  where
    owner_j : number64 (image_with_strings draft s) at_j ≡ (offsets draft s).indoms + indom_size * m.i
    owner_j = owner_read draft s d m.i m.k at_j m.row m.instance m.at m.within (ej ∙ ap (λ x. 8 * (instances_from draft s + instance_length draft.version * x)) m.is)

    owner_q : number64 (image_with_strings draft s) at_q ≡ (offsets draft s).indoms + indom_size * n.i
    owner_q = owner_read draft s d n.i n.k at_q n.row n.instance n.at n.within (eq ∙ ap (λ x. 8 * (instances_from draft s + instance_length draft.version * x)) n.is)

    apart : (p a b : ℕ) → a ≢ b → nat_eq (p + indom_size * a) (p + indom_size * b) ≡ false
    apart p a b h = isnt (p + indom_size * a) (p + indom_size * b) (λ e. h (omega arith))

    here : (b : Bool) → nat_eq m.i n.i ≡ b → (nat_eq (number64 (image_with_strings draft s) at_j) (number64 (image_with_strings draft s) at_q) && (nat_eq (number32 (image_with_strings draft s) (number_offset_in_instance at_j)) (number32 (image_with_strings draft s) (number_offset_in_instance at_q)) || same_name (image_with_strings draft s) (name_offset_in_instance at_j) (name_offset_in_instance at_q))) ≡ false
    here true e =
        let same : m.i ≡ n.i = eqb-true m.i n.i e in
        let one : m.row ≡ n.row = same_row draft.indoms n.i m.row n.row (ap (slice_get draft.indoms) (sym same) ∙ m.at) n.at in
        let inside : slice_get n.row.instances m.k ≡ Some m.instance = ap (λ r. slice_get r.instances m.k) (sym one) ∙ m.within in
        let start : instances_in (take m.i draft.indoms) ≡ instances_in (take n.i draft.indoms) = ap (λ x. instances_in (take x draft.indoms)) same in
        let is_j : j ≡ instances_in (take m.i draft.indoms) + m.k = m.is in
        let is_q : q ≡ instances_in (take n.i draft.indoms) + n.k = n.is in
        apart_in draft s fit d strings names n.i n.k m.k n.row m.instance n.instance at_j at_q n.at inside n.within (omega arith)
        (ej ∙ ap (λ x. 8 * (instances_from draft s + instance_length draft.version * x)) (is_j ∙ ap (λ x. x + m.k) start)) (eq ∙ ap (λ x. 8 * (instances_from draft s + instance_length draft.version * x)) is_q)
    here false e =
        ap (λ t. t && (nat_eq (number32 (image_with_strings draft s) (number_offset_in_instance at_j)) (number32 (image_with_strings draft s) (number_offset_in_instance at_q)) || same_name (image_with_strings draft s) (name_offset_in_instance at_j) (name_offset_in_instance at_q)))
        (ap₂ nat_eq owner_j owner_q ∙ apart (offsets draft s).indoms m.i n.i (λ x. eqb-false m.i n.i e x))

small : (n : ℕ) → n < 2147483648 → nat_lt n 2147483648 ≡ true
small n h = grind (arith, nat_tests)

good_instance : (draft : Layout) (s : List (List ℕ)) → Fits draft s → IsDraft draft → Each IsString s → HasNames s draft → (q : ℕ) → q < instances_in draft.indoms → is_good_instance (image_with_strings draft s) q ≡ true
unfolding is_good_instance is_new_instance
good_instance draft s fit d strings names q below =
    let words : List ℕ = image_with_strings draft s in
    let m : Member draft.indoms q = member draft.indoms q below in
    let at : instance_at words q ≡ 8 * (instances_from draft s + instance_length draft.version * q) = instance_is draft s fit q below in
    let offset : instance_at words q ≡ 8 * (instances_from draft s + instance_length draft.version * (instances_in (take m.i draft.indoms) + m.k)) = at ∙ ap (λ x. 8 * (instances_from draft s + instance_length draft.version * x)) m.is in
    let is : IsInstance draft.version m.instance = (d.domains m.i m.row m.at).instances m.k m.instance m.within in
    ap₂ (λ a b. a && b) (ap₂ (λ a b. a && b) (ap₂ (λ a b. a && b) (named draft s fit d strings names m.i m.k (instance_at words q) m.row m.instance m.at m.within offset) (in_run draft s fit d m.i m.k (instance_at words q) m.row m.instance m.at m.within offset))
    (all_hold q (λ j. not (is_same_instance words (instance_at words j) (instance_at words q))) (λ j less.
    ap not (other_instance draft s fit d strings names j q (instance_at words j) (instance_at words q) (member draft.indoms j (omega arith)) m less (instance_is draft s fit j (omega arith)) at))))
    (ap is_instance_number (number_read draft s d m.i m.k (number_offset_in_instance (instance_at words q)) is.number.0 m.row m.instance m.at m.within is.number.1 is.number.2 (ap number_offset_in_instance offset)) ∙ small is.number.0 is.number.2)

pub good_instances : (draft : Layout) (s : List (List ℕ)) → Fits draft s → IsDraft draft → Each IsString s → HasNames s draft → instances_are_good (image_with_strings draft s) ≡ true
unfolding instances_are_good
good_instances draft s fit d strings names =
    all_hold (instance_count (image_with_strings draft s)) (is_good_instance (image_with_strings draft s)) (λ i below. good_instance draft s fit d strings names i (subst (λ n. i < n) (find_instances draft s fit).count below))
