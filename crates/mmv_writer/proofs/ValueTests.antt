-- The values of a spelled image are good.
use Rattle.std.proofs.Common.{◌≡◌, ◌≢◌, ℕ, ◌+◌, ◌*◌, ◌<◌, ◌≤◌, ℤ, Bool, true, false, not, ◌&&◌, ◌||◌, List, length, take, ap, ap₂, sym, subst, ◌∙◌, refl, arith, cond, nat_eq, nat_le, Option, Some, None, bytes_eq, true≢false}
use Rattle.std.specs.List.{list_any, slice_get, position_or_len}
use Rattle.std.specs.Ordering.{int_eq}
use Rattle.std.proofs.lemmas.Bool.{eq-eqb, eqb-true, eqb-false}
use Rattle.std.proofs.lemmas.Bool.Decides.{nat_tests, Decides-int_eq}
use Rattle.pcp_base.specs.Codes.{code_of_kind}
use Rattle.pcp_base.specs.declared.kind.Kind.{Kind}
use Rattle.mmv_layout.specs.Fields.{number32, number64}
use Rattle.mmv_layout.specs.Entries.{value_at, value_count, leads_to_indom, leads_to_instance, leads_to_string, metric_of, is_no_domain, instance_leads, choice_leads, is_same_value, is_new_value, is_good_value, values_are_good}
use Rattle.mmv_layout.specs.declared.rows.IndomRow.{IndomRow}
use Rattle.mmv_layout.specs.declared.rows.MetricRow.{MetricRow}
use Rattle.mmv_layout.specs.declared.rows.ValueRow.{ValueRow}
use Rattle.mmv_layout.specs.declared.rows.Content.{Content}
use Rattle.mmv_layout.specs.declared.rows.Content.TheVariants.{Number, Choice, Raw}
use Rattle.mmv_layout.specs.declared.rows.Layout.{Layout}
use Rattle.mmv_layout.proofs.Below.{both_left, both_right}
use Rattle.mmv_writer.specs.Rules.{is_same_metric, has_instance, fits_instance, fits_kind, fits_metric, is_same_number}
use Rattle.mmv_writer.specs.Rules as rules
use Rattle.mmv_writer.specs.Draft.{Each, IsDraft}
use Rattle.mmv_writer.specs.Offsets.{instances_in, counts_of, words_in}
use Rattle.mmv_writer.specs.Spelling.{domain_of, instance_offset, serial_word, value_words, extra_field, serial_in, serial_of, members_in, member_of, instance_field, image_with_strings}
use Rattle.mmv_writer.proofs.Rows.{either_left}
use Rattle.mmv_writer.proofs.Lengths.{instances_same, metrics_same}
use Rattle.mmv_writer.proofs.Sections.{all_hold}
use Rattle.mmv_writer.proofs.Standing.{word_read}
use Rattle.mmv_writer.proofs.Wanted.{HasContent}
use Rattle.mmv_writer.proofs.Positions.{Passes, first_passes, position_is, find_at, get_below, get_some, same_row, before_this}
use Rattle.mmv_writer.proofs.Spelt.{Fits, metrics_from, values_from, offsets, find_values}
use Rattle.mmv_writer.proofs.Marks.{instance_stands, metric_stands, value_is, indom_leads, instance_leads_to, metric_leads, string_leads, stand_value, serial_fits, serial_read, owner_read}
use Rattle.mmv_writer.proofs.MetricTests.{kind_read, metric_serial_read}
use Rattle.mmv_layout.specs.Sizes.{indom_size, instance_size, metric_size}
use Rattle.mmv_layout.specs.EntryFields.{type_offset_in_metric, serial_offset_in_metric, extra_offset_in_value, metric_offset_in_value, instance_offset_in_value}
use Rattle.mmv_writer.specs.Offsets.{metric_length, value_length}

-- where keys differ, the first row with a key is the one that some row with it is
pub only_one : {T : Type 0} (key : T → ℕ) (rest : T → Bool) (n : ℕ) (xs : List T) → ((i j : ℕ) (a b : T) → i < j → slice_get xs i ≡ Some a → slice_get xs j ≡ Some b → nat_eq (key a) (key b) ≡ false) → list_any (λ x. nat_eq (key x) n && rest x) xs ≡ true → Passes xs (position_or_len (λ x. nat_eq (key x) n) xs) (λ x. nat_eq (key x) n && rest x)
only_one key rest n xs apart h =
    let p = first_passes (λ x. nat_eq (key x) n && rest x) xs h in
    let keyed : nat_eq (key p.row) n ≡ true = both_left (nat_eq (key p.row) n) (rest p.row) p.is in
    let at : position_or_len (λ x. nat_eq (key x) n) xs ≡ position_or_len (λ x. nat_eq (key x) n && rest x) xs =
    position_is (λ x. nat_eq (key x) n) xs (position_or_len (λ x. nat_eq (key x) n && rest x) xs) p.row p.at keyed (λ j y less there. ap (nat_eq (key y)) (sym (eqb-true (key p.row) n keyed)) ∙ apart j (position_or_len (λ x. nat_eq (key x) n && rest x) xs) y p.row less there p.at) in
    record { row = p.row; at = ap (slice_get xs) at ∙ p.at; is = p.is }

-- The metric of a value

abbrev pub metric_index : Layout → ℕ → ℕ
metric_index draft item = position_or_len (λ metric. nat_eq metric.item item) draft.metrics

pub metric_found : (draft : Layout) → IsDraft draft → (row : ValueRow) → rules.fits_some_metric draft.indoms draft.metrics row ≡ true → Passes draft.metrics (metric_index draft row.item) (λ metric. fits_metric draft.indoms row metric)
metric_found draft d row h =
    only_one (λ metric. metric.item) (λ metric. fits_instance draft.indoms metric.serial row.instance && fits_kind metric.kind row.content) row.item draft.metrics
    (λ i j a b less at_a at_b. either_left (nat_eq a.item b.item) (bytes_eq a.name b.name) (d.items i j a b less at_a at_b)) h

serial_found : (draft : Layout) (item : ℕ) (metric : MetricRow) → slice_get draft.metrics (metric_index draft item) ≡ Some metric → serial_of draft.metrics item ≡ metric.serial
serial_found draft item metric at = ap serial_in (find_at (λ m. nat_eq m.item item) draft.metrics ∙ at)

-- The instance of a value

pub same_int : (x y : ℤ) → int_eq x y ≡ true → x ≡ y
same_int x y h = grind (arith, Decides-int_eq)

int_same : (x : ℤ) → int_eq x x ≡ true
int_same x = grind (arith, Decides-int_eq)

pub domain_found : (draft : Layout) → IsDraft draft → (serial : ℕ) (id : ℤ) → has_instance draft.indoms serial id ≡ true → Passes draft.indoms (domain_of draft.indoms serial) (λ row. nat_eq row.serial serial && list_any (λ other. int_eq other.0 id) row.instances)
domain_found draft d serial id h = only_one (λ row. row.serial) (λ row. list_any (λ other. int_eq other.0 id) row.instances) serial draft.indoms d.serials h

abbrev pub index_in : IndomRow → ℤ → ℕ
index_in row id = position_or_len (λ other. int_eq other.0 id) row.instances

pub member_found : (draft : Layout) (serial : ℕ) (id : ℤ) (row : IndomRow) → slice_get draft.indoms (domain_of draft.indoms serial) ≡ Some row → member_of draft.indoms serial id ≡ index_in row id
member_found draft serial id row at = ap (λ f. position_or_len (λ other. int_eq other.0 id) (members_in f)) (find_at (λ r. nat_eq r.serial serial) draft.indoms ∙ at)

no_domain : (n : ℕ) → 0 < n → n < 4294967295 → is_no_domain n ≡ false
no_domain n some few = grind (arith, nat_tests)

pub one_at_least : (n : ℕ) → (nat_le 1 n && nat_le n 1023) ≡ true → 0 < n
one_at_least n h = least n (both_left (nat_le 1 n) (nat_le n 1023) h)
  where
    least : (n : ℕ) → nat_le 1 n ≡ true → 0 < n
    least n h = grind (arith, nat_tests)

instance_good : (draft : Layout) (s : List (List ℕ)) → Fits draft s → IsDraft draft → (serial : Option ℕ) (number : Option ℤ) (field shown : ℕ) → fits_instance draft.indoms serial number ≡ true → field ≡ instance_field (offsets draft s) draft.indoms serial number → shown ≡ serial_word serial
    → cond (is_no_domain shown) (nat_eq field 0) (leads_to_instance (image_with_strings draft s) field && (leads_to_indom (image_with_strings draft s) (number64 (image_with_strings draft s) field) && nat_eq (number32 (image_with_strings draft s) (number64 (image_with_strings draft s) field)) shown)) ≡ true
instance_good draft s fit d None None field shown fits is word =
    ap (λ n. cond (is_no_domain n) (nat_eq field 0) (leads_to_instance (image_with_strings draft s) field && (leads_to_indom (image_with_strings draft s) (number64 (image_with_strings draft s) field) && nat_eq (number32 (image_with_strings draft s) (number64 (image_with_strings draft s) field)) n))) word ∙ eq-eqb field 0 is
instance_good draft s fit d None (Some id) field shown fits is word = cc
instance_good draft s fit d (Some serial) None field shown fits is word = cc
instance_good draft s fit d (Some serial) (Some id) field shown fits is word =
    let words : List ℕ = image_with_strings draft s in
    let i : ℕ = domain_of draft.indoms serial in
    let p : Passes draft.indoms (domain_of draft.indoms serial) (λ row. nat_eq row.serial serial && list_any (λ other. int_eq other.0 id) row.instances) = domain_found draft d serial id fits in
    let keyed : p.row.serial ≡ serial = eqb-true p.row.serial serial (both_left (nat_eq p.row.serial serial) (list_any (λ other. int_eq other.0 id) p.row.instances) p.is) in
    let q : Passes p.row.instances (index_in p.row id) (λ other. int_eq other.0 id) = first_passes (λ other. int_eq other.0 id) p.row.instances (both_right (nat_eq p.row.serial serial) (list_any (λ other. int_eq other.0 id) p.row.instances) p.is) in
    let inside : index_in p.row id < length p.row.instances = get_below p.row.instances (index_in p.row id) q.row q.at in
    let below : domain_of draft.indoms serial < length draft.indoms = get_below draft.indoms (domain_of draft.indoms serial) p.row p.at in
    let all : instances_in (take (domain_of draft.indoms serial) draft.indoms) + length p.row.instances ≤ instances_in draft.indoms = before_this draft.indoms (domain_of draft.indoms serial) p.row p.at in
    let offset : field ≡ (offsets draft s).instances + instance_size draft.version * (instances_in (take (domain_of draft.indoms serial) draft.indoms) + index_in p.row id) =
    is ∙ ap (λ k. (offsets draft s).instances + instance_size draft.version * (instances_in (take (domain_of draft.indoms serial) draft.indoms) + k)) (member_found draft serial id p.row p.at) in
    let owner : number64 words field ≡ (offsets draft s).indoms + indom_size * domain_of draft.indoms serial = owner_read draft s d (domain_of draft.indoms serial) (index_in p.row id) field p.row q.row p.at q.at (instance_stands draft s (instances_in (take (domain_of draft.indoms serial) draft.indoms) + index_in p.row id) field offset) in
    let read : number32 words (number64 words field) ≡ p.row.serial = serial_read draft s fit d (domain_of draft.indoms serial) (number64 words field) p.row p.at (omega arith) in
    let fits_serial : p.row.serial ≤ 1023 = serial_fits draft d (domain_of draft.indoms serial) p.row p.at in
    let some : 0 < p.row.serial = one_at_least p.row.serial (d.domains (domain_of draft.indoms serial) p.row p.at).serial in
    ap (λ b. cond b (nat_eq field 0) (leads_to_instance words field && (leads_to_indom words (number64 words field) && nat_eq (number32 words (number64 words field)) shown))) (no_domain shown (omega arith) (omega arith))
    ∙ ap₂ (λ a b. a && b) (instance_leads_to draft s fit (instances_in (take (domain_of draft.indoms serial) draft.indoms) + index_in p.row id) field (omega arith) offset)
    (ap₂ (λ a b. a && b) (indom_leads draft s fit (domain_of draft.indoms serial) (number64 words field) below owner) (eq-eqb (number32 words (number64 words field)) shown (read ∙ keyed ∙ sym word)))

-- The string of a value

not_six : (n : ℕ) → nat_le n 3 ≡ true → not (nat_eq n 6) ≡ true
not_six n h = grind (arith, nat_tests)

not_or : (a b : Bool) → not (a || b) ≡ true → not b ≡ true
not_or true b h = cc
not_or false b h = h

or_true : (b : Bool) → (b || true) ≡ true
or_true true = refl
or_true false = refl

choice_good : (draft : Layout) (s : List (List ℕ)) → Fits draft s → (content : Content) (kind : Kind) (field code : ℕ) → fits_kind kind content ≡ true → HasContent s content → field ≡ extra_field (offsets draft s) s content → code ≡ code_of_kind kind → (not (nat_eq code 6) || leads_to_string (image_with_strings draft s) field) ≡ true
choice_good draft s fit (Number n) kind field code fits has is shown = ap (λ b. b || leads_to_string (image_with_strings draft s) field) (ap (λ n. not (nat_eq n 6)) shown ∙ not_six (code_of_kind kind) fits)
choice_good draft s fit (Choice text) kind field code fits has is shown =
    ap (λ b. not (nat_eq code 6) || b) (ap (leads_to_string (image_with_strings draft s)) is ∙ string_leads draft s fit text has) ∙ or_true (not (nat_eq code 6))
choice_good draft s fit (Raw value extra) kind field code fits has is shown =
    ap (λ b. b || leads_to_string (image_with_strings draft s) field) (ap (λ n. not (nat_eq n 6)) shown ∙ not_or (nat_le (code_of_kind kind) 3) (nat_eq (code_of_kind kind) 6) fits)

-- Fields of a value

pub metric_field : (draft : Layout) (s : List (List ℕ)) (i at : ℕ) (row : ValueRow) → slice_get draft.values i ≡ Some row → at ≡ metric_offset_in_value (8 * (values_from draft s + value_length * i)) → number64 (image_with_strings draft s) at ≡ (offsets draft s).metrics + metric_size draft.version * metric_index draft row.item
unfolding value_words
metric_field draft s i at row here e = word_read (image_with_strings draft s) (values_from draft s + value_length * i) 2 at (value_words (offsets draft s) s draft.indoms draft.metrics row) (stand_value draft s i row here) (omega arith) (omega arith)

pub extra_read : (draft : Layout) (s : List (List ℕ)) (i at : ℕ) (row : ValueRow) → slice_get draft.values i ≡ Some row → at ≡ extra_offset_in_value (8 * (values_from draft s + value_length * i)) → number64 (image_with_strings draft s) at ≡ extra_field (offsets draft s) s row.content
unfolding value_words
extra_read draft s i at row here e = word_read (image_with_strings draft s) (values_from draft s + value_length * i) 1 at (value_words (offsets draft s) s draft.indoms draft.metrics row) (stand_value draft s i row here) (omega arith) (omega arith)

pub instance_read : (draft : Layout) (s : List (List ℕ)) (i at : ℕ) (row : ValueRow) (metric : MetricRow) → slice_get draft.values i ≡ Some row → slice_get draft.metrics (metric_index draft row.item) ≡ Some metric → at ≡ instance_offset_in_value (8 * (values_from draft s + value_length * i)) → number64 (image_with_strings draft s) at ≡ instance_field (offsets draft s) draft.indoms metric.serial row.instance
unfolding value_words
instance_read draft s i at row metric here there e =
    word_read (image_with_strings draft s) (values_from draft s + value_length * i) 3 at (value_words (offsets draft s) s draft.indoms draft.metrics row) (stand_value draft s i row here) (omega arith) (omega arith)
    ∙ ap (λ serial. instance_field (offsets draft s) draft.indoms serial row.instance) (serial_found draft row.item metric there)

-- Two values

isnt : (a b : ℕ) → a ≢ b → nat_eq a b ≡ false
isnt a b h = grind (arith, nat_tests)

fields_differ : (draft : Layout) (s : List (List ℕ)) → IsDraft draft → (serial : Option ℕ) (a b : Option ℤ) → fits_instance draft.indoms serial a ≡ true → fits_instance draft.indoms serial b ≡ true → is_same_number a b ≡ false → nat_eq (instance_field (offsets draft s) draft.indoms serial a) (instance_field (offsets draft s) draft.indoms serial b) ≡ false
fields_differ draft s d None None None fa fb other = cc
fields_differ draft s d None None (Some b) fa fb other = cc
fields_differ draft s d None (Some a) b fa fb other = cc
fields_differ draft s d (Some serial) None b fa fb other = cc
fields_differ draft s d (Some serial) (Some a) None fa fb other = cc
fields_differ draft s d (Some serial) (Some a) (Some b) fa fb other =
    let p : Passes draft.indoms (domain_of draft.indoms serial) (λ row. nat_eq row.serial serial && list_any (λ other. int_eq other.0 a) row.instances) = domain_found draft d serial a fa in
    let q : Passes draft.indoms (domain_of draft.indoms serial) (λ row. nat_eq row.serial serial && list_any (λ other. int_eq other.0 b) row.instances) = domain_found draft d serial b fb in
    let one : p.row ≡ q.row = same_row draft.indoms (domain_of draft.indoms serial) p.row q.row p.at q.at in
    let x : Passes p.row.instances (index_in p.row a) (λ other. int_eq other.0 a) = first_passes (λ other. int_eq other.0 a) p.row.instances (both_right (nat_eq p.row.serial serial) (list_any (λ other. int_eq other.0 a) p.row.instances) p.is) in
    let y : Passes q.row.instances (index_in q.row b) (λ other. int_eq other.0 b) = first_passes (λ other. int_eq other.0 b) q.row.instances (both_right (nat_eq q.row.serial serial) (list_any (λ other. int_eq other.0 b) q.row.instances) q.is) in
    let places_differ : index_in p.row a ≢ index_in q.row b = λ e.
    let same : x.row ≡ y.row = same_row q.row.instances (index_in q.row b) x.row y.row (ap (slice_get q.row.instances) (sym e) ∙ ap (λ r. slice_get r.instances (index_in p.row a)) (sym one) ∙ x.at) y.at in
    let equal : a ≡ b = sym (same_int x.row.0 a x.is) ∙ ap (λ z. z.0) same ∙ same_int y.row.0 b y.is in
    true≢false (sym (ap (int_eq a) (sym equal) ∙ int_same a) ∙ other) in
    ap₂ nat_eq (ap (λ k. instance_offset (offsets draft s) draft.indoms serial k) (member_found draft serial a p.row p.at)) (ap (λ k. instance_offset (offsets draft s) draft.indoms serial k) (member_found draft serial b q.row q.at))
    ∙ isnt _ _ (apart (offsets draft s).instances draft.version (instances_in (take (domain_of draft.indoms serial) draft.indoms)) (index_in p.row a) (index_in q.row b) places_differ)
  where
    apart : (p version t a b : ℕ) → a ≢ b → p + instance_size version * (t + a) ≢ p + instance_size version * (t + b)
    apart p version t a b h e = let same : t + a ≡ t + b = instances_same version p (t + a) (t + b) e in h (omega arith)

and_false : (b : Bool) → (b && false) ≡ false
and_false true = refl
and_false false = refl

other_value : (draft : Layout) (s : List (List ℕ)) → IsDraft draft → (j i at_a at_b : ℕ) (a b : ValueRow) → slice_get draft.values j ≡ Some a → slice_get draft.values i ≡ Some b → j < i → at_a ≡ 8 * (values_from draft s + value_length * j) → at_b ≡ 8 * (values_from draft s + value_length * i) → is_same_value (image_with_strings draft s) at_a at_b ≡ false
unfolding is_same_value
other_value draft s d j i at_a at_b a b here_a here_b less ea eb = here (nat_eq a.item b.item) refl (d.places j i a b less here_a here_b)
  where
    p : Passes draft.metrics (metric_index draft a.item) (λ metric. fits_metric draft.indoms a metric)
    p = metric_found draft d a (d.values j a here_a).metric

    q : Passes draft.metrics (metric_index draft b.item) (λ metric. fits_metric draft.indoms b metric)
    q = metric_found draft d b (d.values i b here_b).metric

    item_p : p.row.item ≡ a.item
    item_p = eqb-true p.row.item a.item (both_left (nat_eq p.row.item a.item) (fits_instance draft.indoms p.row.serial a.instance && fits_kind p.row.kind a.content) p.is)

    item_q : q.row.item ≡ b.item
    item_q = eqb-true q.row.item b.item (both_left (nat_eq q.row.item b.item) (fits_instance draft.indoms q.row.serial b.instance && fits_kind q.row.kind b.content) q.is)

    fits_p : fits_instance draft.indoms p.row.serial a.instance ≡ true
    fits_p = both_left (fits_instance draft.indoms p.row.serial a.instance) (fits_kind p.row.kind a.content) (both_right (nat_eq p.row.item a.item) (fits_instance draft.indoms p.row.serial a.instance && fits_kind p.row.kind a.content) p.is)

    fits_q : fits_instance draft.indoms q.row.serial b.instance ≡ true
    fits_q = both_left (fits_instance draft.indoms q.row.serial b.instance) (fits_kind q.row.kind b.content) (both_right (nat_eq q.row.item b.item) (fits_instance draft.indoms q.row.serial b.instance && fits_kind q.row.kind b.content) q.is)

    apart : (p a b : ℕ) → a ≢ b → p + metric_size draft.version * a ≢ p + metric_size draft.version * b
    apart p a b h e = h (metrics_same draft.version p a b e)

    here : (t : Bool) → nat_eq a.item b.item ≡ t → (t && is_same_number a.instance b.instance) ≡ false → (nat_eq (number64 (image_with_strings draft s) (metric_offset_in_value at_a)) (number64 (image_with_strings draft s) (metric_offset_in_value at_b)) && nat_eq (number64 (image_with_strings draft s) (instance_offset_in_value at_a)) (number64 (image_with_strings draft s) (instance_offset_in_value at_b))) ≡ false
    here true e other =
        let items : a.item ≡ b.item = eqb-true a.item b.item e in
        let one : p.row ≡ q.row = same_row draft.metrics (metric_index draft b.item) p.row q.row (ap (λ n. slice_get draft.metrics (metric_index draft n)) (sym items) ∙ p.at) q.at in
        ap (λ t. nat_eq (number64 (image_with_strings draft s) (metric_offset_in_value at_a)) (number64 (image_with_strings draft s) (metric_offset_in_value at_b)) && t)
        (ap₂ nat_eq (instance_read draft s j (instance_offset_in_value at_a) a p.row here_a p.at (ap instance_offset_in_value ea)) (instance_read draft s i (instance_offset_in_value at_b) b q.row here_b q.at (ap instance_offset_in_value eb) ∙ ap (λ r. instance_field (offsets draft s) draft.indoms r.serial b.instance) (sym one))
        ∙ fields_differ draft s d p.row.serial a.instance b.instance fits_p (ap (λ r. fits_instance draft.indoms r.serial b.instance) one ∙ fits_q) other)
        ∙ and_false (nat_eq (number64 (image_with_strings draft s) (metric_offset_in_value at_a)) (number64 (image_with_strings draft s) (metric_offset_in_value at_b)))
    here false e other =
        let indexes : metric_index draft a.item ≢ metric_index draft b.item = λ same.
        let one : p.row ≡ q.row = same_row draft.metrics (metric_index draft b.item) p.row q.row (ap (slice_get draft.metrics) (sym same) ∙ p.at) q.at in
        eqb-false a.item b.item e (sym item_p ∙ ap (λ r. r.item) one ∙ item_q) in
        ap (λ t. t && nat_eq (number64 (image_with_strings draft s) (instance_offset_in_value at_a)) (number64 (image_with_strings draft s) (instance_offset_in_value at_b)))
        (ap₂ nat_eq (metric_field draft s j (metric_offset_in_value at_a) a here_a (ap metric_offset_in_value ea)) (metric_field draft s i (metric_offset_in_value at_b) b here_b (ap metric_offset_in_value eb))
        ∙ isnt _ _ (apart (offsets draft s).metrics (metric_index draft a.item) (metric_index draft b.item) indexes))

good_value : (draft : Layout) (s : List (List ℕ)) → Fits draft s → IsDraft draft → Each (λ row. HasContent s row.content) draft.values → (i : ℕ) → i < length draft.values → is_good_value (image_with_strings draft s) i ≡ true
unfolding is_good_value instance_leads choice_leads is_new_value metric_of
good_value draft s fit d texts i below =
    let words : List ℕ = image_with_strings draft s in
    let (row, here) = get_some draft.values i below in
    let offset : value_at words i ≡ 8 * (values_from draft s + value_length * i) = value_is draft s fit i below in
    let p : Passes draft.metrics (metric_index draft row.item) (λ metric. fits_metric draft.indoms row metric) = metric_found draft d row (d.values i row here).metric in
    let fits : (fits_instance draft.indoms p.row.serial row.instance && fits_kind p.row.kind row.content) ≡ true = both_right (nat_eq p.row.item row.item) (fits_instance draft.indoms p.row.serial row.instance && fits_kind p.row.kind row.content) p.is in
    let inside : metric_index draft row.item < length draft.metrics = get_below draft.metrics (metric_index draft row.item) p.row p.at in
    let metric : number64 words (metric_offset_in_value (value_at words i)) ≡ (offsets draft s).metrics + metric_size draft.version * metric_index draft row.item = metric_field draft s i (metric_offset_in_value (value_at words i)) row here (ap metric_offset_in_value offset) in
    let stands : number64 words (metric_offset_in_value (value_at words i)) ≡ 8 * (metrics_from draft s + metric_length draft.version * metric_index draft row.item) = metric_stands draft s (metric_index draft row.item) (number64 words (metric_offset_in_value (value_at words i))) metric in
    let kind : number32 words (type_offset_in_metric words (number64 words (metric_offset_in_value (value_at words i)))) ≡ code_of_kind p.row.kind = kind_read draft s fit d (metric_index draft row.item) (type_offset_in_metric words (number64 words (metric_offset_in_value (value_at words i)))) p.row p.at (ap (type_offset_in_metric words) stands) in
    let serial : number32 words (serial_offset_in_metric words (number64 words (metric_offset_in_value (value_at words i)))) ≡ serial_word p.row.serial = metric_serial_read draft s fit d (metric_index draft row.item) (serial_offset_in_metric words (number64 words (metric_offset_in_value (value_at words i)))) p.row p.at (ap (serial_offset_in_metric words) stands) in
    ap₂ (λ a b. a && b) (ap₂ (λ a b. a && b) (ap₂ (λ a b. a && b)
    (metric_leads draft s fit (metric_index draft row.item) (number64 words (metric_offset_in_value (value_at words i))) inside metric)
    (instance_good draft s fit d p.row.serial row.instance (number64 words (instance_offset_in_value (value_at words i))) (number32 words (serial_offset_in_metric words (number64 words (metric_offset_in_value (value_at words i))))) (both_left (fits_instance draft.indoms p.row.serial row.instance) (fits_kind p.row.kind row.content) fits)
    (instance_read draft s i (instance_offset_in_value (value_at words i)) row p.row here p.at (ap instance_offset_in_value offset)) serial))
    (choice_good draft s fit row.content p.row.kind (number64 words (extra_offset_in_value (value_at words i))) (number32 words (type_offset_in_metric words (number64 words (metric_offset_in_value (value_at words i))))) (both_right (fits_instance draft.indoms p.row.serial row.instance) (fits_kind p.row.kind row.content) fits) (texts i row here)
    (extra_read draft s i (extra_offset_in_value (value_at words i)) row here (ap extra_offset_in_value offset)) kind))
    (all_hold i (λ j. not (is_same_value words (value_at words j) (value_at words i))) (λ j less.
    let (other, there) = get_some draft.values j (omega arith) in
    ap not (other_value draft s d j i (value_at words j) (value_at words i) other row there here less (value_is draft s fit j (omega arith)) offset)))

pub good_values : (draft : Layout) (s : List (List ℕ)) → Fits draft s → IsDraft draft → Each (λ row. HasContent s row.content) draft.values → values_are_good (image_with_strings draft s) ≡ true
unfolding values_are_good
good_values draft s fit d texts =
    all_hold (value_count (image_with_strings draft s)) (is_good_value (image_with_strings draft s)) (λ i below. good_value draft s fit d texts i (subst (λ n. i < n) (find_values draft s fit).count below))
