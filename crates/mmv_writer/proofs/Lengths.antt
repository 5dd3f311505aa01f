-- How many words a spelled image has.
use Rattle.std.proofs.Common.{◌≡◌, ℕ, zero, suc, ◌+◌, ◌*◌, ◌/◌, ◌<◌, ◌≤◌, ℤ, Bool, true, false, List, [], ◌∷◌, ◌++◌, length, drop, ap, ap₂, sym, ◌∙◌, refl, arith, cond, min, sum_by, nat_eq, length-append}
use Rattle.std.specs.List.{flat_map}
use Rattle.std.proofs.lemmas.List.Sums.{sum_by-cons}
use Rattle.std.proofs.lemmas.Bool.Decides.{nat_tests}
use Rattle.mmv_layout.specs.Fields.{first_words}
use Rattle.mmv_layout.specs.Sizes.{has_inline_names, name_width, instance_size, metric_size}
use Rattle.mmv_layout.specs.declared.rows.IndomRow.{IndomRow}
use Rattle.mmv_layout.specs.declared.rows.MetricRow.{MetricRow}
use Rattle.mmv_layout.specs.declared.rows.ValueRow.{ValueRow}
use Rattle.mmv_layout.specs.declared.rows.Layout.{Layout}
use Rattle.mmv_writer.specs.declared.offsets.Counts.{Counts}
use Rattle.mmv_writer.specs.declared.offsets.SectionOffsets.{SectionOffsets}
use Rattle.mmv_writer.specs.Offsets.{instances_in, counts_of, one_if_some, sections_in, section_offsets, words_in, AreSmall}
use Rattle.mmv_writer.specs.Spelling.{string_offset, header_words, entry_words, contents_words, domain_offset, domain_words, name_words, instance_words, metric_words, value_words, domain_section, instance_section, metric_section, value_section, string_section, sections_words, image_with_strings}
use Rattle.mmv_writer.specs.Offsets.{name_length, indom_length, instance_length, metric_length, value_length, string_length}

pub length_first : (n : ℕ) (bytes : List ℕ) → length (first_words n bytes) ≡ n
unfolding first_words
length_first zero bytes = refl
length_first (suc n) bytes = let rest : length (first_words n (drop 8 bytes)) ≡ n = length_first n (drop 8 bytes) in omega arith

-- entries of one size
pub length_even : {T : Type 0} (f : T → List ℕ) (size : ℕ) → ((x : T) → length (f x) ≡ size) → (xs : List T) → length (flat_map f xs) ≡ size * length xs
length_even f size one [] = omega arith
length_even f size one (x ∷ xs) =
    let first : length (f x) ≡ size = one x in
    let rest : length (flat_map f xs) ≡ size * length xs = length_even f size one xs in
    let both : length (f x ++ flat_map f xs) ≡ length (f x) + length (flat_map f xs) = length-append (f x) (flat_map f xs) in
    grind arith

-- groups of entries of one size
pub length_groups : {T : Type 0} (f : T → List ℕ) (g : T → ℕ) (size : ℕ) → ((x : T) → length (f x) ≡ size * g x) → (xs : List T) → length (flat_map f xs) ≡ size * sum_by g xs
length_groups f g size one [] = omega arith
length_groups f g size one (x ∷ xs) =
    let first : length (f x) ≡ size * g x = one x in
    let rest : length (flat_map f xs) ≡ size * sum_by g xs = length_groups f g size one xs in
    let both : length (f x ++ flat_map f xs) ≡ length (f x) + length (flat_map f xs) = length-append (f x) (flat_map f xs) in
    let sums : sum_by g (x ∷ xs) ≡ g x + sum_by g xs = sum_by-cons g x xs in
    both ∙ ap₂ (λ a b. a + b) first rest ∙ spread size (g x) (sum_by g xs) ∙ ap (λ n. size * n) (sym sums)
  where
    spread : (s a b : ℕ) → s * a + s * b ≡ s * (a + b)
    spread s a b = grind arith

pub length_domain : (p : SectionOffsets) (s : List (List ℕ)) (ix : List IndomRow) (row : IndomRow) → length (domain_words p s ix row) ≡ indom_length
unfolding domain_words
length_domain p s ix row = refl

-- a name field of either version
pub length_name : (p : SectionOffsets) (s : List (List ℕ)) (name : List ℕ) → length (name_words p s name) ≡ name_length p.version
unfolding name_words name_width
length_name p s name = here (has_inline_names p.version)
  where
    here : (inline : Bool) → length (cond inline (first_words (cond inline 64 8 / 8) name) (string_offset p s name ∷ [])) ≡ cond inline 64 8 / 8
    here true = length_first 8 name
    here false = refl

pub length_instance : (p : SectionOffsets) (s : List (List ℕ)) (d : ℕ) (i : ℤ × List ℕ) → length (instance_words p s d i) ≡ instance_length p.version
unfolding instance_words
length_instance p s d i = let n : length (name_words p s i.1) ≡ name_length p.version = length_name p s i.1 in omega arith

pub length_metric : (p : SectionOffsets) (s : List (List ℕ)) (row : MetricRow) → length (metric_words p s row) ≡ metric_length p.version
unfolding metric_words
length_metric p s row = length-append (name_words p s row.name) _ ∙ ap (λ n. n + 5) (length_name p s row.name) ∙ behind (name_width p.version)
  where
    behind : (w : ℕ) → w / 8 + 5 ≡ (w + 40) / 8
    behind w = omega arith

pub length_value : (p : SectionOffsets) (s : List (List ℕ)) (ix : List IndomRow) (ms : List MetricRow) (row : ValueRow) → length (value_words p s ix ms row) ≡ value_length
unfolding value_words
length_value p s ix ms row = refl

pub length_domains : (p : SectionOffsets) (s : List (List ℕ)) (ix : List IndomRow) → length (domain_section p s ix) ≡ indom_length * length ix
unfolding domain_section
length_domains p s ix = length_even (domain_words p s ix) indom_length (length_domain p s ix) ix

pub length_instances : (p : SectionOffsets) (s : List (List ℕ)) (ix : List IndomRow) → length (instance_section p s ix) ≡ instance_length p.version * instances_in ix
unfolding instance_section
length_instances p s ix =
    length_groups (λ row. flat_map (λ instance. instance_words p s (domain_offset p ix row.serial) instance) row.instances) (λ row. length row.instances) (instance_length p.version)
    (λ row. length_even (instance_words p s (domain_offset p ix row.serial)) (instance_length p.version) (length_instance p s (domain_offset p ix row.serial)) row.instances) ix

pub length_metrics : (p : SectionOffsets) (s : List (List ℕ)) (ms : List MetricRow) → length (metric_section p s ms) ≡ metric_length p.version * length ms
unfolding metric_section
length_metrics p s ms = length_even (metric_words p s) (metric_length p.version) (length_metric p s) ms

pub length_values : (p : SectionOffsets) (s : List (List ℕ)) (ix : List IndomRow) (ms : List MetricRow) (vs : List ValueRow) → length (value_section p s ix ms vs) ≡ value_length * length vs
unfolding value_section
length_values p s ix ms vs = length_even (value_words p s ix ms) value_length (length_value p s ix ms) vs

pub length_strings : (s : List (List ℕ)) → length (string_section s) ≡ string_length * length s
unfolding string_section
length_strings s = length_even (first_words string_length) string_length (length_first string_length) s

length_entry : (type count offset : ℕ) → length (entry_words type count offset) ≡ 2 * one_if_some count
length_entry type count offset = here (nat_eq count 0)
  where
    here : (b : Bool) → length (cond b [] ((type + 4294967296 * count) ∷ offset ∷ [])) ≡ 2 * cond b 0 1
    here true = refl
    here false = refl

joined : (xs ys : List ℕ) (m n : ℕ) → length xs ≡ m → length ys ≡ n → length (xs ++ ys) ≡ m + n
joined xs ys m n e f = length-append xs ys ∙ ap₂ (λ a b. a + b) e f

pub length_contents : (c : Counts) (p : SectionOffsets) → length (contents_words c p) ≡ 2 * sections_in c
unfolding contents_words sections_in
length_contents c p =
    joined (entry_words 1 c.indoms p.indoms) _ _ _ (length_entry 1 c.indoms p.indoms)
    (joined (entry_words 2 c.instances p.instances) _ _ _ (length_entry 2 c.instances p.instances)
    (joined (entry_words 3 c.metrics p.metrics) _ _ _ (length_entry 3 c.metrics p.metrics)
    (joined (entry_words 4 c.values p.values) (entry_words 5 c.strings p.strings) _ _ (length_entry 4 c.values p.values) (length_entry 5 c.strings p.strings))))
    ∙ spread (one_if_some c.indoms) (one_if_some c.instances) (one_if_some c.metrics) (one_if_some c.values) (one_if_some c.strings)
  where
    spread : (a b c d e : ℕ) → 2 * a + (2 * b + (2 * c + (2 * d + 2 * e))) ≡ 2 * (a + b + c + d + e)
    spread a b c d e = omega arith

pub length_sections : (draft : Layout) (s : List (List ℕ)) (p : SectionOffsets) → length (sections_words draft s p) ≡ indom_length * length draft.indoms + (instance_length p.version * instances_in draft.indoms + (metric_length p.version * length draft.metrics + (value_length * length draft.values + string_length * length s)))
unfolding sections_words
length_sections draft s p =
    joined (domain_section p s draft.indoms) _ _ _ (length_domains p s draft.indoms)
    (joined (instance_section p s draft.indoms) _ _ _ (length_instances p s draft.indoms)
    (joined (metric_section p s draft.metrics) _ _ _ (length_metrics p s draft.metrics)
    (joined (value_section p s draft.indoms draft.metrics draft.values) (string_section s) _ _ (length_values p s draft.indoms draft.metrics draft.values) (length_strings s))))

pub length_header : (draft : Layout) (n : ℕ) → length (header_words draft n) ≡ 5
unfolding header_words
length_header draft n = refl

pub length_spelled : (draft : Layout) (s : List (List ℕ)) → length (image_with_strings draft s) ≡ words_in (counts_of draft s)
unfolding image_with_strings
length_spelled draft s =
    let c : Counts = counts_of draft s in
    joined (header_words draft (sections_in c)) _ _ _ (length_header draft (sections_in c))
    (joined (contents_words c (section_offsets c)) (sections_words draft s (section_offsets c)) _ _ (length_contents c (section_offsets c)) (length_sections draft s (section_offsets c)))
    ∙ spread (sections_in c) (length draft.indoms) (instance_length draft.version * instances_in draft.indoms) (metric_length draft.version * length draft.metrics) (length draft.values) (length s)
  where
    spread : (n d i m v t : ℕ) → 5 + (2 * n + (indom_length * d + (i + (m + (value_length * v + string_length * t))))) ≡ 5 + 2 * n + indom_length * d + i + m + value_length * v + string_length * t
    spread n d i m v t = omega arith

-- Sizes are whole words

pub name_wide : (version : ℕ) → name_width version ≡ 8 * name_length version
unfolding name_width
name_wide version = here (has_inline_names version)
  where
    here : (inline : Bool) → cond inline 64 8 ≡ 8 * (cond inline 64 8 / 8)
    here true = refl
    here false = refl

pub instance_wide : (version k : ℕ) → instance_size version * k ≡ 8 * (instance_length version * k)
unfolding name_width
instance_wide version k = here (has_inline_names version)
  where
    here : (inline : Bool) → (16 + cond inline 64 8) * k ≡ 8 * ((16 + cond inline 64 8) / 8 * k)
    here true = omega arith
    here false = omega arith

pub metric_wide : (version k : ℕ) → metric_size version * k ≡ 8 * (metric_length version * k)
unfolding name_width
metric_wide version k = here (has_inline_names version)
  where
    here : (inline : Bool) → (cond inline 64 8 + 40) * k ≡ 8 * ((cond inline 64 8 + 40) / 8 * k)
    here true = omega arith
    here false = omega arith

-- an instance, and a metric, takes some words
pub instances_fit : (version k : ℕ) → k ≤ instance_length version * k
unfolding name_width
instances_fit version k = here (has_inline_names version)
  where
    here : (inline : Bool) → k ≤ (16 + cond inline 64 8) / 8 * k
    here true = omega arith
    here false = omega arith

pub metrics_fit : (version k : ℕ) → k ≤ metric_length version * k
unfolding name_width
metrics_fit version k = here (has_inline_names version)
  where
    here : (inline : Bool) → k ≤ (cond inline 64 8 + 40) / 8 * k
    here true = omega arith
    here false = omega arith

-- and so entries at one offset are one

pub instances_same : (version p a b : ℕ) → p + instance_size version * a ≡ p + instance_size version * b → a ≡ b
unfolding name_width
instances_same version p a b e = here (has_inline_names version) e
  where
    here : (inline : Bool) → p + (16 + cond inline 64 8) * a ≡ p + (16 + cond inline 64 8) * b → a ≡ b
    here true e = omega arith
    here false e = omega arith

pub metrics_same : (version p a b : ℕ) → p + metric_size version * a ≡ p + metric_size version * b → a ≡ b
unfolding name_width
metrics_same version p a b e = here (has_inline_names version) e
  where
    here : (inline : Bool) → p + (cond inline 64 8 + 40) * a ≡ p + (cond inline 64 8 + 40) * b → a ≡ b
    here true e = omega arith
    here false e = omega arith

-- entries keep their order
pub instances_in_order : (version start first k l m n : ℕ) → k < l → first + instance_size version * k ≡ start + instance_size version * m → first + instance_size version * l ≡ start + instance_size version * n → m < n
unfolding name_width
instances_in_order version start first k l m n less e f = here (has_inline_names version) e f
  where
    here : (inline : Bool) → first + (16 + cond inline 64 8) * k ≡ start + (16 + cond inline 64 8) * m → first + (16 + cond inline 64 8) * l ≡ start + (16 + cond inline 64 8) * n → m < n
    here true e f = omega arith
    here false e f = omega arith

-- Counts that stop at 2^64 - 1

pub sections_most : (c : Counts) → sections_in c ≤ 5
unfolding sections_in
sections_most c = sum5 (nat_eq c.indoms 0) (nat_eq c.instances 0) (nat_eq c.metrics 0) (nat_eq c.values 0) (nat_eq c.strings 0)
  where
    one : (b : Bool) → cond b 0 1 ≤ 1
    one true = omega arith
    one false = omega arith

    sum5 : (a b c d e : Bool) → cond a 0 1 + cond b 0 1 + cond c 0 1 + cond d 0 1 + cond e 0 1 ≤ 5
    sum5 a b c d e = omega (arith, one a, one b, one c, one d, one e)

is_some_stopped : (i : ℕ) → one_if_some (min i 18446744073709551615) ≡ one_if_some i
is_some_stopped zero = refl
is_some_stopped (suc i) = ap (λ b. cond b 0 1) (isnt (min (suc i) 18446744073709551615) (omega arith) ∙ sym (isnt (suc i) (omega arith)))
  where
    isnt : (n : ℕ) → 0 < n → nat_eq n 0 ≡ false
    isnt n h = grind (arith, nat_tests)

sections_stopped : (c : Counts) → sections_in (record c { instances = min c.instances 18446744073709551615 }) ≡ sections_in c
unfolding sections_in
sections_stopped c = ap (λ n. one_if_some c.indoms + n + one_if_some c.metrics + one_if_some c.values + one_if_some c.strings) (is_some_stopped c.instances)

stopped : (a version i m v t : ℕ) → min (a + instance_length version * min i 18446744073709551615 + m + value_length * v + string_length * t) 18446744073709551615 ≡ min (a + instance_length version * i + m + value_length * v + string_length * t) 18446744073709551615
unfolding name_width
stopped a version i m v t = here (has_inline_names version)
  where
    here : (inline : Bool) → min (a + (16 + cond inline 64 8) / 8 * min i 18446744073709551615 + m + value_length * v + string_length * t) 18446744073709551615 ≡ min (a + (16 + cond inline 64 8) / 8 * i + m + value_length * v + string_length * t) 18446744073709551615
    here true = omega arith
    here false = omega arith

pub counted_words : (draft : Layout) (s : List (List ℕ)) → min (words_in (record (counts_of draft s) { instances = min (instances_in draft.indoms) 18446744073709551615 })) 18446744073709551615 ≡ min (words_in (counts_of draft s)) 18446744073709551615
counted_words draft s =
    ap (λ n. min (5 + 2 * n + indom_length * length draft.indoms + instance_length draft.version * min (instances_in draft.indoms) 18446744073709551615 + metric_length draft.version * length draft.metrics + value_length * length draft.values + string_length * length s) 18446744073709551615) (sections_stopped (counts_of draft s))
    ∙ stopped (5 + 2 * sections_in (counts_of draft s) + indom_length * length draft.indoms) draft.version (instances_in draft.indoms) (metric_length draft.version * length draft.metrics) (length draft.values) (length s)

pub counted_exactly : (draft : Layout) (s : List (List ℕ)) → words_in (counts_of draft s) ≤ 65536 → record (counts_of draft s) { instances = min (instances_in draft.indoms) 18446744073709551615 } ≡ counts_of draft s
counted_exactly draft s h =
    let fit : instances_in draft.indoms ≤ instance_length draft.version * instances_in draft.indoms = instances_fit draft.version (instances_in draft.indoms) in
    let few : instances_in draft.indoms ≤ 65536 = omega arith in
    let same : min (instances_in draft.indoms) 18446744073709551615 ≡ instances_in draft.indoms = omega arith in
    ap (λ n. record (counts_of draft s) { instances = n }) same

pub small_offsets : (c : Counts) → words_in c ≤ 65536 → AreSmall (section_offsets c)
small_offsets c h =
    let n : sections_in c ≤ 5 = sections_most c in
    let i : instance_size c.version * c.instances ≡ 8 * (instance_length c.version * c.instances) = instance_wide c.version c.instances in
    let m : metric_size c.version * c.metrics ≡ 8 * (metric_length c.version * c.metrics) = metric_wide c.version c.metrics in
    record { indoms = omega arith; instances = omega arith; metrics = omega arith; values = omega arith; strings = omega arith }
