-- Items, serials and texts of an image are within their bounds.
use Rattle.std.proofs.Common.{◌≡◌, ℕ, zero, suc, ◌+◌, ◌<◌, ◌≤◌, Bool, true, false, List, [], ◌∷◌, length, Some, None, sym, subst, refl, arith, cond, nat_eq, nat_le, All}
use Rattle.std.proofs.lemmas.List.Elements.{All-append}
use Rattle.mmv_layout.specs.Fields.{number64, text_at, byte_at}
use Rattle.mmv_layout.specs.declared.rows.Content.{Content}
use Rattle.mmv_layout.specs.declared.rows.Content.TheVariants.{Number, Choice, Raw}
use Rattle.mmv_layout.specs.declared.rows.ValueRow.{ValueRow}
use Rattle.mmv_layout.specs.Sizes.{string_size}
use Rattle.mmv_layout.specs.EntryFields.{item_in_metric, serial_in_metric, serial_in_indom, extra_in_value}
use Rattle.mmv_layout.specs.Entries.{metric_count, metric_at, value_count, value_at, indom_count, indom_at, is_good_metric, has_good_fields, serial_leads, is_no_domain, is_indom_serial, has_serial, is_good_indom}
use Rattle.mmv_layout.specs.Images.{is_image}
use Rattle.mmv_layout.specs.declared.rows.Layout.{Layout}
use Rattle.mmv_layout.proofs.Below.{both_left, both_right}
use Rattle.mmv_layout.specs.Rows.{list_below, metric_row, metrics_of, serial_of, content_of, value_row, values_of, string_text, type_of, layout_of}
use Rattle.mmv_layout.proofs.Goods.{le_of, eq_of, some_at, or_right, good_metric, good_indom}
use Rattle.fetch_answers.specs.Bounds.{FitsSerial, FitsMetric, FitsContent, IsBounded}
use Rattle.fetch_answers.specs.Numbers.{content_at}

-- rows of which each fits all fit
all_rows : {X : Type 0} (P : X → Type 0) (n : ℕ) (row : ℕ → X) → ((i : ℕ) → i < n → P (row i)) → All P (list_below n row)
unfolding list_below
all_rows {X = X} P zero row each = λ k d h. absurd (omega arith)
all_rows {X = X} P (suc n) row each = All-append P (list_below n row) (row n ∷ []) (all_rows P n row (λ i h. each i (omega arith))) (one (row n) (each n (omega arith)))
  where
    one : (x : X) → P x → All P (x ∷ [])
    one x fits zero d h = fits
    one x fits (suc k) d h = absurd (omega arith)

pub text_length : (words : List ℕ) (at n : ℕ) → length (text_at words at n) ≤ n
unfolding text_at
text_length words at zero = omega arith
text_length words at (suc n) = here (nat_eq (byte_at words at) 0) (text_length words (at + 1) n)
  where
    here : (b : Bool) → length (text_at words (at + 1) n) ≤ n → length (cond b [] (byte_at words at ∷ text_at words (at + 1) n)) ≤ suc n
    here true h = omega arith
    here false h = omega arith

item_fits : (words : List ℕ) (i : ℕ) → is_good_metric words i ≡ true → item_in_metric words (metric_at words i) < 1024
unfolding is_good_metric has_good_fields
item_fits words i good =
    let least : item_in_metric words (metric_at words i) ≤ 1023 = le_of (item_in_metric words (metric_at words i)) 1023 (both_right _ _ (both_right _ _ (both_left _ _ good))) in
    omega arith

leads : (words : List ℕ) (i : ℕ) → is_good_metric words i ≡ true → serial_leads words (serial_in_metric words (metric_at words i)) ≡ true
unfolding is_good_metric has_good_fields
leads words i good = both_right _ _ (both_left _ _ (both_left _ _ (both_left _ _ (both_right _ _ (both_left _ _ good)))))

indom_fits : (words : List ℕ) (i : ℕ) → is_good_indom words i ≡ true → serial_in_indom words (indom_at words i) ≤ 1023
unfolding is_good_indom
indom_fits words i good = le_of (serial_in_indom words (indom_at words i)) 1023 (both_right _ _ (both_right _ _ good))

named_fits : (words : List ℕ) (serial : ℕ) → is_image words ≡ true → is_indom_serial words serial ≡ true → serial < 1024
unfolding is_indom_serial has_serial
named_fits words serial h named =
    let (k, below, has) = some_at (indom_count words) (has_serial words serial) named in
    let least : serial_in_indom words (indom_at words k) ≤ 1023 = indom_fits words k (good_indom words k h below) in
    let same : serial_in_indom words (indom_at words k) ≡ serial = eq_of (serial_in_indom words (indom_at words k)) serial has in
    omega arith

serial_fits : (words : List ℕ) (serial : ℕ) → is_image words ≡ true → serial_leads words serial ≡ true → FitsSerial (serial_of serial)
unfolding serial_leads serial_of
serial_fits words serial h leads = here (is_no_domain serial) refl
  where
    here : (b : Bool) → is_no_domain serial ≡ b → FitsSerial (cond b None (Some serial))
    here true e = tt
    here false e = named_fits words serial h (or_right (is_no_domain serial) (is_indom_serial words serial) leads e)

metric_fits : (words : List ℕ) (i : ℕ) → is_image words ≡ true → i < metric_count words → FitsMetric (metric_row words (metric_at words i))
unfolding metric_row
metric_fits words i h below =
    let good : is_good_metric words i ≡ true = good_metric words i h below in
    record { item = item_fits words i good; serial = serial_fits words (serial_in_metric words (metric_at words i)) h (leads words i good) }

content_fits : (words : List ℕ) (value : ℕ) → FitsContent (content_of words value)
unfolding content_of
content_fits words value = here (nat_le (type_of words value) 3) (nat_eq (type_of words value) 6)
  where
    here : (a b : Bool) → FitsContent (cond a (Number (number64 words value)) (cond b (Choice (string_text words (extra_in_value words value))) (Raw (number64 words value) (extra_in_value words value))))
    here true b = tt
    here false true = text_length words (extra_in_value words value) string_size
    here false false = tt

-- the content in a row
pub fits_at : (words : List ℕ) (number : ℕ) (content : Content) → content ≡ content_at words number → FitsContent content
fits_at words number content is = subst FitsContent (sym is) (content_fits words (value_at words number))

metrics_fit : (words : List ℕ) → is_image words ≡ true → All FitsMetric (metrics_of words)
unfolding metrics_of
metrics_fit words h = all_rows FitsMetric (metric_count words) (λ i. metric_row words (metric_at words i)) (λ i below. metric_fits words i h below)

values_fit : (words : List ℕ) → All (λ (row : ValueRow). FitsContent row.content) (values_of words)
unfolding values_of value_row
values_fit words = all_rows (λ (row : ValueRow). FitsContent row.content) (value_count words) (λ i. value_row words (value_at words i)) (λ i below. content_fits words (value_at words i))

pub whole : (words : List ℕ) → is_image words ≡ true → IsBounded (layout_of words)
unfolding layout_of
whole words h = record { metrics = metrics_fit words h; values = values_fit words }

pub bounded : (words : List ℕ) (layout : Layout) → is_image words ≡ true → layout ≡ layout_of words → IsBounded layout
bounded words layout h is = subst IsBounded (sym is) (whole words h)
