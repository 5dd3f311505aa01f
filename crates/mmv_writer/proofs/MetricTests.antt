-- The metrics, the values and the strings of a spelled image are good.
use Rattle.std.proofs.Common.{◌≡◌, ℕ, ◌+◌, ◌*◌, ◌<◌, ◌≤◌, Bool, true, false, not, ◌&&◌, ◌||◌, List, [], ◌∷◌, length, ap, ap₂, sym, subst, ◌∙◌, refl, arith, nat_eq, nat_le, nat_lt, Option, Some, None, bytes_eq}
use Rattle.std.specs.List.{slice_get}
use Rattle.std.proofs.lemmas.Bool.{eqb-true}
use Rattle.std.proofs.lemmas.Bool.Decides.{nat_tests}
use Rattle.pcp_base.specs.Codes.{code_of_kind, code_of_semantics}
use Rattle.pcp_base.specs.Names.{spells}
use Rattle.pcp_base.specs.declared.kind.Kind.{Kind}
use Rattle.pcp_base.specs.declared.kind.Kind.TheVariants as kinds
use Rattle.pcp_base.specs.declared.kind.Semantics.{Semantics}
use Rattle.pcp_base.specs.declared.kind.Semantics.TheVariants as meanings
use Rattle.mmv_layout.specs.Fields.{number32, first_words}
use Rattle.mmv_layout.specs.Sizes.{name_width}
use Rattle.mmv_layout.specs.Contents.{version_in}
use Rattle.mmv_layout.specs.EntryFields.{name_text, same_name}
use Rattle.mmv_layout.specs.Entries.{indom_at, indom_count, metric_at, metric_count, string_at, string_count, help_leads, has_serial, name_leads, has_name, is_kind, is_semantics, is_no_domain, is_indom_serial, serial_leads, is_same_metric, is_new_metric, is_item, has_good_fields, is_good_metric, is_good_string, metrics_are_good, strings_are_good}
use Rattle.mmv_layout.specs.declared.rows.MetricRow.{MetricRow}
use Rattle.mmv_layout.specs.declared.rows.Layout.{Layout}
use Rattle.mmv_layout.proofs.Below.{both_left, both_right, some_holds}
use Rattle.mmv_writer.specs.Rules.{is_short_name, has_domain}
use Rattle.mmv_writer.specs.Draft.{Each, HasDomain, IsMetric, IsString, IsDraft}
use Rattle.mmv_writer.specs.Offsets.{counts_of, words_in}
use Rattle.mmv_writer.specs.Spelling.{halves, help_offset, domain_of, serial_word, name_words, metric_words, image_with_strings}
use Rattle.mmv_writer.proofs.Sections.{all_hold}
use Rattle.mmv_writer.proofs.Standing.{Stands, stands_left, stands_right, word_read, low_read, high_read, zero_read}
use Rattle.mmv_writer.proofs.Wanted.{HasHelp, HasName}
use Rattle.mmv_writer.proofs.Lengths.{length_name}
use Rattle.mmv_writer.proofs.Names.{fits_string, ReadsName, name_read, name_good}
use Rattle.mmv_writer.proofs.Positions.{Passes, first_passes, get_below, get_some}
use Rattle.mmv_writer.proofs.Spelt.{Fits, metrics_from, strings_from, offsets, find_indoms, find_metrics, find_strings}
use Rattle.mmv_writer.proofs.Marks.{name_field, indom_is, metric_is, string_is, help_good, stand_metric, stand_string, serial_fits, serial_read}
use Rattle.mmv_layout.specs.EntryFields.{item_offset_in_metric, type_offset_in_metric, semantics_offset_in_metric, serial_offset_in_metric, short_offset_in_metric, long_offset_in_metric}
use Rattle.mmv_writer.specs.Offsets.{name_length, metric_length, string_length}

-- The words of a metric behind its name

abbrev pub fields_of : Layout → List (List ℕ) → MetricRow → List ℕ
fields_of draft s row =
    halves row.item (code_of_kind row.kind) ∷ halves (code_of_semantics row.semantics) row.units ∷ serial_word row.serial
    ∷ help_offset (offsets draft s) s row.short ∷ help_offset (offsets draft s) s row.long ∷ []

stand_name : (draft : Layout) (s : List (List ℕ)) (i : ℕ) (row : MetricRow) → slice_get draft.metrics i ≡ Some row → Stands (image_with_strings draft s) (metrics_from draft s + metric_length draft.version * i) (name_words (offsets draft s) s row.name)
unfolding metric_words
stand_name draft s i row here = stands_left (image_with_strings draft s) (metrics_from draft s + metric_length draft.version * i) (name_words (offsets draft s) s row.name) (fields_of draft s row) (stand_metric draft s i row here)

pub stand_fields : (draft : Layout) (s : List (List ℕ)) (i : ℕ) (row : MetricRow) → slice_get draft.metrics i ≡ Some row → Stands (image_with_strings draft s) (metrics_from draft s + metric_length draft.version * i + name_length draft.version) (fields_of draft s row)
unfolding metric_words
stand_fields draft s i row here =
    stands_right (image_with_strings draft s) (metrics_from draft s + metric_length draft.version * i) (metrics_from draft s + metric_length draft.version * i + name_length draft.version) (name_words (offsets draft s) s row.name) (fields_of draft s row)
    (ap (λ n. metrics_from draft s + metric_length draft.version * i + n) (sym (length_name (offsets draft s) s row.name))) (stand_metric draft s i row here)

kind_fits : (k : Kind) → code_of_kind k < 10
kind_fits kinds.I32 = omega arith
kind_fits kinds.U32 = omega arith
kind_fits kinds.I64 = omega arith
kind_fits kinds.U64 = omega arith
kind_fits kinds.Float = omega arith
kind_fits kinds.Double = omega arith
kind_fits kinds.Text = omega arith
kind_fits kinds.Elapsed = omega arith

kind_known : (k : Kind) → is_kind (code_of_kind k) ≡ true
kind_known kinds.I32 = refl
kind_known kinds.U32 = refl
kind_known kinds.I64 = refl
kind_known kinds.U64 = refl
kind_known kinds.Float = refl
kind_known kinds.Double = refl
kind_known kinds.Text = refl
kind_known kinds.Elapsed = refl

pub meaning_fits : (m : Semantics) → code_of_semantics m < 5
meaning_fits meanings.Counter = omega arith
meaning_fits meanings.Instant = omega arith
meaning_fits meanings.Discrete = omega arith

meaning_known : (m : Semantics) → is_semantics (code_of_semantics m) ≡ true
meaning_known meanings.Counter = refl
meaning_known meanings.Instant = refl
meaning_known meanings.Discrete = refl

-- a metric's serial is that of a domain, or there is none
domain_there : (draft : Layout) → IsDraft draft → (serial : ℕ) → has_domain draft.indoms serial ≡ true → Passes draft.indoms (domain_of draft.indoms serial) (λ row. nat_eq row.serial serial)
domain_there draft d serial h = first_passes (λ row. nat_eq row.serial serial) draft.indoms h

pub serial_small : (draft : Layout) → IsDraft draft → (serial : Option ℕ) → HasDomain draft.indoms serial → serial_word serial < 4294967296
serial_small draft d None h = omega arith
serial_small draft d (Some serial) h =
    let p : Passes draft.indoms (domain_of draft.indoms serial) (λ row. nat_eq row.serial serial) = domain_there draft d serial h in
    let fits : p.row.serial ≤ 1023 = serial_fits draft d (domain_of draft.indoms serial) p.row p.at in
    let same : p.row.serial ≡ serial = eqb-true p.row.serial serial p.is in
    omega arith

pub item_read : (draft : Layout) (s : List (List ℕ)) → Fits draft s → IsDraft draft → (i at : ℕ) (row : MetricRow) → slice_get draft.metrics i ≡ Some row → at ≡ item_offset_in_metric (image_with_strings draft s) (8 * (metrics_from draft s + metric_length draft.version * i)) → number32 (image_with_strings draft s) at ≡ row.item
item_read draft s fit d i at row here e =
    let w : name_width (version_in (image_with_strings draft s)) ≡ 8 * name_length draft.version = name_field draft s fit in
    let few : row.item ≤ 1023 = (d.metrics i row here).item in
    low_read (image_with_strings draft s) (metrics_from draft s + metric_length draft.version * i + name_length draft.version) 0 at (fields_of draft s row) row.item (code_of_kind row.kind) (stand_fields draft s i row here) (omega arith) (omega arith) refl (omega arith)

pub kind_read : (draft : Layout) (s : List (List ℕ)) → Fits draft s → IsDraft draft → (i at : ℕ) (row : MetricRow) → slice_get draft.metrics i ≡ Some row → at ≡ type_offset_in_metric (image_with_strings draft s) (8 * (metrics_from draft s + metric_length draft.version * i)) → number32 (image_with_strings draft s) at ≡ code_of_kind row.kind
kind_read draft s fit d i at row here e =
    let w : name_width (version_in (image_with_strings draft s)) ≡ 8 * name_length draft.version = name_field draft s fit in
    let few : row.item ≤ 1023 = (d.metrics i row here).item in
    let fits : code_of_kind row.kind < 10 = kind_fits row.kind in
    high_read (image_with_strings draft s) (metrics_from draft s + metric_length draft.version * i + name_length draft.version) 0 at (fields_of draft s row) row.item (code_of_kind row.kind) (stand_fields draft s i row here) (omega arith) (omega arith) refl (omega arith) (omega arith)

pub meaning_read : (draft : Layout) (s : List (List ℕ)) → Fits draft s → IsDraft draft → (i at : ℕ) (row : MetricRow) → slice_get draft.metrics i ≡ Some row → at ≡ semantics_offset_in_metric (image_with_strings draft s) (8 * (metrics_from draft s + metric_length draft.version * i)) → number32 (image_with_strings draft s) at ≡ code_of_semantics row.semantics
meaning_read draft s fit d i at row here e =
    let w : name_width (version_in (image_with_strings draft s)) ≡ 8 * name_length draft.version = name_field draft s fit in
    let fits : code_of_semantics row.semantics < 5 = meaning_fits row.semantics in
    low_read (image_with_strings draft s) (metrics_from draft s + metric_length draft.version * i + name_length draft.version) 1 at (fields_of draft s row) (code_of_semantics row.semantics) row.units (stand_fields draft s i row here) (omega arith) (omega arith) refl (omega arith)

pub metric_serial_read : (draft : Layout) (s : List (List ℕ)) → Fits draft s → IsDraft draft → (i at : ℕ) (row : MetricRow) → slice_get draft.metrics i ≡ Some row → at ≡ serial_offset_in_metric (image_with_strings draft s) (8 * (metrics_from draft s + metric_length draft.version * i)) → number32 (image_with_strings draft s) at ≡ serial_word row.serial
metric_serial_read draft s fit d i at row here e =
    let w : name_width (version_in (image_with_strings draft s)) ≡ 8 * name_length draft.version = name_field draft s fit in
    low_read (image_with_strings draft s) (metrics_from draft s + metric_length draft.version * i + name_length draft.version) 2 at (fields_of draft s row) (serial_word row.serial) 0 (stand_fields draft s i row here) (omega arith) (omega arith) (plain (serial_word row.serial)) (serial_small draft d row.serial (d.metrics i row here).domain)
  where
    plain : (n : ℕ) → n ≡ halves n 0
    plain n = omega arith

leads_serial : (draft : Layout) (s : List (List ℕ)) → Fits draft s → IsDraft draft → (serial : Option ℕ) → HasDomain draft.indoms serial → serial_leads (image_with_strings draft s) (serial_word serial) ≡ true
unfolding serial_leads is_indom_serial has_serial
leads_serial draft s fit d None h = refl
leads_serial draft s fit d (Some serial) h =
    let words : List ℕ = image_with_strings draft s in
    let p : Passes draft.indoms (domain_of draft.indoms serial) (λ row. nat_eq row.serial serial) = domain_there draft d serial h in
    let below : domain_of draft.indoms serial < length draft.indoms = get_below draft.indoms (domain_of draft.indoms serial) p.row p.at in
    ap (λ b. is_no_domain serial || b)
    (some_holds (indom_count words) (domain_of draft.indoms serial) (λ j. nat_eq (number32 words (indom_at words j)) serial) (subst (λ n. domain_of draft.indoms serial < n) (sym (find_indoms draft s fit).count) below)
    (ap (λ n. nat_eq n serial) (serial_read draft s fit d (domain_of draft.indoms serial) (indom_at words (domain_of draft.indoms serial)) p.row p.at (indom_is draft s fit (domain_of draft.indoms serial) below)) ∙ p.is))
    ∙ or_true (is_no_domain serial)
  where
    or_true : (b : Bool) → (b || true) ≡ true
    or_true true = refl
    or_true false = refl

at_most : (n : ℕ) → n ≤ 1023 → nat_le n 1023 ≡ true
at_most n h = grind (arith, nat_tests)

pub metric_name : (draft : Layout) (s : List (List ℕ)) → Fits draft s → IsDraft draft → Each IsString s → (i at : ℕ) (row : MetricRow) → slice_get draft.metrics i ≡ Some row → HasName s draft.version row.name → at ≡ 8 * (metrics_from draft s + metric_length draft.version * i) → ReadsName (image_with_strings draft s) at row.name
metric_name draft s fit d strings i at row here has e =
    let is : IsMetric draft.version draft.indoms row = d.metrics i row here in
    name_read draft s fit (metrics_from draft s + metric_length draft.version * i) at row.name
    (record {
      stands = stand_name draft s i row here;
      stored = is.stored;
      short = both_right (spells true row.name) (is_short_name draft.version row.name) is.name;
      has = has;
    }) e strings

good_name : (draft : Layout) (s : List (List ℕ)) → Fits draft s → IsDraft draft → Each IsString s → (i at : ℕ) (row : MetricRow) → slice_get draft.metrics i ≡ Some row → HasName s draft.version row.name → at ≡ 8 * (metrics_from draft s + metric_length draft.version * i) → (has_name (image_with_strings draft s) at && name_leads (image_with_strings draft s) at) ≡ true
good_name draft s fit d strings i at row here has e =
    let is : IsMetric draft.version draft.indoms row = d.metrics i row here in
    let name : ReadsName (image_with_strings draft s) at row.name = metric_name draft s fit d strings i at row here has e in
    ap₂ (λ a b. a && b) (name_good (image_with_strings draft s) at row.name name (both_left (spells true row.name) (is_short_name draft.version row.name) is.name)) name.leads

good_fields : (draft : Layout) (s : List (List ℕ)) → Fits draft s → IsDraft draft → (i at : ℕ) (row : MetricRow) → slice_get draft.metrics i ≡ Some row → HasHelp s row.short × HasHelp s row.long → at ≡ 8 * (metrics_from draft s + metric_length draft.version * i) → has_good_fields (image_with_strings draft s) at ≡ true
unfolding has_good_fields
good_fields draft s fit d i at row here helps e =
    let words : List ℕ = image_with_strings draft s in
    let w : name_width (version_in (image_with_strings draft s)) ≡ 8 * name_length draft.version = name_field draft s fit in
    let is : IsMetric draft.version draft.indoms row = d.metrics i row here in
    let kind : is_kind (number32 words (type_offset_in_metric words at)) ≡ true = ap is_kind (kind_read draft s fit d i (type_offset_in_metric words at) row here (ap (type_offset_in_metric words) e)) ∙ kind_known row.kind in
    let meaning : is_semantics (number32 words (semantics_offset_in_metric words at)) ≡ true = ap is_semantics (meaning_read draft s fit d i (semantics_offset_in_metric words at) row here (ap (semantics_offset_in_metric words) e)) ∙ meaning_known row.semantics in
    let serial : serial_leads words (number32 words (serial_offset_in_metric words at)) ≡ true = ap (serial_leads words) (metric_serial_read draft s fit d i (serial_offset_in_metric words at) row here (ap (serial_offset_in_metric words) e)) ∙ leads_serial draft s fit d row.serial is.domain in
    let short : help_leads words (short_offset_in_metric words at) ≡ true = help_good draft s fit row.short (short_offset_in_metric words at) helps.0 (word_read words (metrics_from draft s + metric_length draft.version * i + name_length draft.version) 3 (short_offset_in_metric words at) (fields_of draft s row) (stand_fields draft s i row here) (omega arith) (omega arith)) in
    let long : help_leads words (long_offset_in_metric words at) ≡ true = help_good draft s fit row.long (long_offset_in_metric words at) helps.1 (word_read words (metrics_from draft s + metric_length draft.version * i + name_length draft.version) 4 (long_offset_in_metric words at) (fields_of draft s row) (stand_fields draft s i row here) (omega arith) (omega arith)) in
    let item : is_item (number32 words (item_offset_in_metric words at)) ≡ true = ap is_item (item_read draft s fit d i (item_offset_in_metric words at) row here (ap (item_offset_in_metric words) e)) ∙ at_most row.item is.item in
    ap₂ (λ a b. a && b) (ap₂ (λ a b. a && b) (ap₂ (λ a b. a && b) (ap₂ (λ a b. a && b) (ap₂ (λ a b. a && b) kind meaning) serial) short) long) item

new_metric : (draft : Layout) (s : List (List ℕ)) → Fits draft s → IsDraft draft → Each IsString s → Each (λ row. HasName s draft.version row.name) draft.metrics → (i : ℕ) (row : MetricRow) → slice_get draft.metrics i ≡ Some row → is_new_metric (image_with_strings draft s) i ≡ true
unfolding is_new_metric is_same_metric same_name
new_metric draft s fit d strings names i row here =
    let words : List ℕ = image_with_strings draft s in
    let below : i < length draft.metrics = get_below draft.metrics i row here in
    let offset : metric_at words i ≡ 8 * (metrics_from draft s + metric_length draft.version * i) = metric_is draft s fit i below in
    all_hold i (λ j. not (nat_eq (number32 words (item_offset_in_metric words (metric_at words j))) (number32 words (item_offset_in_metric words (metric_at words i))) || bytes_eq (name_text words (metric_at words j)) (name_text words (metric_at words i)))) (λ j less.
    let (other, there) = get_some draft.metrics j (omega arith) in
    let at : metric_at words j ≡ 8 * (metrics_from draft s + metric_length draft.version * j) = metric_is draft s fit j (omega arith) in
    ap not (ap₂ (λ a b. a || b) (ap₂ nat_eq (item_read draft s fit d j (item_offset_in_metric words (metric_at words j)) other there (ap (item_offset_in_metric words) at)) (item_read draft s fit d i (item_offset_in_metric words (metric_at words i)) row here (ap (item_offset_in_metric words) offset)))
    (ap₂ bytes_eq (metric_name draft s fit d strings j (metric_at words j) other there (names j other there) at).text (metric_name draft s fit d strings i (metric_at words i) row here (names i row here) offset).text) ∙ d.items j i other row less there here))

good_metric : (draft : Layout) (s : List (List ℕ)) → Fits draft s → IsDraft draft → Each IsString s → Each (λ row. HasName s draft.version row.name) draft.metrics → Each (λ row. HasHelp s row.short × HasHelp s row.long) draft.metrics → (i : ℕ) → i < length draft.metrics → is_good_metric (image_with_strings draft s) i ≡ true
unfolding is_good_metric
good_metric draft s fit d strings names helps i below =
    let (row, here) = get_some draft.metrics i below in
    let offset : metric_at (image_with_strings draft s) i ≡ 8 * (metrics_from draft s + metric_length draft.version * i) = metric_is draft s fit i below in
    ap₂ (λ a b. a && b) (ap₂ (λ a b. a && b) (good_name draft s fit d strings i (metric_at (image_with_strings draft s) i) row here (names i row here) offset) (good_fields draft s fit d i (metric_at (image_with_strings draft s) i) row here (helps i row here) offset)) (new_metric draft s fit d strings names i row here)

pub good_metrics : (draft : Layout) (s : List (List ℕ)) → Fits draft s → IsDraft draft → Each IsString s → Each (λ row. HasName s draft.version row.name) draft.metrics → Each (λ row. HasHelp s row.short × HasHelp s row.long) draft.metrics → metrics_are_good (image_with_strings draft s) ≡ true
unfolding metrics_are_good
good_metrics draft s fit d strings names helps =
    all_hold (metric_count (image_with_strings draft s)) (is_good_metric (image_with_strings draft s)) (λ i below. good_metric draft s fit d strings names helps i (subst (λ n. i < n) (find_metrics draft s fit).count below))

-- Strings

good_string : (draft : Layout) (s : List (List ℕ)) → Fits draft s → Each IsString s → (i : ℕ) → i < length s → is_good_string (image_with_strings draft s) i ≡ true
unfolding is_good_string
good_string draft s fit short i below =
    let (text, here) = get_some s i below in
    let is : IsString text = short i text here in
    zero_read (image_with_strings draft s) (strings_from draft s + string_length * i) string_length (string_at (image_with_strings draft s) i) text (stand_string draft s i text here) is.stored (string_is draft s fit i below) (fits_string (length text) is.short)

pub good_strings : (draft : Layout) (s : List (List ℕ)) → Fits draft s → Each IsString s → strings_are_good (image_with_strings draft s) ≡ true
unfolding strings_are_good
good_strings draft s fit short =
    all_hold (string_count (image_with_strings draft s)) (is_good_string (image_with_strings draft s)) (λ i below. good_string draft s fit short i (subst (λ n. i < n) (find_strings draft s fit).count below))
