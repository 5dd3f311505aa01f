-- What a spelled image says: its draft, with all its strings.
use Rattle.std.proofs.Common.{◌≡◌, ℕ, suc, ◌+◌, ◌*◌, ◌<◌, ◌≤◌, ℤ, pos, true, not, ◌&&◌, ◌||◌, ◌⊎◌, inl, inr, List, [], ◌∷◌, length, take, ap, sym, subst, ◌∙◌, refl, arith, nat_eq, nat_le, Option, Some, None, bytes_eq}
use Rattle.std.specs.List.{list_any, slice_get, position_or_len}
use Rattle.std.specs.Int.{w32, cast_signed}
use Rattle.std.specs.Ordering.{int_eq}
use Rattle.std.proofs.lemmas.Int.{to_z-of_z}
use Rattle.std.proofs.lemmas.Bool.{eqb-true}
use Rattle.std.proofs.lemmas.Bool.Decides.{nat_tests}
use Rattle.pcp_base.specs.Codes.{code_of_kind, code_of_semantics}
use Rattle.pcp_base.specs.declared.kind.Kind.{Kind}
use Rattle.pcp_base.specs.declared.kind.Kind.TheVariants as kinds
use Rattle.mmv_layout.specs.Fields.{number32, number64}
use Rattle.mmv_layout.specs.Contents.{version_in, section_of}
use Rattle.mmv_layout.specs.Entries.{instance_at, metric_at, string_at, metric_of}
use Rattle.mmv_layout.specs.Says.{EachAt, InSection, StringAt, HelpAt, InstanceAt, IndomAt, SerialIs, MetricAt, InstanceOf, ContentAt, ValueAt, TextAt, Says}
use Rattle.mmv_layout.specs.Rows as rows
use Rattle.mmv_layout.specs.declared.contents.Section.{Section}
use Rattle.mmv_layout.specs.declared.rows.IndomRow.{IndomRow}
use Rattle.mmv_layout.specs.declared.rows.MetricRow.{MetricRow}
use Rattle.mmv_layout.specs.declared.rows.ValueRow.{ValueRow}
use Rattle.mmv_layout.specs.declared.rows.Content.{Content}
use Rattle.mmv_layout.specs.declared.rows.Content.TheVariants.{Number, Choice, Raw}
use Rattle.mmv_layout.specs.declared.rows.Layout.{Layout}
use Rattle.mmv_layout.proofs.Below.{both_left, both_right}
use Rattle.mmv_writer.specs.Rules.{fits_instance, fits_kind, fits_metric}
use Rattle.mmv_writer.specs.Draft.{Each, IsString, IsInstance, HasDomain, IsMetric, IsDraft}
use Rattle.mmv_writer.specs.Offsets.{instances_in, counts_of, sections_in, words_in}
use Rattle.mmv_writer.specs.Spelling.{string_offset, help_offset, domain_of, serial_word, header_words, domain_words, value_words, value_field, extra_field, instance_field, image_with_strings, all_strings, image_words}
use Rattle.mmv_writer.specs.Saying.{DraftsAreSaid, with_all_strings}
use Rattle.mmv_writer.proofs.Lengths.{length_spelled, sections_most}
use Rattle.mmv_writer.proofs.Standing.{word_read, low_read, high_read, text_read}
use Rattle.mmv_writer.proofs.Wanted.{Has, HasHelp, HasName, HasContent, domain_helps, instance_names, metric_names, metric_helps, value_texts, strings_short}
use Rattle.mmv_writer.proofs.Names.{fits_string, string_said}
use Rattle.mmv_writer.proofs.Positions.{Passes, first_passes, get_below, before_this}
use Rattle.mmv_writer.proofs.Spelt.{Fits, version_read, domains_from, instances_from, metrics_from, values_from, strings_from, offsets, stand_header, Finds, find_indoms, find_instances, find_metrics, find_values, find_strings}
use Rattle.mmv_writer.proofs.Marks.{name_field, size_spread, instance_stands, metric_stands, value_stands, string_stands, instance_is, metric_is, string_is, stand_domain, stand_value, stand_string, serial_fits, serial_read, run_read, first_read, first_is}
use Rattle.mmv_writer.proofs.DomainTests.{HasNames, instance_name, number_read}
use Rattle.mmv_writer.proofs.MetricTests.{fields_of, stand_fields, meaning_fits, item_read, kind_read, meaning_read, metric_serial_read, metric_name}
use Rattle.mmv_writer.proofs.ValueTests.{metric_index, metric_found, domain_found, index_in, member_found, metric_field, extra_read, instance_read, one_at_least, same_int}
use Rattle.mmv_layout.specs.Sizes.{name_width, indom_size, instance_size, metric_size, value_size, string_size}
use Rattle.mmv_layout.specs.EntryFields.{item_offset_in_metric, type_offset_in_metric, semantics_offset_in_metric, units_offset_in_metric, serial_offset_in_metric, short_offset_in_metric, long_offset_in_metric, count_offset_in_indom, first_offset_in_indom, short_offset_in_indom, long_offset_in_indom, number_offset_in_instance, name_offset_in_instance, extra_offset_in_value, metric_offset_in_value, instance_offset_in_value}
use Rattle.mmv_writer.specs.Offsets.{name_length, indom_length, instance_length, metric_length, value_length, string_length}

-- Rows one after the other

each_at : {X : Type 0} (R : ℕ → X → Type 0) (at size : ℕ) (xs : List X) → ((i : ℕ) (x : X) (offset : ℕ) → slice_get xs i ≡ Some x → offset ≡ at + size * i → R offset x) → EachAt R at size xs
unfolding EachAt
each_at R at size [] one = tt
each_at R at size (x ∷ xs) one =
    (one 0 x at refl (omega arith), each_at R (at + size) size xs (λ i y offset there e. one (suc i) y offset there (e ∙ next at size i)))
  where
    next : (n s i : ℕ) → n + s + s * i ≡ n + s * suc i
    next n s i = grind arith

in_section : {X : Type 0} (R : ℕ → X → Type 0) (section : Section) (n p size : ℕ) (xs : List X) → Finds section n p → length xs ≡ n → ((i : ℕ) (x : X) (offset : ℕ) → slice_get xs i ≡ Some x → offset ≡ p + size * i → R offset x) → InSection R section size xs
in_section R section n p size xs f long one = (
  long ∙ sym f.count,
  each_at R section.offset size xs (λ i x offset there e.
      let below : i < length xs = get_below xs i x there in
      one i x offset there (e ∙ ap (λ q. q + size * i) (f.offset (omega arith)))),
)

-- Strings

help_said : (draft : Layout) (s : List (List ℕ)) → Fits draft s → Each IsString s → (help : Option (List ℕ)) (field : ℕ) → HasHelp s help → number64 (image_with_strings draft s) field ≡ help_offset (offsets draft s) s help → HelpAt (image_with_strings draft s) field help
help_said draft s fit short None field has e = e
help_said draft s fit short (Some text) field has e =
    (λ z. let some : number64 (image_with_strings draft s) field ≡ 0 = z in absurd (omega arith), string_said draft s fit short text (number64 (image_with_strings draft s) field) has e)

-- Domains

signed_small : (n : ℕ) → n < 2147483648 → cast_signed w32 n ≡ pos n
signed_small n h = to_z-of_z w32 (pos n) (record { sfits = h })

instance_said : (draft : Layout) (s : List (List ℕ)) → Fits draft s → IsDraft draft → Each IsString s → HasNames s draft → (i k at : ℕ) (row : IndomRow) (instance : ℤ × List ℕ) → slice_get draft.indoms i ≡ Some row → slice_get row.instances k ≡ Some instance → at ≡ 8 * (instances_from draft s + instance_length draft.version * (instances_in (take i draft.indoms) + k)) → InstanceAt (image_with_strings draft s) at instance
instance_said draft s fit d strings names i k at row instance here within e =
    let is : IsInstance draft.version instance = (d.domains i row here).instances k instance within in (
      is.number.1 ∙ sym (ap (cast_signed w32) (number_read draft s d i k (number_offset_in_instance at) is.number.0 row instance here within is.number.1 is.number.2 (ap number_offset_in_instance e)) ∙ signed_small is.number.0 is.number.2),
      (instance_name draft s fit d strings names i k at row instance here within e).at,
    )

indom_said : (draft : Layout) (s : List (List ℕ)) → Fits draft s → IsDraft draft → Each IsString s → HasNames s draft → (i at : ℕ) (row : IndomRow) → slice_get draft.indoms i ≡ Some row → HasHelp s row.short × HasHelp s row.long → at ≡ 8 * (domains_from draft s + indom_length * i) → IndomAt (image_with_strings draft s) at row
unfolding domain_words
indom_said draft s fit d short names i at row here helps e = record {
  serial = sym (serial_read draft s fit d i at row here e);
  count = sym (run_read draft s fit d i (count_offset_in_indom at) row here (ap count_offset_in_indom e));
  instances =
      subst (λ v. EachAt (InstanceAt (image_with_strings draft s)) (number64 (image_with_strings draft s) (first_offset_in_indom at)) (instance_size v) row.instances) (sym (version_read draft s fit))
      (each_at (InstanceAt (image_with_strings draft s)) (number64 (image_with_strings draft s) (first_offset_in_indom at)) (instance_size draft.version) row.instances (λ k instance offset within p.
      let inside : k < length row.instances = get_below row.instances k instance within in
      let first : number64 (image_with_strings draft s) (first_offset_in_indom at) ≡ (offsets draft s).instances + instance_size draft.version * instances_in (take i draft.indoms) = first_read draft s i (first_offset_in_indom at) row here (ap first_offset_in_indom e) ∙ first_is draft s d i row here (omega arith) in
      instance_said draft s fit d short names i k offset row instance here within
      (instance_stands draft s (instances_in (take i draft.indoms) + k) offset (p ∙ ap (λ n. n + instance_size draft.version * k) first ∙ size_spread (offsets draft s).instances (instance_size draft.version) (instances_in (take i draft.indoms)) k))));
  short = help_said draft s fit short row.short (short_offset_in_indom at) helps.0 (word_read (image_with_strings draft s) (domains_from draft s + indom_length * i) 2 (short_offset_in_indom at) (domain_words (offsets draft s) s draft.indoms row) (stand_domain draft s i row here) (omega arith) (omega arith));
  long = help_said draft s fit short row.long (long_offset_in_indom at) helps.1 (word_read (image_with_strings draft s) (domains_from draft s + indom_length * i) 3 (long_offset_in_indom at) (domain_words (offsets draft s) s draft.indoms row) (stand_domain draft s i row here) (omega arith) (omega arith));
}

-- Metrics

serial_said : (draft : Layout) → IsDraft draft → (serial : Option ℕ) (found : ℕ) → HasDomain draft.indoms serial → found ≡ serial_word serial → SerialIs found serial
serial_said draft d None found there e = inr e
serial_said draft d (Some serial) found there e =
    let p : Passes draft.indoms (domain_of draft.indoms serial) (λ row. nat_eq row.serial serial) = first_passes (λ row. nat_eq row.serial serial) draft.indoms there in
    let fits : p.row.serial ≤ 1023 = serial_fits draft d (domain_of draft.indoms serial) p.row p.at in
    let some : 0 < p.row.serial = one_at_least p.row.serial (d.domains (domain_of draft.indoms serial) p.row p.at).serial in
    let same : p.row.serial ≡ serial = eqb-true p.row.serial serial p.is in
    ((λ z. let no : found ≡ 0 = z in absurd (omega arith), λ z. let no : found ≡ 4294967295 = z in absurd (omega arith)), sym e)

metric_said : (draft : Layout) (s : List (List ℕ)) → Fits draft s → IsDraft draft → Each IsString s → (i at : ℕ) (row : MetricRow) → slice_get draft.metrics i ≡ Some row → HasName s draft.version row.name → HasHelp s row.short × HasHelp s row.long → at ≡ 8 * (metrics_from draft s + metric_length draft.version * i) → MetricAt (image_with_strings draft s) at row
metric_said draft s fit d short i at row here has helps e =
    let words : List ℕ = image_with_strings draft s in
    let w : name_width (version_in (image_with_strings draft s)) ≡ 8 * name_length draft.version = name_field draft s fit in
    let is : IsMetric draft.version draft.indoms row = d.metrics i row here in
    let meaning : code_of_semantics row.semantics < 5 = meaning_fits row.semantics in
    let units : row.units < 4294967296 = is.units in
    record {
      name = (metric_name draft s fit d short i at row here has e).at;
      item = sym (item_read draft s fit d i (item_offset_in_metric words at) row here (ap (item_offset_in_metric words) e));
      kind = sym (kind_read draft s fit d i (type_offset_in_metric words at) row here (ap (type_offset_in_metric words) e));
      semantics = sym (meaning_read draft s fit d i (semantics_offset_in_metric words at) row here (ap (semantics_offset_in_metric words) e));
      units = sym (high_read (image_with_strings draft s) (metrics_from draft s + metric_length draft.version * i + name_length draft.version) 1 (units_offset_in_metric words at) (fields_of draft s row) (code_of_semantics row.semantics) row.units (stand_fields draft s i row here) (omega arith) (omega arith) refl (omega arith) units);
      serial = serial_said draft d row.serial (number32 (image_with_strings draft s) (serial_offset_in_metric words at)) is.domain (metric_serial_read draft s fit d i (serial_offset_in_metric words at) row here (ap (serial_offset_in_metric words) e));
      short = help_said draft s fit short row.short (short_offset_in_metric words at) helps.0 (word_read (image_with_strings draft s) (metrics_from draft s + metric_length draft.version * i + name_length draft.version) 3 (short_offset_in_metric words at) (fields_of draft s row) (stand_fields draft s i row here) (omega arith) (omega arith));
      long = help_said draft s fit short row.long (long_offset_in_metric words at) helps.1 (word_read (image_with_strings draft s) (metrics_from draft s + metric_length draft.version * i + name_length draft.version) 4 (long_offset_in_metric words at) (fields_of draft s row) (stand_fields draft s i row here) (omega arith) (omega arith));
    }

-- Values

number_said : (draft : Layout) (s : List (List ℕ)) → Fits draft s → IsDraft draft → Each IsString s → HasNames s draft → (serial : Option ℕ) (number : Option ℤ) (value : ℕ) → HasDomain draft.indoms serial → fits_instance draft.indoms serial number ≡ true → rows.domain_of (image_with_strings draft s) value ≡ serial_word serial → number64 (image_with_strings draft s) (instance_offset_in_value value) ≡ instance_field (offsets draft s) draft.indoms serial number → InstanceOf (image_with_strings draft s) value number
number_said draft s fit d strings names None None value there fits word is = inr word
number_said draft s fit d strings names None (Some id) value there fits word is = cc
number_said draft s fit d strings names (Some serial) None value there fits word is = cc
number_said draft s fit d strings names (Some serial) (Some id) value there fits word is =
    let words : List ℕ = image_with_strings draft s in
    let p : Passes draft.indoms (domain_of draft.indoms serial) (λ row. nat_eq row.serial serial && list_any (λ other. int_eq other.0 id) row.instances) = domain_found draft d serial id fits in
    let q : Passes p.row.instances (index_in p.row id) (λ other. int_eq other.0 id) = first_passes (λ other. int_eq other.0 id) p.row.instances (both_right (nat_eq p.row.serial serial) (list_any (λ other. int_eq other.0 id) p.row.instances) p.is) in
    let inside : index_in p.row id < length p.row.instances = get_below p.row.instances (index_in p.row id) q.row q.at in
    let all : instances_in (take (domain_of draft.indoms serial) draft.indoms) + length p.row.instances ≤ instances_in draft.indoms = before_this draft.indoms (domain_of draft.indoms serial) p.row p.at in
    let q_at : number64 words (instance_offset_in_value value) ≡ (offsets draft s).instances + instance_size draft.version * (instances_in (take (domain_of draft.indoms serial) draft.indoms) + index_in p.row id) =
    is ∙ ap (λ k. (offsets draft s).instances + instance_size draft.version * (instances_in (take (domain_of draft.indoms serial) draft.indoms) + k)) (member_found draft serial id p.row p.at) in
    let index : ℕ = instances_in (take (domain_of draft.indoms serial) draft.indoms) + index_in p.row id in
    let at : instance_at words (instances_in (take (domain_of draft.indoms serial) draft.indoms) + index_in p.row id) ≡ 8 * (instances_from draft s + instance_length draft.version * (instances_in (take (domain_of draft.indoms serial) draft.indoms) + index_in p.row id)) =
    instance_is draft s fit (instances_in (take (domain_of draft.indoms serial) draft.indoms) + index_in p.row id) (omega arith) in
    let said : InstanceAt words (number64 words (instance_offset_in_value value)) q.row = instance_said draft s fit d strings names (domain_of draft.indoms serial) (index_in p.row id) (number64 words (instance_offset_in_value value)) p.row q.row p.at q.at (instance_stands draft s (instances_in (take (domain_of draft.indoms serial) draft.indoms) + index_in p.row id) (number64 words (instance_offset_in_value value)) q_at) in (
      (serial_said draft d (Some serial) (rows.domain_of words value) there word).0,
      (instances_in (take (domain_of draft.indoms serial) draft.indoms) + index_in p.row id, subst (λ n. instances_in (take (domain_of draft.indoms serial) draft.indoms) + index_in p.row id < n) (sym (find_instances draft s fit).count) (omega arith), instance_stands draft s (instances_in (take (domain_of draft.indoms serial) draft.indoms) + index_in p.row id) (number64 words (instance_offset_in_value value)) q_at ∙ sym at),
      sym (same_int q.row.0 id q.is) ∙ said.0,
    )

le_three : (n : ℕ) → nat_le n 3 ≡ true → n ≤ 3
le_three n h = grind (arith, nat_tests)

raw_kind : (k : Kind) → not (nat_le (code_of_kind k) 3 || nat_eq (code_of_kind k) 6) ≡ true → (code_of_kind k ≡ 4) ⊎ (code_of_kind k ≡ 5) ⊎ (code_of_kind k ≡ 9)
raw_kind kinds.I32 h = cc
raw_kind kinds.U32 h = cc
raw_kind kinds.I64 h = cc
raw_kind kinds.U64 h = cc
raw_kind kinds.Float h = inl refl
raw_kind kinds.Double h = inr (inl refl)
raw_kind kinds.Text h = cc
raw_kind kinds.Elapsed h = inr (inr refl)

content_said : (draft : Layout) (s : List (List ℕ)) → Fits draft s → Each IsString s → (content : Content) (kind : Kind) (value : ℕ) → fits_kind kind content ≡ true → HasContent s content → rows.type_of (image_with_strings draft s) value ≡ code_of_kind kind → number64 (image_with_strings draft s) value ≡ value_field content → number64 (image_with_strings draft s) (extra_offset_in_value value) ≡ extra_field (offsets draft s) s content → ContentAt (image_with_strings draft s) value content
content_said draft s fit short (Number n) kind value fits has code is more = (subst (λ c. c ≤ 3) (sym code) (le_three (code_of_kind kind) fits), sym is)
content_said draft s fit short (Choice text) kind value fits has code is more = (code ∙ eqb-true (code_of_kind kind) 6 fits, string_said draft s fit short text (number64 (image_with_strings draft s) (extra_offset_in_value value)) has more)
content_said draft s fit short (Raw v e) kind value fits has code is more =
    (subst (λ c. (c ≡ 4) ⊎ (c ≡ 5) ⊎ (c ≡ 9)) (sym code) (raw_kind kind fits), sym is, sym more)

value_said : (draft : Layout) (s : List (List ℕ)) → Fits draft s → IsDraft draft → Each IsString s → HasNames s draft → (i at : ℕ) (row : ValueRow) → slice_get draft.values i ≡ Some row → HasContent s row.content → at ≡ 8 * (values_from draft s + value_length * i) → ValueAt (image_with_strings draft s) at row
unfolding metric_of value_words
value_said draft s fit d short names i at row here has e =
    let words : List ℕ = image_with_strings draft s in
    let p : Passes draft.metrics (metric_index draft row.item) (λ metric. fits_metric draft.indoms row metric) = metric_found draft d row (d.values i row here).metric in
    let fits : (fits_instance draft.indoms p.row.serial row.instance && fits_kind p.row.kind row.content) ≡ true = both_right (nat_eq p.row.item row.item) (fits_instance draft.indoms p.row.serial row.instance && fits_kind p.row.kind row.content) p.is in
    let item : p.row.item ≡ row.item = eqb-true p.row.item row.item (both_left (nat_eq p.row.item row.item) (fits_instance draft.indoms p.row.serial row.instance && fits_kind p.row.kind row.content) p.is) in
    let inside : metric_index draft row.item < length draft.metrics = get_below draft.metrics (metric_index draft row.item) p.row p.at in
    let metric : number64 words (metric_offset_in_value at) ≡ (offsets draft s).metrics + metric_size draft.version * metric_index draft row.item = metric_field draft s i (metric_offset_in_value at) row here (ap metric_offset_in_value e) in
    let stands : number64 words (metric_offset_in_value at) ≡ 8 * (metrics_from draft s + metric_length draft.version * metric_index draft row.item) = metric_stands draft s (metric_index draft row.item) (number64 words (metric_offset_in_value at)) metric in
    let offset : metric_at words (metric_index draft row.item) ≡ 8 * (metrics_from draft s + metric_length draft.version * metric_index draft row.item) = metric_is draft s fit (metric_index draft row.item) inside in
    record {
      metric = (metric_index draft row.item, subst (λ n. metric_index draft row.item < n) (sym (find_metrics draft s fit).count) inside, stands ∙ sym offset);
      item = sym item ∙ sym (item_read draft s fit d (metric_index draft row.item) (item_offset_in_metric words (number64 words (metric_offset_in_value at))) p.row p.at (ap (item_offset_in_metric words) stands));
      instance = number_said draft s fit d short names p.row.serial row.instance at (d.metrics (metric_index draft row.item) p.row p.at).domain (both_left (fits_instance draft.indoms p.row.serial row.instance) (fits_kind p.row.kind row.content) fits)
          (metric_serial_read draft s fit d (metric_index draft row.item) (serial_offset_in_metric words (number64 words (metric_offset_in_value at))) p.row p.at (ap (serial_offset_in_metric words) stands)) (instance_read draft s i (instance_offset_in_value at) row p.row here p.at (ap instance_offset_in_value e));
      content = content_said draft s fit short row.content p.row.kind at (both_right (fits_instance draft.indoms p.row.serial row.instance) (fits_kind p.row.kind row.content) fits) has
          (kind_read draft s fit d (metric_index draft row.item) (type_offset_in_metric words (number64 words (metric_offset_in_value at))) p.row p.at (ap (type_offset_in_metric words) stands))
          (word_read words (values_from draft s + value_length * i) 0 at (value_words (offsets draft s) s draft.indoms draft.metrics row) (stand_value draft s i row here) (omega arith) (omega arith))
          (extra_read draft s i (extra_offset_in_value at) row here (ap extra_offset_in_value e));
    }

text_said : (draft : Layout) (s : List (List ℕ)) → Each IsString s → (i at : ℕ) (text : List ℕ) → slice_get s i ≡ Some text → at ≡ 8 * (strings_from draft s + string_length * i) → TextAt (image_with_strings draft s) at text
text_said draft s short i at text here e =
    let is : IsString text = short i text here in
    sym (text_read (image_with_strings draft s) (strings_from draft s + string_length * i) string_length at text (stand_string draft s i text here) is.stored e (fits_string (length text) is.short))

-- The whole

pub said : (draft : Layout) → IsDraft draft → words_in (counts_of draft (all_strings draft)) ≤ 65536 → Says (image_with_strings draft (all_strings draft)) (with_all_strings draft)
unfolding header_words
said draft d few =
    let fit : Fits draft (all_strings draft) = record { version = d.version; few = few } in
    let names : HasNames (all_strings draft) draft = instance_names draft in
    let short : Each IsString (all_strings draft) = strings_short draft d in
    let words : List ℕ = image_with_strings draft (all_strings draft) in
    let most : sections_in (counts_of draft (all_strings draft)) ≤ 5 = sections_most (counts_of draft (all_strings draft)) in
    let flags : draft.flags < 4294967296 = d.flags in
    let process : draft.pid < 4294967296 = d.process in
    let cluster : draft.cluster ≤ 4095 = d.cluster in
    record {
      version = sym (version_read draft (all_strings draft) fit);
      generation = sym (word_read words 0 1 8 (header_words draft (sections_in (counts_of draft (all_strings draft)))) (stand_header draft (all_strings draft)) (omega arith) refl);
      again = sym (word_read words 0 2 16 (header_words draft (sections_in (counts_of draft (all_strings draft)))) (stand_header draft (all_strings draft)) (omega arith) refl);
      flags = sym (high_read words 0 3 28 (header_words draft (sections_in (counts_of draft (all_strings draft)))) (sections_in (counts_of draft (all_strings draft))) draft.flags (stand_header draft (all_strings draft)) (omega arith) refl refl (omega arith) flags);
      pid = sym (low_read words 0 4 32 (header_words draft (sections_in (counts_of draft (all_strings draft)))) draft.pid draft.cluster (stand_header draft (all_strings draft)) (omega arith) refl refl process);
      cluster = sym (high_read words 0 4 36 (header_words draft (sections_in (counts_of draft (all_strings draft)))) draft.pid draft.cluster (stand_header draft (all_strings draft)) (omega arith) refl refl process (omega arith));
      indoms = in_section (IndomAt words) (section_of words 1) (length draft.indoms) (offsets draft (all_strings draft)).indoms indom_size draft.indoms (find_indoms draft (all_strings draft) fit) refl
          (λ i row offset here e. indom_said draft (all_strings draft) fit d short names i offset row here (domain_helps draft i row here) (omega arith));
      metrics =
          subst (λ v. InSection (MetricAt words) (section_of words 3) (metric_size v) draft.metrics) (sym (version_read draft (all_strings draft) fit))
          (in_section (MetricAt words) (section_of words 3) (length draft.metrics) (offsets draft (all_strings draft)).metrics (metric_size draft.version) draft.metrics (find_metrics draft (all_strings draft) fit) refl
          (λ i row offset here e. metric_said draft (all_strings draft) fit d short i offset row here (metric_names draft i row here) (metric_helps draft i row here) (metric_stands draft (all_strings draft) i offset e)));
      values = in_section (ValueAt words) (section_of words 4) (length draft.values) (offsets draft (all_strings draft)).values value_size draft.values (find_values draft (all_strings draft) fit) refl
          (λ i row offset here e. value_said draft (all_strings draft) fit d short names i offset row here (value_texts draft i row here) (value_stands draft (all_strings draft) i offset e));
      strings = in_section (TextAt words) (section_of words 5) (length (all_strings draft)) (offsets draft (all_strings draft)).strings string_size (all_strings draft) (find_strings draft (all_strings draft) fit) refl
          (λ i text offset here e. text_said draft (all_strings draft) short i offset text here (string_stands draft (all_strings draft) i offset e));
    }

pub drafts_are_said : DraftsAreSaid
unfolding image_words
drafts_are_said draft d few =
    let long : length (image_with_strings draft (all_strings draft)) ≡ words_in (counts_of draft (all_strings draft)) = length_spelled draft (all_strings draft) in
    said draft d (omega arith)
