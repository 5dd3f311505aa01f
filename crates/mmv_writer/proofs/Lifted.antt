-- What an image says in version 2: the same, with the names that weren't among its strings behind these.
use Rattle.std.proofs.Common.{◌≡◌, ℕ, ℤ, zero, suc, ◌≤◌, Bool, true, false, ◌&&◌, ◌||◌, List, [], ◌∷◌, ◌++◌, length, map, ap, ap₂, sym, subst, ◌∙◌, refl, arith, cond, nat_le, nat_lt, bytes_eq, append_assoc, append-nil, Option, Some, None}
use Rattle.std.specs.List.{list_any, flat_map, slice_get}
use Rattle.std.proofs.lemmas.Bool.Decides.{nat_tests}
use Rattle.pcp_base.specs.Names.{spells}
use Rattle.mmv_layout.specs.Sizes.{has_inline_names, name_room}
use Rattle.mmv_layout.specs.Images.{IsImage}
use Rattle.mmv_layout.specs.Rows.{layout_of}
use Rattle.mmv_layout.specs.declared.rows.IndomRow.{IndomRow}
use Rattle.mmv_layout.specs.declared.rows.MetricRow.{MetricRow}
use Rattle.mmv_layout.specs.declared.rows.ValueRow.{ValueRow}
use Rattle.mmv_layout.specs.declared.rows.Content.{Content}
use Rattle.mmv_layout.specs.declared.rows.Content.TheVariants.{Number, Choice, Raw}
use Rattle.mmv_layout.specs.declared.rows.Layout.{Layout}
use Rattle.mmv_layout.proofs.Below.{both_left, both_right}
use Rattle.mmv_layout.proofs.Saying.{says_layout}
use Rattle.mmv_writer.specs.Rules.{is_short_name, is_instance_name, is_metric_name}
use Rattle.mmv_writer.specs.Draft.{Each, IsInstance, IsDomain, IsMetric, IsDraft}
use Rattle.mmv_writer.specs.Spelling.{texts_of, texts_in, texts_of_domain, texts_of_instances, texts_of_metric, with_missing, all_strings, image_words}
use Rattle.mmv_writer.specs.Saying.{with_all_strings}
use Rattle.mmv_writer.specs.Lifting.{in_version_2, lifted_words, DraftsAreOfVersion2, names_in, LiftedSaysTheLayout}
use Rattle.mmv_writer.proofs.Rows.{any_longer}
use Rattle.mmv_writer.proofs.Missing.{missing_joined}
use Rattle.mmv_writer.proofs.Wanted.{same_bytes, bytes_same, Has, HasHelp, HasContent, HasTexts}
use Rattle.mmv_writer.proofs.ImageDrafts.{layouts_are_drafts, layouts_have_texts}
use Rattle.mmv_writer.proofs.Sayings.{drafts_are_said}

-- Drafts

-- what is short enough for a version is so for version 2
short_in_2 : (version : ℕ) (name : List ℕ) → is_short_name version name ≡ true → is_short_name 2 name ≡ true
unfolding name_room
short_in_2 version name short = here (has_inline_names version) (length name) short
  where
    here : (inline : Bool) (n : ℕ) → nat_lt n (cond inline 64 256) ≡ true → nat_lt n 256 ≡ true
    here true n h = grind (arith, nat_tests)
    here false n h = h

instance_in_2 : (version : ℕ) (instance : ℤ × List ℕ) → IsInstance version instance → IsInstance 2 instance
instance_in_2 version instance is = record {
  number = is.number;
  name = ap₂ (λ a b. a && b) (both_left (nat_le 1 (length instance.1)) (is_short_name version instance.1) is.name)
      (short_in_2 version instance.1 (both_right (nat_le 1 (length instance.1)) (is_short_name version instance.1) is.name));
  stored = is.stored;
}

domain_in_2 : (version : ℕ) (row : IndomRow) → IsDomain version row → IsDomain 2 row
domain_in_2 version row is = record {
  serial = is.serial;
  short = is.short;
  long = is.long;
  instances = λ i instance at. instance_in_2 version instance (is.instances i instance at);
  apart = is.apart;
}

metric_in_2 : (version : ℕ) (indoms : List IndomRow) (row : MetricRow) → IsMetric version indoms row → IsMetric 2 indoms row
metric_in_2 version indoms row is = record {
  name = ap₂ (λ a b. a && b) (both_left (spells true row.name) (is_short_name version row.name) is.name)
      (short_in_2 version row.name (both_right (spells true row.name) (is_short_name version row.name) is.name));
  stored = is.stored;
  item = is.item;
  units = is.units;
  domain = is.domain;
  short = is.short;
  long = is.long;
}

pub drafts_are_of_version_2 : DraftsAreOfVersion2
drafts_are_of_version_2 draft d = record {
  version = refl;
  flags = d.flags;
  process = d.process;
  cluster = d.cluster;
  domains = λ i row at. domain_in_2 draft.version row (d.domains i row at);
  serials = d.serials;
  metrics = λ i row at. metric_in_2 draft.version draft.indoms row (d.metrics i row at);
  items = d.items;
  values = d.values;
  places = d.places;
  strings = d.strings;
}

pub layouts_are_of_version_2 : (words : List ℕ) → IsImage words → IsDraft (in_version_2 (layout_of words))
layouts_are_of_version_2 words h = drafts_are_of_version_2 (layout_of words) (layouts_are_drafts words h)

-- Strings

-- texts that are among strings aren't missing
skipped : (s texts more : List (List ℕ)) → ((text : List ℕ) → Has texts text → Has s text) → with_missing s (texts ++ more) ≡ with_missing s more
unfolding with_missing
skipped s [] more h = refl
skipped s (t ∷ texts) more h =
    ap (λ b. with_missing (cond b s (s ++ t ∷ [])) (texts ++ more)) (h t (ap (λ b. b || list_any (λ other. bytes_eq other t) texts) (bytes_same t)))
    ∙ skipped s texts more (λ text g. h text (ap (λ b. bytes_eq t text || b) g ∙ or_true (bytes_eq t text)))
  where
    or_true : (b : Bool) → (b || true) ≡ true
    or_true true = refl
    or_true false = refl

-- what is among strings stays among them
has_more : (s : List (List ℕ)) (name text : List ℕ) → Has s text → Has (cond (list_any (λ other. bytes_eq other name) s) s (s ++ name ∷ [])) text
has_more s name text h = here (list_any (λ other. bytes_eq other name) s)
  where
    here : (b : Bool) → Has (cond b s (s ++ name ∷ [])) text
    here true = h
    here false = any_longer (λ other. bytes_eq other text) s (name ∷ []) h

has_all_more : (s names : List (List ℕ)) (text : List ℕ) → Has s text → Has (with_missing s names) text
unfolding with_missing
has_all_more s [] text h = h
has_all_more s (name ∷ names) text h = has_all_more (cond (list_any (λ other. bytes_eq other name) s) s (s ++ name ∷ [])) names text (has_more s name text h)

help_more : (s more : List (List ℕ)) (help : Option (List ℕ)) → ((text : List ℕ) → Has s text → Has more text) → HasHelp s help → HasHelp more help
help_more s more None wider h = tt
help_more s more (Some text) wider h = wider text h

content_more : (s more : List (List ℕ)) (content : Content) → ((text : List ℕ) → Has s text → Has more text) → HasContent s content → HasContent more content
content_more s more (Number n) wider h = tt
content_more s more (Choice text) wider h = wider text h
content_more s more (Raw value extra) wider h = tt

either_text : (s : List (List ℕ)) (a text : List ℕ) (b : Bool) → Has s a → (b ≡ true → Has s text) → (bytes_eq a text || b) ≡ true → Has s text
either_text s a text b h other e = here (bytes_eq a text) refl e
  where
    here : (t : Bool) → bytes_eq a text ≡ t → (t || b) ≡ true → Has s text
    here true same f = subst (Has s) (same_bytes a text same) h
    here false same f = other f

helps_among : (s : List (List ℕ)) (short long : Option (List ℕ)) → HasHelp s short × HasHelp s long → (text : List ℕ) → Has (texts_of short ++ texts_of long) text → Has s text
helps_among s None None h text e = cc
helps_among s None (Some b) h text e = either_text s b text false h.1 (λ f. cc) e
helps_among s (Some a) None h text e = either_text s a text false h.0 (λ f. cc) e
helps_among s (Some a) (Some b) h text e = either_text s a text (bytes_eq b text || false) h.0 (λ f. either_text s b text false h.1 (λ g. cc) f) e

content_among : (s : List (List ℕ)) (content : Content) → HasContent s content → (text : List ℕ) → Has (texts_in content) text → Has s text
content_among s (Number n) h text e = cc
content_among s (Choice a) h text e = either_text s a text false h (λ f. cc) e
content_among s (Raw value extra) h text e = cc

domains_skipped : (s : List (List ℕ)) (rows : List IndomRow) (more : List (List ℕ)) → Each (λ row. HasHelp s row.short × HasHelp s row.long) rows → with_missing s (flat_map texts_of_domain rows ++ more) ≡ with_missing s more
domains_skipped s [] more helps = refl
domains_skipped s (row ∷ rows) more helps =
    ap (with_missing s) (append_assoc (texts_of_domain row) (flat_map texts_of_domain rows) more)
    ∙ skipped s (texts_of_domain row) (flat_map texts_of_domain rows ++ more) (helps_among s row.short row.long (helps 0 row refl))
    ∙ domains_skipped s rows more (λ i x at. helps (suc i) x at)

values_skipped : (s : List (List ℕ)) (rows : List ValueRow) → Each (λ row. HasContent s row.content) rows → with_missing s (flat_map (λ row. texts_in row.content) rows) ≡ s
unfolding with_missing
values_skipped s [] texts = refl
values_skipped s (row ∷ rows) texts =
    skipped s (texts_in row.content) (flat_map (λ row. texts_in row.content) rows) (content_among s row.content (texts 0 row refl))
    ∙ values_skipped s rows (λ i x at. texts (suc i) x at)

-- of a metric in version 2 the name alone may be missing
metrics_named : (s : List (List ℕ)) (rows : List MetricRow) (more : List (List ℕ)) → Each (λ row. HasHelp s row.short × HasHelp s row.long) rows → with_missing s (flat_map (texts_of_metric 2) rows ++ more) ≡ with_missing s (map (λ row. row.name) rows ++ more)
unfolding with_missing
metrics_named s [] more helps = refl
metrics_named s (row ∷ rows) more helps =
    let next : List (List ℕ) = cond (list_any (λ other. bytes_eq other row.name) s) s (s ++ row.name ∷ []) in
    let here : HasHelp (cond (list_any (λ other. bytes_eq other row.name) s) s (s ++ row.name ∷ [])) row.short × HasHelp (cond (list_any (λ other. bytes_eq other row.name) s) s (s ++ row.name ∷ [])) row.long = (
      help_more s _ row.short (has_more s row.name) (helps 0 row refl).0,
      help_more s _ row.long (has_more s row.name) (helps 0 row refl).1,
    ) in
    ap (with_missing (cond (list_any (λ other. bytes_eq other row.name) s) s (s ++ row.name ∷ []))) (append_assoc (texts_of row.short ++ texts_of row.long) (flat_map (texts_of_metric 2) rows) more)
    ∙ skipped (cond (list_any (λ other. bytes_eq other row.name) s) s (s ++ row.name ∷ [])) (texts_of row.short ++ texts_of row.long) (flat_map (texts_of_metric 2) rows ++ more) (helps_among _ row.short row.long here)
    ∙ metrics_named (cond (list_any (λ other. bytes_eq other row.name) s) s (s ++ row.name ∷ [])) rows more (λ i x at. (
      help_more s _ x.short (has_more s row.name) (helps (suc i) x at).0,
      help_more s _ x.long (has_more s row.name) (helps (suc i) x at).1,
    ))

names_of_members : (instances : List (ℤ × List ℕ)) → flat_map (λ instance. instance.1 ∷ []) instances ≡ map (λ instance. instance.1) instances
names_of_members [] = refl
names_of_members (instance ∷ instances) = ap (λ names. instance.1 ∷ names) (names_of_members instances)

names_of_instances : (rows : List IndomRow) → flat_map (texts_of_instances 2) rows ≡ flat_map (λ row. map (λ instance. instance.1) row.instances) rows
names_of_instances [] = refl
names_of_instances (row ∷ rows) = ap₂ (λ a b. a ++ b) (names_of_members row.instances) (names_of_instances rows)

-- the strings of a layout in version 2, where those of its helps and values are there
strings_in_2 : (layout : Layout) → HasTexts layout → all_strings (in_version_2 layout) ≡ with_missing layout.strings (names_in layout)
unfolding all_strings
strings_in_2 layout texts =
    let s : List (List ℕ) = layout.strings in
    let names : List (List ℕ) = flat_map (λ row. map (λ instance. instance.1) row.instances) layout.indoms in
    domains_skipped layout.strings layout.indoms _ texts.domains
    ∙ ap (λ b. with_missing layout.strings (b ++ (flat_map (texts_of_metric 2) layout.metrics ++ flat_map (λ row. texts_in row.content) layout.values))) (names_of_instances layout.indoms)
    ∙ sym (missing_joined layout.strings (flat_map (λ row. map (λ instance. instance.1) row.instances) layout.indoms) (flat_map (texts_of_metric 2) layout.metrics ++ flat_map (λ row. texts_in row.content) layout.values))
    ∙ metrics_named (with_missing layout.strings (flat_map (λ row. map (λ instance. instance.1) row.instances) layout.indoms)) layout.metrics (flat_map (λ row. texts_in row.content) layout.values) (λ i row at. (
      help_more layout.strings _ row.short (has_all_more layout.strings (flat_map (λ row. map (λ instance. instance.1) row.instances) layout.indoms)) (texts.metrics i row at).0,
      help_more layout.strings _ row.long (has_all_more layout.strings (flat_map (λ row. map (λ instance. instance.1) row.instances) layout.indoms)) (texts.metrics i row at).1,
    ))
    ∙ missing_joined layout.strings (flat_map (λ row. map (λ instance. instance.1) row.instances) layout.indoms) (map (λ row. row.name) layout.metrics ++ flat_map (λ row. texts_in row.content) layout.values)
    ∙ ap (with_missing layout.strings) (sym (append_assoc (flat_map (λ row. map (λ instance. instance.1) row.instances) layout.indoms) (map (λ row. row.name) layout.metrics) (flat_map (λ row. texts_in row.content) layout.values)))
    ∙ sym (missing_joined layout.strings (names_in layout) (flat_map (λ row. texts_in row.content) layout.values))
    ∙ values_skipped (with_missing layout.strings (names_in layout)) layout.values (λ i row at. content_more layout.strings _ row.content (has_all_more layout.strings (names_in layout)) (texts.values i row at))

pub lifted_says_the_layout : LiftedSaysTheLayout
unfolding lifted_words
lifted_says_the_layout words h few =
    let layout : Layout = layout_of words in
    sym (says_layout (image_words (in_version_2 (layout_of words))) (with_all_strings (in_version_2 (layout_of words))) (drafts_are_said (in_version_2 (layout_of words)) (layouts_are_of_version_2 words h) few))
    ∙ ap (λ strings. record (layout_of words) { version = 2; strings = strings }) (strings_in_2 (layout_of words) (layouts_have_texts words h))
