-- The text of a draft is read as that draft.
use Rattle.std.proofs.Common.{◌≡◌, ◌≢◌, min, ℕ, zero, suc, ◌+◌, ◌<◌, ◌≤◌, ℤ, pos, Bool, true, false, not, ◌&&◌, ◌||◌, cond, nat_eq, nat_le, List, [], ◌∷◌, ◌++◌, length, append_assoc, append-nil, refl, sym, ap, subst, ◌∙◌, arith, ⊎_elim, Option, Some, None, Ok, Err, All}
use Rattle.std.specs.List.{list_any, slice_get}
use Rattle.std.specs.Int.{is_negative}
use Rattle.std.proofs.lemmas.Bool.{eqb-true, eq-eqb, le-leb}
use Rattle.std.proofs.lemmas.Bool.Decides.{nat_tests}
use Rattle.pcp_base.specs.declared.kind.Kind.{Kind}
use Rattle.mmv_layout.specs.declared.rows.IndomRow.{IndomRow}
use Rattle.mmv_layout.specs.declared.rows.MetricRow.{MetricRow}
use Rattle.mmv_layout.specs.declared.rows.ValueRow.{ValueRow}
use Rattle.mmv_layout.specs.declared.rows.Content.{Content}
use Rattle.mmv_layout.specs.declared.rows.Content.TheVariants as contents
use Rattle.mmv_layout.specs.declared.rows.Layout.{Layout}
use Rattle.mmv_layout.specs.Rows.{layout_of}
use Rattle.mmv_layout.proofs.Below.{both_left, both_right}
use Rattle.mmv_layout.proofs.Versions.{version_fits}
use Rattle.mmv_layout.proofs.Saying.{says_layout}
use Rattle.text_lines.specs.Laws.{IsLineByte}
use Rattle.text_lines.specs.declared.layout_line.Line.{Line}
use Rattle.text_lines.specs.declared.layout_line.Line.TheVariants as lines
use Rattle.text_lines.specs.Contents.{written_of}
use Rattle.text_lines.specs.LayoutLaws.{IsLine}
use Rattle.text_lines.specs.LayoutSpelling.{line_text, full_line}
use Rattle.text_lines.specs.Whole.{strings_text, instances_text, indom_text, indoms_text, metrics_text, kind_of_item, value_text, values_text, layout_text}
use Rattle.text_lines.proofs.LayoutLineBytes.{line_in_line}
use Rattle.text_lines.proofs.LineReads.{line_is_read}
use Rattle.mmv_writer.specs.Spelling.{image_words}
use Rattle.mmv_writer.proofs.Positions.{first_passes}
use Rattle.mmv_layout.specs.Entries.{is_serial}
use Rattle.mmv_writer.specs.declared.fault.BuildFault.{BuildFault}
use Rattle.mmv_writer.specs.declared.fault.BuildFault.TheVariants.{Name, Duplicate, Unknown, Serial, Item, TooLarge}
use Rattle.mmv_writer.specs.declared.line_fault.LineFault.TheVariants.{Build}
use Rattle.mmv_writer.specs.Rules.{is_long_help, has_domain, header_fault, indom_fault, is_instance_name, is_same_instance, has_same_instance, instance_fault, is_metric_name, is_same_metric, lacks_domain, unknown_or, metric_fault, fits_instance, fits_kind, fits_metric, fits_some_metric, is_same_value, is_long_content, value_fault, text_fault}
use Rattle.mmv_writer.specs.Draft.{Apart, IsString, IsHelp, IsInstance, IsDomain, HasDomain, IsMetric, IsContent, IsValue, is_same_serial, empty_draft, new_domain, with_domain, add_instance, with_instance, with_metric, with_value, with_string}
use Rattle.mmv_writer.specs.Saying.{with_all_strings}
use Rattle.mmv_writer.specs.Reading.{full_line_of, unless, kind_in, with_content, with_written, with_line, with_said, with_head, and_then, with_lines, draft_of, text_draft, words_within_limit, image_of, text_image}
use Rattle.mmv_writer.specs.TextLaws.{IsInRange, IsWrittenDraft, WrittenTextIsRead, TextComesBack}
use Rattle.mmv_writer.proofs.Rows.{either_left, either_right, get_below, any_at, any_wider}
use Rattle.mmv_writer.proofs.Sayings.{drafts_are_said}
use Rattle.text_lines.specs.Lines.{prepend, lines_of}
use Rattle.text_lines.proofs.Feeds.{either, feed_lines, other_lines}
use Rattle.mmv_writer.proofs.TextLines.{full_line as line_behind_feed}
use Rattle.mmv_writer.proofs.TextDrafts.{tail_all}
use Rattle.mmv_writer.proofs.WrittenLines.{text_of, help_in_line, name_in_line, id_in_line, domain_in_line, serial_in_line, number_in_line, content_in_line}

-- Lines

not_feed : (b : ℕ) → b ≢ 10 → nat_eq b 10 ≡ false
not_feed b h = ⊎_elim (λ (t : nat_eq b 10 ≡ true). absurd (h (eqb-true b 10 t))) (λ (f : nat_eq b 10 ≡ false). f) (either (nat_eq b 10))

line_before : (text rest : List ℕ) → All IsLineByte text → lines_of (text ++ 10 ∷ rest) ≡ (text ++ 10 ∷ []) ∷ lines_of rest
unfolding prepend
line_before [] rest h = feed_lines 10 rest refl
line_before (b ∷ bs) rest h =
    other_lines b (bs ++ 10 ∷ rest) (not_feed b (h 0 0 (omega arith)).1) ∙ ap (prepend b) (line_before bs rest (tail_all IsLineByte b bs h))

-- a line stands before whatever is behind it
line_first : (l : Line) (rest : List ℕ) → IsLine l → lines_of (full_line l ++ rest) ≡ full_line l ∷ lines_of rest
unfolding full_line
line_first l rest is = ap lines_of (append_assoc (line_text l) (10 ∷ []) rest) ∙ line_before (line_text l) rest (line_in_line l is)

line_says : (l : Line) → IsLine l → full_line_of (full_line l) ≡ Some l
unfolding full_line
line_says l is = line_behind_feed (line_text l) ∙ line_is_read l is

-- bytes take one draft to another, whatever stands behind them
abbrev Goes : List ℕ → Layout → Layout → Type 0
Goes bytes before after = (rest : List ℕ) (n : ℕ) → (m : ℕ) × (with_lines (lines_of (bytes ++ rest)) n before ≡ with_lines (lines_of rest) m after)

line_goes : (l : Line) (before after : Layout) → IsLine l → with_line before l ≡ Ok after → Goes (full_line l) before after
unfolding with_lines with_said
line_goes l before after is h rest n = (
  n + 1,
  ap (λ ls. with_lines ls n before) (line_first l rest is)
      ∙ ap (λ said. and_then (with_said before said) n (λ later. with_lines (lines_of rest) (n + 1) later)) (line_says l is)
      ∙ ap (λ found. and_then found n (λ later. with_lines (lines_of rest) (n + 1) later)) h,
)

joined : (a b : List ℕ) (d e f : Layout) → Goes a d e → Goes b e f → Goes (a ++ b) d f
joined a b d e f p q rest n =
    let one = p (b ++ rest) n in
    let two = q rest one.0 in
    (two.0, ap (λ x. with_lines (lines_of x) n d) (append_assoc a b rest) ∙ one.1 ∙ two.1)

nothing_goes : (d : Layout) → Goes [] d d
nothing_goes d rest n = (n, refl)

-- Rows, each behind those before it

-- a section goes on row by row
rows_go : {T : Type 0} (text : List T → List ℕ) (line : T → List ℕ) (at : List T → Layout) (all : List T) → text [] ≡ [] → ((x : T) (xs : List T) → text (x ∷ xs) ≡ line x ++ text xs) → ((before : List T) (x : T) (xs : List T) → before ++ x ∷ xs ≡ all → Goes (line x) (at before) (at (before ++ x ∷ []))) → (before rows : List T) → before ++ rows ≡ all → Goes (text rows) (at before) (at (before ++ rows))
rows_go text line at all none more step before [] e =
    subst (λ t. Goes t (at before) (at (before ++ []))) (sym none) (subst (λ b. Goes [] (at before) (at b)) (sym (append-nil before)) (nothing_goes (at before)))
rows_go text line at all none more step before (x ∷ xs) e =
    subst (λ t. Goes t (at before) (at (before ++ x ∷ xs))) (sym (more x xs))
    (joined (line x) (text xs) (at before) (at (before ++ x ∷ [])) (at (before ++ x ∷ xs)) (step before x xs e)
    (subst (λ b. Goes (text xs) (at (before ++ x ∷ [])) (at b)) (append_assoc before (x ∷ []) xs)
    (rows_go text line at all none more step (before ++ x ∷ []) xs (append_assoc before (x ∷ []) xs ∙ e))))

get_mid : {T : Type 0} (before : List T) (x : T) (xs : List T) → slice_get (before ++ x ∷ xs) (length before) ≡ Some x
get_mid [] x xs = refl
get_mid (y ∷ before) x xs = get_mid before x xs

get_front : {T : Type 0} (before more : List T) (y : T) (i : ℕ) → slice_get before i ≡ Some y → slice_get (before ++ more) i ≡ Some y
get_front [] more y i h = cc
get_front (z ∷ before) more y zero h = h
get_front (z ∷ before) more y (suc i) h = get_front before more y i h

none_of : {T : Type 0} (test : T → Bool) (xs : List T) → ((i : ℕ) (y : T) → slice_get xs i ≡ Some y → test y ≡ false) → list_any test xs ≡ false
none_of test [] h = refl
none_of test (x ∷ xs) h = ap (λ b. b || list_any test xs) (h 0 x refl) ∙ none_of test xs (λ i y e. h (suc i) y e)

module _ {T : Type 0} (all before : List T) (x : T) (xs : List T) (e : before ++ x ∷ xs ≡ all) where
  row_there : slice_get all (length before) ≡ Some x
  row_there = subst (λ rows. slice_get rows (length before) ≡ Some x) e (get_mid before x xs)

  -- no row before a row is the same
  none_same : (same : T → T → Bool) → Apart same all → list_any (λ other. same other x) before ≡ false
  none_same same apart =
      none_of (λ other. same other x) before
      (λ i y at. apart i (length before) y x (get_below before y i at) (subst (λ rows. slice_get rows i ≡ Some y) e (get_front before (x ∷ xs) y i at)) row_there)

-- Rules that aren't broken

no_long_help : (help : Option (List ℕ)) → IsHelp help → is_long_help help ≡ false
no_long_help None h = refl
no_long_help (Some text) h = h.short

no_long_content : (content : Content) → IsContent content → is_long_content content ≡ false
no_long_content (contents.Number n) h = refl
no_long_content (contents.Choice text) h = h.short
no_long_content (contents.Raw value extra) h = refl

short_helps : (short long : Option (List ℕ)) → IsHelp short → IsHelp long → (is_long_help short || is_long_help long) ≡ false
short_helps short long s l = ap (λ b. b || is_long_help long) (no_long_help short s) ∙ no_long_help long l

three_none : (a b c : Bool) (f g k : BuildFault) → a ≡ false → b ≡ false → c ≡ true → cond a (Some f) (cond b (Some g) (cond c None (Some k))) ≡ None
three_none a b c f g k ha hb hc = rw (ha, hb, hc)

four_none : (a b c e : Bool) (f g k l : BuildFault) → a ≡ true → b ≡ false → c ≡ true → e ≡ false → cond (not a) (Some f) (cond b (Some g) (cond (not c) (Some k) (cond e (Some l) None))) ≡ None
four_none a b c e f g k l ha hb hc he = rw (ha, hb, hc, he)

metric_none : (a b c : Bool) (lacks : Option ℕ) (e : Bool) → a ≡ true → b ≡ false → c ≡ false → lacks ≡ None → e ≡ true → cond (not a || b) (Some Name) (cond c (Some Duplicate) (unknown_or lacks (cond e None (Some Item)))) ≡ None
metric_none a b c lacks e ha hb hc hl he = rw (ha, hb, hc, hl, he)

lacks_none : (indoms : List IndomRow) (serial : Option ℕ) → HasDomain indoms serial → lacks_domain indoms serial ≡ None
lacks_none indoms None h = refl
lacks_none indoms (Some serial) h = ap (λ b. cond b None (Some serial)) h

-- a row that no rule forbids is added
added : (found : Option BuildFault) (later : Layout) → found ≡ None → unless found later ≡ Ok later
added found later h = ap (λ f. unless f later) h

any_last : {T : Type 0} (test : T → Bool) (xs : List T) (y : T) → test y ≡ true → list_any test (xs ++ y ∷ []) ≡ true
any_last test [] y h = ap (λ b. b || false) h
any_last test (x ∷ xs) y h = ap (λ b. test x || b) (any_last test xs y h) ∙ or_true (test x)
  where
    or_true : (b : Bool) → (b || true) ≡ true
    or_true true = refl
    or_true false = refl

any_snoc : {T : Type 0} (test : T → Bool) (xs : List T) (y : T) → list_any test xs ≡ false → test y ≡ false → list_any test (xs ++ y ∷ []) ≡ false
any_snoc test [] y none h = ap (λ b. b || false) h
any_snoc test (x ∷ xs) y none h =
    ap (λ b. b || list_any test (xs ++ y ∷ [])) (either_left (test x) (list_any test xs) none) ∙ any_snoc test xs y (either_right (test x) (list_any test xs) none) h

and_false : (a b : Bool) → b ≡ false → (a && b) ≡ false
and_false true b h = h
and_false false b h = refl

not_negative : (n : ℕ) → is_negative (pos n) ≡ false
not_negative zero = refl
not_negative (suc n) = grind (arith, nat_tests)

-- an instance of the last domain
add_last : (before : List IndomRow) (domain : IndomRow) (serial : ℕ) (instance : ℤ × List ℕ) → list_any (λ row. nat_eq row.serial serial) before ≡ false → nat_eq domain.serial serial ≡ true → add_instance (before ++ domain ∷ []) serial instance ≡ before ++ (record domain { instances = domain.instances ++ instance ∷ [] }) ∷ []
unfolding add_instance
add_last [] domain serial instance none is =
    ap (λ b. cond b (record domain { instances = domain.instances ++ instance ∷ [] } ∷ []) (domain ∷ [])) is
add_last (row ∷ rows) domain serial instance none is =
    ap (λ b. cond b (record row { instances = row.instances ++ instance ∷ [] } ∷ (rows ++ domain ∷ [])) (row ∷ add_instance (rows ++ domain ∷ []) serial instance)) (either_left (nat_eq row.serial serial) (list_any (λ r. nat_eq r.serial serial) rows) none)
    ∙ ap (λ more. row ∷ more) (add_last rows domain serial instance (either_right (nat_eq row.serial serial) (list_any (λ r. nat_eq r.serial serial) rows) none) is)

-- the first metric with an item tells the kind
kind_found : (metrics : List MetricRow) (item : ℕ) → list_any (λ m. nat_eq m.item item) metrics ≡ true → kind_in metrics item ≡ Some (kind_of_item item metrics)
kind_found [] item h = cc
kind_found (m ∷ ms) item h = next (nat_eq m.item item) (kind_found ms item) h
  where
    next : (q : Bool) → (list_any (λ r. nat_eq r.item item) ms ≡ true → kind_in ms item ≡ Some (kind_of_item item ms)) → (q || list_any (λ r. nat_eq r.item item) ms) ≡ true → cond q (Some m.kind) (kind_in ms item) ≡ Some (cond q m.kind (kind_of_item item ms))
    next true more h = refl
    next false more h = more h

-- a draft's header with so many of its rows
abbrev stage : Layout → List (List ℕ) → List IndomRow → List MetricRow → List ValueRow → Layout
stage draft strings indoms metrics values = record {
  version = draft.version;
  generation = draft.generation;
  flags = draft.flags;
  pid = draft.pid;
  cluster = draft.cluster;
  indoms = indoms;
  metrics = metrics;
  values = values;
  strings = strings;
}

module _ (draft : Layout) (w : IsWrittenDraft draft) where
  string_step : (before : List (List ℕ)) (text : List ℕ) (texts : List (List ℕ)) → before ++ text ∷ texts ≡ draft.strings → Goes (full_line (lines.String text)) (stage draft before [] [] []) (stage draft (before ++ text ∷ []) [] [] [])
  unfolding with_line with_string text_fault
  string_step before text texts e =
      let is : IsString text = w.rows.strings (length before) text (row_there draft.strings before text texts e) in
      line_goes (lines.String text) (stage draft before [] [] []) (stage draft (before ++ text ∷ []) [] [] []) (text_of text is.stored)
      (added (text_fault text) (with_string (stage draft before [] [] []) text) (ap (λ b. cond b (Some Name) None) is.short))

  module _ (before : List IndomRow) (row : IndomRow) (rows : List IndomRow) (e : before ++ row ∷ rows ≡ draft.indoms) where
    fine : IsDomain draft.version row
    fine = w.rows.domains (length before) row (row_there draft.indoms before row rows e)

    no_other : list_any (λ other. nat_eq other.serial row.serial) before ≡ false
    no_other = none_same draft.indoms before row rows e is_same_serial w.rows.serials

    -- the domain with so many of its instances
    abbrev domain_of : List (ℤ × List ℕ) → IndomRow
    domain_of members = record { serial = row.serial; instances = members; short = row.short; long = row.long }

    abbrev at : List (ℤ × List ℕ) → Layout
    at members = stage draft draft.strings (before ++ domain_of members ∷ []) [] []

    instance_none : (members : List (ℤ × List ℕ)) (x : ℤ × List ℕ) (xs : List (ℤ × List ℕ)) → members ++ x ∷ xs ≡ row.instances → IsInstance draft.version x → instance_fault (at members) row.serial x.0 x.1 ≡ None
    unfolding instance_fault
    instance_none members x xs f is =
        four_none (is_instance_name draft.version x.1) (has_same_instance (before ++ domain_of members ∷ []) row.serial x) (has_domain (before ++ domain_of members ∷ []) row.serial) (is_negative x.0) Name Duplicate (Unknown row.serial) Serial
        is.name
        (any_snoc (λ r. nat_eq r.serial row.serial && list_any (λ other. is_same_instance other x) r.instances) before (domain_of members)
        (none_of (λ r. nat_eq r.serial row.serial && list_any (λ other. is_same_instance other x) r.instances) before
        (λ i y there. ap (λ b. b && list_any (λ other. is_same_instance other x) y.instances) (any_at (λ r. nat_eq r.serial row.serial) before y i no_other there)))
        (and_false (nat_eq row.serial row.serial) (list_any (λ other. is_same_instance other x) members) (none_same row.instances members x xs f is_same_instance fine.apart)))
        (any_last (λ r. nat_eq r.serial row.serial) before (domain_of members) (eq-eqb row.serial row.serial refl))
        (ap is_negative is.number.1 ∙ not_negative is.number.0)

    instance_step : (members : List (ℤ × List ℕ)) (x : ℤ × List ℕ) (xs : List (ℤ × List ℕ)) → members ++ x ∷ xs ≡ row.instances → Goes (full_line (lines.Instance row.serial x.0 x.1)) (at members) (at (members ++ x ∷ []))
    unfolding with_line with_instance
    instance_step members x xs f =
        let is : IsInstance draft.version x = fine.instances (length members) x (row_there row.instances members x xs f) in
        line_goes (lines.Instance row.serial x.0 x.1) (at members) (at (members ++ x ∷ []))
        (domain_in_line draft.version draft.indoms w.rows.domains row fine, id_in_line x.0 is.number, text_of x.1 is.stored)
        (added (instance_fault (at members) row.serial x.0 x.1) (with_instance (at members) row.serial x.0 x.1) (instance_none members x xs f is)
        ∙ ap (λ indoms. Ok (stage draft draft.strings indoms [] [])) (add_last before (domain_of members) row.serial x no_other (eq-eqb row.serial row.serial refl)))

    domain_none : indom_fault (stage draft draft.strings before [] []) (new_domain row.serial row.short row.long) ≡ None
    unfolding indom_fault
    domain_none =
        three_none (is_long_help row.short || is_long_help row.long) (has_domain before row.serial) (is_serial row.serial) Name Duplicate Serial
        (short_helps row.short row.long fine.short fine.long) no_other fine.serial

    domain_line : Goes (full_line (lines.Indom row.serial row.short row.long)) (stage draft draft.strings before [] []) (at [])
    unfolding with_line with_domain
    domain_line =
        line_goes (lines.Indom row.serial row.short row.long) (stage draft draft.strings before [] []) (at [])
        (domain_in_line draft.version draft.indoms w.rows.domains row fine, help_in_line row.short fine.short, help_in_line row.long fine.long)
        (added (indom_fault (stage draft draft.strings before [] []) (new_domain row.serial row.short row.long)) (with_domain (stage draft draft.strings before [] []) (new_domain row.serial row.short row.long)) domain_none)

    domain_step : Goes (indom_text row) (stage draft draft.strings before [] []) (stage draft draft.strings (before ++ row ∷ []) [] [])
    unfolding indom_text
    domain_step =
        joined (full_line (lines.Indom row.serial row.short row.long)) (instances_text row.serial row.instances) (stage draft draft.strings before [] []) (at []) (at row.instances) domain_line
        (rows_go (instances_text row.serial) (λ x. full_line (lines.Instance row.serial x.0 x.1)) at row.instances refl (λ x xs. refl) instance_step [] row.instances refl)

  module _ (before : List MetricRow) (row : MetricRow) (rows : List MetricRow) (e : before ++ row ∷ rows ≡ draft.metrics) where
    metric_is : IsMetric draft.version draft.indoms row
    metric_is = w.rows.metrics (length before) row (row_there draft.metrics before row rows e)

    none_fault : metric_fault (stage draft draft.strings draft.indoms before []) row ≡ None
    unfolding metric_fault
    none_fault =
        metric_none (is_metric_name draft.version row.name) (is_long_help row.short || is_long_help row.long) (list_any (λ other. is_same_metric other row) before) (lacks_domain draft.indoms row.serial) (nat_le row.item 1023)
        metric_is.name (short_helps row.short row.long metric_is.short metric_is.long) (none_same draft.metrics before row rows e is_same_metric w.rows.items)
        (lacks_none draft.indoms row.serial metric_is.domain) (le-leb row.item 1023 metric_is.item)

    metric_step : Goes (full_line (lines.Metric row)) (stage draft draft.strings draft.indoms before []) (stage draft draft.strings draft.indoms (before ++ row ∷ []) [])
    unfolding with_line with_metric
    metric_step =
        let small : row.item ≤ 1023 = metric_is.item in
        line_goes (lines.Metric row) (stage draft draft.strings draft.indoms before []) (stage draft draft.strings draft.indoms (before ++ row ∷ []) [])
        (record {
          name = name_in_line draft.version row.name metric_is.name;
          item = omega arith;
          units = metric_is.units;
          serial = serial_in_line draft.version draft.indoms w.rows.domains row.serial metric_is.domain;
          short = help_in_line row.short metric_is.short;
          long = help_in_line row.long metric_is.long;
        })
        (added (metric_fault (stage draft draft.strings draft.indoms before []) row) (with_metric (stage draft draft.strings draft.indoms before []) row) none_fault)

  module _ (before : List ValueRow) (row : ValueRow) (rows : List ValueRow) (e : before ++ row ∷ rows ≡ draft.values) where
    abbrev earlier : Layout
    earlier = stage draft draft.strings draft.indoms draft.metrics before

    abbrev kind : Kind
    kind = kind_of_item row.item draft.metrics

    value_is : IsValue draft.indoms draft.metrics row
    value_is = w.rows.values (length before) row (row_there draft.values before row rows e)

    in_range : IsInRange draft row
    in_range = w.values (length before) row (row_there draft.values before row rows e)

    no_fault : value_fault earlier row ≡ None
    unfolding value_fault
    no_fault =
        three_none (is_long_content row.content) (list_any (λ other. is_same_value other row) before) (fits_some_metric draft.indoms draft.metrics row) Name Duplicate Item
        (no_long_content row.content value_is.content) (none_same draft.values before row rows e is_same_value w.rows.places) value_is.metric

    found : kind_in draft.metrics row.item ≡ Some kind
    found =
        kind_found draft.metrics row.item
        (any_wider (λ m. fits_metric draft.indoms row m) (λ m. nat_eq m.item row.item) draft.metrics (λ m h. both_left (nat_eq m.item row.item) (fits_instance draft.indoms m.serial row.instance && fits_kind m.kind row.content) h) value_is.metric)

    value_line : IsLine (lines.Value row.item row.instance (written_of kind row.content))
    value_line =
        let p = first_passes (λ m. fits_metric draft.indoms row m) draft.metrics value_is.metric in
        let same : p.row.item ≡ row.item = eqb-true p.row.item row.item (both_left (nat_eq p.row.item row.item) (fits_instance draft.indoms p.row.serial row.instance && fits_kind p.row.kind row.content) p.is) in
        let rest : (fits_instance draft.indoms p.row.serial row.instance && fits_kind p.row.kind row.content) ≡ true = both_right (nat_eq p.row.item row.item) (fits_instance draft.indoms p.row.serial row.instance && fits_kind p.row.kind row.content) p.is in
        let metric : IsMetric draft.version draft.indoms p.row = w.rows.metrics _ p.row p.at in
        let small : p.row.item ≤ 1023 = metric.item in (
          omega arith,
          number_in_line draft.version draft.indoms w.rows.domains p.row.serial row.instance (both_left (fits_instance draft.indoms p.row.serial row.instance) (fits_kind p.row.kind row.content) rest),
          content_in_line kind row.content in_range.fields value_is.content,
        )

    value_step : Goes (value_text draft.metrics row) earlier (stage draft draft.strings draft.indoms draft.metrics (before ++ row ∷ []))
    unfolding value_text with_line with_value
    value_step =
        line_goes (lines.Value row.item row.instance (written_of kind row.content)) earlier (stage draft draft.strings draft.indoms draft.metrics (before ++ row ∷ [])) value_line
        (ap (with_written earlier row.item row.instance (written_of kind row.content)) found
        ∙ ap (with_content earlier row.item row.instance) in_range.read
        ∙ added (value_fault earlier row) (with_value earlier row) no_fault)

  abbrev body : List ℕ
  body = strings_text draft.strings ++ (indoms_text draft.indoms ++ (metrics_text draft.metrics ++ values_text draft.metrics draft.values))

  body_goes : Goes body (stage draft [] [] [] []) draft
  body_goes =
      joined (strings_text draft.strings) (indoms_text draft.indoms ++ (metrics_text draft.metrics ++ values_text draft.metrics draft.values)) (stage draft [] [] [] []) (stage draft draft.strings [] [] []) draft
      (rows_go strings_text (λ text. full_line (lines.String text)) (λ strings. stage draft strings [] [] []) draft.strings refl (λ x xs. refl) string_step [] draft.strings refl)
      (joined (indoms_text draft.indoms) (metrics_text draft.metrics ++ values_text draft.metrics draft.values) (stage draft draft.strings [] [] []) (stage draft draft.strings draft.indoms [] []) draft
      (rows_go indoms_text indom_text (λ indoms. stage draft draft.strings indoms [] []) draft.indoms refl (λ x xs. refl) domain_step [] draft.indoms refl)
      (joined (metrics_text draft.metrics) (values_text draft.metrics draft.values) (stage draft draft.strings draft.indoms [] []) (stage draft draft.strings draft.indoms draft.metrics []) draft
      (rows_go metrics_text (λ row. full_line (lines.Metric row)) (λ metrics. stage draft draft.strings draft.indoms metrics []) draft.metrics refl (λ x xs. refl) metric_step [] draft.metrics refl)
      (rows_go (values_text draft.metrics) (value_text draft.metrics) (λ values. stage draft draft.strings draft.indoms draft.metrics values) draft.values refl (λ x xs. refl) value_step [] draft.values refl)))

  body_read : with_lines (lines_of body) 2 (stage draft [] [] [] []) ≡ Ok draft
  unfolding lines_of with_lines
  body_read =
      let g = body_goes [] 2 in
      ap (λ b. with_lines (lines_of b) 2 (stage draft [] [] [] [])) (sym (append-nil body)) ∙ g.1

  abbrev head : Line
  head = lines.Mmv draft.version draft.generation draft.flags draft.pid draft.cluster

  head_line : IsLine head
  head_line =
      let small : draft.version < 4294967296 = version_fits draft.version w.rows.version in
      let group : draft.cluster ≤ 4095 = w.rows.cluster in
      (omega arith, w.generation, w.rows.flags, w.rows.process, omega arith)

  head_none : header_fault draft.version draft.cluster ≡ None
  head_none =
      ap (λ b. cond (b && nat_le draft.cluster 4095) None (Some Serial)) w.rows.version
      ∙ ap (λ b. cond b None (Some Serial)) (le-leb draft.cluster 4095 w.rows.cluster)

  text_read : text_draft (layout_text draft) ≡ Ok draft
  unfolding layout_text text_draft draft_of with_head empty_draft
  text_read =
      ap draft_of (line_first head body head_line)
      ∙ ap (λ said. and_then (with_head said) 1 (λ d. with_lines (lines_of body) 2 d)) (line_says head head_line)
      ∙ ap (λ found. and_then (unless found (stage draft [] [] [] [])) 1 (λ d. with_lines (lines_of body) 2 d)) head_none
      ∙ body_read

pub written_text_is_read : WrittenTextIsRead
written_text_is_read draft w = text_read draft w

pub text_comes_back : TextComesBack
unfolding text_image words_within_limit
text_comes_back draft w all few =
    let same : with_all_strings draft ≡ layout_of (image_words draft) = says_layout (image_words draft) (with_all_strings draft) (drafts_are_said draft w.rows few) in (
      ap (λ d. image_of d (length (lines_of (layout_text draft)) + 1)) (written_text_is_read draft w)
          ∙ ap (λ b. cond b (Ok (image_words draft)) (Err (record { line = length (lines_of (layout_text draft)) + 1; fault = Build (TooLarge (min (length (image_words draft)) 18446744073709551615)) }))) (le-leb (length (image_words draft)) 65536 few),
      ap layout_text (sym same ∙ all),
    )
