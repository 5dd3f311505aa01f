-- What a fetch shows of readings can be spelled: each number is in its range.
use Rattle.std.proofs.Common.{◌≡◌, ℕ, ℤ, zero, suc, ◌+◌, ◌<◌, ◌≤◌, ◌==◌, Bool, true, false, cond, List, [], ◌∷◌, ◌++◌, length, map, Option, Some, None, sym, subst, arith}
use Rattle.std.specs.Prelude.{FitsSigned, IfSome, negsuc, find, fold, flat_map, unwrap_or, All}
use Rattle.std.specs.Int.{w32}
use Rattle.std.specs.List.{AllByRecursion}
use Rattle.std.specs.Map.{keys_of}
use Rattle.std.specs.Ordering.{int_cmp}
use Rattle.std.specs.BTreeMap.{insert_entry}
use Rattle.std.proofs.lemmas.Int.{ints}
use Rattle.std.proofs.lemmas.List.Elements.{All-nil, All-append, All-head, All-tail}
use Rattle.std.proofs.lemmas.Map.Views.{All-keys-insert_entry}
use Rattle.pcp_base.specs.Ids.{item_of}
use Rattle.pcp_base.specs.Time.{Moment, IsMoment}
use Rattle.pcp_base.specs.Typed.{TypedBytes}
use Rattle.pcp_base.specs.declared.kind.Kind.{Kind}
use Rattle.pcp_base.specs.declared.kind.Kind.TheVariants as kinds
use Rattle.pcp_base.specs.declared.result.Body.{Body}
use Rattle.pcp_base.specs.declared.result.Body.TheVariants.{InPlace, Blocks, Status}
use Rattle.pcp_base.specs.declared.result.ValueSet.{ValueSet}
use Rattle.pcp_model.specs.Payload.{BodyInRange, SetInRange, ResultInRange, block_length, blocks_length, blocks_in, blocks_of, pair_blocks, body_length, sets_length, payload_length}
use Rattle.pcp_model.proofs.Fields.{signed_fits}
use Rattle.pcp_model.proofs.Payloads.{blocks_length-append}
use Rattle.mmv_layout.specs.declared.rows.Content.{Content}
use Rattle.mmv_layout.specs.declared.rows.Content.TheVariants.{Number, Choice, Raw}
use Rattle.mmv_layout.specs.declared.rows.Layout.{Layout}
use Rattle.mmv_layout.specs.declared.rows.MetricRow.{MetricRow}
use Rattle.mmv_layout.specs.declared.rows.ValueRow.{ValueRow}
use Rattle.mmv_layout.specs.Fields.{number32}
use Rattle.mmv_layout.specs.EntryFields.{number_in_instance, instance_in_value}
use Rattle.mmv_layout.specs.Entries.{is_no_domain, value_at, value_count}
use Rattle.mmv_layout.specs.Rows.{domain_of, instance_of, layout_of, list_below, number_of, value_row, values_of}
use Rattle.profile_filter.specs.Kept.{Settings, keeps}
use Rattle.pdu_codec.specs.Spelling.{IsWord}
use Rattle.fetch_answers.specs.Answers.{answer_of, indom_in, is_of, layout_body, metric_body, metric_with, region_body, region_of, set_of}
use Rattle.fetch_answers.specs.Readings.{RegionReading}
use Rattle.fetch_answers.specs.Values.{ByInstance, block_of, blocks_or_none, body_of_values, instance_in, shown_block, shown_word, values_with, with_value, word_of, words_or_none}
use Rattle.fetch_answers.proofs.SetsFit.{sets_fit}

-- ---- rows of an image

-- the number of a row's instance has 32 bits, and so it is of each row
abbrev pub IsNumbered : ValueRow → Type 0
IsNumbered row = FitsSigned w32 (instance_in row)

abbrev pub AreNumbered : Option Layout → Type 0
AreNumbered None = Unit {0}
AreNumbered (Some layout) = All IsNumbered layout.values

rows_below : {X : Type 0} (P : X → Type 0) (n : ℕ) (row : ℕ → X) → ((i : ℕ) → P (row i)) → All P (list_below n row)
unfolding list_below
rows_below P zero row each = All-nil P
rows_below {X = X} P (suc n) row each = All-append P (list_below n row) (row n ∷ []) (rows_below P n row each) (one (row n) (each n))
  where
    one : (x : X) → P x → All P (x ∷ [])
    one x fits zero d h = fits
    one x fits (suc k) d h = absurd (omega arith)

small_word : (words : List ℕ) (at : ℕ) → number32 words at < 4294967296
unfolding number32
small_word words at = omega arith

number_fits : (words : List ℕ) (instance : ℕ) → FitsSigned w32 (number_of words instance)
number_fits words instance = signed_fits (number_in_instance words instance) (small_word words (instance + 12))

row_fits : (words : List ℕ) (value : ℕ) → IsNumbered (value_row words value)
unfolding value_row instance_of
row_fits words value = by_domain (is_no_domain (domain_of words value))
  where
    by_domain : (b : Bool) → FitsSigned w32 (unwrap_or (cond b None (Some (number_of words (instance_in_value words value)))) (negsuc 0))
    by_domain true = omega (arith, ints)
    by_domain false = number_fits words (instance_in_value words value)

rows_fit : (words : List ℕ) → All IsNumbered (values_of words)
unfolding values_of
rows_fit words = rows_below IsNumbered (value_count words) (λ i. value_row words (value_at words i)) (λ i. row_fits words (value_at words i))

pub layout_fits : (words : List ℕ) (layout : Layout) → layout ≡ layout_of words → AreNumbered (Some layout)
unfolding layout_of
layout_fits words layout is = subst (λ (x : Layout). All IsNumbered x.values) (sym is) (rows_fit words)

-- ---- values of a metric

values_from : (item : ℕ) (values : ByInstance) (rows : List ValueRow) → All (FitsSigned w32) (keys_of values) → All IsNumbered rows → All (FitsSigned w32) (keys_of (fold (with_value item) values rows))
values_from item values [] fit rows_are = fit
values_from item values (row ∷ rows) fit rows_are = values_from item (with_value item values row) rows (by_item (row.item == item)) (All-tail IsNumbered row rows rows_are)
  where
    by_item : (b : Bool) → All (FitsSigned w32) (keys_of (cond b (insert_entry int_cmp values (instance_in row) row.content) values))
    by_item true = All-keys-insert_entry int_cmp (instance_in row) row.content (FitsSigned w32) values fit (All-head IsNumbered row rows rows_are)
    by_item false = fit

values_fit : (item : ℕ) (rows : List ValueRow) → All IsNumbered rows → All (FitsSigned w32) (keys_of (values_with item rows))
values_fit item rows rows_are = values_from item [] rows (All-nil (FitsSigned w32)) rows_are

abbrev IsPlaced : ℤ × ℕ → Type 0
IsPlaced p = FitsSigned w32 p.0 × (p.1 < 4294967296)

abbrev IsKeyed : ℤ × TypedBytes → Type 0
IsKeyed p = FitsSigned w32 p.0

small_content : (content : Content) → word_of content < 4294967296
small_content (Number n) = omega arith
small_content (Choice text) = omega arith
small_content (Raw n extra) = omega arith

placed : (profile : Settings) (indom : Option ℕ) (values : ByInstance) → All (FitsSigned w32) (keys_of values) → AllByRecursion IsPlaced (flat_map (shown_word profile indom) values)
placed profile indom [] fit = tt
placed profile indom (v ∷ values) fit = by_profile (keeps profile indom v.0) (placed profile indom values (All-tail (FitsSigned w32) v.0 (keys_of values) fit))
  where
    by_profile : (b : Bool) → AllByRecursion IsPlaced (flat_map (shown_word profile indom) values) → AllByRecursion IsPlaced (cond b ((v.0, word_of v.1) ∷ []) [] ++ flat_map (shown_word profile indom) values)
    by_profile true more = ((All-head (FitsSigned w32) v.0 (keys_of values) fit, small_content v.1), more)
    by_profile false more = more

keyed : (profile : Settings) (indom : Option ℕ) (code : ℕ) (values : ByInstance) → All (FitsSigned w32) (keys_of values) → AllByRecursion IsKeyed (flat_map (shown_block profile indom code) values)
keyed profile indom code [] fit = tt
keyed profile indom code (v ∷ values) fit = by_profile (keeps profile indom v.0) (keyed profile indom code values (All-tail (FitsSigned w32) v.0 (keys_of values) fit))
  where
    rest : List (ℤ × TypedBytes)
    rest = flat_map (shown_block profile indom code) values

    by_profile : (b : Bool) → AllByRecursion IsKeyed rest → AllByRecursion IsKeyed (cond b ((v.0, block_of code v.1) ∷ []) [] ++ rest)
    by_profile true more = (All-head (FitsSigned w32) v.0 (keys_of values) fit, more)
    by_profile false more = more

-- ---- bodies of sets

-- numbers of instances and statuses have 32 bits, and so has each value in place
abbrev HasNumbers : Body → Type 0
HasNumbers (InPlace pairs) = AllByRecursion IsPlaced pairs
HasNumbers (Blocks pairs) = AllByRecursion IsKeyed pairs
HasNumbers (Status n) = FitsSigned w32 n

some_words : (pairs : List (ℤ × ℕ)) → AllByRecursion IsPlaced pairs → HasNumbers (words_or_none pairs)
some_words [] fit = omega (arith, ints)
some_words (p ∷ pairs) fit = fit

some_blocks : (pairs : List (ℤ × TypedBytes)) → AllByRecursion IsKeyed pairs → HasNumbers (blocks_or_none pairs)
some_blocks [] fit = omega (arith, ints)
some_blocks (p ∷ pairs) fit = fit

stored_fits : (kind : Kind) (profile : Settings) (indom : Option ℕ) (values : ByInstance) → All (FitsSigned w32) (keys_of values) → HasNumbers (body_of_values kind profile indom values)
stored_fits kinds.I32 profile indom values fit = some_words (flat_map (shown_word profile indom) values) (placed profile indom values fit)
stored_fits kinds.U32 profile indom values fit = some_words (flat_map (shown_word profile indom) values) (placed profile indom values fit)
stored_fits kinds.I64 profile indom values fit = some_blocks (flat_map (shown_block profile indom 2) values) (keyed profile indom 2 values fit)
stored_fits kinds.U64 profile indom values fit = some_blocks (flat_map (shown_block profile indom 3) values) (keyed profile indom 3 values fit)
stored_fits kinds.Float profile indom values fit = omega (arith, ints)
stored_fits kinds.Double profile indom values fit = omega (arith, ints)
stored_fits kinds.Text profile indom values fit = some_blocks (flat_map (shown_block profile indom 6) values) (keyed profile indom 6 values fit)
stored_fits kinds.Elapsed profile indom values fit = omega (arith, ints)

metric_fits : (profile : Settings) (cluster : ℕ) (layout : Layout) (o : Option MetricRow) → All IsNumbered layout.values → HasNumbers (metric_body profile cluster layout o)
metric_fits profile cluster layout None fit = omega (arith, ints)
metric_fits profile cluster layout (Some metric) fit = stored_fits metric.kind profile (indom_in cluster metric) (values_with metric.item layout.values) (values_fit metric.item layout.values fit)

layout_has : (profile : Settings) (cluster pmid : ℕ) (o : Option Layout) → AreNumbered o → HasNumbers (layout_body profile cluster pmid o)
layout_has profile cluster pmid None fit = omega (arith, ints)
layout_has profile cluster pmid (Some layout) fit = metric_fits profile cluster layout (metric_with (item_of pmid) layout.metrics) fit

region_fits : (profile : Settings) (pmid : ℕ) (o : Option RegionReading) → IfSome o (λ (r : RegionReading). AreNumbered r.layout) → HasNumbers (region_body profile pmid o)
region_fits profile pmid None fit = omega (arith, ints)
region_fits profile pmid (Some region) fit = layout_has profile region.cluster pmid region.layout fit

found : {X : Type 0} (P : X → Type 0) (test : X → Bool) (xs : List X) → AllByRecursion P xs → IfSome (find test xs) P
found P test [] all = tt
found {X = X} P test (x ∷ xs) all = by_test (test x) (found P test xs all.1)
  where
    by_test : (b : Bool) → IfSome (find test xs) P → IfSome (cond b (Some x) (find test xs)) P
    by_test true later = all.0
    by_test false later = later

-- readings whose layouts are so
abbrev pub ReadingsFit : List RegionReading → Type 0
ReadingsFit regions = AllByRecursion (λ (r : RegionReading). AreNumbered r.layout) regions

set_has : (regions : List RegionReading) (profile : Settings) (pmid : ℕ) → ReadingsFit regions → HasNumbers (region_body profile pmid (region_of regions pmid))
set_has regions profile pmid fit = region_fits profile pmid (region_of regions pmid) (found (λ (r : RegionReading). AreNumbered r.layout) (is_of pmid) regions fit)

-- ---- ranges, where all is short

block_fits : (pairs : List (ℤ × TypedBytes)) → AllByRecursion IsKeyed pairs → blocks_length (pair_blocks pairs) ≤ 65536 → AllByRecursion (λ (p : ℤ × TypedBytes). FitsSigned w32 p.0 × (length p.1.bytes ≤ 16777211)) pairs
block_fits [] fit few = tt
block_fits (p ∷ pairs) fit few =
    let here : block_length p.1 + blocks_length (pair_blocks pairs) ≤ 65536 = few in
    ((fit.0, omega arith), block_fits pairs fit.1 (omega arith))

body_in_range : (b : Body) → HasNumbers b → body_length b ≤ 65536 → blocks_length (blocks_in b) ≤ 65536 → BodyInRange b
body_in_range (InPlace pairs) fit few short = (omega arith, fit)
body_in_range (Blocks pairs) fit few short = (omega arith, block_fits pairs fit short)
body_in_range (Status n) fit few short = fit

sets_in_range : (regions : List RegionReading) (profile : Settings) (pmids : List ℕ) → ReadingsFit regions → AllByRecursion IsWord pmids
    → sets_length (map (set_of regions profile) pmids) ≤ 65536 → blocks_length (blocks_of (map (set_of regions profile) pmids)) ≤ 65536 → AllByRecursion SetInRange (map (set_of regions profile) pmids)
sets_in_range regions profile [] fit words few short = tt
sets_in_range regions profile (pmid ∷ pmids) fit words few short =
    let body : Body = region_body profile pmid (region_of regions pmid) in
    let others : List ValueSet = map (set_of regions profile) pmids in
    let here : 4 + body_length body + sets_length others ≤ 65536 = few in
    let all : blocks_length (blocks_in body ++ blocks_of others) ≤ 65536 = short in
    let parts = blocks_length-append (blocks_in body) (blocks_of others) in
    let writable = sets_fit regions profile (pmid ∷ pmids) in (
      (words.0, writable.0, body_in_range body (set_has regions profile pmid fit) (omega arith) (omega arith)),
      sets_in_range regions profile pmids fit words.1 (omega arith) (omega arith),
    )

pub answer_in_range : (regions : List RegionReading) (profile : Settings) (pmids : List ℕ) (stamp : Moment) → ReadingsFit regions → AllByRecursion IsWord pmids → IsMoment stamp
    → length (map (set_of regions profile) pmids) < 2147483648 → payload_length (answer_of regions profile pmids stamp) ≤ 65536 → ResultInRange (answer_of regions profile pmids stamp)
answer_in_range regions profile pmids stamp fit words moment many few =
    let all : 12 + sets_length (map (set_of regions profile) pmids) + blocks_length (blocks_of (map (set_of regions profile) pmids)) ≤ 65536 = few in
    record { moment = moment; few = many; sets = sets_in_range regions profile pmids fit words (omega arith) (omega arith) }
