-- The facts of a fetch tell enough of its answer: each metric with values, and each instance that it shows.
use Rattle.std.proofs.Common.{◌≡◌, ◌⊎◌, inl, inr, ℕ, ℤ, ◌+◌, ◌*◌, ◌/◌, ◌<◌, Bool, true, false, cond, nat_eq, List, [], ◌∷◌, ◌++◌, map, fold, Option, Some, None, refl, sym, ap, ◌∙◌, subst, arith}
use Rattle.std.specs.Prelude.{IsTrue, option_map, unwrap_or}
use Rattle.std.specs.BTreeSet.{insert_key}
use Rattle.std.specs.List.{AllByRecursion, find, flat_map}
use Rattle.std.specs.Ordering.{nat_cmp}
use Rattle.std.proofs.lemmas.Bool.{eqb-true}
use Rattle.pcp_base.specs.Ids.{item_of, null_indom}
use Rattle.pcp_base.specs.Typed.{TypedBytes}
use Rattle.pcp_base.specs.declared.desc.Desc.{Desc}
use Rattle.pcp_base.specs.declared.kind.Kind.{Kind}
use Rattle.pcp_base.specs.declared.kind.Kind.TheVariants as kinds
use Rattle.pcp_base.specs.declared.result.ValueSet.{ValueSet}
use Rattle.mmv_layout.specs.declared.rows.IndomRow.{IndomRow}
use Rattle.mmv_layout.specs.declared.rows.Layout.{Layout}
use Rattle.mmv_layout.specs.declared.rows.MetricRow.{MetricRow}
use Rattle.mmv_writer.specs.Draft.{IsDraft}
use Rattle.profile_filter.specs.Kept.{Settings}
use Rattle.archive_meta.specs.Enough.{IsListed, AreListed, IsTold, AreEnough}
use Rattle.archive_meta.specs.Facts.{has_values, first_under, metric_of, fact_of as told_of, listed_of}
use Rattle.archive_meta.specs.declared.facts.Facts.{Facts}
use Rattle.archive_meta.proofs.Taken.{Among}
use Rattle.fetch_answers.specs.Answers.{is_of, region_of, metric_with, indom_in, body_of, region_body, layout_body, metric_body, set_of, desc_of, fact_of, region_fact, layout_fact, metric_fact, with_shown, shown_of, with_indom, domains_of, instances_of, region_instances, layout_instances, row_instances, facts_of}
use Rattle.fetch_answers.specs.Bounds.{FitsSerial, FitsMetric, IsBounded}
use Rattle.fetch_answers.specs.Names.{served_word, full_name}
use Rattle.fetch_answers.specs.Readings.{RegionReading}
use Rattle.fetch_answers.specs.Values.{ByInstance, keeps, word_of, block_of, shown_word, shown_block, words_or_none, blocks_or_none, body_of_values, values_with}
use Rattle.fetch_answers.proofs.Indexes.{metric_fits}
use Rattle.run_archive.proofs.Keys.{put_there, put_stays, HasInstance, is_listed, IsOwn, found_fact, found_domain}
use Rattle.run_archive.proofs.Values.{values_are_of}

-- ---- the metrics of the sets with values

shown_stays : (sets : List ValueSet) (pmids : List ℕ) (k : ℕ) → Among k pmids → Among k (fold with_shown pmids sets)
shown_stays [] pmids k m = m
shown_stays (set ∷ sets) pmids k m = shown_stays sets (with_shown pmids set) k (by (has_values set.body))
  where
    by : (b : Bool) → Among k (cond b (insert_key nat_cmp pmids set.pmid) pmids)
    by true = put_stays pmids set.pmid k m
    by false = m

all_shown : (sets : List ValueSet) (pmids : List ℕ) → AllByRecursion (λ (set : ValueSet). IsTrue (has_values set.body) → Among set.pmid (fold with_shown pmids sets)) sets
all_shown [] pmids = tt
all_shown (set ∷ sets) pmids = (
  (λ values. shown_stays sets (with_shown pmids set) set.pmid (subst (λ b. Among set.pmid (cond b (insert_key nat_cmp pmids set.pmid) pmids)) (sym values) (put_there pmids set.pmid))),
  all_shown sets (with_shown pmids set),
)

-- ---- their domains

indom_stays : (facts : List (Desc × List ℕ)) (indoms : List ℕ) (k : ℕ) → Among k indoms → Among k (fold (λ (l : List ℕ) (fact : Desc × List ℕ). with_indom l fact.0.indom) indoms facts)
indom_stays [] indoms k m = m
indom_stays (f ∷ facts) indoms k m = indom_stays facts (with_indom indoms f.0.indom) k (by (nat_eq f.0.indom null_indom))
  where
    by : (b : Bool) → Among k (cond b indoms (insert_key nat_cmp indoms f.0.indom))
    by true = m
    by false = put_stays indoms f.0.indom k m

indom_there : (facts : List (Desc × List ℕ)) (indoms : List ℕ) (k : ℕ) (fact : Desc × List ℕ) → first_under metric_of facts k ≡ Some fact → nat_eq fact.0.indom null_indom ≡ false
    → Among fact.0.indom (fold (λ (l : List ℕ) (f : Desc × List ℕ). with_indom l f.0.indom) indoms facts)
indom_there [] indoms k fact found none = cc
indom_there (f ∷ facts) indoms k fact found none = by (nat_eq f.0.pmid k) found (λ e. indom_there facts (with_indom indoms f.0.indom) k fact e none)
  where
    by : (b : Bool) → cond b (Some f) (first_under metric_of facts k) ≡ Some fact
        → (first_under metric_of facts k ≡ Some fact → Among fact.0.indom (fold (λ (l : List ℕ) (g : Desc × List ℕ). with_indom l g.0.indom) (with_indom indoms f.0.indom) facts))
        → Among fact.0.indom (fold (λ (l : List ℕ) (g : Desc × List ℕ). with_indom l g.0.indom) (with_indom indoms f.0.indom) facts)
    by true e more =
        let is : f ≡ fact = cc in
        indom_stays facts (with_indom indoms f.0.indom) fact.0.indom
        (subst (λ (g : Desc × List ℕ). Among fact.0.indom (with_indom indoms g.0.indom)) (sym is)
        (subst (λ b. Among fact.0.indom (cond b indoms (insert_key nat_cmp indoms fact.0.indom))) (sym none) (put_there indoms fact.0.indom)))
    by false e more = more e

-- ---- instances that are shown are listed

module _ (pairs : List (ℤ × List ℕ)) (profile : Settings) (indom : Option ℕ) where
  words_listed : (values : ByInstance) → AllByRecursion (λ v. HasInstance v.0 pairs) values → AllByRecursion (λ (p : ℤ × ℕ). IsListed pairs p.0) (flat_map (shown_word profile indom) values)
  words_listed [] all = tt
  words_listed (v ∷ values) all = by (keeps profile indom v.0) (words_listed values all.1)
    where
      by : (b : Bool) → AllByRecursion (λ (p : ℤ × ℕ). IsListed pairs p.0) (flat_map (shown_word profile indom) values)
          → AllByRecursion (λ (p : ℤ × ℕ). IsListed pairs p.0) (cond b ((v.0, word_of v.1) ∷ []) [] ++ flat_map (shown_word profile indom) values)
      by true more = (is_listed pairs v.0 all.0, more)
      by false more = more

  blocks_listed : (code : ℕ) (values : ByInstance) → AllByRecursion (λ v. HasInstance v.0 pairs) values → AllByRecursion (λ (p : ℤ × TypedBytes). IsListed pairs p.0) (flat_map (shown_block profile indom code) values)
  blocks_listed code [] all = tt
  blocks_listed code (v ∷ values) all = by (keeps profile indom v.0) (blocks_listed code values all.1)
    where
      by : (b : Bool) → AllByRecursion (λ (p : ℤ × TypedBytes). IsListed pairs p.0) (flat_map (shown_block profile indom code) values)
          → AllByRecursion (λ (p : ℤ × TypedBytes). IsListed pairs p.0) (cond b ((v.0, block_of code v.1) ∷ []) [] ++ flat_map (shown_block profile indom code) values)
      by true more = (is_listed pairs v.0 all.0, more)
      by false more = more

  some_words : (ps : List (ℤ × ℕ)) → AllByRecursion (λ (p : ℤ × ℕ). IsListed pairs p.0) ps → AreListed pairs (words_or_none ps)
  some_words [] all = tt
  some_words (p ∷ ps) all = all

  some_blocks : (ps : List (ℤ × TypedBytes)) → AllByRecursion (λ (p : ℤ × TypedBytes). IsListed pairs p.0) ps → AreListed pairs (blocks_or_none ps)
  some_blocks [] all = tt
  some_blocks (p ∷ ps) all = all

  all_listed : (kind : Kind) (values : ByInstance) → AllByRecursion (λ v. HasInstance v.0 pairs) values → AreListed pairs (body_of_values kind profile indom values)
  all_listed kinds.I32 values all = some_words (flat_map (shown_word profile indom) values) (words_listed values all)
  all_listed kinds.U32 values all = some_words (flat_map (shown_word profile indom) values) (words_listed values all)
  all_listed kinds.I64 values all = some_blocks (flat_map (shown_block profile indom 2) values) (blocks_listed 2 values all)
  all_listed kinds.U64 values all = some_blocks (flat_map (shown_block profile indom 3) values) (blocks_listed 3 values all)
  all_listed kinds.Float values all = tt
  all_listed kinds.Double values all = tt
  all_listed kinds.Text values all = some_blocks (flat_map (shown_block profile indom 6) values) (blocks_listed 6 values all)
  all_listed kinds.Elapsed values all = tt

-- ---- facts of regions

-- what a region said is a draft, in bounds; nothing is known of one that was missed
abbrev pub IsSaidBy : Option Layout → Type 0
IsSaidBy None = Unit {0}
IsSaidBy (Some layout) = IsDraft layout × IsBounded layout

abbrev pub AreSaid : List RegionReading → Type 0
AreSaid regions = AllByRecursion (λ (r : RegionReading). IsSaidBy r.layout) regions

own_metric : (cluster : ℕ) (file : List ℕ) (p : ℕ) (layout : Layout) (o : Option MetricRow) → IsOwn p (metric_fact cluster file p layout o)
own_metric cluster file p layout None = tt
own_metric cluster file p layout (Some metric) = refl

own_layout : (cluster : ℕ) (file : List ℕ) (p : ℕ) (o : Option Layout) → IsOwn p (layout_fact cluster file p o)
own_layout cluster file p None = tt
own_layout cluster file p (Some layout) = own_metric cluster file p layout (metric_with (item_of p) layout.metrics)

own_region : (p : ℕ) (o : Option RegionReading) → IsOwn p (region_fact p o)
own_region p None = tt
own_region p (Some region) = own_layout region.cluster region.file p region.layout

record IsFound (regions : List RegionReading) (word : ℕ) (region : RegionReading) : Type 0 where
  of : is_of word region ≡ true
  said : IsSaidBy region.layout

found_region : (regions : List RegionReading) (word : ℕ) (region : RegionReading) → AreSaid regions → region_of regions word ≡ Some region → IsFound regions word region
found_region [] word region said found = cc
found_region (r ∷ regions) word region said found = by (is_of word r) refl found (found_region regions word region said.1)
  where
    by : (b : Bool) → is_of word r ≡ b → cond b (Some r) (find (is_of word) regions) ≡ Some region → (find (is_of word) regions ≡ Some region → IsFound regions word region) → IsFound (r ∷ regions) word region
    by true e f more =
        let is : r ≡ region = cc in
        record { of = subst (λ q. is_of word q ≡ true) is e; said = subst (λ (q : RegionReading). IsSaidBy q.layout) is said.0 }
    by false e f more = let m : IsFound regions word region = more f in record { of = m.of; said = m.said }

found_metric : (item : ℕ) (metrics : List MetricRow) (metric : MetricRow) → metric_with item metrics ≡ Some metric → metric.item ≡ item
found_metric item [] metric found = cc
found_metric item (m ∷ metrics) metric found = by (nat_eq m.item item) refl found (λ f. found_metric item metrics metric f)
  where
    by : (b : Bool) → nat_eq m.item item ≡ b → cond b (Some m) (metric_with item metrics) ≡ Some metric → (metric_with item metrics ≡ Some metric → metric.item ≡ item) → metric.item ≡ item
    by true e f more = let is : m ≡ metric = cc in subst (λ (q : MetricRow). q.item ≡ item) is (eqb-true m.item item e)
    by false e f more = more f

-- ---- one set

module _ (regions : List RegionReading) (said : AreSaid regions) (profile : Settings) (sets : List ValueSet) (pmid : ℕ) (shown : Among pmid (shown_of sets)) where
  abbrev facts : Facts
  facts = facts_of regions sets

  module _ (region : RegionReading) (layout : Layout) (metric : MetricRow) (region_is : region_of regions pmid ≡ Some region) (layout_is : region.layout ≡ Some layout)
      (metric_is : metric_with (item_of pmid) layout.metrics ≡ Some metric) where
    abbrev fact : Desc × List ℕ
    fact = (desc_of region.cluster pmid metric, full_name region.file layout.flags metric.name)

    known : IsFound regions pmid region
    known = found_region regions pmid region said region_is

    draft : IsDraft layout × IsBounded layout
    draft = subst IsSaidBy layout_is known.said

    body_is : body_of regions profile pmid ≡ body_of_values metric.kind profile (indom_in region.cluster metric) (values_with metric.item layout.values)
    body_is =
        ap (region_body profile pmid) region_is ∙ ap (layout_body profile region.cluster pmid) layout_is ∙ ap (metric_body profile region.cluster layout) metric_is

    fact_is : fact_of regions pmid ≡ fact ∷ []
    fact_is = ap (region_fact pmid) region_is ∙ ap (layout_fact region.cluster region.file pmid) layout_is ∙ ap (metric_fact region.cluster region.file pmid layout) metric_is

    told : told_of facts.metrics pmid ≡ Some fact
    told = found_fact (fact_of regions) (λ p. own_region p (region_of regions p)) (shown_of sets) pmid fact fact_is shown

    item : metric.item ≡ item_of pmid
    item = found_metric (item_of pmid) layout.metrics metric metric_is

    fits : FitsMetric metric
    fits = metric_fits (item_of pmid) layout.metrics (Some metric) draft.1.metrics (sym metric_is)

    same_region : (serial : ℕ) → serial < 1024 → region_of regions (served_word region.cluster serial) ≡ Some region
    same_region serial low =
        let of : pmid / 1024 ≡ 70 * 4096 + region.cluster = eqb-true (pmid / 1024) (70 * 4096 + region.cluster) known.of in
        let same : served_word region.cluster serial / 1024 ≡ pmid / 1024 = omega arith in
        ap (λ q. find (λ (r : RegionReading). nat_eq q (70 * 4096 + r.cluster)) regions) same ∙ region_is

    instances_are : (serial : ℕ) → serial < 1024 → instances_of regions (served_word region.cluster serial) ≡ row_instances (find (λ (row : IndomRow). nat_eq row.serial serial) layout.indoms)
    instances_are serial low =
        let low_part : item_of (served_word region.cluster serial) ≡ serial = omega arith in
        ap (region_instances (served_word region.cluster serial)) (same_region serial low) ∙ ap (layout_instances (item_of (served_word region.cluster serial))) layout_is
        ∙ ap (λ n. row_instances (find (λ (row : IndomRow). nat_eq row.serial n) layout.indoms)) low_part

    listed : (serial : ℕ) → metric.serial ≡ Some serial → AreListed (instances_of regions (served_word region.cluster serial)) (body_of regions profile pmid)
    listed serial domain =
        let low : serial < 1024 = subst FitsSerial domain fits.serial in
        let there : metric_with metric.item layout.metrics ≡ Some metric = ap (λ k. metric_with k layout.metrics) item ∙ metric_is in
        subst (λ b. AreListed (instances_of regions (served_word region.cluster serial)) b) (sym body_is)
        (subst (λ ps. AreListed ps (body_of_values metric.kind profile (indom_in region.cluster metric) (values_with metric.item layout.values))) (sym (instances_are serial low))
        (all_listed (row_instances (find (λ (row : IndomRow). nat_eq row.serial serial) layout.indoms)) profile (indom_in region.cluster metric) metric.kind (values_with metric.item layout.values)
        (values_are_of layout draft.0 metric serial domain there)))

    indom_named : (serial : ℕ) → metric.serial ≡ Some serial → nat_eq fact.0.indom null_indom ≡ false
        → (pairs : List (ℤ × List ℕ)) × (listed_of facts.domains fact.0.indom ≡ Some (fact.0.indom, pairs)) × AreListed pairs (body_of regions profile pmid)
    indom_named serial domain some =
        let is : fact.0.indom ≡ served_word region.cluster serial = ap (λ s. unwrap_or (option_map (served_word region.cluster) s) null_indom) domain in (
          instances_of regions fact.0.indom,
          found_domain (instances_of regions) (domains_of facts.metrics) fact.0.indom (indom_there facts.metrics [] pmid fact told some),
          subst (λ i. AreListed (instances_of regions i) (body_of regions profile pmid)) (sym is) (listed serial domain),
        )

    named : (fact.0.indom ≡ null_indom) ⊎ ((pairs : List (ℤ × List ℕ)) × (listed_of facts.domains fact.0.indom ≡ Some (fact.0.indom, pairs)) × AreListed pairs (body_of regions profile pmid))
    named = by_serial metric.serial refl
      where
        by_null : (serial : ℕ) → metric.serial ≡ Some serial → (b : Bool) → nat_eq fact.0.indom null_indom ≡ b
            → (fact.0.indom ≡ null_indom) ⊎ ((pairs : List (ℤ × List ℕ)) × (listed_of facts.domains fact.0.indom ≡ Some (fact.0.indom, pairs)) × AreListed pairs (body_of regions profile pmid))
        by_null serial domain true e = inl (eqb-true fact.0.indom null_indom e)
        by_null serial domain false e = inr (indom_named serial domain e)

        by_serial : (s : Option ℕ) → metric.serial ≡ s
            → (fact.0.indom ≡ null_indom) ⊎ ((pairs : List (ℤ × List ℕ)) × (listed_of facts.domains fact.0.indom ≡ Some (fact.0.indom, pairs)) × AreListed pairs (body_of regions profile pmid))
        by_serial None e = inl (ap (λ s. unwrap_or (option_map (served_word region.cluster) s) null_indom) e)
        by_serial (Some serial) e = by_null serial e (nat_eq fact.0.indom null_indom) refl

    is_told : IsTold facts (set_of regions profile pmid)
    is_told = record { fact = fact; found = told; named = named }

  of_metric : (region : RegionReading) (layout : Layout) → region_of regions pmid ≡ Some region → region.layout ≡ Some layout → (o : Option MetricRow) → metric_with (item_of pmid) layout.metrics ≡ o
      → IsTrue (has_values (metric_body profile region.cluster layout o)) → IsTold facts (set_of regions profile pmid)
  of_metric region layout region_is layout_is None e values = cc
  of_metric region layout region_is layout_is (Some metric) e values = is_told region layout metric region_is layout_is e

  of_layout : (region : RegionReading) → region_of regions pmid ≡ Some region → (o : Option Layout) → region.layout ≡ o → IsTrue (has_values (layout_body profile region.cluster pmid o)) → IsTold facts (set_of regions profile pmid)
  of_layout region region_is None e values = cc
  of_layout region region_is (Some layout) e values = of_metric region layout region_is e (metric_with (item_of pmid) layout.metrics) refl values

  of_region : (o : Option RegionReading) → region_of regions pmid ≡ o → IsTrue (has_values (region_body profile pmid o)) → IsTold facts (set_of regions profile pmid)
  of_region None e values = cc
  of_region (Some region) e values = of_layout region e region.layout refl values

  set_told : IsTrue (has_values (body_of regions profile pmid)) → IsTold facts (set_of regions profile pmid)
  set_told values = of_region (region_of regions pmid) refl values

-- ---- all sets

all_told : (regions : List RegionReading) → AreSaid regions → (profile : Settings) (sets : List ValueSet) (pmids : List ℕ)
    → AllByRecursion (λ (set : ValueSet). IsTrue (has_values set.body) → Among set.pmid (shown_of sets)) (map (set_of regions profile) pmids)
    → AreEnough (facts_of regions sets) (map (set_of regions profile) pmids)
all_told regions said profile sets [] shown = tt
all_told regions said profile sets (pmid ∷ pmids) shown = ((λ values. set_told regions said profile sets pmid (shown.0 values) values), all_told regions said profile sets pmids shown.1)

pub facts_are_enough : (regions : List RegionReading) → AreSaid regions → (profile : Settings) (pmids : List ℕ)
    → AreEnough (facts_of regions (map (set_of regions profile) pmids)) (map (set_of regions profile) pmids)
facts_are_enough regions said profile pmids =
    all_told regions said profile (map (set_of regions profile) pmids) pmids (all_shown (map (set_of regions profile) pmids) [])
