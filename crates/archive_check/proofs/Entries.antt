-- Each entry points to record boundaries or misses one, and is sound or too early.
use Rattle.std.proofs.Common.{zero, suc, ◌≡◌, ◌⊎◌, inl, inr, ⊎_elim, ℕ, pos, negsuc, ◌<◌, ◌≤◌, Bool, true, false, List, [], ◌∷◌, ◌++◌, length, map, take, refl, sym, ap, ◌∙◌, subst, arith, Option, Some, None}
use Rattle.std.specs.Prelude.{Contains, if◌then◌else◌, nat_lt, nat_eq}
use Rattle.std.specs.List.{AllByRecursion}
use Rattle.std.proofs.lemmas.Bool.{cases_lt, eqb-true, eq-eqb, le-ltb, ltb-false, ltb-true}
use Rattle.pcp_base.specs.Time.{Moment, microseconds}
use Rattle.pcp_base.specs.declared.file.FileId.{FileId}
use Rattle.pcp_base.specs.declared.file.FileId.TheVariants.{Meta, Volume}
use Rattle.pcp_base.specs.declared.result.Item.{Item}
use Rattle.pcp_model.specs.declared.records.MetaRecord.{MetaRecord}
use Rattle.pcp_model.specs.declared.records.MetaRecord.TheVariants.{Description, Domain, Other}
use Rattle.pcp_model.specs.declared.records.Entry.{Entry}
use Rattle.pcp_model.specs.Archive.{ArchiveContents, AreVolumes, IsArchive}
use Rattle.pcp_model.specs.Disk.{Files}
use Rattle.pcp_model.specs.LabelFields.{LabelFields}
use Rattle.pcp_model.specs.Payload.{IsItem, stamp_of}
use Rattle.pcp_model.specs.Records.{IsRecord}
use Rattle.pcp_model.specs.Sound.{IsSoundEntry, NoDomainAfter, NoItemAfter, PointsWell}
use Rattle.pcp_model.proofs.Boundaries.{one_boundary}
use Rattle.pcp_model.proofs.Lists.{each-append, each-split}
use Rattle.pcp_model.proofs.OneReading.{last_has_bytes, others_above}
use Rattle.pcp_model.proofs.Recovered.{nothing_torn}
use Rattle.pcp_model.proofs.Sound.{labelled_long}
use Rattle.archive_loading.specs.Stamps.{domain_stamps}
use Rattle.archive_reader.specs.Searches.{items_before}
use Rattle.archive_check.specs.Breaches.{AtBoundary, IsFilled, StandsAbove, PointsToBoundaries, MissesBoundary, first_after, stamps_before, IsTooEarly}
use Rattle.archive_check.proofs.Bounds.{IsIn, in_or_not, HasBounds, labelled_bounds, last_bounds, AtOrBetween, at_or_between, one_between}

-- ---- the volumes that aren't empty

abbrev numbers : List (ℕ × List Item) → List ℕ
numbers vs = map (λ v. v.0) vs

is_among : (n : ℕ) (ns : List ℕ) → Contains ns n → IsIn n ns
is_among n [] (k, low, is) = absurd (omega (arith, low))
is_among n (m ∷ ms) (zero, low, is) = let same : m ≡ n = is in inl (sym same)
is_among n (m ∷ ms) (suc k, low, is) = inr (is_among n ms (k, omega (arith, low), is))

module _ (files : Files) (l : LabelFields) where
  filled_ones : (vs : List (ℕ × List Item)) → AreVolumes files l vs → (n : ℕ) → IsIn n (numbers vs) → IsFilled files n
  filled_ones [] are n is = absurd is
  filled_ones (v ∷ []) are n (inl same) = subst (IsFilled files) (sym same) (last_has_bytes (files (Volume v.0)) l v.0 v.1 are)
  filled_ones (v ∷ []) are n (inr none) = absurd none
  filled_ones (v ∷ w ∷ vs) are n (inl same) = subst (IsFilled files) (sym same) (let long : 132 ≤ length (files (Volume v.0)) = labelled_long IsItem (files (Volume v.0)) l (pos v.0) v.1 [] are.0 in omega (arith, long))
  filled_ones (v ∷ w ∷ vs) are n (inr there) = filled_ones (w ∷ vs) are.2 n there

  volume_bounds : (vs : List (ℕ × List Item)) → AreVolumes files l vs → (n : ℕ) → IsIn n (numbers vs) → HasBounds (files (Volume n))
  volume_bounds [] are n is = absurd is
  volume_bounds (v ∷ []) are n (inl same) = subst (λ k. HasBounds (files (Volume k))) (sym same) (last_bounds (files (Volume v.0)) l v.0 v.1 are)
  volume_bounds (v ∷ []) are n (inr none) = absurd none
  volume_bounds (v ∷ w ∷ vs) are n (inl same) = subst (λ k. HasBounds (files (Volume k))) (sym same) (labelled_bounds IsItem (files (Volume v.0)) l (pos v.0) v.1 [] are.0 nothing_torn)
  volume_bounds (v ∷ w ∷ vs) are n (inr there) = volume_bounds (w ∷ vs) are.2 n there

-- one of these isn't below, or each is
abbrev NotBelow : ℕ → List ℕ → Type 0
NotBelow k ns = (n : ℕ) × IsIn n ns × (k ≤ n)

abbrev TallOrNot : ℕ → List ℕ → Type 0
TallOrNot k ns = NotBelow k ns ⊎ ((n : ℕ) → IsIn n ns → n < k)

tall_or_not : (k : ℕ) (ns : List ℕ) → TallOrNot k ns
tall_or_not k [] = inr (λ n is. absurd is)
tall_or_not k (m ∷ ms) =
    ⊎_elim (λ (low : m < k).
    ⊎_elim (λ (found : NotBelow k ms). let so : TallOrNot k (m ∷ ms) = inl (found.0, inr found.1, found.2) in so)
    (λ (none : (n : ℕ) → IsIn n ms → n < k). let so : TallOrNot k (m ∷ ms) = inr (λ n is. ⊎_elim (λ (same : n ≡ m). omega (arith, same, low)) (λ (there : IsIn n ms). none n there) is) in so) (tall_or_not k ms))
    (λ (high : k ≤ m). let so : TallOrNot k (m ∷ ms) = inl (m, inl refl, high) in so) (cases_lt m k)

-- ---- boundaries

-- a sound entry points to them
pub sound_points : (files : Files) (c : ArchiveContents) (e : Entry) → IsSoundEntry files c e → PointsToBoundaries files e
sound_points files c e s = record {
  not_above = s.not_above;
  meta = λ filled. ((s.points filled).records, (s.points filled).meta);
  volume = λ filled. ((s.points filled).items, (s.points filled).volume);
}

-- an entry that misses one doesn't
pub misses_none : (files : Files) (e : Entry) (file : FileId) (below above : ℕ) → PointsToBoundaries files e → MissesBoundary files e file below above → ⊥
misses_none files e file below above p (inl m) = let high = m.0 p.not_above.0 p.not_above.1 in omega (arith, high, p.not_above.2)
misses_none files e file below above p (inr (inl m)) = m.2.none (p.meta m.0)
misses_none files e file below above p (inr (inr m)) = m.3.none (p.volume m.0)

abbrev Same : FileId → ℕ → ℕ → FileId → ℕ → ℕ → Type 0
Same file below above other under over = (file ≡ other) × (below ≡ under) × (above ≡ over)

not_filled : (files : Files) (e : Entry) → StandsAbove files e → IsFilled files e.volume → ⊥
not_filled files e above filled = let low : e.volume < e.volume = above e.volume filled in omega (arith, low)

-- it misses one
pub one_missed : (files : Files) (e : Entry) (file : FileId) (below above : ℕ) (other : FileId) (under over : ℕ) → MissesBoundary files e file below above → MissesBoundary files e other under over → Same file below above other under over
one_missed files e file below above other under over (inl m) (inl n) = (m.1 ∙ sym n.1, m.2 ∙ sym n.2, m.3 ∙ sym n.3)
one_missed files e file below above other under over (inl m) (inr (inl n)) = absurd (not_filled files e m.0 n.0)
one_missed files e file below above other under over (inl m) (inr (inr n)) = absurd (not_filled files e m.0 n.0)
one_missed files e file below above other under over (inr (inl m)) (inl n) = absurd (not_filled files e n.0 m.0)
one_missed files e file below above other under over (inr (inl m)) (inr (inl n)) =
    let same : (below ≡ under) × (above ≡ over) = one_between (files Meta) e.meta below above under over m.2 n.2 in (m.1 ∙ sym n.1, same.0, same.1)
one_missed files e file below above other under over (inr (inl m)) (inr (inr n)) = absurd (m.2.none n.1)
one_missed files e file below above other under over (inr (inr m)) (inl n) = absurd (not_filled files e n.0 m.0)
one_missed files e file below above other under over (inr (inr m)) (inr (inl n)) = absurd (n.2.none m.1)
one_missed files e file below above other under over (inr (inr m)) (inr (inr n)) =
    let same : (below ≡ under) × (above ≡ over) = one_between (files (Volume e.volume)) e.offset below above under over m.3 n.3 in (m.2 ∙ sym n.2, same.0, same.1)

abbrev pub Missed : Type 0
Missed = FileId × ℕ × ℕ

abbrev pub Misses : Files → Missed → Entry → Type 0
Misses files m e = MissesBoundary files e m.0 m.1 m.2

module _ (files : Files) (c : ArchiveContents) (is : IsArchive files c) where
  listed : (n : ℕ) → IsFilled files n → IsIn n (numbers c.volumes)
  listed n filled =
      ⊎_elim (λ (there : IsIn n (numbers c.volumes)). there)
      (λ (none : IsIn n (numbers c.volumes) → ⊥). let empty : files (Volume n) ≡ [] = is.others n (λ has. none (is_among n (numbers c.volumes) has)) in absurd (omega (arith, filled, ap length empty))) (in_or_not n (numbers c.volumes))

  abbrev PointsOrMisses : Entry → Type 0
  PointsOrMisses e = PointsToBoundaries files e ⊎ ((m : Missed) × Misses files m e)

  meta_bounds : HasBounds (files Meta)
  meta_bounds = labelled_bounds IsRecord (files Meta) c.label (negsuc 0) c.records is.meta.torn is.meta.holds is.meta.is_torn

  module _ (e : Entry) (tall : (n : ℕ) × IsFilled files n × (e.volume ≤ n)) (filled : IsFilled files e.volume) where
    in_volume : AtBoundary (files Meta) e.meta → AtOrBetween (files (Volume e.volume)) e.offset → PointsOrMisses e
    in_volume meta (inl at) = inl (record { not_above = tall; meta = λ f. meta; volume = λ f. at })
    in_volume meta (inr b) = inr ((Volume e.volume, b.0, b.1), inr (inr (filled, meta, refl, b.2)))

    in_meta : AtOrBetween (files Meta) e.meta → PointsOrMisses e
    in_meta (inl at) = in_volume at (at_or_between (files (Volume e.volume)) (volume_bounds files c.label c.volumes is.volumes e.volume (listed e.volume filled)) e.offset)
    in_meta (inr b) = inr ((Meta, b.0, b.1), inr (inl (filled, refl, b.2)))

  not_tall : (e : Entry) → TallOrNot e.volume (numbers c.volumes) → PointsOrMisses e
  not_tall e (inl found) =
      let tall : (n : ℕ) × IsFilled files n × (e.volume ≤ n) = (found.0, filled_ones files c.label c.volumes is.volumes found.0 found.1, found.2) in
      ⊎_elim (λ (filled : 0 < length (files (Volume e.volume))). in_meta e tall filled (at_or_between (files Meta) meta_bounds e.meta))
      (λ (empty : length (files (Volume e.volume)) ≤ 0).
      let so : PointsOrMisses e = inl (record { not_above = tall; meta = λ f. absurd (omega (arith, f, empty)); volume = λ f. absurd (omega (arith, f, empty)) }) in so) (cases_lt 0 (length (files (Volume e.volume))))
  not_tall e (inr above) = inr ((Volume e.volume, 0, 0), inl (λ n filled. above n (listed n filled), refl, refl, refl))

  pub points_or_misses : (e : Entry) → PointsOrMisses e
  points_or_misses e = not_tall e (tall_or_not e.volume (numbers c.volumes))

-- ---- stamps

abbrev By : Moment → Moment → Type 0
By t s = microseconds s ≤ microseconds t

abbrev AllBy : Moment → List Moment → Type 0
AllBy t stamps = AllByRecursion (By t) stamps

-- none is after t where there is no first such
after_here : (t s : Moment) (stamps : List Moment) (b : Bool) → nat_lt (microseconds t) (microseconds s) ≡ b → (if b then Some s else first_after t stamps) ≡ None → By t s × (first_after t stamps ≡ None)
after_here t s stamps true lt none = let e : Some s ≡ None = none in cc
after_here t s stamps false ge none = (let le : microseconds s ≤ microseconds t = omega (arith, ltb-false (microseconds t) (microseconds s) ge) in le, none)

none_after : (t : Moment) (stamps : List Moment) → first_after t stamps ≡ None → AllBy t stamps
none_after t [] none = tt
none_after t (s ∷ stamps) none = let both : By t s × (first_after t stamps ≡ None) = after_here t s stamps (nat_lt (microseconds t) (microseconds s)) refl none in (both.0, none_after t stamps both.1)

not_after : (t : Moment) (stamps : List Moment) → AllBy t stamps → first_after t stamps ≡ None
not_after t [] all = refl
not_after t (s ∷ stamps) all = ap (λ (b : Bool). if b then Some s else first_after t stamps) (le-ltb (microseconds t) (microseconds s) all.0) ∙ not_after t stamps all.1

-- of instance domains
domains_by : (t : Moment) (records : List MetaRecord) → AllBy t (domain_stamps records) → NoDomainAfter t records
domains_by t [] all = tt
domains_by t (Description d names ∷ records) all = (tt, domains_by t records all)
domains_by t (Domain s indom pairs ∷ records) all = (all.0, domains_by t records all.1)
domains_by t (Other ∷ records) all = (tt, domains_by t records all)

by_domains : (t : Moment) (records : List MetaRecord) → NoDomainAfter t records → AllBy t (domain_stamps records)
by_domains t [] all = tt
by_domains t (Description d names ∷ records) all = by_domains t records all.1
by_domains t (Domain s indom pairs ∷ records) all = (all.0, by_domains t records all.1)
by_domains t (Other ∷ records) all = by_domains t records all.1

-- of items
items_by : (t : Moment) (items : List Item) → AllBy t (map stamp_of items) → NoItemAfter t items
items_by t [] all = tt
items_by t (x ∷ items) all = (all.0, items_by t items all.1)

by_items : (t : Moment) (items : List Item) → NoItemAfter t items → AllBy t (map stamp_of items)
by_items t [] all = tt
by_items t (x ∷ items) all = (all.0, by_items t items all.1)

-- ---- the items before a place

abbrev Here : Moment → ℕ → ℕ → ℕ × List Item → Type 0
Here t n count v = v.0 ≡ n → NoItemAfter t (take count v.1)

abbrev Earlier : Moment → ℕ → ℕ × List Item → Type 0
Earlier t n v = v.0 < n → NoItemAfter t v.1

abbrev Before : Moment → ℕ → ℕ → List (ℕ × List Item) → Type 0
Before t n count vs = AllByRecursion (Here t n count) vs × AllByRecursion (Earlier t n) vs

-- volumes above the place have none
above_place : (t : Moment) (n count low : ℕ) (vs : List (ℕ × List Item)) → n ≤ low → AllByRecursion (λ (w : ℕ × List Item). low < w.0) vs → Before t n count vs
above_place t n count low [] le all = (tt, tt)
above_place t n count low (v ∷ vs) le all =
    let more : Before t n count vs = above_place t n count low vs le all.1 in
    ((λ same. absurd (omega (arith, le, all.0, same)), more.0), (λ lt. absurd (omega (arith, le, all.0, lt)), more.1))

place_here : (t : Moment) (n count number : ℕ) (items : List Item) (b : Bool) → nat_eq number n ≡ b → NoItemAfter t (if b then take count items else []) → number ≡ n → NoItemAfter t (take count items)
place_here t n count number items true e all same = all
place_here t n count number items false e all same = let both : true ≡ false = sym (eq-eqb number n same) ∙ e in absurd (cc)

module _ (files : Files) (l : LabelFields) (t : Moment) (n count : ℕ) where
  before_step : (v : ℕ × List Item) (vs : List (ℕ × List Item)) → AllByRecursion (λ (w : ℕ × List Item). v.0 < w.0) vs → (NoItemAfter t (items_before n count vs) → Before t n count vs) → (b : Bool) → nat_lt v.0 n ≡ b
      → NoItemAfter t (if b then v.1 ++ items_before n count vs else (if nat_eq v.0 n then take count v.1 else [])) → Before t n count (v ∷ vs)
  before_step v vs up more true e all =
      let lt : v.0 < n = ltb-true v.0 n e in
      let both = each-split (λ x. microseconds (stamp_of x) ≤ microseconds t) v.1 (items_before n count vs) all in
      let rest : Before t n count vs = more both.1 in
      ((λ same. absurd (omega (arith, lt, same)), rest.0), (λ low. both.0, rest.1))
  before_step v vs up more false e all =
      let ge : n ≤ v.0 = omega (arith, ltb-false v.0 n e) in
      let rest : Before t n count vs = above_place t n count v.0 vs ge up in
      ((λ same. place_here t n count v.0 v.1 (nat_eq v.0 n) refl all same, rest.0), (λ lt. absurd (omega (arith, lt, ge)), rest.1))

  before_place : (vs : List (ℕ × List Item)) → AreVolumes files l vs → NoItemAfter t (items_before n count vs) → Before t n count vs
  before_place [] are all = (tt, tt)
  before_place (v ∷ []) are all = before_step v [] tt (λ none. (tt, tt)) (nat_lt v.0 n) refl all
  before_place (v ∷ w ∷ vs) are all = before_step v (w ∷ vs) (others_above files l v (w ∷ vs) are) (λ none. before_place (w ∷ vs) are.2 none) (nat_lt v.0 n) refl all

-- and back
here_by : (t : Moment) (n count number : ℕ) (items : List Item) → (number ≡ n → NoItemAfter t (take count items)) → (b : Bool) → nat_eq number n ≡ b → NoItemAfter t (if b then take count items else [])
here_by t n count number items this true e = this (eqb-true number n e)
here_by t n count number items this false e = tt

step_by : (t : Moment) (n count : ℕ) (v : ℕ × List Item) (vs : List (ℕ × List Item)) → Here t n count v → Earlier t n v → NoItemAfter t (items_before n count vs) → (b : Bool) → nat_lt v.0 n ≡ b
    → NoItemAfter t (if b then v.1 ++ items_before n count vs else (if nat_eq v.0 n then take count v.1 else []))
step_by t n count v vs this earlier more true e = each-append (λ x. microseconds (stamp_of x) ≤ microseconds t) v.1 (items_before n count vs) (earlier (ltb-true v.0 n e)) more
step_by t n count v vs this earlier more false e = here_by t n count v.0 v.1 this (nat_eq v.0 n) refl

place_by : (t : Moment) (n count : ℕ) (vs : List (ℕ × List Item)) → Before t n count vs → NoItemAfter t (items_before n count vs)
place_by t n count [] b = tt
place_by t n count (v ∷ vs) b = step_by t n count v vs b.0.0 b.1.0 (place_by t n count vs (b.0.1, b.1.1)) (nat_lt v.0 n) refl

-- ---- entries that point to boundaries

module _ (files : Files) (c : ArchiveContents) where
  -- a sound one isn't too early
  pub sound_in_time : (e : Entry) (stamp : Moment) → IsSoundEntry files c e → IsTooEarly files c e stamp → ⊥
  sound_in_time e stamp s early =
      let p : PointsWell files c e = s.points early.filled in
      let records : p.records ≡ early.records = one_boundary (files Meta) e.meta p.records early.records p.meta early.meta in
      let items : p.items ≡ early.items = one_boundary (files (Volume e.volume)) e.offset p.items early.items p.volume early.volume in
      let all : AllBy e.stamp (stamps_before c e p.records p.items) =
      each-append (By e.stamp) (domain_stamps (take p.records c.records)) (map stamp_of (items_before e.volume p.items c.volumes)) (by_domains e.stamp (take p.records c.records) p.domains)
      (by_items e.stamp (items_before e.volume p.items c.volumes) (place_by e.stamp e.volume p.items c.volumes (p.before, p.earlier))) in
      let none : first_after e.stamp (stamps_before c e p.records p.items) ≡ None = not_after e.stamp (stamps_before c e p.records p.items) all in
      let here : first_after e.stamp (stamps_before c e early.records early.items) ≡ None = subst (λ k. first_after e.stamp (stamps_before c e early.records k) ≡ None) items (subst (λ k. first_after e.stamp (stamps_before c e k p.items) ≡ None) records none) in
      let both : None ≡ Some stamp = sym here ∙ early.first in cc

  -- one that is too early is so for one stamp
  pub one_early : (e : Entry) (a b : Moment) → IsTooEarly files c e a → IsTooEarly files c e b → a ≡ b
  one_early e a b p q =
      let records : p.records ≡ q.records = one_boundary (files Meta) e.meta p.records q.records p.meta q.meta in
      let items : p.items ≡ q.items = one_boundary (files (Volume e.volume)) e.offset p.items q.items p.volume q.volume in
      let here : first_after e.stamp (stamps_before c e q.records q.items) ≡ Some a = subst (λ k. first_after e.stamp (stamps_before c e q.records k) ≡ Some a) items (subst (λ k. first_after e.stamp (stamps_before c e k p.items) ≡ Some a) records p.first) in
      let both : Some a ≡ Some b = sym here ∙ q.first in cc

  abbrev SoundOrEarly : Entry → Type 0
  SoundOrEarly e = IsSoundEntry files c e ⊎ ((stamp : Moment) × IsTooEarly files c e stamp)

  module _ (is : IsArchive files c) (e : Entry) (p : PointsToBoundaries files e) where
    empty_sound : length (files (Volume e.volume)) ≤ 0 → IsSoundEntry files c e
    empty_sound empty = record { not_above = p.not_above; points = λ filled. absurd (omega (arith, filled, empty)) }

    module _ (filled : IsFilled files e.volume) where
      abbrev stamps : List Moment
      stamps = stamps_before c e (p.meta filled).0 (p.volume filled).0

      points_well : first_after e.stamp stamps ≡ None → PointsWell files c e
      points_well none =
          let records : ℕ = (p.meta filled).0 in
          let items : ℕ = (p.volume filled).0 in
          let all = each-split (By e.stamp) (domain_stamps (take records c.records)) (map stamp_of (items_before e.volume items c.volumes)) (none_after e.stamp stamps none) in
          let before : Before e.stamp e.volume items c.volumes = before_place files c.label e.stamp e.volume items c.volumes is.volumes (items_by e.stamp (items_before e.volume items c.volumes) all.1) in
          record {
            records = records;
            meta = (p.meta filled).1;
            domains = domains_by e.stamp (take records c.records) all.0;
            items = items;
            volume = (p.volume filled).1;
            before = before.0;
            earlier = before.1;
          }

      by_stamps : (o : Option Moment) → first_after e.stamp stamps ≡ o → SoundOrEarly e
      by_stamps None none = inl (record { not_above = p.not_above; points = λ f. points_well none })
      by_stamps (Some stamp) first = inr (
        stamp,
        record {
          filled = filled;
          records = (p.meta filled).0;
          meta = (p.meta filled).1;
          items = (p.volume filled).0;
          volume = (p.volume filled).1;
          first = first;
        },
      )

    pub sound_or_early : SoundOrEarly e
    sound_or_early =
        ⊎_elim (λ (filled : 0 < length (files (Volume e.volume))). by_stamps filled (first_after e.stamp (stamps filled)) refl)
        (λ (empty : length (files (Volume e.volume)) ≤ 0). let so : SoundOrEarly e = inl (empty_sound empty) in so) (cases_lt 0 (length (files (Volume e.volume))))
