-- What is known of an entry decides whether it is good.
use Rattle.std.proofs.Common.{◌≡◌, ◌⊎◌, inl, inr, ⊎_elim, ℕ, ◌+◌, ◌<◌, ◌≤◌, Bool, true, false, ◌||◌, List, [], ◌∷◌, ◌++◌, take, drop, map, refl, sym, ap, ◌∙◌, subst, arith, Option, Some, None}
use Rattle.std.specs.Prelude.{nat_lt, nat_eq, if◌then◌else◌}
use Rattle.std.specs.List.{AllByRecursion}
use Rattle.std.proofs.lemmas.Bool.{cases_lt, lt-ltb, le-ltb, ltb-false, eq-eqb}
use Rattle.std.proofs.lemmas.List.{take-append-drop, map-append}
use Rattle.pcp_base.specs.Time.{Moment, microseconds}
use Rattle.pcp_base.specs.declared.file.FileId.{FileId}
use Rattle.pcp_base.specs.declared.file.FileId.TheVariants.{Meta, Volume}
use Rattle.pcp_base.specs.declared.result.Item.{Item}
use Rattle.pcp_model.specs.declared.records.Entry.{Entry}
use Rattle.pcp_model.specs.declared.records.MetaRecord.{MetaRecord}
use Rattle.pcp_model.specs.declared.records.MetaRecord.TheVariants.{Description, Domain, Other}
use Rattle.pcp_model.specs.Archive.{ArchiveContents, items_of}
use Rattle.pcp_model.specs.Disk.{Files}
use Rattle.pcp_model.specs.Payload.{stamp_of}
use Rattle.pcp_model.specs.Sound.{IsItemBy, NoItemAfter, NoDomainAfter, PointsWell, IsSoundEntry}
use Rattle.pcp_model.proofs.Lists.{each-split, each-map}
use Rattle.archive_loading.specs.Stamps.{domain_stamps}
use Rattle.archive_loading.proofs.Framed.{domain_stamps-append}
use Rattle.archive_reader.specs.Searches.{items_before, items_from}
use Rattle.archive_reader.proofs.Searching.{places_part}
use Rattle.archive_check.specs.declared.pointing.Look.{Look}
use Rattle.archive_check.specs.declared.pointing.Look.TheVariants.{Above, Skipped, Misses, Points}
use Rattle.archive_check.specs.Breaches.{AtBoundary, IsFilled, StandsAbove, PointsToBoundaries, first_after, IsTooEarly, IsFirstBad}
use Rattle.archive_check.specs.Looked.{time_in, is_above, look_at, look_of, misses, is_late, IsFirst, MetaSays, VolumeSays, EntryKnown, domains_of}
use Rattle.archive_check.specs.Marks.{Known}
use Rattle.archive_check.specs.Stamped.{all_of}
use Rattle.archive_check.specs.Tallies.{latest}
use Rattle.archive_check.proofs.Seeking.{first_append, first_front}

-- ---- the latest of some stamps

pub by_latest : (t : Moment) (moments : List Moment) → latest moments ≤ microseconds t → AllByRecursion (λ s. microseconds s ≤ microseconds t) moments
by_latest t [] le = tt
by_latest t (s ∷ moments) le = (omega (arith, le), by_latest t moments (omega (arith, le)))

pub none_after : (t : Moment) (moments : List Moment) → latest moments ≤ microseconds t → first_after t moments ≡ None
none_after t [] le = refl
none_after t (s ∷ moments) le =
    ap (λ (b : Bool). if b then Some s else first_after t moments) (le-ltb (microseconds t) (microseconds s) (omega (arith, le))) ∙ none_after t moments (omega (arith, le))

pub some_after : (t : Moment) (moments : List Moment) → microseconds t < latest moments → (s : Moment) × (first_after t moments ≡ Some s)
some_after t [] lt = absurd (omega (arith, lt))
some_after t (s ∷ moments) lt = go (nat_lt (microseconds t) (microseconds s)) refl (some_after t moments)
  where
    go : (b : Bool) → nat_lt (microseconds t) (microseconds s) ≡ b → (microseconds t < latest moments → (x : Moment) × (first_after t moments ≡ Some x)) → (x : Moment) × ((if b then Some s else first_after t moments) ≡ Some x)
    go true e more = (s, refl)
    go false e more = more (omega (arith, lt, ltb-false (microseconds t) (microseconds s) e))

no_domain_after : (t : Moment) (records : List MetaRecord) → AllByRecursion (λ s. microseconds s ≤ microseconds t) (domain_stamps records) → NoDomainAfter t records
no_domain_after t [] all = tt
no_domain_after t (Description d names ∷ records) all = (tt, no_domain_after t records all)
no_domain_after t (Domain s indom pairs ∷ records) all = (all.0, no_domain_after t records all.1)
no_domain_after t (Other ∷ records) all = (tt, no_domain_after t records all)

no_item_after : (t : Moment) (items : List Item) → AllByRecursion (λ s. microseconds s ≤ microseconds t) (map stamp_of items) → NoItemAfter t items
no_item_after t [] all = tt
no_item_after t (x ∷ items) all = (all.0, no_item_after t items all.1)

pub all_domains : (records : List MetaRecord) → all_of (domains_of records) ≡ domain_stamps records
all_domains [] = refl
all_domains (r ∷ records) = ap (λ l. domain_stamps (r ∷ []) ++ l) (all_domains records) ∙ sym (domain_stamps-append (r ∷ []) records)

-- ---- items before a place, volume by volume

abbrev pub Climb : List (ℕ × List Item) → Type 0
Climb [] = Unit {0}
Climb (c ∷ cs) = AllByRecursion (λ (d : ℕ × List Item). c.0 < d.0) cs × Climb cs

pub before_here : (n count : ℕ) (c : ℕ × List Item) (cs : List (ℕ × List Item)) → c.0 ≡ n → items_before n count (c ∷ cs) ≡ take count c.1
before_here n count c cs same =
    ap (λ (b : Bool). if b then c.1 ++ items_before n count cs else (if nat_eq c.0 n then take count c.1 else [])) (le-ltb c.0 n (omega (arith, same)))
    ∙ ap (λ (b : Bool). if b then take count c.1 else []) (eq-eqb c.0 n same)

pub before_later : (n count : ℕ) (c : ℕ × List Item) (cs : List (ℕ × List Item)) → c.0 < n → items_before n count (c ∷ cs) ≡ c.1 ++ items_before n count cs
before_later n count c cs lt = ap (λ (b : Bool). if b then c.1 ++ items_before n count cs else (if nat_eq c.0 n then take count c.1 else [])) (lt-ltb c.0 n lt)

abbrev BeforeBy : ℕ → ℕ → Moment → ℕ × List Item → Type 0
BeforeBy n count t v = v.0 ≡ n → NoItemAfter t (take count v.1)

abbrev EarlierBy : ℕ → Moment → ℕ × List Item → Type 0
EarlierBy n t v = v.0 < n → NoItemAfter t v.1

module _ (n count : ℕ) (t : Moment) where
  above_all : (c : ℕ × List Item) (cs : List (ℕ × List Item)) → n ≤ c.0 → AllByRecursion (λ (d : ℕ × List Item). c.0 < d.0) cs → AllByRecursion (BeforeBy n count t) cs × AllByRecursion (EarlierBy n t) cs
  above_all c cs le all =
      (each-map (λ (d : ℕ × List Item). c.0 < d.0) (BeforeBy n count t) (λ d lt same. absurd (omega (arith, le, lt, same))) cs all, each-map (λ (d : ℕ × List Item). c.0 < d.0) (EarlierBy n t) (λ d lt less. absurd (omega (arith, le, lt, less))) cs all)

  pub by_before : (cs : List (ℕ × List Item)) → Climb cs → NoItemAfter t (items_before n count cs) → AllByRecursion (BeforeBy n count t) cs × AllByRecursion (EarlierBy n t) cs
  by_before [] climb all = (tt, tt)
  by_before (c ∷ cs) climb all =
      ⊎_elim (λ (lt : c.0 < n).
      let both : NoItemAfter t c.1 × NoItemAfter t (items_before n count cs) = each-split (IsItemBy t) c.1 (items_before n count cs) (subst (NoItemAfter t) (before_later n count c cs lt) all) in
      let more = by_before cs climb.1 both.1 in
      ((λ same. absurd (omega (arith, lt, same)), more.0), (λ less. both.0, more.1)))
      (λ (le : n ≤ c.0).
      let more = above_all c cs le climb.0 in
      ((λ same. subst (NoItemAfter t) (before_here n count c cs same) all, more.0), (λ less. absurd (omega (arith, le, less)), more.1))) (cases_lt c.0 n)

-- ---- one entry

module _ (files : Files) (c : ArchiveContents) (top : Option ℕ) (known : Known) (e : Entry) (k : EntryKnown files c top known e) where
  abbrev start : Option ℕ
  start = time_in (known (e.volume + 1) 132)

  abbrev meta : Option ℕ
  meta = time_in (known 0 e.meta)

  abbrev volume : Option ℕ
  volume = time_in (known (e.volume + 1) e.offset)

  -- boundaries, where it isn't missed
  pub good_points : misses (look_of known top e) ≡ false → PointsToBoundaries files e
  good_points ok = go (is_above top e.volume) start meta volume refl refl k.meta k.volume ok
    where
      go : (b : Bool) (s m v : Option ℕ) → is_above top e.volume ≡ b → start ≡ s → MetaSays files c.records e.meta m → (IsFilled files e.volume → VolumeSays files c.volumes e.volume e.offset v) → misses (look_at b s m v e) ≡ false → PointsToBoundaries files e
      go true s m v above is says tells ok = absurd (let both : true ≡ false = ok in cc)
      go false None m v above is says tells ok = record { not_above = k.not_above above; meta = λ filled. absurd (k.empty is filled); volume = λ filled. absurd (k.empty is filled) }
      go false (Some n) None v above is says tells ok = absurd (let both : true ≡ false = ok in cc)
      go false (Some n) (Some d) None above is says tells ok = absurd (let both : true ≡ false = ok in cc)
      go false (Some n) (Some d) (Some i) above is says tells ok = record { not_above = k.not_above above; meta = λ filled. (says.0, says.1); volume = λ filled. let v = tells filled in (v.0, v.1) }

  -- and where it is
  pub record Missed (look : Look) : Type 0 where
    pub above : look ≡ Above → StandsAbove files e
    pub misses_is : (file : FileId) (offset : ℕ) → look ≡ Misses file offset → IsFilled files e.volume
        × (((file ≡ Meta) × (offset ≡ e.meta) × (AtBoundary (files Meta) e.meta → ⊥)) ⊎ (AtBoundary (files Meta) e.meta × (file ≡ Volume e.volume) × (offset ≡ e.offset) × (AtBoundary (files (Volume e.volume)) e.offset → ⊥)))

  pub missed : Missed (look_of known top e)
  missed = go (is_above top e.volume) start meta volume refl refl k.meta k.volume
    where
      go : (b : Bool) (s m v : Option ℕ) → is_above top e.volume ≡ b → start ≡ s → MetaSays files c.records e.meta m → (IsFilled files e.volume → VolumeSays files c.volumes e.volume e.offset v) → Missed (look_at b s m v e)
      go true s m v above is says tells = record { above = λ _. k.above above; misses_is = λ file offset same. absurd (let both : Above ≡ Misses file offset = same in cc) }
      go false None m v above is says tells = record { above = λ same. absurd (let both : Skipped ≡ Above = same in cc); misses_is = λ file offset same. absurd (let both : Skipped ≡ Misses file offset = same in cc) }
      go false (Some n) None v above is says tells = record {
        above = λ same. absurd (let both : Misses Meta e.meta ≡ Above = same in cc);
        misses_is = λ file offset same. (k.filled n is, inl (let one : Meta ≡ file = cc in sym one, let two : e.meta ≡ offset = cc in sym two, says));
      }
      go false (Some n) (Some d) None above is says tells = record {
        above = λ same. absurd (let both : Misses (Volume e.volume) e.offset ≡ Above = same in cc);
        misses_is = λ file offset same. (k.filled n is, inr ((says.0, says.1), let one : Volume e.volume ≡ file = cc in sym one, let two : e.offset ≡ offset = cc in sym two, tells (k.filled n is)));
      }
      go false (Some n) (Some d) (Some i) above is says tells = record { above = λ same. absurd (let both : Points d i ≡ Above = same in cc); misses_is = λ file offset same. absurd (let both : Points d i ≡ Misses file offset = same in cc) }

  -- ---- late or not

  or_false : (a b : Bool) → (a || b) ≡ false → (a ≡ false) × (b ≡ false)
  or_false true b e = absurd (let both : true ≡ false = e in cc)
  or_false false b e = (refl, e)

  pub good_entry : Climb c.volumes → PointsToBoundaries files e → is_late (look_of known top e) e.stamp ≡ false → IsSoundEntry files c e
  good_entry climb p ok = record { not_above = p.not_above; points = λ filled. go (is_above top e.volume) start meta volume refl refl k.meta (k.volume filled) filled ok }
    where
      t : Moment
      t = e.stamp

      go : (b : Bool) (s m v : Option ℕ) → is_above top e.volume ≡ b → start ≡ s → MetaSays files c.records e.meta m → VolumeSays files c.volumes e.volume e.offset v → IsFilled files e.volume → is_late (look_at b s m v e) e.stamp ≡ false → PointsWell files c e
      go true s m v above is says tells filled ok = absurd (let n = p.not_above in let lt : n.0 < e.volume = k.above above n.0 n.1 in let le : e.volume ≤ n.0 = n.2 in omega (arith, lt, le))
      go false None m v above is says tells filled ok = absurd (k.empty is filled)
      go false (Some n) None v above is says tells filled ok = absurd (says (p.meta filled))
      go false (Some n) (Some d) None above is says tells filled ok = absurd (tells (p.volume filled))
      go false (Some n) (Some d) (Some i) above is says tells filled ok =
          let parts = or_false (nat_lt (microseconds t) d) (nat_lt (microseconds t) i) ok in
          let low : d ≤ microseconds t = ltb-false (microseconds t) d parts.0 in
          let few : i ≤ microseconds t = ltb-false (microseconds t) i parts.1 in
          let items : NoItemAfter t (items_before e.volume tells.0 c.volumes) = no_item_after t (items_before e.volume tells.0 c.volumes) (by_latest t (map stamp_of (items_before e.volume tells.0 c.volumes)) (omega (arith, few, tells.2))) in
          let both = by_before e.volume tells.0 t c.volumes climb items in
          record {
            records = says.0;
            meta = says.1;
            domains = no_domain_after t (take says.0 c.records) (by_latest t (domain_stamps (take says.0 c.records)) (omega (arith, low, says.2)));
            items = tells.0;
            volume = tells.1;
            before = both.0;
            earlier = both.1;
          }

  -- the two ways to be late
  pub record IsLateBy (domain item : ℕ) : Type 0 where
    pub filled : IsFilled files e.volume
    pub meta_says : MetaSays files c.records e.meta (Some domain)
    pub volume_says : VolumeSays files c.volumes e.volume e.offset (Some item)

  pub points_by : (domain item : ℕ) → look_of known top e ≡ Points domain item → IsLateBy domain item
  points_by domain item same = go (is_above top e.volume) start meta volume refl k.meta k.volume same
    where
      go : (b : Bool) (s m v : Option ℕ) → start ≡ s → MetaSays files c.records e.meta m → (IsFilled files e.volume → VolumeSays files c.volumes e.volume e.offset v) → look_at b s m v e ≡ Points domain item → IsLateBy domain item
      go true s m v is says tells same = absurd (let both : Above ≡ Points domain item = same in cc)
      go false None m v is says tells same = absurd (let both : Skipped ≡ Points domain item = same in cc)
      go false (Some n) None v is says tells same = absurd (let both : Misses Meta e.meta ≡ Points domain item = same in cc)
      go false (Some n) (Some d) None is says tells same = absurd (let both : Misses (Volume e.volume) e.offset ≡ Points domain item = same in cc)
      go false (Some n) (Some d) (Some i) is says tells same = record {
        filled = k.filled n is;
        meta_says = subst (λ x. MetaSays files c.records e.meta (Some x)) (let one : d ≡ domain = cc in one) says;
        volume_says = subst (λ x. VolumeSays files c.volumes e.volume e.offset (Some x)) (let one : i ≡ item = cc in one) (tells (k.filled n is));
      }

  module _ (domain item : ℕ) (l : IsLateBy domain item) where
    abbrev j : ℕ
    j = l.meta_says.0

    abbrev n : ℕ
    n = l.volume_says.0

    abbrev domains : List Moment
    domains = domain_stamps (take j c.records)

    abbrev items : List Moment
    items = map stamp_of (items_before e.volume n c.volumes)

    pub too_early_by_domain : (stamp : Moment) → microseconds e.stamp < domain → Some stamp ≡ first_after e.stamp (domain_stamps c.records) → IsTooEarly files c e stamp
    too_early_by_domain stamp lt found =
        let one = some_after e.stamp domains (omega (arith, lt, l.meta_says.2)) in
        let whole : domain_stamps c.records ≡ domains ++ domain_stamps (drop j c.records) = ap domain_stamps (sym (take-append-drop j c.records)) ∙ domain_stamps-append (take j c.records) (drop j c.records) in
        let same : Some stamp ≡ Some one.0 = found ∙ ap (first_after e.stamp) whole ∙ first_front e.stamp one.0 domains (domain_stamps (drop j c.records)) one.1 in
        record {
          filled = l.filled;
          records = j;
          meta = l.meta_says.1;
          items = n;
          volume = l.volume_says.1;
          first = first_front e.stamp one.0 domains items one.1 ∙ sym same;
        }

    pub too_early_by_item : (stamp : Moment) → domain ≤ microseconds e.stamp → microseconds e.stamp < item → Some stamp ≡ first_after e.stamp (map stamp_of (items_of c.volumes)) → IsTooEarly files c e stamp
    too_early_by_item stamp le lt found =
        let one = some_after e.stamp items (omega (arith, lt, l.volume_says.2)) in
        let whole : map stamp_of (items_of c.volumes) ≡ items ++ map stamp_of (items_from e.volume n c.volumes) =
        ap (map stamp_of) (places_part e.volume n c.volumes) ∙ map-append stamp_of (items_before e.volume n c.volumes) (items_from e.volume n c.volumes) in
        let same : Some stamp ≡ Some one.0 = found ∙ ap (first_after e.stamp) whole ∙ first_front e.stamp one.0 items (map stamp_of (items_from e.volume n c.volumes)) one.1 in
        record {
          filled = l.filled;
          records = j;
          meta = l.meta_says.1;
          items = n;
          volume = l.volume_says.1;
          first = first_append e.stamp domains items (none_after e.stamp domains (omega (arith, le, l.meta_says.2))) ∙ one.1 ∙ sym same;
        }

-- ---- all entries

each-both : {X : Type 0} (P Q R : X → Type 0) → ((x : X) → P x → Q x → R x) → (xs : List X) → AllByRecursion P xs → AllByRecursion Q xs → AllByRecursion R xs
each-both P Q R both [] ps qs = tt
each-both P Q R both (x ∷ xs) ps qs = (both x ps.0 qs.0, each-both P Q R both xs ps.1 qs.1)

module _ (files : Files) (c : ArchiveContents) (top : Option ℕ) (known : Known) where
  pub all_point : (es : List Entry) → AllByRecursion (EntryKnown files c top known) es → AllByRecursion (λ e. misses (look_of known top e) ≡ false) es → AllByRecursion (PointsToBoundaries files) es
  all_point es all ok = each-both (EntryKnown files c top known) (λ e. misses (look_of known top e) ≡ false) (PointsToBoundaries files) (λ e k h. good_points files c top known e k h) es all ok

  pub all_sound : Climb c.volumes → (es : List Entry) → AllByRecursion (EntryKnown files c top known) es → AllByRecursion (PointsToBoundaries files) es → AllByRecursion (λ e. is_late (look_of known top e) e.stamp ≡ false) es → AllByRecursion (IsSoundEntry files c) es
  all_sound climb [] all points ok = tt
  all_sound climb (e ∷ es) all points ok = (good_entry files c top known e all.0 climb points.0 ok.0, all_sound climb es all.1 points.1 ok.1)

  -- the first one that is bad
  pub first_known : (test : Entry → Bool) (es : List Entry) (found : ℕ × Entry) → IsFirst test es found → AllByRecursion (EntryKnown files c top known) es → EntryKnown files c top known found.1
  first_known test es found first all = (each-split (EntryKnown files c top known) first.front (found.1 ∷ first.behind) (subst (AllByRecursion (EntryKnown files c top known)) first.are all)).1.0

  pub first_missed : (found : ℕ × Entry) (Bad : Entry → Type 0) → (es : List Entry) → IsFirst (λ e. misses (look_of known top e)) es found → AllByRecursion (EntryKnown files c top known) es → Bad found.1 → (at : ℕ) → at ≡ found.0 → IsFirstBad es (PointsToBoundaries files) Bad at
  first_missed found Bad es first all bad at same = record {
    front = first.front;
    e = found.1;
    behind = first.behind;
    are = first.are;
    at_is = same ∙ first.at_is;
    good = all_point first.front (each-split (EntryKnown files c top known) first.front (found.1 ∷ first.behind) (subst (AllByRecursion (EntryKnown files c top known)) first.are all)).0 first.before;
    bad = bad;
  }

  pub first_late : Climb c.volumes → (found : ℕ × Entry) (Bad : Entry → Type 0) → (es : List Entry) → IsFirst (λ e. is_late (look_of known top e) e.stamp) es found → AllByRecursion (EntryKnown files c top known) es → AllByRecursion (PointsToBoundaries files) es → Bad found.1
      → (at : ℕ) → at ≡ found.0 → IsFirstBad es (IsSoundEntry files c) Bad at
  first_late climb found Bad es first all points bad at same = record {
    front = first.front;
    e = found.1;
    behind = first.behind;
    are = first.are;
    at_is = same ∙ first.at_is;
    good = all_sound climb first.front (each-split (EntryKnown files c top known) first.front (found.1 ∷ first.behind) (subst (AllByRecursion (EntryKnown files c top known)) first.are all)).0
        (each-split (PointsToBoundaries files) first.front (found.1 ∷ first.behind) (subst (AllByRecursion (PointsToBoundaries files)) first.are points)).0 first.before;
    bad = bad;
  }
