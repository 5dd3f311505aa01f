-- The greatest stamp of an archive: what it is, that it is one, and what leaves it.
use Rattle.std.proofs.Common.{zero, suc, ◌≡◌, ◌⊎◌, inl, inr, ⊎_elim, ℕ, ℤ, ◌≤◌, true, false, List, [], ◌∷◌, ◌++◌, length, map, Option, Some, None, refl, sym, ap, ap₂, subst, arith, nat_lt, cond}
use Rattle.std.specs.Prelude.{Bool, Contains, IfSome}
use Rattle.std.specs.List.{AllByRecursion}
use Rattle.std.proofs.lemmas.Bool.{ltb-false, ltb-true}
use Rattle.pcp_base.specs.Time.{Moment, IsMoment, microseconds}
use Rattle.pcp_base.specs.declared.result.Item.{Item}
use Rattle.pcp_model.specs.declared.records.Entry.{Entry}
use Rattle.pcp_model.specs.declared.records.MetaRecord.{MetaRecord}
use Rattle.pcp_model.specs.declared.records.MetaRecord.TheVariants.{Description, Domain, Other}
use Rattle.pcp_model.specs.Archive.{ArchiveContents, IsArchive, items_of}
use Rattle.pcp_model.specs.Disk.{Files}
use Rattle.pcp_model.specs.Payload.{stamp_of}
use Rattle.pcp_model.specs.Sound.{IsItemBy, IsRecordBy, NoItemAfter, NoDomainAfter}
use Rattle.pcp_model.proofs.Lists.{each-map, each-split}
use Rattle.archive_recovery.specs.Stamps.{domain_stamps, entry_stamps, item_stamps, stamps_in, IsLatest}
use Rattle.logger_core.specs.Steps.{IsAbove, IsEntryBy, IsGreatest, IsStampIn, NoEntryAfter, greatest_in, later_of, latest_of}
use Rattle.logger_core.proofs.Timely.{archive_timely, at_of}
use Rattle.logger_core.proofs.Whole.{next_contains}

-- ---- the same items, records and entries

module _ (c d : ArchiveContents) (items : items_of d.volumes ≡ items_of c.volumes) (records : d.records ≡ c.records) (entries : d.entries ≡ c.entries) where
  same_stamp : (t : Moment) → IsStampIn c t → IsStampIn d t
  same_stamp t (inl item) = inl (subst (λ xs. (x : Item) × Contains xs x × (stamp_of x ≡ t)) (sym items) item)
  same_stamp t (inr (inl domain)) = inr (inl (subst (λ rs. (indom : ℕ) × (pairs : List (ℤ × List ℕ)) × Contains rs (Domain t indom pairs)) (sym records) domain))
  same_stamp t (inr (inr entry)) = inr (inr (subst (λ es. (e : Entry) × Contains es e × (e.stamp ≡ t)) (sym entries) entry))

  stamp_same : (t : Moment) → IsStampIn d t → IsStampIn c t
  stamp_same t (inl item) = inl (subst (λ xs. (x : Item) × Contains xs x × (stamp_of x ≡ t)) items item)
  stamp_same t (inr (inl domain)) = inr (inl (subst (λ rs. (indom : ℕ) × (pairs : List (ℤ × List ℕ)) × Contains rs (Domain t indom pairs)) records domain))
  stamp_same t (inr (inr entry)) = inr (inr (subst (λ es. (e : Entry) × Contains es e × (e.stamp ≡ t)) entries entry))

  pub above_same : (g : Option Moment) → IsAbove c g → IsAbove d g
  above_same None none = λ t stamp. none t (stamp_same t stamp)
  above_same (Some t) is = (subst (NoItemAfter t) (sym items) is.0, subst (NoDomainAfter t) (sym records) is.1, subst (NoEntryAfter t) (sym entries) is.2)

  pub greatest_same : (g : Option Moment) → IsGreatest c g → IsGreatest d g
  greatest_same None none = λ t stamp. none t (stamp_same t stamp)
  greatest_same (Some t) is = (same_stamp t is.0, subst (NoItemAfter t) (sym items) is.1, subst (NoDomainAfter t) (sym records) is.2, subst (NoEntryAfter t) (sym entries) is.3)

pub greatest_above : (c : ArchiveContents) (g : Option Moment) → IsGreatest c g → IsAbove c g
greatest_above c None none = none
greatest_above c (Some t) is = (is.1, is.2, is.3)

-- ---- it is one

pub one_moment : (s t : Moment) → IsMoment s → IsMoment t → microseconds s ≡ microseconds t → s ≡ t
one_moment s t in_range also same =
    let sec : s.sec ≡ t.sec = omega (arith, in_range.usec, also.usec, same) in
    let usec : s.usec ≡ t.usec = omega (arith, in_range.usec, also.usec, same) in
    ap₂ (λ (a b : ℕ). record { sec = a; usec = b }) sec usec

not_above : (c : ArchiveContents) (s t : Moment) → IsStampIn c s → NoItemAfter t (items_of c.volumes) → NoDomainAfter t c.records → NoEntryAfter t c.entries → microseconds s ≤ microseconds t
not_above c s t (inl (x, has, same)) items domains entries = subst (λ (m : Moment). microseconds m ≤ microseconds t) same (at_of (IsItemBy t) (items_of c.volumes) x items has)
not_above c s t (inr (inl (indom, pairs, has))) items domains entries = at_of (IsRecordBy t) c.records (Domain s indom pairs) domains has
not_above c s t (inr (inr (e, has, same))) items domains entries = subst (λ (m : Moment). microseconds m ≤ microseconds t) same (at_of (IsEntryBy t) c.entries e entries has)

pub one_greatest : (c : ArchiveContents) → ((t : Moment) → IsStampIn c t → IsMoment t) → (a b : Option Moment) → IsGreatest c a → IsGreatest c b → a ≡ b
one_greatest c timely None None x y = refl
one_greatest c timely None (Some t) x y = absurd (x t y.0)
one_greatest c timely (Some s) None x y = absurd (y s x.0)
one_greatest c timely (Some s) (Some t) x y =
    let up : microseconds s ≤ microseconds t = not_above c s t x.0 y.1 y.2 y.3 in
    let down : microseconds t ≤ microseconds s = not_above c t s y.0 x.1 x.2 x.3 in
    ap (λ (m : Moment). Some m) (one_moment s t (timely s x.0) (timely t y.0) (omega (arith, up, down)))

-- ---- the latest of all stamps

in_either : {X : Type 0} (xs ys : List X) (x : X) → Contains (xs ++ ys) x → Contains xs x ⊎ Contains ys x
in_either [] ys x has = inr has
in_either (y ∷ xs) ys x (zero, low, is) = inl (0, omega arith, is)
in_either (y ∷ xs) ys x (suc k, low, is) = ⊎_elim (λ (l : Contains xs x). inl (next_contains y xs x l)) (λ (r : Contains ys x). inr r) (in_either xs ys x (k, omega (arith, low), is))

-- a stamp of a list is of one of its records, entries or items
of_domain : (records : List MetaRecord) (t : Moment) → Contains (domain_stamps records) t → (indom : ℕ) × (pairs : List (ℤ × List ℕ)) × Contains records (Domain t indom pairs)
of_domain [] t has = absurd (omega (arith, has.1))
of_domain (Description d names ∷ rs) t has = let r = of_domain rs t has in (r.0, r.1, next_contains (Description d names) rs (Domain t r.0 r.1) r.2)
of_domain (Domain s indom pairs ∷ rs) t (zero, low, is) = (indom, pairs, (0, omega arith, ap (λ m. Domain m indom pairs) is))
of_domain (Domain s indom pairs ∷ rs) t (suc k, low, is) = let r = of_domain rs t (k, omega (arith, low), is) in (r.0, r.1, next_contains (Domain s indom pairs) rs (Domain t r.0 r.1) r.2)
of_domain (Other ∷ rs) t has = let r = of_domain rs t has in (r.0, r.1, next_contains Other rs (Domain t r.0 r.1) r.2)

-- of a list of what is stamped, one with that stamp
of_stamped : {X : Type 0} (f : X → Moment) (xs : List X) (t : Moment) → Contains (map f xs) t → (x : X) × Contains xs x × (f x ≡ t)
of_stamped f [] t has = absurd (omega (arith, has.1))
of_stamped f (x ∷ xs) t (zero, low, is) = (x, (0, omega arith, refl), is)
of_stamped f (x ∷ xs) t (suc k, low, is) = let r = of_stamped f xs t (k, omega (arith, low), is) in (r.0, next_contains x xs r.0 r.1, r.2)

-- where a record, an entry or an item has one, the list isn't empty
abbrev IsDomain : MetaRecord → Type 0
IsDomain (Description d names) = ⊥
IsDomain (Domain t indom pairs) = Unit {0}
IsDomain Other = ⊥

some_domain : (records : List MetaRecord) (t : Moment) (indom : ℕ) (pairs : List (ℤ × List ℕ)) → Contains records (Domain t indom pairs) → domain_stamps records ≡ [] → ⊥
some_domain [] t indom pairs has none = omega (arith, has.1)
some_domain (Description d names ∷ rs) t indom pairs (zero, low, is) none = subst IsDomain (sym is) tt
some_domain (Description d names ∷ rs) t indom pairs (suc k, low, is) none = some_domain rs t indom pairs (k, omega (arith, low), is) none
some_domain (Domain s i p ∷ rs) t indom pairs has none = omega (arith, ap length none)
some_domain (Other ∷ rs) t indom pairs (zero, low, is) none = subst IsDomain (sym is) tt
some_domain (Other ∷ rs) t indom pairs (suc k, low, is) none = some_domain rs t indom pairs (k, omega (arith, low), is) none

some_stamped : {X : Type 0} (f : X → Moment) (xs : List X) (x : X) → Contains xs x → map f xs ≡ [] → ⊥
some_stamped f [] x has none = omega (arith, has.1)
some_stamped f (y ∷ ys) x has none = omega (arith, ap length none)

-- none of a list is later
no_domain : (records : List MetaRecord) (t : Moment) → AllByRecursion (λ (s : Moment). microseconds s ≤ microseconds t) (domain_stamps records) → NoDomainAfter t records
no_domain [] t all = tt
no_domain (Description d names ∷ rs) t all = (tt, no_domain rs t all)
no_domain (Domain s indom pairs ∷ rs) t all = (all.0, no_domain rs t all.1)
no_domain (Other ∷ rs) t all = (tt, no_domain rs t all)

no_item : (items : List Item) (t : Moment) → AllByRecursion (λ (s : Moment). microseconds s ≤ microseconds t) (item_stamps items) → NoItemAfter t items
no_item [] t all = tt
no_item (x ∷ xs) t all = (all.0, no_item xs t all.1)

no_entry : (entries : List Entry) (t : Moment) → AllByRecursion (λ (s : Moment). microseconds s ≤ microseconds t) (entry_stamps entries) → NoEntryAfter t entries
no_entry [] t all = tt
no_entry (e ∷ es) t all = (all.0, no_entry es t all.1)

none_left : {X : Type 0} (xs ys : List X) → xs ++ ys ≡ [] → (xs ≡ []) × (ys ≡ [])
none_left [] ys none = (refl, none)
none_left (x ∷ xs) ys none = absurd (omega (arith, ap length none))

module _ (c : ArchiveContents) where
  abbrev domains : List Moment
  domains = domain_stamps c.records

  abbrev entries : List Moment
  entries = entry_stamps c.entries

  abbrev items : List Moment
  items = item_stamps (items_of c.volumes)

  stamp_among : (t : Moment) → Contains (stamps_in c) t → IsStampIn c t
  stamp_among t has = ⊎_elim
      (λ (front : Contains (domains ++ entries) t). inr (⊎_elim (λ (d : Contains domains t). inl (of_domain c.records t d)) (λ (e : Contains entries t). inr (of_stamped (λ (x : Entry). x.stamp) c.entries t e)) (in_either domains entries t front)))
      (λ (i : Contains items t). inl (of_stamped stamp_of (items_of c.volumes) t i))
      (in_either (domains ++ entries) items t has)

  none_stamped : stamps_in c ≡ [] → (t : Moment) → IsStampIn c t → ⊥
  none_stamped none t (inl (x, has, same)) = some_stamped stamp_of (items_of c.volumes) x has (none_left (domains ++ entries) items none).1
  none_stamped none t (inr (inl (indom, pairs, has))) = some_domain c.records t indom pairs has (none_left domains entries (none_left (domains ++ entries) items none).0).0
  none_stamped none t (inr (inr (e, has, same))) = some_stamped (λ (x : Entry). x.stamp) c.entries e has (none_left domains entries (none_left (domains ++ entries) items none).0).1

  pub latest_is_greatest : (o : Option Moment) → IsLatest (stamps_in c) o → IsGreatest c o
  latest_is_greatest None none = none_stamped none
  latest_is_greatest (Some t) latest =
      let front = each-split (λ (s : Moment). microseconds s ≤ microseconds t) (domains ++ entries) items latest.1 in
      let parts = each-split (λ (s : Moment). microseconds s ≤ microseconds t) domains entries front.0 in
      (stamp_among t latest.0, no_item (items_of c.volumes) t front.1, no_domain c.records t parts.0, no_entry c.entries t parts.1)

-- the latest of some moments is one of them, and none is later
pub latest_is : (ts : List Moment) → IsLatest ts (latest_of ts)
latest_is [] = refl
latest_is (t ∷ ts) = on (latest_of ts) (latest_is ts)
  where
    none_else : (s : Moment) (xs : List Moment) → xs ≡ [] → AllByRecursion (λ (r : Moment). microseconds r ≤ microseconds s) xs
    none_else s xs none = subst (AllByRecursion (λ (r : Moment). microseconds r ≤ microseconds s)) (sym none) tt

    later : (s : Moment) → IsLatest ts (Some s) → (b : Bool) → nat_lt (microseconds t) (microseconds s) ≡ b → IsLatest (t ∷ ts) (Some (cond b s t))
    later s is true lt = (next_contains t ts s is.0, (omega (arith, ltb-true (microseconds t) (microseconds s) lt), is.1))
    later s is false ge = ((0, omega arith, refl), (omega arith, each-map (λ (r : Moment). microseconds r ≤ microseconds s) (λ (r : Moment). microseconds r ≤ microseconds t) (λ r by. omega (arith, by, ltb-false (microseconds t) (microseconds s) ge)) ts is.1))

    on : (o : Option Moment) → IsLatest ts o → IsLatest (t ∷ ts) (Some (later_of t o))
    on None none = ((0, omega arith, refl), (omega arith, none_else t ts none))
    on (Some s) is = later s is (nat_lt (microseconds t) (microseconds s)) refl

-- so is what the files give
pub greatest_in_is : (c : ArchiveContents) → IsGreatest c (greatest_in c)
greatest_in_is c = latest_is_greatest c (greatest_in c) (latest_is (stamps_in c))

pub greatest_found : (files : Files) (c : ArchiveContents) → IsArchive files c → (o : Option Moment) → IsGreatest c o → o ≡ greatest_in c
greatest_found files c is o greatest = one_greatest c (archive_timely files c is) o (greatest_in c) greatest (greatest_in_is c)

pub greatest_timely : (files : Files) (c : ArchiveContents) → IsArchive files c → (o : Option Moment) → IsGreatest c o → IfSome o IsMoment
greatest_timely files c is None none = tt
greatest_timely files c is (Some t) greatest = archive_timely files c is t greatest.0
