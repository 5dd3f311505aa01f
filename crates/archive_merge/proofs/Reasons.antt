-- Why sets can't be described: what is told is of the first set of which it is true; and which domains sets use.
use Rattle.std.proofs.Common.{◌≡◌, ◌≢◌, ◌⊎◌, inl, inr, ℕ, zero, suc, ℤ, ◌<◌, Bool, true, false, not, ◌&&◌, ◌||◌, ◌==◌, cond, nat_eq, bytes_eq, List, [], ◌∷◌, length, refl, sym, ap, ap₂, ◌∙◌, subst, arith, Option, Some, None}
use Rattle.std.specs.Prelude.{fold, is_some, IsTrue}
use Rattle.std.specs.BTreeSet.{insert_key}
use Rattle.std.specs.List.{AllByRecursion, list_all, list_any, slice_index_or}
use Rattle.std.specs.Ordering.{int_eq, match_ordering, nat_cmp}
use Rattle.std.specs.declared.cmp.Ordering.{Ordering}
use Rattle.std.specs.declared.cmp.Ordering.TheVariants.{Less, Equal, Greater}
use Rattle.std.proofs.lemmas.Bool.{eqb-true, eqb-false, eq-eqb}
use Rattle.std.proofs.lemmas.Bool.Decides.{Decides-int_eq}
use Rattle.pcp_base.specs.Ids.{null_indom}
use Rattle.pcp_base.specs.Time.{Moment}
use Rattle.pcp_base.specs.declared.desc.Desc.{Desc}
use Rattle.pcp_base.specs.declared.result.Body.{Body}
use Rattle.pcp_base.specs.declared.result.Body.TheVariants.{InPlace, Blocks, Status}
use Rattle.pcp_base.specs.declared.result.ValueSet.{ValueSet}
use Rattle.pcp_model.specs.declared.records.MetaRecord.{MetaRecord}
use Rattle.archive_meta.specs.Enough.{AreListed, IsListed}
use Rattle.archive_meta.specs.Facts.{has_values}
use Rattle.archive_merge.specs.Facts.{clash_of, domains_used, first_clash, first_lacking, has_domain, is_clashing, is_described, is_lacking, is_renaming, lack_in, misfit_between, or_else, with_domain_of, with_used}
use Rattle.archive_merge.specs.Laws.{AgreeOn, Agrees, AreOne, HasNames, IsFirstOf, IsOneOf, IsWell, SaysWhy, Uses}
use Rattle.archive_merge.specs.Naming.{Pairs, differ, fact_about, name_in, names_all, pairs_at, renames}
use Rattle.archive_merge.proofs.Enough.{IsGood, Stands, all_listed, good, or_true, used}

pub stand_so : (sets : List ValueSet) (set : ValueSet) → IsOneOf sets set → Stands set sets
stand_so [] set one = absurd one
stand_so (x ∷ sets) set (inl is) = inl is
stand_so (x ∷ sets) set (inr one) = inr (stand_so sets set one)

or_split : (a b : Bool) → (a || b) ≡ true → (a ≡ true) ⊎ (b ≡ true)
or_split true b h = inl refl
or_split false b h = inr h

or_none : (a b : Bool) → (a || b) ≡ false → (a ≡ false) × (b ≡ false)
or_none true b h = absurd (cc)
or_none false b h = (refl, h)

and_rest : (a b : Bool) → (a && b) ≡ false → a ≡ true → b ≡ false
and_rest true b h e = h
and_rest false b h e = absurd (cc)

and_both : (a b : Bool) → (a && b) ≡ true → (a ≡ true) × (b ≡ true)
and_both true b h = (refl, h)
and_both false b h = absurd (cc)

-- ---- domains that sets use

module _ (q : ℕ) where
  inserted_only : (k : ℕ) (ds : List ℕ) → has_domain q (insert_key nat_cmp ds k) ≡ true → (q ≡ k) ⊎ (has_domain q ds ≡ true)
  inserted_only k [] h = by (nat_eq q k) refl h
    where
      by : (c : Bool) → nat_eq q k ≡ c → (c || false) ≡ true → (q ≡ k) ⊎ (has_domain q [] ≡ true)
      by true e g = inl (eqb-true q k e)
      by false e g = absurd (cc)
  inserted_only k (x ∷ ds) h = by (nat_cmp k x) h (inserted_only k ds)
    where
      front : (c : Bool) → nat_eq q k ≡ c → (c || has_domain q (x ∷ ds)) ≡ true → (q ≡ k) ⊎ (has_domain q (x ∷ ds) ≡ true)
      front true e g = inl (eqb-true q k e)
      front false e g = inr g

      behind : (c : Bool) → (c || has_domain q (insert_key nat_cmp ds k)) ≡ true → (has_domain q (insert_key nat_cmp ds k) ≡ true → (q ≡ k) ⊎ (has_domain q ds ≡ true)) → (q ≡ k) ⊎ ((c || has_domain q ds) ≡ true)
      behind true g more = inr refl
      behind false g more = more g

      by : (o : Ordering) → has_domain q (match_ordering o (k ∷ x ∷ ds) (x ∷ ds) (x ∷ insert_key nat_cmp ds k)) ≡ true → (has_domain q (insert_key nat_cmp ds k) ≡ true → (q ≡ k) ⊎ (has_domain q ds ≡ true)) → (q ≡ k) ⊎ (has_domain q (x ∷ ds) ≡ true)
      by Less g more = front (nat_eq q k) refl g
      by Equal g more = inr g
      by Greater g more = behind (nat_eq q x) g more

  module _ (records : List MetaRecord) where
    one_used : (x : ValueSet) (sets : List ValueSet) (ds : List ℕ) → has_domain q (with_used records ds x) ≡ true → (has_domain q ds ≡ true) ⊎ Uses records (x ∷ sets) q
    one_used x sets ds h = by (has_values x.body) refl (fact_about records x.pmid) refl h
      where
        named : (f : Desc × List ℕ) → has_values x.body ≡ true → fact_about records x.pmid ≡ Some f → (c : Bool) → (f.0.indom == null_indom) ≡ c → has_domain q (cond c ds (insert_key nat_cmp ds f.0.indom)) ≡ true → (has_domain q ds ≡ true) ⊎ Uses records (x ∷ sets) q
        named f v e true k g = inl g
        named f v e false k g = to (inserted_only f.0.indom ds g)
          where
            to : (q ≡ f.0.indom) ⊎ (has_domain q ds ≡ true) → (has_domain q ds ≡ true) ⊎ Uses records (x ∷ sets) q
            to (inl same) = inr (record { set = x; stands = inl refl; shows = v; fact = f; found = e; its = sym same; some = λ null. absurd (eqb-false f.0.indom null_indom k (sym same ∙ null)) })
            to (inr there) = inl there

        by : (c : Bool) → has_values x.body ≡ c → (o : Option (Desc × List ℕ)) → fact_about records x.pmid ≡ o → has_domain q (cond c (with_domain_of ds o) ds) ≡ true → (has_domain q ds ≡ true) ⊎ Uses records (x ∷ sets) q
        by true v None e g = inl g
        by true v (Some f) e g = named f v e (f.0.indom == null_indom) refl g
        by false v o e g = inl g

    more_used : (x : ValueSet) (sets : List ValueSet) → Uses records sets q → Uses records (x ∷ sets) q
    more_used x sets u = record { set = u.set; stands = inr u.stands; shows = u.shows; fact = u.fact; found = u.found; its = u.its; some = u.some }

    pub used_from : (sets : List ValueSet) (ds : List ℕ) → has_domain q (fold (with_used records) ds sets) ≡ true → (has_domain q ds ≡ true) ⊎ Uses records sets q
    used_from [] ds h = inl h
    used_from (x ∷ sets) ds h = to (used_from sets (with_used records ds x) h)
      where
        to : (has_domain q (with_used records ds x) ≡ true) ⊎ Uses records sets q → (has_domain q ds ≡ true) ⊎ Uses records (x ∷ sets) q
        to (inl g) = one_used x sets ds g
        to (inr u) = inr (more_used x sets u)

    pub used_only : (sets : List ValueSet) → has_domain q (domains_used records sets) ≡ true → Uses records sets q
    used_only sets h = to (used_from sets [] h)
      where
        to : (has_domain q [] ≡ true) ⊎ Uses records sets q → Uses records sets q
        to (inl g) = absurd (cc)
        to (inr u) = u

    pub used_there : (sets : List ValueSet) (ds : List ℕ) → Uses records sets q → has_domain q (fold (with_used records) ds sets) ≡ true
    used_there sets ds u =
        subst (λ (d : ℕ). has_domain d (fold (with_used records) ds sets) ≡ true) u.its
        (used records sets u.set u.fact ds (stand_so sets u.set u.stands) u.shows u.found (λ null. u.some (sym u.its ∙ null)))

    pub unused_so : (sets : List ValueSet) → (Uses records sets q → ⊥) → has_domain q (domains_used records sets) ≡ false
    unused_so sets none = by (has_domain q (domains_used records sets)) refl
      where
        by : (c : Bool) → has_domain q (domains_used records sets) ≡ c → c ≡ false
        by true e = absurd (none (used_only sets e))
        by false e = refl

-- ---- the first set of which something is true

abbrev pub Reason : (ValueSet → Type 0) → List ValueSet → Option ℕ → Type 0
Reason Good sets None = AllByRecursion Good sets
Reason Good sets (Some pmid) = IsFirstOf Good sets pmid

module _ (Good : ValueSet → Type 0) (test : ValueSet → Bool) (good_so : (set : ValueSet) → test set ≡ false → Good set) (bad_so : (set : ValueSet) → test set ≡ true → Good set → ⊥) where
  first_step : (set : ValueSet) (sets : List ValueSet) (c : Bool) → test set ≡ c → (o : Option ℕ) → Reason Good sets o → Reason Good (set ∷ sets) (cond c (Some set.pmid) o)
  first_step set sets true e o r = record { front = []; set = set; behind = sets; are = refl; metric = refl; good = tt; bad = bad_so set e }
  first_step set sets false e None r = (good_so set e, r)
  first_step set sets false e (Some pmid) r = record { front = set ∷ r.front; set = r.set; behind = r.behind; are = ap (λ (l : List ValueSet). set ∷ l) r.are; metric = r.metric; good = (good_so set e, r.good); bad = r.bad }

-- ---- lacks

module _ (i : ℤ) where
  name_known : (pairs : Pairs) → IsListed pairs i → is_some (name_in i pairs) ≡ true
  name_known [] l = let below = l.1.1 in absurd (omega (arith, below))
  name_known (p ∷ pairs) l = by l.1.0 l.1.1 l.1.2 (λ k below is. name_known pairs (l.0, (k, below, is)))
    where
      to : (c : Bool) → is_some (name_in i pairs) ≡ true → is_some (cond c (Some p.1) (name_in i pairs)) ≡ true
      to true h = refl
      to false h = h

      by : (k : ℕ) → k < length (p ∷ pairs) → slice_index_or (p ∷ pairs) k (i, l.0) ≡ (i, l.0) → ((j : ℕ) → j < length pairs → slice_index_or pairs j (i, l.0) ≡ (i, l.0) → is_some (name_in i pairs) ≡ true) → is_some (name_in i (p ∷ pairs)) ≡ true
      by zero below is more = ap (λ (b : Bool). is_some (cond b (Some p.1) (name_in i pairs))) ((Decides-int_eq p.0 i).1 (ap (λ (x : ℤ × List ℕ). x.0) is))
      by (suc k) below is more = to (int_eq p.0 i) (more k (omega (arith, below)) is)

each_known : {T : Type 0} (pairs : Pairs) (shown : List (ℤ × T)) → AllByRecursion (λ p. IsListed pairs p.0) shown → list_all (λ p. is_some (name_in p.0 pairs)) shown ≡ true
each_known pairs [] all = refl
each_known pairs (p ∷ shown) all = ap (λ (b : Bool). b && list_all (λ q. is_some (name_in q.0 pairs)) shown) (name_known p.0 pairs all.0) ∙ each_known pairs shown all.1

all_known : (pairs : Pairs) (body : Body) → AreListed pairs body → names_all pairs body ≡ true
all_known pairs (InPlace shown) all = each_known pairs shown all
all_known pairs (Blocks shown) all = each_known pairs shown all
all_known pairs (Status n) all = refl

module _ (records : List MetaRecord) (t : Moment) where
  pub well_so : (set : ValueSet) → is_lacking records t set ≡ false → IsWell records t set
  well_so set none shows =
      let g : IsGood records t set = good records t set shows none in
      record { fact = g.fact; found = g.found; named = to g.fact g.named }
    where
      to : (f : Desc × List ℕ) → (f.0.indom ≡ null_indom) ⊎ ((f.0.indom ≢ null_indom) × (names_all (pairs_at records f.0.indom t) set.body ≡ true)) → (f.0.indom ≡ null_indom) ⊎ AreListed (pairs_at records f.0.indom t) set.body
      to f (inl null) = inl null
      to f (inr (apart, all)) = inr (all_listed (pairs_at records f.0.indom t) (pairs_at records f.0.indom t) (λ i h. h) set.body all)

  described_so : (set : ValueSet) (w : HasNames records t set) → is_described records t set (Some w.fact) ≡ true
  described_so set w = by w.named
    where
      by : (w.fact.0.indom ≡ null_indom) ⊎ AreListed (pairs_at records w.fact.0.indom t) set.body → ((w.fact.0.indom == null_indom) || names_all (pairs_at records w.fact.0.indom t) set.body) ≡ true
      by (inl null) = ap (λ (b : Bool). b || names_all (pairs_at records w.fact.0.indom t) set.body) (eq-eqb w.fact.0.indom null_indom null)
      by (inr all) = ap (λ (b : Bool). (w.fact.0.indom == null_indom) || b) (all_known (pairs_at records w.fact.0.indom t) set.body all) ∙ or_true (w.fact.0.indom == null_indom)

  pub unwell_so : (set : ValueSet) → is_lacking records t set ≡ true → IsWell records t set → ⊥
  unwell_so set e well =
      let both = and_both (has_values set.body) (not (is_described records t set (fact_about records set.pmid))) e in
      let w : HasNames records t set = well both.0 in
      let is : is_described records t set (fact_about records set.pmid) ≡ true = ap (is_described records t set) w.found ∙ described_so set w in
      let none : not (is_described records t set (fact_about records set.pmid)) ≡ false = ap not is in
      absurd (cc (both.1, none))

  pub lacks_first : (sets : List ValueSet) → Reason (IsWell records t) sets (first_lacking records t sets)
  lacks_first [] = tt
  lacks_first (set ∷ sets) = first_step (IsWell records t) (is_lacking records t) well_so unwell_so set sets (is_lacking records t set) refl (first_lacking records t sets) (lacks_first sets)

-- ---- clashes

same_bytes : (a b : List ℕ) → bytes_eq a b ≡ true → a ≡ b
same_bytes [] [] h = refl
same_bytes [] (y ∷ b) h = absurd (cc)
same_bytes (x ∷ a) [] h = absurd (cc)
same_bytes (x ∷ a) (y ∷ b) h =
    let both = and_both (nat_eq x y) (bytes_eq a b) h in
    ap₂ (λ (k : ℕ) (l : List ℕ). k ∷ l) (eqb-true x y both.0) (same_bytes a b both.1)

bytes_themselves : (a : List ℕ) → bytes_eq a a ≡ true
bytes_themselves [] = refl
bytes_themselves (x ∷ a) = ap₂ (λ b c. b && c) (eq-eqb x x refl) (bytes_themselves a)

one_if : (a b : Option (List ℕ)) → differ a b ≡ false → AreOne a b
one_if None b h = tt
one_if (Some n) None h = tt
one_if (Some n) (Some m) h = by (bytes_eq n m) refl h
  where
    by : (c : Bool) → bytes_eq n m ≡ c → not c ≡ false → n ≡ m
    by true e g = same_bytes n m e
    by false e g = absurd (cc)

one_then : (a b : Option (List ℕ)) → AreOne a b → differ a b ≡ false
one_then None b one = refl
one_then (Some n) None one = refl
one_then (Some n) (Some m) one = ap not (subst (λ (l : List ℕ). bytes_eq n l ≡ true) one (bytes_themselves n))

module _ (first second : Pairs) where
  each_if : {T : Type 0} (shown : List (ℤ × T)) → list_any (λ p. differ (name_in p.0 first) (name_in p.0 second)) shown ≡ false → AllByRecursion (λ p. AreOne (name_in p.0 first) (name_in p.0 second)) shown
  each_if [] h = tt
  each_if (p ∷ shown) h =
      let both = or_none (differ (name_in p.0 first) (name_in p.0 second)) (list_any (λ q. differ (name_in q.0 first) (name_in q.0 second)) shown) h in
      (one_if (name_in p.0 first) (name_in p.0 second) both.0, each_if shown both.1)

  each_then : {T : Type 0} (shown : List (ℤ × T)) → AllByRecursion (λ p. AreOne (name_in p.0 first) (name_in p.0 second)) shown → list_any (λ p. differ (name_in p.0 first) (name_in p.0 second)) shown ≡ false
  each_then [] all = refl
  each_then (p ∷ shown) all = ap (λ (b : Bool). b || list_any (λ q. differ (name_in q.0 first) (name_in q.0 second)) shown) (one_then (name_in p.0 first) (name_in p.0 second) all.0) ∙ each_then shown all.1

  agree_if : (body : Body) → renames first second body ≡ false → AgreeOn first second body
  agree_if (InPlace shown) h = each_if shown h
  agree_if (Blocks shown) h = each_if shown h
  agree_if (Status n) h = tt

  agree_then : (body : Body) → AgreeOn first second body → renames first second body ≡ false
  agree_then (InPlace shown) all = each_then shown all
  agree_then (Blocks shown) all = each_then shown all
  agree_then (Status n) all = refl

module _ (first second : List MetaRecord) (t : Moment) (ours : List ValueSet) where
  abbrev Clashes_so : ValueSet → Bool
  Clashes_so set = is_clashing first second t (domains_used first ours) set

  agrees_so : (set : ValueSet) → Clashes_so set ≡ false → Agrees first second t ours set
  agrees_so set none fact shows found uses =
      let renaming : is_renaming first second t (domains_used first ours) set (fact_about second set.pmid) ≡ false = and_rest (has_values set.body) (is_renaming first second t (domains_used first ours) set (fact_about second set.pmid)) none shows in
      let of_fact : is_renaming first second t (domains_used first ours) set (Some fact) ≡ false = sym (ap (is_renaming first second t (domains_used first ours) set) found) ∙ renaming in
      agree_if (pairs_at first fact.0.indom t) (pairs_at second fact.0.indom t) set.body
      (and_rest (has_domain fact.0.indom (domains_used first ours)) (renames (pairs_at first fact.0.indom t) (pairs_at second fact.0.indom t) set.body) of_fact (used_there fact.0.indom first ours [] uses))

  clashes_so : (set : ValueSet) → Clashes_so set ≡ true → Agrees first second t ours set → ⊥
  clashes_so set e agrees =
      let both = and_both (has_values set.body) (is_renaming first second t (domains_used first ours) set (fact_about second set.pmid)) e in
      by (fact_about second set.pmid) refl both.0 both.1
    where
      by : (o : Option (Desc × List ℕ)) → fact_about second set.pmid ≡ o → IsTrue (has_values set.body) → is_renaming first second t (domains_used first ours) set o ≡ true → ⊥
      by None found shows g = absurd (cc)
      by (Some fact) found shows g =
          let both = and_both (has_domain fact.0.indom (domains_used first ours)) (renames (pairs_at first fact.0.indom t) (pairs_at second fact.0.indom t) set.body) g in
          let none : renames (pairs_at first fact.0.indom t) (pairs_at second fact.0.indom t) set.body ≡ false =
          agree_then (pairs_at first fact.0.indom t) (pairs_at second fact.0.indom t) set.body (agrees fact shows found (used_only fact.0.indom first ours both.0)) in
          absurd (cc (both.1, none))

  pub clash_first : (sets : List ValueSet) → Reason (Agrees first second t ours) sets (first_clash first second t (domains_used first ours) sets)
  clash_first [] = tt
  clash_first (set ∷ sets) =
      first_step (Agrees first second t ours) (is_clashing first second t (domains_used first ours)) agrees_so clashes_so set sets (is_clashing first second t (domains_used first ours) set) refl
      (first_clash first second t (domains_used first ours) sets) (clash_first sets)

-- ---- what comes first

module _ (first second : List MetaRecord) (t : Moment) (ours theirs : List ValueSet) where
  pub says_why : SaysWhy first second t ours theirs (misfit_between first second t ours theirs)
  says_why = by (first_lacking first t ours) (lacks_first first t ours) (first_lacking second t theirs) (lacks_first second t theirs) (first_clash first second t (domains_used first ours) theirs) (clash_first first second t ours theirs)
    where
      by : (a : Option ℕ) → Reason (IsWell first t) ours a → (b : Option ℕ) → Reason (IsWell second t) theirs b → (c : Option ℕ) → Reason (Agrees first second t ours) theirs c
          → SaysWhy first second t ours theirs (or_else (lack_in 1 a) (or_else (lack_in 2 b) (clash_of c)))
      by (Some pmid) r b s c u = inl (refl, r)
      by None r (Some pmid) s c u = inr (refl, r, s)
      by None r None s (Some pmid) u = (r, s, u)
      by None r None s None u = (r, s, u)
