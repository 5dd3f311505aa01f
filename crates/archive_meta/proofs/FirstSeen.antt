-- Where metrics are first described, with a record more or less.
use Rattle.std.proofs.Common.{suc, ◌≡◌, ℕ, ◌<◌, Bool, true, false, cond, ◌||◌, nat_eq, List, [], ◌∷◌, ◌++◌, length, fold, take, drop, Option, Some, None, is_some, refl, sym, ap, ◌∙◌, subst, arith, length-append}
use Rattle.std.specs.Prelude.{option_map, option_to_list, slice_get, IfSome, IsSome}
use Rattle.std.specs.Option.{option_or}
use Rattle.std.specs.List.{list_any}
use Rattle.std.specs.Map.{keys_of, lookup}
use Rattle.std.proofs.lemmas.Bool.{eqb-true, eqb-false, eq-eqb}
use Rattle.std.proofs.lemmas.List.{take_at, drop_at, map-append}
use Rattle.std.proofs.lemmas.List.Sums.{fold_push}
use Rattle.indexmap.specs.IndexMap.{IndexMap, get, keys, insert_entry, Updates}
use Rattle.indexmap.proofs.CallerLemmas.{insert_entry-new}
use Rattle.pcp_base.specs.declared.desc.Desc.{Desc}
use Rattle.pcp_model.specs.declared.records.MetaRecord.{MetaRecord}
use Rattle.pcp_model.specs.declared.records.MetaRecord.TheVariants.{Description, Domain, Other}
use Rattle.archive_meta.specs.Said.{describes, description_of, seen_with, seen_after, described_metrics}
use Rattle.archive_meta.specs.Kept.{position_of, HasDescriptions, NotesMetric, DropsMetric}

position_push : (pmid : ℕ) (records : List MetaRecord) (r : MetaRecord) → position_of pmid (records ++ r ∷ []) ≡ option_or (position_of pmid records) (cond (describes pmid r) (Some (length records)) None)
position_push pmid [] r = refl
position_push pmid (x ∷ records) r = by (describes pmid x) (position_of pmid records) (describes pmid r) (position_push pmid records r)
  where
    by : (b : Bool) (o : Option ℕ) (d : Bool) → position_of pmid (records ++ r ∷ []) ≡ option_or o (cond d (Some (length records)) None)
        → cond b (Some 0) (option_map suc (position_of pmid (records ++ r ∷ []))) ≡ option_or (cond b (Some 0) (option_map suc o)) (cond d (Some (suc (length records))) None)
    by true o d e = refl
    by false (Some k) d e = ap (option_map suc) e
    by false None true e = ap (option_map suc) e
    by false None false e = ap (option_map suc) e

position_within : (pmid : ℕ) (records : List MetaRecord) (k : ℕ) → position_of pmid records ≡ Some k → k < length records
position_within pmid [] k e = absurd cc
position_within pmid (x ∷ records) k e = by (describes pmid x) (position_of pmid records) refl e (position_within pmid records)
  where
    by : (b : Bool) (o : Option ℕ) → position_of pmid records ≡ o → cond b (Some 0) (option_map suc o) ≡ Some k → ((j : ℕ) → position_of pmid records ≡ Some j → j < length records) → k < suc (length records)
    by true o h f more = let z : 0 ≡ k = cc in omega arith
    by false (Some j) h f more = let z : suc j ≡ k = cc in let lt : j < length records = more j h in omega arith
    by false None h f more = absurd cc

-- the first description stands at its position
pub found_at : (pmid : ℕ) (records : List MetaRecord) (k : ℕ) → position_of pmid records ≡ Some k → slice_get records k ≡ description_of pmid records
found_at pmid [] k e = absurd cc
found_at pmid (x ∷ records) k e = by (describes pmid x) (position_of pmid records) refl e (found_at pmid records)
  where
    by : (b : Bool) (o : Option ℕ) → position_of pmid records ≡ o → cond b (Some 0) (option_map suc o) ≡ Some k → ((j : ℕ) → position_of pmid records ≡ Some j → slice_get records j ≡ description_of pmid records)
        → slice_get (x ∷ records) k ≡ cond b (Some x) (description_of pmid records)
    by true o h f more = let z : 0 ≡ k = cc in subst (λ n. slice_get (x ∷ records) n ≡ Some x) z refl
    by false (Some j) h f more = let z : suc j ≡ k = cc in subst (λ n. slice_get (x ∷ records) n ≡ description_of pmid records) z (more j h)
    by false None h f more = absurd cc

pub found_none : (pmid : ℕ) (records : List MetaRecord) → position_of pmid records ≡ None → None ≡ description_of pmid records
found_none pmid [] e = refl
found_none pmid (x ∷ records) e = by (describes pmid x) (position_of pmid records) refl e (found_none pmid records)
  where
    by : (b : Bool) (o : Option ℕ) → position_of pmid records ≡ o → cond b (Some 0) (option_map suc o) ≡ None → (position_of pmid records ≡ None → None ≡ description_of pmid records) → None ≡ cond b (Some x) (description_of pmid records)
    by true o h f more = absurd cc
    by false (Some j) h f more = absurd cc
    by false None h f more = more h

-- ---- metrics in the order in which they are first seen

or_false : (b : Bool) → (b || false) ≡ b
or_false true = refl
or_false false = refl

any_push : (f : ℕ → Bool) (xs : List ℕ) (x : ℕ) → list_any f (xs ++ x ∷ []) ≡ (list_any f xs || f x)
any_push f [] x = or_false (f x)
any_push f (y ∷ xs) x = by (f y) (any_push f xs x)
  where
    by : (b : Bool) → list_any f (xs ++ x ∷ []) ≡ (list_any f xs || f x) → (b || list_any f (xs ++ x ∷ [])) ≡ ((b || list_any f xs) || f x)
    by true e = refl
    by false e = e

or_then : (a b : Bool) → (b ≡ true → a ≡ true) → a ≡ (a || b)
or_then true b h = refl
or_then false true h = h refl
or_then false false h = refl

with_one : (pmid q : ℕ) (seen : List ℕ) → list_any (nat_eq pmid) (seen_with seen q) ≡ (list_any (nat_eq pmid) seen || nat_eq pmid q)
with_one pmid q seen = by (list_any (nat_eq q) seen) refl
  where
    by : (b : Bool) → list_any (nat_eq q) seen ≡ b → list_any (nat_eq pmid) (cond b seen (seen ++ q ∷ [])) ≡ (list_any (nat_eq pmid) seen || nat_eq pmid q)
    by true e = or_then (list_any (nat_eq pmid) seen) (nat_eq pmid q) (λ h. subst (λ n. list_any (nat_eq n) seen ≡ true) (sym (eqb-true pmid q h)) e)
    by false e = any_push (nat_eq pmid) seen q

or_some : (a b : Bool) (o : Option ℕ) → ((a || b) || is_some o) ≡ (a || is_some (cond b (Some 0) (option_map suc o)))
or_some true b o = refl
or_some false true o = refl
or_some false false (Some k) = refl
or_some false false None = refl

or_other : (a : Bool) (o : Option ℕ) → (a || is_some o) ≡ (a || is_some (option_map suc o))
or_other true o = refl
or_other false (Some k) = refl
or_other false None = refl

seen_iff : (pmid : ℕ) (seen : List ℕ) (records : List MetaRecord) → list_any (nat_eq pmid) (fold seen_after seen records) ≡ (list_any (nat_eq pmid) seen || is_some (position_of pmid records))
seen_iff pmid seen [] = sym (or_false (list_any (nat_eq pmid) seen))
seen_iff pmid seen (Description d names ∷ records) =
    seen_iff pmid (seen_with seen d.pmid) records ∙ ap (λ b. b || is_some (position_of pmid records)) (with_one pmid d.pmid seen)
    ∙ or_some (list_any (nat_eq pmid) seen) (nat_eq pmid d.pmid) (position_of pmid records)
seen_iff pmid seen (Domain t indom pairs ∷ records) = seen_iff pmid seen records ∙ or_other (list_any (nat_eq pmid) seen) (position_of pmid records)
seen_iff pmid seen (Other ∷ records) = seen_iff pmid seen records ∙ or_other (list_any (nat_eq pmid) seen) (position_of pmid records)

described_push : (records : List MetaRecord) (d : Desc) (names : List (List ℕ)) (o : Option ℕ) → position_of d.pmid records ≡ o
    → described_metrics (records ++ Description d names ∷ []) ≡ cond (is_some o) (described_metrics records) (described_metrics records ++ d.pmid ∷ [])
described_push records d names o e =
    fold_push seen_after [] records (Description d names)
    ∙ ap (λ b. cond b (described_metrics records) (described_metrics records ++ d.pmid ∷ [])) (seen_iff d.pmid [] records ∙ ap is_some e)

-- ---- a description more

same_position : (q : ℕ) (records : List MetaRecord) (r : MetaRecord) → (describes q r ≡ true → (k : ℕ) × (position_of q records ≡ Some k)) → position_of q records ≡ position_of q (records ++ r ∷ [])
same_position q records r h = by (position_of q records) (describes q r) refl refl ∙ sym (position_push q records r)
  where
    by : (o : Option ℕ) (b : Bool) → position_of q records ≡ o → describes q r ≡ b → o ≡ option_or o (cond b (Some (length records)) None)
    by (Some k) b e f = refl
    by None false e f = refl
    by None true e f = let there = h f in absurd (let both : None ≡ Some there.0 = sym e ∙ there.1 in cc)

module _ {S : Type 0} (old new : IndexMap ℕ ℕ S) (records : List MetaRecord) (d : Desc) (names : List (List ℕ)) (at : ℕ) (here : length records ≡ at) where
  position_more : (q : ℕ) (b : Bool) → nat_eq d.pmid q ≡ b → position_of d.pmid records ≡ None → cond b (Some at) (position_of q records) ≡ position_of q (records ++ Description d names ∷ [])
  position_more q true e none =
      let same : d.pmid ≡ q = eqb-true d.pmid q e in
      sym (position_push q records (Description d names) ∙ ap (λ o. option_or o (cond (nat_eq q d.pmid) (Some (length records)) None)) (subst (λ n. position_of n records ≡ None) same none)
      ∙ ap (λ b. cond b (Some (length records)) None) (eq-eqb q d.pmid (sym same)) ∙ ap Some here)
  position_more q false e none = same_position q records (Description d names) (λ h. absurd (eqb-false d.pmid q e (sym (eqb-true q d.pmid h))))

  noted_by : (o : Option ℕ) → position_of d.pmid records ≡ o → NotesMetric d.pmid at old new → HasDescriptions old records → HasDescriptions new (records ++ Description d names ∷ [])
  noted_by (Some k) e n h =
      let same : new.entries ≡ old.entries = n.there k (h.positions d.pmid ∙ e) in
      record {
        order = ap keys_of same ∙ h.order ∙ sym (described_push records d names (Some k) e);
        positions = λ q. ap (lookup (nat_eq q)) same ∙ h.positions q
            ∙ same_position q records (Description d names) (λ f. (k, subst (λ m. position_of m records ≡ Some k) (sym (eqb-true q d.pmid f)) e));
      }
  noted_by None e n h =
      let absent : get nat_eq old d.pmid ≡ None = h.positions d.pmid ∙ e in
      record {
        order = n.order absent ∙ ap (λ l. l ++ d.pmid ∷ []) h.order ∙ sym (described_push records d names None e);
        positions = λ q. n.positions absent q ∙ ap (λ o. cond (nat_eq d.pmid q) (Some at) o) (h.positions q) ∙ position_more q (nat_eq d.pmid q) refl e;
      }

  pub noted : NotesMetric d.pmid at old new → HasDescriptions old records → HasDescriptions new (records ++ Description d names ∷ [])
  noted n h = noted_by (position_of d.pmid records) refl n h

-- ---- a description less

same_front : (xs ys : List ℕ) (a b : ℕ) → xs ++ a ∷ [] ≡ ys ++ b ∷ [] → (xs ≡ ys) × (a ≡ b)
same_front xs ys a b e =
    let long : length xs ≡ length ys = omega (arith, ap length e, length-append xs (a ∷ []), length-append ys (b ∷ [])) in
    let ends : a ∷ [] ≡ b ∷ [] = sym (drop_at xs (a ∷ []) (length ys) long) ∙ ap (drop (length ys)) e ∙ drop_at ys (b ∷ []) (length ys) refl in
    (sym (take_at xs (a ∷ []) (length ys) long) ∙ ap (take (length ys)) e ∙ take_at ys (b ∷ []) (length ys) refl, (let same : a ≡ b = cc in same))

module _ {S : Type 0} (old new : IndexMap ℕ ℕ S) (records : List MetaRecord) (d : Desc) (names : List (List ℕ)) (at : ℕ) (here : length records ≡ at) where
  position_less : (q : ℕ) (b : Bool) → nat_eq d.pmid q ≡ b → position_of d.pmid records ≡ None → cond b None (position_of q (records ++ Description d names ∷ [])) ≡ position_of q records
  position_less q true e none = sym (subst (λ n. position_of n records ≡ None) (eqb-true d.pmid q e) none)
  position_less q false e none = sym (same_position q records (Description d names) (λ h. absurd (eqb-false d.pmid q e (sym (eqb-true q d.pmid h)))))

  dropped_by : (o : Option ℕ) → position_of d.pmid records ≡ o → DropsMetric d.pmid at old new → HasDescriptions old (records ++ Description d names ∷ []) → HasDescriptions new records
  dropped_by (Some k) e n h =
      let before : get nat_eq old d.pmid ≡ Some k = h.positions d.pmid ∙ sym (same_position d.pmid records (Description d names) (λ f. (k, e))) ∙ e in
      let less : k < length records = position_within d.pmid records k e in
      let other : get nat_eq old d.pmid ≡ Some at → ⊥ = λ f. let both : k ≡ at = (let s : Some k ≡ Some at = sym before ∙ f in cc) in omega arith in
      let same : new.entries ≡ old.entries = n.other other in
      record {
        order = ap keys_of same ∙ h.order ∙ described_push records d names (Some k) e;
        positions = λ q. ap (lookup (nat_eq q)) same ∙ h.positions q
            ∙ sym (same_position q records (Description d names) (λ f. (k, subst (λ m. position_of m records ≡ Some k) (sym (eqb-true q d.pmid f)) e)));
      }
  dropped_by None e n h =
      let here_too : get nat_eq old d.pmid ≡ Some at = h.positions d.pmid ∙ sym (position_more_itself e) in
      let fronts = same_front (keys new) (described_metrics records) n.last d.pmid (sym (n.order here_too) ∙ h.order ∙ described_push records d names None e) in
      record {
        order = fronts.0;
        positions = λ q. n.positions here_too q ∙ ap (λ m. cond (nat_eq m q) None (get nat_eq old q)) fronts.1 ∙ ap (cond (nat_eq d.pmid q) None) (h.positions q) ∙ position_less q (nat_eq d.pmid q) refl e;
      }
    where
      position_more_itself : position_of d.pmid records ≡ None → Some at ≡ position_of d.pmid (records ++ Description d names ∷ [])
      position_more_itself none = position_more old new records d names at here d.pmid true (eq-eqb d.pmid d.pmid refl) none

  pub dropped : DropsMetric d.pmid at old new → HasDescriptions old (records ++ Description d names ∷ []) → HasDescriptions new records
  dropped n h = dropped_by (position_of d.pmid records) refl n h

-- ---- another record, more or less

pub other_more : {S : Type 0} (old new : IndexMap ℕ ℕ S) (records : List MetaRecord) (r : MetaRecord) → new.entries ≡ old.entries → ((q : ℕ) → describes q r ≡ false) → seen_after (described_metrics records) r ≡ described_metrics records
    → HasDescriptions old records → HasDescriptions new (records ++ r ∷ [])
other_more old new records r same never stays h = record {
  order = ap keys_of same ∙ h.order ∙ sym (fold_push seen_after [] records r ∙ stays);
  positions = λ q. ap (lookup (nat_eq q)) same ∙ h.positions q ∙ same_position q records r (λ f. absurd (let both : true ≡ false = sym f ∙ never q in cc));
}

pub other_less : {S : Type 0} (old new : IndexMap ℕ ℕ S) (records : List MetaRecord) (r : MetaRecord) → new.entries ≡ old.entries → ((q : ℕ) → describes q r ≡ false) → seen_after (described_metrics records) r ≡ described_metrics records
    → HasDescriptions old (records ++ r ∷ []) → HasDescriptions new records
other_less old new records r same never stays h = record {
  order = ap keys_of same ∙ h.order ∙ fold_push seen_after [] records r ∙ stays;
  positions = λ q. ap (lookup (nat_eq q)) same ∙ h.positions q ∙ sym (same_position q records r (λ f. absurd (let both : true ≡ false = sym f ∙ never q in cc)));
}

pub unchanged : {S : Type 0} (old new : IndexMap ℕ ℕ S) (records : List MetaRecord) → new.entries ≡ old.entries → HasDescriptions old records → HasDescriptions new records
unchanged old new records same h = record { order = ap keys_of same ∙ h.order; positions = λ q. ap (lookup (nat_eq q)) same ∙ h.positions q }

-- ---- what the map's own calls do

module _ {S : Type 0} (old new : IndexMap ℕ ℕ S) (pmid at : ℕ) where
  pub notes_new : get nat_eq old pmid ≡ None → new.entries ≡ insert_entry nat_eq old.entries pmid at → ((q : ℕ) → get nat_eq new q ≡ cond (nat_eq pmid q) (Some at) (get nat_eq old q)) → NotesMetric pmid at old new
  notes_new none entries positions = record {
    there = λ k h. absurd (let both : None ≡ Some k = sym none ∙ h in cc);
    order = λ _. ap keys_of (entries ∙ insert_entry-new nat_eq old pmid at none) ∙ map-append (λ (e : ℕ × ℕ). e.0) old.entries ((pmid, at) ∷ []);
    positions = λ _. positions;
  }

  pub notes_none : (k : ℕ) → get nat_eq old pmid ≡ Some k → new.entries ≡ old.entries → NotesMetric pmid at old new
  notes_none k there same = record {
    there = λ _ _. same;
    order = λ h. absurd (let both : Some k ≡ None = sym there ∙ h in cc);
    positions = λ h. absurd (let both : Some k ≡ None = sym there ∙ h in cc);
  }

  pub drops_none : (get nat_eq old pmid ≡ Some at → ⊥) → new.entries ≡ old.entries → DropsMetric pmid at old new
  drops_none other same = record { other = λ _. same; last = 0; order = λ h. absurd (other h); positions = λ h. absurd (other h) }

  some_entry : (es : List (ℕ × ℕ)) → lookup (nat_eq pmid) es ≡ Some at → 0 < length es
  some_entry [] h = absurd cc
  some_entry (e ∷ es) h = omega arith

  pub drops_last : (r : Option (ℕ × ℕ)) → get nat_eq old pmid ≡ Some at → old.entries ≡ new.entries ++ option_to_list r → (0 < length old.entries → IsSome r) → IfSome r (λ p. (q : ℕ) → get nat_eq new q ≡ cond (nat_eq p.0 q) None (get nat_eq old q))
      → DropsMetric pmid at old new
  drops_last (Some p) here entries some positions = record {
    other = λ no_. absurd (no_ here);
    last = p.0;
    order = λ _. ap keys_of entries ∙ map-append (λ (e : ℕ × ℕ). e.0) new.entries (p ∷ []);
    positions = λ _. positions;
  }
  drops_last None here entries some positions = absurd (let h : IsSome {T = ℕ × ℕ} None = some (some_entry old.entries here) in cc)

pub popped : {S : Type 0} (old new : IndexMap ℕ ℕ S) (r : Option (ℕ × ℕ)) → IfSome r (λ p. Updates nat_eq old new p.0 None) → IfSome r (λ p. (q : ℕ) → get nat_eq new q ≡ cond (nat_eq p.0 q) None (get nat_eq old q))
popped old new (Some p) u = u.0
popped old new None u = tt

pub apart : (o : Option ℕ) (k at : ℕ) → o ≡ Some k → (k ≡ at → ⊥) → o ≡ Some at → ⊥
apart o k at is other here = other (let both : Some k ≡ Some at = sym is ∙ here in cc)

pub nowhere : (o : Option ℕ) (at : ℕ) → o ≡ None → o ≡ Some at → ⊥
nowhere o at none here = let both : None ≡ Some at = sym none ∙ here in cc
