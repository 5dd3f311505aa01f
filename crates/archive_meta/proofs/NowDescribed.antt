-- With the records that are missing, a result is described.
use Rattle.std.proofs.Common.{◌≡◌, ℕ, ℤ, ◌<◌, ◌≤◌, inl, inr, Bool, true, false, ◌&&◌, cond, nat_eq, List, [], ◌∷◌, ◌++◌, map, Option, Some, None, is_none, refl, sym, ap, ◌∙◌, subst, arith, append_assoc, Contains, ⊎_elim}
use Rattle.std.specs.Prelude.{IsTrue}
use Rattle.std.specs.List.{AllByRecursion}
use Rattle.std.proofs.lemmas.Bool.{eqb-true, eqb-false}
use Rattle.std.proofs.lemmas.List.{append-nil}
use Rattle.std.proofs.lemmas.List.Elements.{Contains-append_left, Contains-append_right}
use Rattle.pcp_base.specs.Time.{Moment, microseconds}
use Rattle.pcp_base.specs.declared.desc.Desc.{Desc}
use Rattle.pcp_base.specs.declared.result.Body.{Body}
use Rattle.pcp_base.specs.declared.result.Body.TheVariants.{InPlace, Blocks, Status}
use Rattle.pcp_base.specs.declared.result.ValueSet.{ValueSet}
use Rattle.pcp_base.specs.declared.result.PmResult.{PmResult}
use Rattle.pcp_base.specs.declared.result.Item.TheVariants.{Sample}
use Rattle.pcp_model.specs.declared.records.MetaRecord.{MetaRecord}
use Rattle.pcp_model.specs.declared.records.MetaRecord.TheVariants.{Description, Domain, Other}
use Rattle.pcp_model.specs.Described.{EachStamp, HoldsAt, IsNamed, AreNamed, IsDescribedBy, IsDescribedSet, Described}
use Rattle.archive_meta.specs.declared.facts.Facts.{Facts}
use Rattle.archive_meta.specs.Said.{describes, description_of}
use Rattle.archive_meta.specs.Facts.{has_values, metric_of, domain_of, fact_of, listed_of, IsKeptAs, FitsFact, FitsMetric, FitSets}
use Rattle.archive_meta.specs.Enough.{AreListed, IsTold, AreEnough}
use Rattle.archive_meta.proofs.Taken.{Among, among_left, among_right, all_taken, of_taken, all_map, first_is}
use Rattle.archive_meta.specs.Missing.{values_of_keys, is_undescribed, undescribed_metrics, described_by, missing_descriptions, domain_in, shown_domain, shown_domains, domains_of, Lacks, listed_from, AreMissingDomains, AreMissing}

-- ---- what holds of a domain, with a record more

-- a record isn't of this domain
abbrev IsOther : ℕ → MetaRecord → Type 0
IsOther i (Description d names) = Unit {0}
IsOther i (Domain t j pairs) = j ≡ i → ⊥
IsOther i Other = Unit {0}

each_any : (i : ℕ) (t : Moment) (xs : List MetaRecord) → EachStamp i (λ s. microseconds s ≤ microseconds t → microseconds s ≤ microseconds t) xs
each_any i t [] = tt
each_any i t (Description d names ∷ xs) = each_any i t xs
each_any i t (Domain u j pairs ∷ xs) = ((λ _ h. h), each_any i t xs)
each_any i t (Other ∷ xs) = each_any i t xs

-- a record stamped at the moment itself holds
holds_here : (xs : List MetaRecord) (i : ℕ) (t : Moment) (pairs : List (ℤ × List ℕ)) → HoldsAt (xs ++ Domain t i pairs ∷ []) i t pairs
holds_here xs i t pairs = record {
  stamp = t;
  not_after = let h : microseconds t ≤ microseconds t = omega arith in h;
  before = xs;
  behind = [];
  is = refl;
  greatest = each_any i t xs;
  last = tt;
}

each_push : (i : ℕ) (P : Moment → Type 0) (xs : List MetaRecord) (r : MetaRecord) → IsOther i r → EachStamp i P xs → EachStamp i P (xs ++ r ∷ [])
each_push i P [] (Description d names) o h = tt
each_push i P [] (Domain t j pairs) o h = ((λ e. absurd (o e)), tt)
each_push i P [] Other o h = tt
each_push i P (Description d names ∷ xs) r o h = each_push i P xs r o h
each_push i P (Domain t j pairs ∷ xs) r o h = (h.0, each_push i P xs r o h.1)
each_push i P (Other ∷ xs) r o h = each_push i P xs r o h

holds_behind : (xs : List MetaRecord) (i : ℕ) (t : Moment) (pairs : List (ℤ × List ℕ)) (r : MetaRecord) → IsOther i r → HoldsAt xs i t pairs → HoldsAt (xs ++ r ∷ []) i t pairs
holds_behind xs i t pairs r o h = record {
  stamp = h.stamp;
  not_after = h.not_after;
  before = h.before;
  behind = h.behind ++ r ∷ [];
  is = ap (λ l. l ++ r ∷ []) h.is ∙ append_assoc h.before (Domain h.stamp i pairs ∷ h.behind) (r ∷ []);
  greatest = h.greatest;
  last = each_push i (λ s. microseconds s ≤ microseconds t → microseconds s < microseconds h.stamp) h.behind r o h.last;
}

holds_past : (xs : List MetaRecord) (fs : List (Desc × List ℕ)) (i : ℕ) (t : Moment) (pairs : List (ℤ × List ℕ)) → HoldsAt xs i t pairs → HoldsAt (xs ++ map described_by fs) i t pairs
holds_past xs [] i t pairs h = subst (λ l. HoldsAt l i t pairs) (sym (append-nil xs)) h
holds_past xs (f ∷ fs) i t pairs h =
    subst (λ l. HoldsAt l i t pairs) (append_assoc xs (described_by f ∷ []) (map described_by fs))
    (holds_past (xs ++ described_by f ∷ []) fs i t pairs (holds_behind xs i t pairs (described_by f) tt h))

module _ (domains : List (ℕ × List (ℤ × List ℕ))) (t : Moment) where
  -- what is listed of a domain goes on to hold
  abbrev Keeps : List MetaRecord → List MetaRecord → Type 0
  Keeps xs ys = (i : ℕ) (pairs : List (ℤ × List ℕ)) → listed_of domains i ≡ Some (i, pairs) → HoldsAt xs i t pairs → HoldsAt ys i t pairs

  abbrev IsFirst : ℕ × List (ℤ × List ℕ) → Type 0
  IsFirst d = listed_of domains d.0 ≡ Some (d.0, d.1)

  keeps_push : (xs : List MetaRecord) (d : ℕ × List (ℤ × List ℕ)) → IsFirst d → Keeps xs (xs ++ listed_from t d ∷ [])
  keeps_push xs d first i pairs listed h = by (nat_eq d.0 i) refl
    where
      by : (b : Bool) → nat_eq d.0 i ≡ b → HoldsAt (xs ++ Domain t d.0 d.1 ∷ []) i t pairs
      by true e =
          let same : d.0 ≡ i = eqb-true d.0 i e in
          let both : Some (d.0, d.1) ≡ Some (i, pairs) = sym first ∙ ap (listed_of domains) same ∙ listed in
          let p : d.1 ≡ pairs = cc in
          subst (λ q. HoldsAt (xs ++ Domain t d.0 d.1 ∷ []) i t q) p (subst (λ j. HoldsAt (xs ++ Domain t d.0 d.1 ∷ []) j t d.1) same (holds_here xs d.0 t d.1))
      by false e = holds_behind xs i t pairs (Domain t d.0 d.1) (eqb-false d.0 i e) h

  record AllHold (xs ys : List MetaRecord) (ds : List (ℕ × List (ℤ × List ℕ))) : Type 0 where
    keeps : Keeps xs ys
    hold : AllByRecursion (λ d. HoldsAt ys d.0 t d.1) ds

  all_hold : (records : List MetaRecord) (ds : List (ℕ × List (ℤ × List ℕ))) (xs missing : List MetaRecord) → Keeps records xs → AllByRecursion IsFirst ds → AreMissingDomains records t ds missing → AllHold xs (xs ++ missing) ds
  all_hold records [] xs missing k firsts none =
      record {
        keeps = λ i pairs listed h. subst (λ l. HoldsAt (xs ++ l) i t pairs) (sym none) (subst (λ l. HoldsAt l i t pairs) (sym (append-nil xs)) h);
        hold = tt;
      }
  all_hold records (d ∷ ds) xs missing k firsts m =
      ⊎_elim
      (λ (stands : HoldsAt records d.0 t d.1 × AreMissingDomains records t ds missing).
      let more : AllHold xs (xs ++ missing) ds = all_hold records ds xs missing k firsts.1 stands.1 in
      record { keeps = more.keeps; hold = (more.keeps d.0 d.1 firsts.0 (k d.0 d.1 firsts.0 stands.0), more.hold) })
      (λ (lacks : Lacks records t d × ((rest : List MetaRecord) × (missing ≡ listed_from t d ∷ rest) × AreMissingDomains records t ds rest)).
      let rest : List MetaRecord = lacks.1.0 in
      let now : List MetaRecord = xs ++ listed_from t d ∷ [] in
      let push : Keeps xs now = keeps_push xs d firsts.0 in
      let more : AllHold now (now ++ rest) ds = all_hold records ds now rest (λ i pairs l h. push i pairs l (k i pairs l h)) firsts.1 lacks.1.2 in
      let same : now ++ rest ≡ xs ++ missing = append_assoc xs (listed_from t d ∷ []) rest ∙ ap (λ l. xs ++ l) (sym lacks.1.1) in
      subst (λ l. AllHold xs l (d ∷ ds)) same
      (record {
        keeps = λ i pairs l h. more.keeps i pairs l (push i pairs l h);
        hold = (more.keeps d.0 d.1 firsts.0 (holds_here xs d.0 t d.1), more.hold);
      }))
      m

-- ---- facts

all_told : (fs : List (Desc × List ℕ)) → AllByRecursion (λ f. Contains (map described_by fs) (described_by f)) fs
all_told [] = tt
all_told (f ∷ fs) = (
  (0, omega arith, refl),
  all_map (λ g. Contains (map described_by fs) (described_by g)) (λ g. Contains (described_by f ∷ map described_by fs) (described_by g)) fs
      (λ g c. Contains-append_right (described_by f ∷ []) (map described_by fs) (described_by g) c) (all_told fs),
)

found_among : (pmid : ℕ) (records : List MetaRecord) (r : MetaRecord) → description_of pmid records ≡ Some r → Contains records r
found_among pmid [] r e = absurd cc
found_among pmid (x ∷ records) r e = by (describes pmid x) e (found_among pmid records r)
  where
    by : (b : Bool) → cond b (Some x) (description_of pmid records) ≡ Some r → (description_of pmid records ≡ Some r → Contains records r) → Contains (x ∷ records) r
    by true f more = let same : x ≡ r = cc in subst (λ y. Contains (x ∷ records) y) same (0, omega arith, refl)
    by false f more = Contains-append_right (x ∷ []) records r (more f)

all_firsts : (domains : List (ℕ × List (ℤ × List ℕ))) (k : ℕ) (d : ℕ × List (ℤ × List ℕ)) → listed_of domains k ≡ Some d → listed_of domains d.0 ≡ Some (d.0, d.1)
all_firsts domains k d e =
    let here = (first_is domain_of domains k d (λ _. Unit {0}) e (trivial domains)).0 in
    let there : d.0 ≡ k = here in
    ap (listed_of domains) there ∙ e
  where
    trivial : (ds : List (ℕ × List (ℤ × List ℕ))) → AllByRecursion (λ x. domain_of x ≡ k → Unit {0}) ds
    trivial [] = tt
    trivial (x ∷ ds) = ((λ _. tt), trivial ds)

-- ---- one set

record IsNow (all : List MetaRecord) (set : ValueSet) (t : Moment) (fact : Desc × List ℕ) : Type 0 where
  same : fact.0.pmid ≡ set.pmid
  names : List (List ℕ)
  recorded : Contains all (Description fact.0 names)

module _ (records missing domains : List MetaRecord) (facts : Facts) (sets : List ValueSet) (t : Moment) (is : missing ≡ missing_descriptions records facts.metrics sets ++ domains) where
  abbrev wanted : List (Desc × List ℕ)
  wanted = values_of_keys (fact_of facts.metrics) (undescribed_metrics records sets)

  told_now : (f : Desc × List ℕ) → Contains (map described_by wanted) (described_by f) → Contains (records ++ missing) (described_by f)
  told_now f c =
      Contains-append_right records missing (described_by f)
      (subst (λ l. Contains l (described_by f)) (sym is) (Contains-append_left (map described_by wanted) domains (described_by f) c))

  recorded_as : (set : ValueSet) (fact : Desc × List ℕ) (r : MetaRecord) → fact.0.pmid ≡ set.pmid → IsKeptAs fact.0 fact.1 (Some r) → Contains records r → IsNow (records ++ missing) set t fact
  recorded_as set fact (Description d names) same kept c = record {
    same = same;
    names = names;
    recorded = Contains-append_left records missing (Description fact.0 names) (subst (λ x. Contains records (Description x names)) kept.0 c);
  }
  recorded_as set fact (Domain u i pairs) same kept c = absurd kept
  recorded_as set fact Other same kept c = absurd kept

  is_now : (set : ValueSet) (fact : Desc × List ℕ) → fact_of facts.metrics set.pmid ≡ Some fact → FitsMetric records facts.metrics set.pmid → (is_none (description_of set.pmid records) ≡ true → Among set.pmid (undescribed_metrics records sets))
      → IsNow (records ++ missing) set t fact
  is_now set fact found fit among = by (description_of set.pmid records) refl
    where
      both : (fact.0.pmid ≡ set.pmid) × FitsFact records fact
      both = first_is metric_of facts.metrics set.pmid fact (FitsFact records) found fit

      by : (o : Option MetaRecord) → description_of set.pmid records ≡ o → IsNow (records ++ missing) set t fact
      by (Some r) e =
          recorded_as set fact r both.0 (subst (IsKeptAs fact.0 fact.1) (ap (λ k. description_of k records) both.0 ∙ e) both.1) (found_among set.pmid records r e)
      by None e = record {
        same = both.0;
        names = fact.1 ∷ [];
        recorded = told_now fact (of_taken (λ f. Contains (map described_by wanted) (described_by f)) (fact_of facts.metrics) (undescribed_metrics records sets) set.pmid fact (among (ap is_none e)) found (all_told wanted));
      }

  named_by : (indom : ℕ) (pairs : List (ℤ × List ℕ)) (body : Body) → HoldsAt (records ++ missing) indom t pairs → AreListed pairs body → AreNamed (records ++ missing) indom t body
  named_by indom pairs (InPlace shown) h listed = go shown listed
    where
      go : (ps : List (ℤ × ℕ)) → AllByRecursion (λ p. (name : List ℕ) × Contains pairs (p.0, name)) ps → AllByRecursion (λ p. IsNamed (records ++ missing) indom t p.0) ps
      go [] a = tt
      go (p ∷ ps) a = ((pairs, h, a.0.0, a.0.1), go ps a.1)
  named_by indom pairs (Blocks shown) h listed = go shown listed
    where
      go : {B : Type 0} (ps : List (ℤ × B)) → AllByRecursion (λ p. (name : List ℕ) × Contains pairs (p.0, name)) ps → AllByRecursion (λ p. IsNamed (records ++ missing) indom t p.0) ps
      go [] a = tt
      go (p ∷ ps) a = ((pairs, h, a.0.0, a.0.1), go ps a.1)
  named_by indom pairs (Status n) h listed = tt

  module _ (lacking : AreMissingDomains records t (domains_of facts sets) domains) where
    abbrev before : List MetaRecord
    before = records ++ missing_descriptions records facts.metrics sets

    abbrev keys : List ℕ
    keys = shown_domains facts.metrics sets ++ map domain_of facts.domains

    held : AllHold facts.domains t before (before ++ domains) (domains_of facts sets)
    held =
        all_hold facts.domains t records (domains_of facts sets) before domains (λ i pairs listed h. holds_past records wanted i t pairs h)
        (all_taken (IsFirst facts.domains t) (listed_of facts.domains) keys (all_firsts facts.domains)) lacking

    holds_now : (indom : ℕ) (pairs : List (ℤ × List ℕ)) → Among indom (shown_domains facts.metrics sets) → listed_of facts.domains indom ≡ Some (indom, pairs) → HoldsAt (records ++ missing) indom t pairs
    holds_now indom pairs among listed =
        subst (λ l. HoldsAt l indom t pairs) (append_assoc records (missing_descriptions records facts.metrics sets) domains ∙ ap (λ l. records ++ l) (sym is))
        (of_taken (λ d. HoldsAt (before ++ domains) d.0 t d.1) (listed_of facts.domains) keys indom (indom, pairs)
        (among_left indom (shown_domains facts.metrics sets) (map domain_of facts.domains) among) listed held.hold)

    set_now : (set : ValueSet) → IsTold facts set → FitsMetric records facts.metrics set.pmid → (is_none (description_of set.pmid records) ≡ true → Among set.pmid (undescribed_metrics records sets))
        → ((k : ℕ) → Among k (domain_in (fact_of facts.metrics set.pmid)) → Among k (shown_domains facts.metrics sets)) → IsDescribedBy (records ++ missing) t set
    set_now set told fit among shown =
        let now : IsNow (records ++ missing) set t told.fact = is_now set told.fact told.found fit among in
        let here : Among told.fact.0.indom (domain_in (fact_of facts.metrics set.pmid)) = subst (λ o. Among told.fact.0.indom (domain_in o)) (sym told.found) (inl refl) in
        record {
          desc = told.fact.0;
          names = now.names;
          recorded = now.recorded;
          same = now.same;
          named =
              ⊎_elim (λ null. inl null)
              (λ more. inr (named_by told.fact.0.indom more.0 set.body (holds_now told.fact.0.indom more.0 (shown told.fact.0.indom here) more.1) more.2)) told.named;
        }

    one_set : (set : ValueSet) (body : Body) → (IsTrue (has_values body) → IsDescribedBy (records ++ missing) t set) → IsDescribedSet (records ++ missing) t set body
    one_set set (InPlace pairs) h = h refl
    one_set set (Blocks pairs) h = h refl
    one_set set (Status n) h = tt

    among_first : (set : ValueSet) (rest : List ValueSet) → has_values set.body ≡ true → is_none (description_of set.pmid records) ≡ true → Among set.pmid (undescribed_metrics records (set ∷ rest))
    among_first set rest a b =
        subst (λ h. Among set.pmid (cond (h && is_none (description_of set.pmid records)) (set.pmid ∷ undescribed_metrics records rest) (undescribed_metrics records rest))) (sym a)
        (subst (λ h. Among set.pmid (cond h (set.pmid ∷ undescribed_metrics records rest) (undescribed_metrics records rest))) (sym b) (inl refl))

    among_more : (set : ValueSet) (rest : List ValueSet) (k : ℕ) → Among k (undescribed_metrics records rest) → Among k (undescribed_metrics records (set ∷ rest))
    among_more set rest k m = by (is_undescribed records set)
      where
        by : (b : Bool) → Among k (cond b (set.pmid ∷ undescribed_metrics records rest) (undescribed_metrics records rest))
        by true = inr m
        by false = m

    all_sets : (rest : List ValueSet) → ((k : ℕ) → Among k (undescribed_metrics records rest) → Among k (undescribed_metrics records sets))
        → ((k : ℕ) → Among k (shown_domains facts.metrics rest) → Among k (shown_domains facts.metrics sets)) → FitSets records facts.metrics rest → AreEnough facts rest
        → AllByRecursion (λ set. IsDescribedSet (records ++ missing) t set set.body) rest
    all_sets [] u s fit enough = tt
    all_sets (set ∷ rest) u s fit enough = (
      one_set set set.body (λ values.
          set_now set (enough.0 values) (fit.0 values) (λ none. u set.pmid (among_first set rest values none))
          (λ k among. s k (among_left k (shown_domain facts.metrics set) (shown_domains facts.metrics rest)
          (subst (λ h. Among k (cond h (domain_in (fact_of facts.metrics set.pmid)) [])) (sym values) among)))),
      all_sets rest (λ k m. u k (among_more set rest k m)) (λ k m. s k (among_right k (shown_domain facts.metrics set) (shown_domains facts.metrics rest) m)) fit.1 enough.1,
    )

pub missing_describe : (records missing : List MetaRecord) (facts : Facts) (answer : PmResult) → FitSets records facts.metrics answer.sets → AreEnough facts answer.sets → AreMissing records facts answer missing
    → Described (records ++ missing) (Sample answer)
missing_describe records missing facts answer fit enough m =
    all_sets records missing m.domains facts answer.sets answer.stamp m.is m.lacking answer.sets (λ k among. among) (λ k among. among) fit enough
