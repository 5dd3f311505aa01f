-- Kept facts that stand for all that the sets of a stamp ask of them are the facts of these sets.
use Rattle.std.proofs.Common.{◌≡◌, ℕ, ℤ, ◌≤◌, Bool, true, false, ◌||◌, cond, List, [], ◌∷◌, ◌++◌, length, map, take, drop, refl, sym, ap, ap₂, ◌∙◌, append-nil, append_assoc, Option, Some, None}
use Rattle.std.specs.Prelude.{filter, fold, is_none, option_to_list}
use Rattle.std.specs.BTreeSet.{BTreeSet}
use Rattle.std.specs.List.{AllByRecursion}
use Rattle.std.specs.Ordering.{int_eq}
use Rattle.std.proofs.lemmas.Bool.Decides.{Decides-int_eq}
use Rattle.std.proofs.lemmas.List.{append_cancel_left, take-append-drop, take_all}
use Rattle.std.proofs.Math.Seq.{drop-append_seam, take-append_seam}
use Rattle.pcp_base.specs.Time.{Moment}
use Rattle.pcp_base.specs.declared.desc.Desc.{Desc}
use Rattle.pcp_base.specs.declared.result.ValueSet.{ValueSet}
use Rattle.pcp_model.specs.declared.records.MetaRecord.{MetaRecord}
use Rattle.archive_meta.specs.declared.facts.Facts.{Facts}
use Rattle.archive_meta.specs.Facts.{domain_of, has_values}
use Rattle.archive_merge.specs.declared.fault.MergeFault.{MergeFault}
use Rattle.archive_merge.specs.Facts.{both_lists, clash_of, domain_facts, domains_used, facts_about, facts_between, first_clash, first_lacking, lack_in, misfit_between, or_else, with_domain_of, with_used}
use Rattle.archive_merge.specs.Kept.{AreMetricsOf, HasDomains, IsListed, with_fact, with_facts}
use Rattle.archive_merge.specs.Naming.{Pairs, fact_about, name_in}

-- ---- domains

-- the domains that sets use are those of the facts about them
used_by_facts : (records : List MetaRecord) (domains : List ℕ) (sets : List ValueSet) → fold (with_used records) domains sets ≡ with_facts domains (facts_about records sets)
used_by_facts records domains [] = refl
used_by_facts records domains (set ∷ sets) = by (has_values set.body) (fact_about records set.pmid) (λ (ds : List ℕ). used_by_facts records ds sets)
  where
    by : (b : Bool) (o : Option (Desc × List ℕ)) → ((ds : List ℕ) → fold (with_used records) ds sets ≡ with_facts ds (facts_about records sets))
        → fold (with_used records) (cond b (with_domain_of domains o) domains) sets ≡ with_facts domains (cond {A = List (Desc × List ℕ)} b (option_to_list o) [] ++ facts_about records sets)
    by true (Some fact) more = more (with_fact domains fact)
    by true None more = more domains
    by false o more = more domains

keys_listed : (first second : List MetaRecord) (t : Moment) (ours theirs keys : List ℕ) → map domain_of (map (domain_facts first second t ours theirs) keys) ≡ keys
keys_listed first second t ours theirs [] = refl
keys_listed first second t ours theirs (k ∷ keys) = ap (λ (l : List ℕ). k ∷ l) (keys_listed first second t ours theirs keys)

listed_all : (first second : List MetaRecord) (t : Moment) (ours theirs : List ℕ) (domains : List (ℕ × Pairs)) → AllByRecursion (IsListed first second t ours theirs) domains
    → map (domain_facts first second t ours theirs) (map domain_of domains) ≡ domains
listed_all first second t ours theirs [] all = refl
listed_all first second t ours theirs (d ∷ domains) all = ap₂ (λ (x : ℕ × Pairs) (xs : List (ℕ × Pairs)). x ∷ xs) all.0 (listed_all first second t ours theirs domains all.1)

-- ---- instances

pub none_taken : (pairs : Pairs) → filter (λ p. is_none (name_in p.0 [])) pairs ≡ pairs
none_taken [] = refl
none_taken (p ∷ pairs) = ap (λ (l : Pairs). p ∷ l) (none_taken pairs)

named_there : (front : Pairs) (p : ℤ × List ℕ) (pairs : Pairs) → is_none (name_in p.0 (front ++ p ∷ pairs)) ≡ false
named_there [] p pairs = ap (λ (b : Bool). is_none (cond b (Some p.1) (name_in p.0 pairs))) ((Decides-int_eq p.0 p.0).1 refl)
named_there (q ∷ front) p pairs = by (int_eq q.0 p.0) (named_there front p pairs)
  where
    by : (b : Bool) → is_none (name_in p.0 (front ++ p ∷ pairs)) ≡ false → is_none (cond b (Some q.1) (name_in p.0 (front ++ p ∷ pairs))) ≡ false
    by true h = refl
    by false h = h

none_left : (front pairs : Pairs) → filter (λ p. is_none (name_in p.0 (front ++ pairs))) pairs ≡ []
none_left front [] = refl
none_left front (p ∷ pairs) =
    ap (λ (b : Bool). cond {A = Pairs} b (p ∷ filter (λ q. is_none (name_in q.0 (front ++ p ∷ pairs))) pairs) (filter (λ q. is_none (name_in q.0 (front ++ p ∷ pairs))) pairs)) (named_there front p pairs)
    ∙ ap (λ (l : Pairs). filter (λ q. is_none (name_in q.0 l)) pairs) (sym (append_assoc front (p ∷ []) pairs))
    ∙ none_left (front ++ p ∷ []) pairs

-- what both list of a domain: where the second lists nothing, where the first doesn't, and where both list the same
pub first_alone : (pairs : Pairs) → both_lists pairs [] ≡ pairs
first_alone pairs = append-nil pairs

pub second_alone : (pairs : Pairs) → both_lists [] pairs ≡ pairs
second_alone pairs = none_taken pairs

pub both_same : (pairs : Pairs) → both_lists pairs pairs ≡ pairs
both_same pairs = ap (λ (l : Pairs). pairs ++ l) (none_left [] pairs) ∙ append-nil pairs

-- ---- metrics

pub metrics_of : (metrics : List (Desc × List ℕ)) (middle count end : ℕ) (first second : List MetaRecord) (t : Moment) (ours theirs : List ValueSet)
    → take middle metrics ≡ facts_about first ours → middle ≡ count → first_lacking first t ours ≡ None
    → take end metrics ≡ take count metrics ++ facts_about second theirs → length metrics ≤ end → first_lacking second t theirs ≡ None
    → AreMetricsOf metrics count first second t ours theirs
metrics_of metrics middle count end first second t ours theirs firsts same first_whole seconds all second_whole = record {
  firsts = ap (λ (n : ℕ). take n metrics) (sym same) ∙ firsts;
  seconds = append_cancel_left (take count metrics) (drop count metrics) (facts_about second theirs) (take-append-drop count metrics ∙ sym (take_all end metrics all) ∙ seconds);
  first_whole = first_whole;
  second_whole = second_whole;
}

-- ---- facts

module _ (facts : Facts) (count : ℕ) (used others : BTreeSet ℕ) (first second : List MetaRecord) (t : Moment) (ours theirs : List ValueSet) where
  -- facts that were made of sets have the domains that these use
  pub made_so : used.keys ≡ domains_used first ours → others.keys ≡ domains_used second theirs → facts ≡ facts_between first second t ours theirs → count ≡ length (facts_about first ours)
      → HasDomains facts count used others
  made_so one two is many = record {
    firsts = one ∙ used_by_facts first [] ours ∙ ap (with_facts []) (sym front);
    seconds = two ∙ used_by_facts second [] theirs ∙ ap (with_facts []) (sym back);
    both =
        ap (λ (f : Facts). map domain_of f.domains) is
        ∙ keys_listed first second t (domains_used first ours) (domains_used second theirs) (fold (with_used second) (domains_used first ours) theirs)
        ∙ used_by_facts second (domains_used first ours) theirs
        ∙ ap₂ (λ (ds : List ℕ) (ms : List (Desc × List ℕ)). with_facts ds ms) (sym one) (sym back);
  }
    where
      front : take count facts.metrics ≡ facts_about first ours
      front = ap₂ (λ (n : ℕ) (f : Facts). take n f.metrics) many is ∙ take-append_seam (facts_about first ours) (facts_about second theirs)

      back : drop count facts.metrics ≡ facts_about second theirs
      back = ap₂ (λ (n : ℕ) (f : Facts). drop n f.metrics) many is ∙ drop-append_seam (facts_about first ours) (facts_about second theirs)

  module _ (has : HasDomains facts count used others) (metrics : AreMetricsOf facts.metrics count first second t ours theirs) where
    used_so : used.keys ≡ domains_used first ours
    used_so = has.firsts ∙ ap (with_facts []) metrics.firsts ∙ sym (used_by_facts first [] ours)

    others_so : others.keys ≡ domains_used second theirs
    others_so = has.seconds ∙ ap (with_facts []) metrics.seconds ∙ sym (used_by_facts second [] theirs)

    pub nothing_misfits : first_clash first second t used.keys theirs ≡ None → misfit_between first second t ours theirs ≡ None
    nothing_misfits none =
        ap (λ (o : Option ℕ). or_else (lack_in 1 o) (or_else (lack_in 2 (first_lacking second t theirs)) (clash_of (first_clash first second t (domains_used first ours) theirs)))) metrics.first_whole
        ∙ ap (λ (o : Option ℕ). or_else (lack_in 2 o) (clash_of (first_clash first second t (domains_used first ours) theirs))) metrics.second_whole
        ∙ ap (λ (ds : List ℕ). clash_of (first_clash first second t ds theirs)) (sym used_so)
        ∙ ap clash_of none

    pub facts_stand : AllByRecursion (IsListed first second t used.keys others.keys) facts.domains → facts ≡ facts_between first second t ours theirs
    facts_stand all =
        let keys : map domain_of facts.domains ≡ fold (with_used second) (domains_used first ours) theirs =
        has.both ∙ ap₂ (λ (ds : List ℕ) (ms : List (Desc × List ℕ)). with_facts ds ms) used_so metrics.seconds ∙ sym (used_by_facts second (domains_used first ours) theirs) in
        let domains : facts.domains ≡ map (domain_facts first second t (domains_used first ours) (domains_used second theirs)) (fold (with_used second) (domains_used first ours) theirs) =
        sym (listed_all first second t used.keys others.keys facts.domains all)
        ∙ ap₂ (λ (us os : List ℕ). map (domain_facts first second t us os) (map domain_of facts.domains)) used_so others_so
        ∙ ap (map (domain_facts first second t (domains_used first ours) (domains_used second theirs))) keys in
        let all_metrics : facts.metrics ≡ facts_about first ours ++ facts_about second theirs =
        sym (take-append-drop count facts.metrics) ∙ ap₂ (λ (xs ys : List (Desc × List ℕ)). xs ++ ys) metrics.firsts metrics.seconds in
        ap₂ (λ (ms : List (Desc × List ℕ)) (ds : List (ℕ × Pairs)). record { metrics = ms; domains = ds }) all_metrics domains
