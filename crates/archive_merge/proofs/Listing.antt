-- What the facts are of: each metric's source, and of domains the sources whose sets use them.
use Rattle.std.proofs.Common.{◌≡◌, ◌⊎◌, inl, inr, ℕ, Bool, true, false, ◌||◌, cond, nat_eq, List, [], ◌∷◌, map, refl, sym, ap, ap₂, ◌∙◌, append-nil, Option, Some, None}
use Rattle.std.specs.Prelude.{filter, fold, is_none}
use Rattle.pcp_base.specs.Time.{Moment}
use Rattle.pcp_base.specs.declared.desc.Desc.{Desc}
use Rattle.pcp_base.specs.declared.result.ValueSet.{ValueSet}
use Rattle.pcp_model.specs.declared.records.MetaRecord.{MetaRecord}
use Rattle.archive_meta.specs.Facts.{fact_of, listed_of}
use Rattle.archive_meta.specs.Said.{desc_of, names_of}
use Rattle.archive_merge.specs.Facts.{both_lists, domains_used, facts_about, has_domain, listed_where, with_used}
use Rattle.archive_merge.specs.Laws.{AreOfSources, IsListedSo, SaysSo, Uses}
use Rattle.archive_merge.specs.Naming.{Pairs, fact_from, name_in, pairs_at}
use Rattle.archive_merge.proofs.Enough.{flipped, found_here, found_past, kept_all, listed_found}
use Rattle.archive_merge.proofs.Held.{held_is_found, nothing_held}
use Rattle.archive_merge.proofs.Again.{none_taken}
use Rattle.archive_merge.proofs.Reasons.{stand_so, unused_so, used_from, used_only, used_there}

pub say_so : (records : List MetaRecord) (pmid indom : ℕ) (t : Moment) → SaysSo records pmid indom t
say_so records pmid indom t = record {
  named = λ d name names is. ap (λ (r : Option MetaRecord). fact_from (desc_of r) (names_of r)) is;
  nameless = λ d is. ap (λ (r : Option MetaRecord). fact_from (desc_of r) (names_of r)) is;
  unknown = λ is. ap (λ (r : Option MetaRecord). fact_from (desc_of r) (names_of r)) is;
  held = λ pairs holds. held_is_found indom t records pairs holds;
  unheld = λ none. nothing_held indom t records none;
}

listed_none : (make : ℕ → Pairs) (k : ℕ) (all : List ℕ) → has_domain k all ≡ false → listed_of (map (λ (d : ℕ). (d, make d)) all) k ≡ None
listed_none make k [] h = refl
listed_none make k (d ∷ all) h = by (nat_eq k d) refl h (listed_none make k all)
  where
    by : (c : Bool) → nat_eq k d ≡ c → (c || has_domain k all) ≡ false → (has_domain k all ≡ false → listed_of (map (λ (e : ℕ). (e, make e)) all) k ≡ None) → listed_of (map (λ (e : ℕ). (e, make e)) (d ∷ all)) k ≡ None
    by true e g more = absurd (cc)
    by false e g more = ap (λ (b : Bool). cond b (Some (d, make d)) (listed_of (map (λ (e : ℕ). (e, make e)) all) k)) (flipped k d e) ∙ more g

module _ (first second : List MetaRecord) (t : Moment) (ours theirs : List ValueSet) where
  pub of_sources : (set : ValueSet) (fact : Desc × List ℕ) → AreOfSources first second t ours theirs set fact
  of_sources set fact = record {
    firsts = λ stands shows found. found_here first ours (facts_about second theirs) set fact (stand_so ours set stands) shows found;
    seconds = λ stands new shows found.
        found_past first ours (facts_about second theirs) set.pmid new ∙ sym (ap (λ (l : List (Desc × List ℕ)). fact_of l set.pmid) (append-nil (facts_about second theirs)))
        ∙ found_here second theirs [] set fact (stand_so theirs set stands) shows found;
  }

  module _ (d : ℕ) where
    abbrev All : List ℕ
    All = fold (with_used second) (domains_used first ours) theirs

    abbrev Lists : Bool → Bool → Pairs
    Lists a b = both_lists (listed_where a first d t) (listed_where b second d t)

    abbrev Made : ℕ → Pairs
    Made e = both_lists (listed_where (has_domain e (domains_used first ours)) first e t) (listed_where (has_domain e (domains_used second theirs)) second e t)

    lists_so : (a b : Bool) → has_domain d All ≡ true → has_domain d (domains_used first ours) ≡ a → has_domain d (domains_used second theirs) ≡ b → listed_of (map (λ (e : ℕ). (e, Made e)) All) d ≡ Some (d, Lists a b)
    lists_so a b there one two = listed_found Made d All there ∙ ap₂ (λ (x y : Bool). Some (d, Lists x y)) one two

    of_first : Uses first ours d → has_domain d All ≡ true
    of_first u = kept_all second d theirs (domains_used first ours) (used_there d first ours [] u)

    of_second : Uses second theirs d → has_domain d All ≡ true
    of_second u = used_there d second theirs (domains_used first ours) u

    of_none : (Uses first ours d → ⊥) → (Uses second theirs d → ⊥) → has_domain d All ≡ false
    of_none neither nor = by (has_domain d All) refl
      where
        from : (has_domain d (domains_used first ours) ≡ true) ⊎ Uses second theirs d → ⊥
        from (inl g) = neither (used_only d first ours g)
        from (inr u) = nor u

        by : (c : Bool) → has_domain d All ≡ c → c ≡ false
        by true e = absurd (from (used_from d second theirs (domains_used first ours) e))
        by false e = refl

    pub listed_so : IsListedSo first second t ours theirs d
    listed_so = record {
      firsts = λ u nor. lists_so true false (of_first u) (used_there d first ours [] u) (unused_so d second theirs nor) ∙ ap (λ (l : Pairs). Some (d, l)) (append-nil (pairs_at first d t));
      seconds = λ neither u. lists_so false true (of_second u) (unused_so d first ours neither) (used_there d second theirs [] u) ∙ ap (λ (l : Pairs). Some (d, l)) (none_taken (pairs_at second d t));
      of_both = λ u v. lists_so true true (of_first u) (used_there d first ours [] u) (used_there d second theirs [] v);
      unused = λ neither nor. listed_none Made d All (of_none neither nor);
    }
