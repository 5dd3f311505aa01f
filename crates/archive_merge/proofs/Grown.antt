-- The sets that stand of both sources: those of the first, and behind them sets of metrics that the first has none of.
use Rattle.std.proofs.Common.{◌≡◌, inl, inr, Bool, true, false, ◌||◌, cond, nat_eq, List, [], ◌∷◌, ◌++◌, length, drop, refl, sym, ap, ◌∙◌, subst, append-nil, append_assoc}
use Rattle.std.specs.List.{AllByRecursion}
use Rattle.std.proofs.lemmas.List.Folds.{list_any-append}
use Rattle.std.proofs.Math.Seq.{drop-append_seam}
use Rattle.pcp_base.specs.declared.result.ValueSet.{ValueSet}
use Rattle.pcp_model.proofs.Lists.{each-map}
use Rattle.archive_merge.specs.Laws.{AreOfBoth, IsOneOf}
use Rattle.archive_merge.specs.Merging.{IsNew, has_metric, sets_of_both, sets_of_first, sets_of_second, with_sets}
use Rattle.archive_merge.proofs.Firsts.{all_are, firsts_are}

pub record Grows (front more : List ValueSet) : Type 0 where
  pub others : List ValueSet
  pub is : with_sets front more ≡ front ++ others
  pub new : AllByRecursion (IsNew front) others
  pub theirs : AllByRecursion (IsOneOf more) others

or_left : (b c : Bool) → (b || c) ≡ false → b ≡ false
or_left true c e = e
or_left false c e = refl

still_new : (front : List ValueSet) (s : ValueSet) (others : List ValueSet) → AllByRecursion (IsNew (front ++ s ∷ [])) others → AllByRecursion (IsNew front) others
still_new front s [] all = tt
still_new front s (o ∷ others) all =
    (or_left (has_metric o.pmid front) (has_metric o.pmid (s ∷ [])) (sym (list_any-append (λ (x : ValueSet). nat_eq x.pmid o.pmid) front (s ∷ [])) ∙ all.0), still_new front s others all.1)

one_more : (s : ValueSet) (sets more : List ValueSet) → AllByRecursion (IsOneOf sets) more → AllByRecursion (IsOneOf (s ∷ sets)) more
one_more s sets more all = each-map (IsOneOf sets) (IsOneOf (s ∷ sets)) (λ x h. inr h) more all

pub grown : (front more : List ValueSet) → Grows front more
grown front [] = record { others = []; is = sym (append-nil front); new = tt; theirs = tt }
grown front (s ∷ more) = by (has_metric s.pmid front) refl (grown front more) (grown (front ++ s ∷ []) more)
  where
    by : (c : Bool) → has_metric s.pmid front ≡ c → Grows front more → Grows (front ++ s ∷ []) more → Grows front (s ∷ more)
    by true e here there = record {
      others = here.others;
      is = ap (λ (b : Bool). with_sets (cond b front (front ++ s ∷ [])) more) e ∙ here.is;
      new = here.new;
      theirs = one_more s more here.others here.theirs;
    }
    by false e here there = record {
      others = s ∷ there.others;
      is = ap (λ (b : Bool). with_sets (cond b front (front ++ s ∷ [])) more) e ∙ there.is ∙ append_assoc front (s ∷ []) there.others;
      new = (e, still_new front s there.others there.new);
      theirs = (inl refl, one_more s more there.others there.theirs);
    }

module _ (ours theirs : List ValueSet) where
  pub both : Grows (sets_of_first ours) theirs
  both = grown (sets_of_first ours) theirs

  pub second_is : sets_of_second ours theirs ≡ both.others
  second_is = ap (drop (length (sets_of_first ours))) both.is ∙ drop-append_seam (sets_of_first ours) both.others

  pub both_are : sets_of_both ours theirs ≡ sets_of_first ours ++ sets_of_second ours theirs
  both_are = both.is ∙ ap (λ (l : List ValueSet). sets_of_first ours ++ l) (sym second_is)

  pub second_new : AllByRecursion (IsNew (sets_of_first ours)) (sets_of_second ours theirs)
  second_new = subst (AllByRecursion (IsNew (sets_of_first ours))) (sym second_is) both.new

  pub of_both : AreOfBoth ours theirs
  of_both = record {
    parts = both_are;
    firsts = firsts_are ours;
    all = all_are ours theirs;
    first = subst (AllByRecursion (IsOneOf ours)) (sym (grown [] ours).is) (grown [] ours).theirs;
    second = subst (AllByRecursion (IsOneOf theirs)) (sym second_is) both.theirs;
    new = second_new;
  }
