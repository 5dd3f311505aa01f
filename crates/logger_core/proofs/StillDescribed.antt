-- Records that are stamped later leave an item described.
use Rattle.std.proofs.Common.{ℕ, ℤ, ◌<◌, ◌≤◌, ⊎_elim, inl, inr, List, [], ◌∷◌, ◌++◌, ap, ◌∙◌, append_assoc, arith}
use Rattle.std.specs.List.{AllByRecursion}
use Rattle.std.proofs.lemmas.List.Elements.{Contains-append_left}
use Rattle.pcp_base.specs.Time.{Moment, microseconds}
use Rattle.pcp_base.specs.declared.result.Body.{Body}
use Rattle.pcp_base.specs.declared.result.Body.TheVariants.{InPlace, Blocks, Status}
use Rattle.pcp_base.specs.declared.result.Item.{Item}
use Rattle.pcp_base.specs.declared.result.Item.TheVariants.{Sample, Mark}
use Rattle.pcp_base.specs.declared.result.ValueSet.{ValueSet}
use Rattle.pcp_model.specs.declared.records.MetaRecord.{MetaRecord}
use Rattle.pcp_model.specs.declared.records.MetaRecord.TheVariants.{Description, Domain, Other}
use Rattle.pcp_model.specs.Described.{EachStamp, HoldsAt, IsNamed, AreNamed, IsDescribedBy, IsDescribedSet, Described}
use Rattle.pcp_model.specs.Payload.{stamp_of}
use Rattle.pcp_model.proofs.Lists.{each-map}
use Rattle.logger_core.specs.Laws.{IsRecordAfter}

each_stamp-append : (i : ℕ) (P : Moment → Type 0) (xs ys : List MetaRecord) → EachStamp i P xs → EachStamp i P ys → EachStamp i P (xs ++ ys)
each_stamp-append i P [] ys first more = more
each_stamp-append i P (Description d names ∷ xs) ys first more = each_stamp-append i P xs ys first more
each_stamp-append i P (Domain t j pairs ∷ xs) ys first more = (first.0, each_stamp-append i P xs ys first.1 more)
each_stamp-append i P (Other ∷ xs) ys first more = each_stamp-append i P xs ys first more

none_so_early : (i : ℕ) (t stamp : Moment) (more : List MetaRecord) → AllByRecursion (IsRecordAfter t) more → EachStamp i (λ s. microseconds s ≤ microseconds t → microseconds s < microseconds stamp) more
none_so_early i t stamp [] after = tt
none_so_early i t stamp (Description d names ∷ more) after = none_so_early i t stamp more after.1
none_so_early i t stamp (Domain s j pairs ∷ more) after = ((λ _ le. absurd (omega (arith, le, after.0))), none_so_early i t stamp more after.1)
none_so_early i t stamp (Other ∷ more) after = none_so_early i t stamp more after.1

module _ (records more : List MetaRecord) (t : Moment) (after : AllByRecursion (IsRecordAfter t) more) where
  holds_on : (i : ℕ) (pairs : List (ℤ × List ℕ)) → HoldsAt records i t pairs → HoldsAt (records ++ more) i t pairs
  holds_on i pairs h = record {
    stamp = h.stamp;
    not_after = h.not_after;
    before = h.before;
    behind = h.behind ++ more;
    is = ap (λ rs. rs ++ more) h.is ∙ append_assoc h.before (Domain h.stamp i pairs ∷ h.behind) more;
    greatest = h.greatest;
    last = each_stamp-append i (λ s. microseconds s ≤ microseconds t → microseconds s < microseconds h.stamp) h.behind more h.last (none_so_early i t h.stamp more after);
  }

  named_on : (i : ℕ) (instance : ℤ) → IsNamed records i t instance → IsNamed (records ++ more) i t instance
  named_on i instance n = (n.0, holds_on i n.0 n.1, n.2, n.3)

  are_named_on : (i : ℕ) (body : Body) → AreNamed records i t body → AreNamed (records ++ more) i t body
  are_named_on i (InPlace pairs) all = each-map (λ p. IsNamed records i t p.0) (λ p. IsNamed (records ++ more) i t p.0) (λ p n. named_on i p.0 n) pairs all
  are_named_on i (Blocks pairs) all = each-map (λ p. IsNamed records i t p.0) (λ p. IsNamed (records ++ more) i t p.0) (λ p n. named_on i p.0 n) pairs all
  are_named_on i (Status n) all = tt

  described_by_on : (set : ValueSet) → IsDescribedBy records t set → IsDescribedBy (records ++ more) t set
  described_by_on set d = record {
    desc = d.desc;
    names = d.names;
    recorded = Contains-append_left records more (Description d.desc d.names) d.recorded;
    same = d.same;
    named = ⊎_elim (λ none. inl none) (λ all. inr (are_named_on d.desc.indom set.body all)) d.named;
  }

  described_set_on : (set : ValueSet) (body : Body) → IsDescribedSet records t set body → IsDescribedSet (records ++ more) t set body
  described_set_on set (InPlace pairs) d = described_by_on set d
  described_set_on set (Blocks pairs) d = described_by_on set d
  described_set_on set (Status n) d = tt

pub described_on : (records more : List MetaRecord) (x : Item) → AllByRecursion (IsRecordAfter (stamp_of x)) more → Described records x → Described (records ++ more) x
described_on records more (Sample r) after d =
    each-map (λ set. IsDescribedSet records r.stamp set set.body) (λ set. IsDescribedSet (records ++ more) r.stamp set set.body) (λ set s. described_set_on records more r.stamp after set set.body s) r.sets d
described_on records more (Mark t) after d = tt
