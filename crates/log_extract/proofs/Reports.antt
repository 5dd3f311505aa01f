-- Reports of items are those of the merge.
use Rattle.std.proofs.Common.{◌≡◌, List, [], ◌∷◌, ◌++◌, length, map, take, refl, ap, ◌∙◌, subst, append-nil, Option, Some, None}
use Rattle.pcp_base.specs.Time.{Moment}
use Rattle.pcp_base.specs.declared.result.Item.{Item}
use Rattle.pcp_base.specs.declared.result.Item.TheVariants.{Sample}
use Rattle.pcp_base.specs.declared.result.PmResult.{PmResult}
use Rattle.archive_merge.specs.declared.fault.MergeFault.{MergeFault}
use Rattle.archive_merge.specs.Facts.{facts_of, misfit_of}
use Rattle.archive_merge.specs.Merging.{merge, merged_result, samples_of, sets_at, stamps_of}
use Rattle.logging_session.specs.Written.{Report}
use Rattle.log_extract.specs.Judging.{Judged, all_fit, judged, judged_by}
use Rattle.log_extract.specs.Laws.{IsJudged}
use Rattle.log_extract.specs.Logging.{BeginWith}
use Rattle.log_extract.specs.Sources.{Source}

-- what is judged of an item is of it
module _ (first second : Source) (x : PmResult) (made : Report) (same : made.result ≡ x) where
  abbrev Misfit : Option MergeFault
  Misfit = misfit_of first.records second.records x.stamp (sets_at x.stamp (samples_of first.items)) (sets_at x.stamp (samples_of second.items))

  judged_of : (o : Option MergeFault) → Misfit ≡ o → (j : Judged) → judged_by made o ≡ j → IsJudged first second j x
  judged_of None is j e = subst (λ (k : Judged). IsJudged first second k x) e same
  judged_of (Some fault) is j e = subst (λ (k : Judged). IsJudged first second k x) e is

abbrev result_items : List Report → List Item
result_items reports = map (λ (r : Report). Sample r.result) reports

fits_is : (made r : Report) (o : Option MergeFault) → judged_by made o ≡ Judged.fits r → made ≡ r
fits_is made r None e = cc
fits_is made r (Some fault) e = absurd (cc)

module _ (made : Moment → Report) (misfit : Moment → Option MergeFault) where
  first_are : (stamps : List Moment) (reports : List Report) (more : List Judged) → map (λ t. judged_by (made t) (misfit t)) stamps ≡ all_fit reports ++ more
      → take (length reports) (map Sample (map (λ t. (made t).result) stamps)) ≡ result_items reports
  first_are stamps [] more e = refl
  first_are [] (r ∷ reports) more e = absurd (cc)
  first_are (t ∷ stamps) (r ∷ reports) more e =
      let head : judged_by (made t) (misfit t) ≡ Judged.fits r = cc in
      let rest : map (λ s. judged_by (made s) (misfit s)) stamps ≡ all_fit reports ++ more = cc in
      ap (λ (x : Report). Sample x.result ∷ take (length reports) (map Sample (map (λ s. (made s).result) stamps))) (fits_is (made t) r (misfit t) head)
      ∙ ap (λ (l : List Item). Sample r.result ∷ l) (first_are stamps reports more rest)

  all_are : (stamps : List Moment) (reports : List Report) → map (λ t. judged_by (made t) (misfit t)) stamps ≡ all_fit reports → map Sample (map (λ t. (made t).result) stamps) ≡ result_items reports
  all_are [] [] e = refl
  all_are [] (r ∷ reports) e = absurd (cc)
  all_are (t ∷ stamps) [] e = absurd (cc)
  all_are (t ∷ stamps) (r ∷ reports) e =
      let head : judged_by (made t) (misfit t) ≡ Judged.fits r = cc in
      let rest : map (λ s. judged_by (made s) (misfit s)) stamps ≡ all_fit reports = cc in
      ap (λ (x : Report). Sample x.result ∷ map Sample (map (λ s. (made s).result) stamps)) (fits_is (made t) r (misfit t) head)
      ∙ ap (λ (l : List Item). Sample r.result ∷ l) (all_are stamps reports rest)

module _ (first second : Source) where
  abbrev made : Moment → Report
  made t = record {
    result = merged_result t (sets_at t (samples_of first.items)) (sets_at t (samples_of second.items));
    facts = facts_of first.records second.records t (sets_at t (samples_of first.items)) (sets_at t (samples_of second.items));
  }

  abbrev misfit : Moment → Option MergeFault
  misfit t = misfit_of first.records second.records t (sets_at t (samples_of first.items)) (sets_at t (samples_of second.items))

  pub reports_merged : (reports : List Report) (more : List Judged) → BeginWith (judged first second) reports more → take (length reports) (merge first.items second.items) ≡ result_items reports
  reports_merged reports more e = first_are made misfit (stamps_of (samples_of first.items ++ samples_of second.items)) reports more e

  pub all_merged : (reports : List Report) → BeginWith (judged first second) reports [] → merge first.items second.items ≡ result_items reports
  all_merged reports e = all_are made misfit (stamps_of (samples_of first.items ++ samples_of second.items)) reports (e ∙ append-nil (all_fit reports))

  -- ---- the next item

  abbrev items_of : List Moment → List Item
  items_of stamps = map Sample (map (λ t. (made t).result) stamps)

  abbrev Next : List Moment → List Report → Judged → Type 0
  Next stamps reports j = (x : PmResult) × (rest : List Item) × (items_of stamps ≡ result_items reports ++ Sample x ∷ rest) × IsJudged first second j x

  next_of : (stamps : List Moment) (reports : List Report) (j : Judged) (later : List Judged) → map (λ t. judged_by (made t) (misfit t)) stamps ≡ all_fit reports ++ j ∷ later → Next stamps reports j
  next_of [] [] j later e = absurd (cc)
  next_of [] (r ∷ reports) j later e = absurd (cc)
  next_of (t ∷ stamps) [] j later e =
      let head : judged_by (made t) (misfit t) ≡ j = cc in
      ((made t).result, items_of stamps, refl, judged_of first second (made t).result (made t) refl (misfit t) refl j head)
  next_of (t ∷ stamps) (r ∷ reports) j later e =
      let head : judged_by (made t) (misfit t) ≡ Judged.fits r = cc in
      let tail : map (λ s. judged_by (made s) (misfit s)) stamps ≡ all_fit reports ++ j ∷ later = cc in
      let (x, rest, is, so) = next_of stamps reports j later tail in (
        x,
        rest,
        ap (λ (y : Report). Sample y.result ∷ items_of stamps) (fits_is (made t) r (misfit t) head) ∙ ap (λ (l : List Item). Sample r.result ∷ l) is,
        so,
      )

  pub next_judged : (reports : List Report) (j : Judged) (later : List Judged) → BeginWith (judged first second) reports (j ∷ later) → Next (stamps_of (samples_of first.items ++ samples_of second.items)) reports j
  next_judged reports j later e = next_of (stamps_of (samples_of first.items ++ samples_of second.items)) reports j later e
