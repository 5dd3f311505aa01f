-- What holds of extracts.
use Rattle.std.specs.Prelude.{◌≡◌, List, [], ◌∷◌, ◌++◌, length, map, take, Some}
use Rattle.pcp_base.specs.declared.result.Item.{Item}
use Rattle.pcp_base.specs.declared.result.Item.TheVariants.{Sample}
use Rattle.pcp_base.specs.declared.result.PmResult.{PmResult}
use Rattle.archive_merge.specs.Facts.{misfit_of}
use Rattle.archive_merge.specs.Merging.{merge, samples_of, sets_at}
use Rattle.logging_session.specs.Written.{Report}
use Rattle.log_extract.specs.Judging.{Judged, judged}
use Rattle.log_extract.specs.Logging.{BeginWith}
use Rattle.log_extract.specs.Sources.{Source}

-- The items that are logged are the first ones of the sources' merge.
abbrev pub ReportsAreMerged : Type 0
ReportsAreMerged = (first second : Source) (reports : List Report) (more : List Judged) → BeginWith (judged first second) reports more
    → take (length reports) (merge first.items second.items) ≡ map (λ (r : Report). Sample r.result) reports

-- Where all fit they are all of it.
abbrev pub AllIsMerged : Type 0
AllIsMerged = (first second : Source) (reports : List Report) → BeginWith (judged first second) reports [] → merge first.items second.items ≡ map (λ (r : Report). Sample r.result) reports

-- this is reported of a result, or the sets of its stamp can't be described for this reason
abbrev pub IsJudged : Source → Source → Judged → PmResult → Type 0
IsJudged first second (Judged.fits r) x = r.result ≡ x
IsJudged first second (Judged.misfit fault) x = misfit_of first.records second.records x.stamp (sets_at x.stamp (samples_of first.items)) (sets_at x.stamp (samples_of second.items)) ≡ Some fault

-- what is refused is of the next item of the merge, behind those that are logged
abbrev pub NextIsJudged : Type 0
NextIsJudged = (first second : Source) (reports : List Report) (j : Judged) (later : List Judged) → BeginWith (judged first second) reports (j ∷ later)
    → (x : PmResult) × (rest : List Item) × (merge first.items second.items ≡ map (λ (r : Report). Sample r.result) reports ++ Sample x ∷ rest) × IsJudged first second j x
