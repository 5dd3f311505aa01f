-- What comes of each item of a merge: a report of it, or why it has none.
use Rattle.std.specs.Prelude.{ℕ, List, map, take, drop, Option, Some, None}
use Rattle.pcp_base.specs.Time.{Moment}
use Rattle.pcp_base.specs.declared.result.ValueSet.{ValueSet}
use Rattle.pcp_model.specs.declared.records.MetaRecord.{MetaRecord}
use Rattle.archive_merge.specs.declared.fault.MergeFault.{MergeFault}
use Rattle.archive_merge.specs.Facts.{facts_between, facts_of, misfit_between, misfit_of}
use Rattle.archive_merge.specs.Merging.{at_each, merged_result, samples_of}
use Rattle.logging_session.specs.Written.{Report}
use Rattle.log_extract.specs.Sources.{Source}

pub data Judged : Type 0 where
  fits : Report → Judged
  misfit : MergeFault → Judged

abbrev pub judged_by : Report → Option MergeFault → Judged
judged_by r None = Judged.fits r
judged_by r (Some fault) = Judged.misfit fault

-- of the sets that both sources have of a stamp
abbrev pub judge : List MetaRecord → List MetaRecord → Moment → List ValueSet → List ValueSet → Judged
judge first second t ours theirs =
    judged_by (record { result = merged_result t ours theirs; facts = facts_of first second t ours theirs }) (misfit_of first second t ours theirs)

-- of the sets that stand, of which so many are the first source's
abbrev pub judge_parts : List MetaRecord → List MetaRecord → Moment → List ValueSet → ℕ → Judged
judge_parts first second t sets count =
    judged_by (record { result = record { stamp = t; sets = sets }; facts = facts_between first second t (take count sets) (drop count sets) })
    (misfit_between first second t (take count sets) (drop count sets))

-- of each item of the merge, in their order
abbrev pub judged : Source → Source → List Judged
judged first second = at_each (judge first.records second.records) (samples_of first.items) (samples_of second.items)

abbrev pub all_fit : List Report → List Judged
all_fit reports = map Judged.fits reports
