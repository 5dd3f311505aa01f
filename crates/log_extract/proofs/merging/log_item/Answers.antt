-- The item is judged, and logged where it fits.
use Rattle.std.proofs.Common.{◌≡◌, ◌⊎◌, ◌≤◌, ◌==◌, false, arith, inl, refl, sym, subst, rules, ◌∙◌, Some, None, take, drop, length, List, Err}
use Rattle.std.specs.List.{AllByRecursion}
use Rattle.std.proofs.lemmas.Bool.{eqb-false}
use Rattle.pcp_base.specs.Results.{Fits}
use Rattle.pcp_base.specs.declared.result.ValueSet.{ValueSet}
use Rattle.archive_meta.specs.Enough.{AreEnough}
use Rattle.archive_meta.specs.declared.facts.Facts.{Facts}
use Rattle.archive_merge.specs.declared.fault.MergeFault.TheVariants.{NoMemory}
use Rattle.archive_merge.specs.Facts.{facts_between, misfit_between}
use Rattle.logging_run.specs.Handing.{each_held}
use Rattle.logging_session.specs.Written.{Report}
use Rattle.log_extract.specs.declared.fault.ExtractFault.TheVariants.{Archive, Merge}
use Rattle.log_extract.specs.Judging.{judge_parts}
use Rattle.log_extract.specs.Logging.{IsOfItem, LogsNext}
use Rattle.log_extract.proofs.Items.{fits_so, logged_next, misfit_so, told_enough}
use Rattle.log_extract.proofs.merging.log_item.Goals as goal

pub describe-requires : goal.describe-requires
describe-requires g c = subst (λ (l : List ValueSet). c.args.count ≤ length l) (sym c.as_slice.ensures) c.requires.parted.within

pub returns-in_err-describe-clause-logs : goal.returns-in_err-describe-clause-logs
returns-in_err-describe-clause-logs g c = λ limit reports start logged.
    let a = c.args.answer.now in
    let e = c.in_err-describe.field-0.0 in
    let fault = subst (λ (l : List ValueSet). (e ≡ NoMemory) ⊎ (misfit_between c.args.first.now c.args.second.now a.stamp (take c.args.count l) (drop c.args.count l) ≡ Some e)) c.as_slice.ensures c.in_err-describe.ensures.fault in
    let why : LogsNext g.D.Disk limit c.args.run.now start c.args.disk.now reports (judge_parts c.args.first.now c.args.second.now a.stamp a.sets c.args.count) (Err (Merge e)) =
    (misfit_so c.args.first.now c.args.second.now a c.args.count e fault, logged) in
    search (rules, why)

pub returns-then-is_empty-clause-logs : goal.returns-then-is_empty-clause-logs
returns-then-is_empty-clause-logs g c = λ limit reports start logged. (inl refl, logged)

pub returns-then-not-sets_fit-clause-logs : goal.returns-then-not-sets_fit-clause-logs
returns-then-not-sets_fit-clause-logs g c = λ limit reports start logged. (inl refl, logged)

pub returns-in_err-log_held-clause-logs : goal.returns-in_err-log_held-clause-logs
returns-in_err-log_held-clause-logs g c = λ limit reports start logged.
    let a = c.args.answer.now in
    let f : Facts = c.facts.result.now in
    let first = c.args.first.now in
    let second = c.args.second.now in
    let told = subst (λ (l : List ValueSet). (misfit_between first second a.stamp (take c.args.count l) (drop c.args.count l) ≡ None) × (c.describe.new.self ≡ facts_between first second a.stamp (take c.args.count l) (drop c.args.count l))) c.as_slice.ensures c.in_ok-describe.ensures.facts in
    let is : f ≡ facts_between first second a.stamp (take c.args.count a.sets) (drop c.args.count a.sets) = c.facts.ensures ∙ told.1 in
    let r : Report = record { result = a; facts = f } in
    let enough : AreEnough f a.sets = told_enough first second a c.args.count f c.requires.parted told.0 is in
    let why : LogsNext g.D.Disk limit c.log_held.new.self start c.log_held.new.disk reports (judge_parts first second a.stamp a.sets c.args.count) (Err (Archive c.in_err-log_held.field-0.0)) =
    (r, fits_so first second a c.args.count f told.0 is, c.in_err-log_held.ensures.stops enough limit (each_held reports) start logged) in
    search (rules, why)

pub returns-clause-logs : goal.returns-clause-logs
returns-clause-logs g c = λ limit reports start logged.
    let a = c.args.answer.now in
    let f : Facts = c.facts.result.now in
    let first = c.args.first.now in
    let second = c.args.second.now in
    let told = subst (λ (l : List ValueSet). (misfit_between first second a.stamp (take c.args.count l) (drop c.args.count l) ≡ None) × (c.describe.new.self ≡ facts_between first second a.stamp (take c.args.count l) (drop c.args.count l))) c.as_slice.ensures c.in_ok-describe.ensures.facts in
    let is : f ≡ facts_between first second a.stamp (take c.args.count a.sets) (drop c.args.count a.sets) = c.facts.ensures ∙ told.1 in
    let r : Report = record { result = a; facts = f } in
    let enough : AreEnough f a.sets = told_enough first second a c.args.count f c.requires.parted told.0 is in
    (r, fits_so first second a c.args.count f told.0 is, logged_next g.D.Disk limit c.log_held.new.self start c.log_held.new.disk reports r (c.in_ok-log_held.ensures.done enough limit (each_held reports) start logged))

pub returns-in_err-describe-clause-kinds : goal.returns-in_err-describe-clause-kinds
returns-in_err-describe-clause-kinds g c = let why : IsOfItem (Merge c.in_err-describe.field-0.0) = tt in search (rules, why)

pub returns-in_err-log_held-clause-kinds : goal.returns-in_err-log_held-clause-kinds
returns-in_err-log_held-clause-kinds g c = let why : IsOfItem (Archive c.in_err-log_held.field-0.0) = tt in search (rules, why)

pub log_held-requires-clause-some : goal.log_held-requires-clause-some
log_held-requires-clause-some g c =
    let none : (length c.args.answer.now.sets == 0) ≡ false = sym c.is_empty.ensures ∙ c.if-is_empty.false in
    let some = eqb-false (length c.args.answer.now.sets) 0 none in
    omega (arith, some)

pub log_held-requires-clause-fits : goal.log_held-requires-clause-fits
log_held-requires-clause-fits g c = subst (AllByRecursion Fits) c.as_slice-2.ensures (c.sets_fit.ensures.0 c.if-not-sets_fit.false)
