-- Item after item is logged, until one isn't or none is left.
use Rattle.std.proofs.Common.{◌≡◌, ◌∙◌, List, refl, sym, ap, subst, rules, Option, Some, None, Ok, Err}
use Rattle.pcp_base.specs.Time.{Moment}
use Rattle.pcp_model.specs.declared.records.MetaRecord.{MetaRecord}
use Rattle.archive_loading.proofs.Looking.{looks_none, looks_on}
use Rattle.log_extract.specs.Cursors.{earliest, next_stamp}
use Rattle.log_extract.specs.Judging.{Judged, judge_parts}
use Rattle.log_extract.specs.Logging.{AreQuiet, LogsNext}
use Rattle.log_extract.proofs.Items.{MergedSoFar, all_merged, none_merged, one_merged, stopped_at, stopped_here, wanting_here}
use Rattle.log_extract.proofs.Opening.{blames_from, blames_none, quiet_from, quiet_of_item}
use Rattle.log_extract.proofs.merging.merge_all.Goals as goal

pub loop-init : goal.loop-init
loop-init g c = record {
  working = c.requires.working;
  first_ready = c.requires.first_ready;
  second_ready = c.requires.second_ready;
  first_looks = looks_none g.A.Disk g.met.A.Disk.only_now c.args.first_disk.now;
  second_looks = looks_none g.B.Disk g.met.B.Disk.only_now c.args.second_disk.now;
  first_quiet = refl;
  second_quiet = refl;
  far = λ limit start runs. none_merged g.A.Disk g.B.Disk g.D.Disk c.args.first_disk.now c.args.second_disk.now c.args.first.now c.args.second.now limit start c.args.run.now c.args.disk.now runs;
}

pub returns-in-None-clause-logs : goal.returns-in-None-clause-logs
returns-in-None-clause-logs g c = λ limit start runs.
    let none : earliest (next_stamp c.loop.first.next) (next_stamp c.loop.second.next) ≡ None =
    sym (c.earliest.ensures ∙ ap (λ (o : Option Moment). earliest o c.stamp-in-loop.result) c.stamp.ensures ∙ ap (earliest (next_stamp c.loop.first.next)) c.stamp-in-loop.ensures) ∙ c.in-None.is in
    all_merged g.A.Disk g.B.Disk g.D.Disk c.args.first_disk.now c.args.second_disk.now c.args.first.now c.args.second.now limit start c.loop.first_disk c.loop.second_disk c.loop.first c.loop.second c.loop.run c.loop.disk (c.loop.invariant.far limit start runs) none

pub returns-in-None-clause-quiet : goal.returns-in-None-clause-quiet
returns-in-None-clause-quiet g c = record { first = c.loop.invariant.first_quiet; second = c.loop.invariant.second_quiet }

pub returns-in_err-sets-clause-logs : goal.returns-in_err-sets-clause-logs
returns-in_err-sets-clause-logs g c = λ limit start runs.
    let why =
    stopped_here g.A.Disk g.B.Disk g.D.Disk c.args.first_disk.now c.args.second_disk.now c.args.first.now c.args.second.now limit start c.loop.first_disk c.loop.second_disk c.loop.first c.loop.second c.loop.run c.loop.disk (c.loop.invariant.far limit start runs)
    c.in_err-sets.field-0.0 c.in_err-sets.ensures.kinds in
    search (rules, why)

pub returns-in_err-sets-clause-broken : goal.returns-in_err-sets-clause-broken
returns-in_err-sets-clause-broken g c =
    let why =
    blames_from g.A.Disk g.B.Disk c.args.first_disk.now c.loop.first_disk c.take_both.new.first_disk c.args.second_disk.now c.loop.second_disk c.take_both.new.second_disk c.in_err-sets.field-0.0 c.loop.invariant.first_quiet c.loop.invariant.second_quiet c.in_err-sets.ensures.broken in
    search (rules, why)

pub returns-in_err-sets-clause-others_quiet : goal.returns-in_err-sets-clause-others_quiet
returns-in_err-sets-clause-others_quiet g c =
    let why =
    quiet_from g.A.Disk g.B.Disk c.args.first_disk.now c.loop.first_disk c.take_both.new.first_disk c.args.second_disk.now c.loop.second_disk c.take_both.new.second_disk c.in_err-sets.field-0.0 c.loop.invariant.first_quiet c.loop.invariant.second_quiet c.in_err-sets.ensures.others_quiet in
    search (rules, why)

pub returns-in_err-sets-clause-first_looks : goal.returns-in_err-sets-clause-first_looks
returns-in_err-sets-clause-first_looks g c = looks_on g.A.Disk c.args.first_disk.now c.loop.first_disk c.take_both.new.first_disk c.loop.invariant.first_looks c.take_both.ensures.first_looks

pub returns-in_err-sets-clause-second_looks : goal.returns-in_err-sets-clause-second_looks
returns-in_err-sets-clause-second_looks g c = looks_on g.B.Disk c.args.second_disk.now c.loop.second_disk c.take_both.new.second_disk c.loop.invariant.second_looks c.take_both.ensures.second_looks

pub returns-in_err-log_item-clause-logs : goal.returns-in_err-log_item-clause-logs
returns-in_err-log_item-clause-logs g c = λ limit start runs.
    let some : earliest (next_stamp c.loop.first.next) (next_stamp c.loop.second.next) ≡ Some c.in-Some.stamp =
    sym (c.earliest.ensures ∙ ap (λ (o : Option Moment). earliest o c.stamp-in-loop.result) c.stamp.ensures ∙ ap (earliest (next_stamp c.loop.first.next)) c.stamp-in-loop.ensures) ∙ c.in-Some.is in
    let far : MergedSoFar g.A.Disk g.B.Disk g.D.Disk c.args.first_disk.now c.args.second_disk.now c.args.first.now c.args.second.now limit start c.loop.first_disk c.loop.second_disk c.loop.first c.loop.second c.loop.run c.loop.disk = c.loop.invariant.far limit start runs in
    let item = subst (λ (j : Judged). LogsNext g.D.Disk limit c.log_item.new.run start c.log_item.new.disk far.reports j (Err c.in_err-log_item.field-0.0))
    (ap (λ (rs : List MetaRecord). judge_parts rs c.meta-in-loop.result.now c.in-Some.stamp c.in_ok-sets.sets c.in_ok-sets.count) c.meta.ensures ∙ ap (λ (rs : List MetaRecord). judge_parts c.take_both.new.first.reader.records rs c.in-Some.stamp c.in_ok-sets.sets c.in_ok-sets.count) c.meta-in-loop.ensures)
    (c.in_err-log_item.ensures.logs limit far.reports start far.logged) in
    let why =
    stopped_at g.A.Disk g.B.Disk g.D.Disk c.args.first_disk.now c.args.second_disk.now c.args.first.now c.args.second.now limit start c.loop.first_disk c.loop.second_disk c.loop.first c.loop.second c.loop.run c.loop.disk far c.in-Some.stamp some
    c.take_both.new.first_disk c.take_both.new.second_disk c.take_both.new.first c.take_both.new.second c.take_both.ensures.first_looks c.take_both.ensures.second_looks c.take_both.ensures.first_same c.take_both.ensures.second_same
    c.in_ok-sets.sets c.in_ok-sets.count c.in_ok-sets.ensures.takes c.log_item.new.run c.log_item.new.disk c.in_err-log_item.field-0.0 item in
    search (rules, why)

pub returns-in_err-log_item-clause-broken : goal.returns-in_err-log_item-clause-broken
returns-in_err-log_item-clause-broken g c =
    let why = blames_none g.A.Disk g.B.Disk c.args.first_disk.now c.take_both.new.first_disk c.args.second_disk.now c.take_both.new.second_disk c.in_err-log_item.field-0.0 c.in_err-log_item.ensures.kinds in
    search (rules, why)

pub returns-in_err-log_item-clause-others_quiet : goal.returns-in_err-log_item-clause-others_quiet
returns-in_err-log_item-clause-others_quiet g c =
    let quiet : AreQuiet g.A.Disk g.B.Disk c.args.first_disk.now c.take_both.new.first_disk c.args.second_disk.now c.take_both.new.second_disk =
    record { first = c.in_ok-sets.ensures.first_quiet ∙ c.loop.invariant.first_quiet; second = c.in_ok-sets.ensures.second_quiet ∙ c.loop.invariant.second_quiet } in
    let why = quiet_of_item g.A.Disk g.B.Disk c.args.first_disk.now c.take_both.new.first_disk c.args.second_disk.now c.take_both.new.second_disk c.in_err-log_item.field-0.0 c.in_err-log_item.ensures.kinds quiet in
    search (rules, why)

pub returns-in_err-log_item-clause-first_looks : goal.returns-in_err-log_item-clause-first_looks
returns-in_err-log_item-clause-first_looks g c = looks_on g.A.Disk c.args.first_disk.now c.loop.first_disk c.take_both.new.first_disk c.loop.invariant.first_looks c.take_both.ensures.first_looks

pub returns-in_err-log_item-clause-second_looks : goal.returns-in_err-log_item-clause-second_looks
returns-in_err-log_item-clause-second_looks g c = looks_on g.B.Disk c.args.second_disk.now c.loop.second_disk c.take_both.new.second_disk c.loop.invariant.second_looks c.take_both.ensures.second_looks

pub loop-preserved : goal.loop-preserved
loop-preserved g c = record {
  working = c.in_ok-log_item.ensures.working;
  first_ready = c.in_ok-sets.ensures.first_ready;
  second_ready = c.in_ok-sets.ensures.second_ready;
  first_looks = looks_on g.A.Disk c.args.first_disk.now c.loop.first_disk c.take_both.new.first_disk c.loop.invariant.first_looks c.take_both.ensures.first_looks;
  second_looks = looks_on g.B.Disk c.args.second_disk.now c.loop.second_disk c.take_both.new.second_disk c.loop.invariant.second_looks c.take_both.ensures.second_looks;
  first_quiet = c.in_ok-sets.ensures.first_quiet ∙ c.loop.invariant.first_quiet;
  second_quiet = c.in_ok-sets.ensures.second_quiet ∙ c.loop.invariant.second_quiet;
  far = λ limit start runs.
      let some : earliest (next_stamp c.loop.first.next) (next_stamp c.loop.second.next) ≡ Some c.in-Some.stamp =
      sym (c.earliest.ensures ∙ ap (λ (o : Option Moment). earliest o c.stamp-in-loop.result) c.stamp.ensures ∙ ap (earliest (next_stamp c.loop.first.next)) c.stamp-in-loop.ensures) ∙ c.in-Some.is in
      let far : MergedSoFar g.A.Disk g.B.Disk g.D.Disk c.args.first_disk.now c.args.second_disk.now c.args.first.now c.args.second.now limit start c.loop.first_disk c.loop.second_disk c.loop.first c.loop.second c.loop.run c.loop.disk = c.loop.invariant.far limit start runs in
      let item = subst (λ (j : Judged). LogsNext g.D.Disk limit c.log_item.new.run start c.log_item.new.disk far.reports j (Ok tt))
      (ap (λ (rs : List MetaRecord). judge_parts rs c.meta-in-loop.result.now c.in-Some.stamp c.in_ok-sets.sets c.in_ok-sets.count) c.meta.ensures ∙ ap (λ (rs : List MetaRecord). judge_parts c.take_both.new.first.reader.records rs c.in-Some.stamp c.in_ok-sets.sets c.in_ok-sets.count) c.meta-in-loop.ensures)
      (c.in_ok-log_item.ensures.logs limit far.reports start far.logged) in
      one_merged g.A.Disk g.B.Disk g.D.Disk c.args.first_disk.now c.args.second_disk.now c.args.first.now c.args.second.now limit start c.loop.first_disk c.loop.second_disk c.loop.first c.loop.second c.loop.run c.loop.disk far c.in-Some.stamp some
      c.take_both.new.first_disk c.take_both.new.second_disk c.take_both.new.first c.take_both.new.second c.take_both.ensures.first_looks c.take_both.ensures.second_looks c.take_both.ensures.first_same c.take_both.ensures.second_same
      c.in_ok-sets.sets c.in_ok-sets.count c.in_ok-sets.ensures.takes c.log_item.new.run c.log_item.new.disk item;
}

pub returns-clause-logs : goal.returns-clause-logs
returns-clause-logs g c = λ limit start runs.
    wanting_here g.A.Disk g.B.Disk g.D.Disk c.args.first_disk.now c.args.second_disk.now c.args.first.now c.args.second.now limit start c.loop.first_disk c.loop.second_disk c.loop.first c.loop.second c.loop.run c.loop.disk (c.loop.invariant.far limit start runs)

pub returns-clause-others_quiet : goal.returns-clause-others_quiet
returns-clause-others_quiet g c = record { first = c.loop.invariant.first_quiet; second = c.loop.invariant.second_quiet }
