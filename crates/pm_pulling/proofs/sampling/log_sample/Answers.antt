-- A sample came and was logged, or it wasn't.
use Rattle.std.proofs.Common.{rules, sym, subst}
use Rattle.pcp_outside.specs.Sides.{sink_side, source_side}
use Rattle.archive_meta.specs.declared.facts.Facts.{Facts}
use Rattle.archive_meta.specs.Enough.{AreEnough}
use Rattle.pm_pulling.specs.Pulling.{all_sure, pull_side}
use Rattle.pm_pulling.proofs.Samples.{logged_one, stopped_one}
use Rattle.pm_pulling.proofs.sampling.log_sample.Goals as goal

pub returns-in_err-log_sure-clause-logs : goal.returns-in_err-log_sure-clause-logs
returns-in_err-log_sure-clause-logs g c = λ names limit samples first begun start goes.
    let p = pull_side (source_side g.I.Source first c.sample.new.reply) (sink_side g.L.Sink begun c.sample.new.request) g.D.Disk start c.log_sure.new.disk in
    let came = c.in_ok-answer in
    let enough = subst (λ (f : Facts). AreEnough f came.answer.sets) (sym c.facts.ensures) came.ensures.enough in
    let why = stopped_one p names limit samples c.sample.new.self c.log_sure.new.self came.answer c.facts.result.now c.in_err-log_sure.field-0.0 c.facts.ensures (came.ensures.talks names first begun samples goes.talks) (c.in_err-log_sure.ensures.stops enough limit (all_sure samples) start goes.runs) in
    search (rules, why)

pub returns-clause-logs : goal.returns-clause-logs
returns-clause-logs g c = λ names limit samples first begun start goes.
    let p = pull_side (source_side g.I.Source first c.sample.new.reply) (sink_side g.L.Sink begun c.sample.new.request) g.D.Disk start c.log_sure.new.disk in
    let came = c.in_ok-answer in
    let enough = subst (λ (f : Facts). AreEnough f came.answer.sets) (sym c.facts.ensures) came.ensures.enough in
    logged_one p names limit samples c.sample.new.self c.log_sure.new.self came.answer c.facts.result.now c.facts.ensures (came.ensures.talks names first begun samples goes.talks) (c.in_ok-log_sure.ensures.done enough limit (all_sure samples) start goes.runs)
