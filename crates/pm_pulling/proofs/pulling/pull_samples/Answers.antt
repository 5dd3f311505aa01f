-- What was pulled, whatever ended it.
use Rattle.std.proofs.Common.{[], refl, sym, ◌∙◌, subst, Ok, Err}
use Rattle.pcp_model.specs.Disk.{CrashImage}
use Rattle.pcp_outside.specs.Sides.{sink_side, source_side}
use Rattle.logging_run.specs.declared.fault.RunFault.{RunFault}
use Rattle.logging_run.specs.Closing.{Close, Ran}
use Rattle.pm_words.specs.Sides.{IsUnread, Leaves}
use Rattle.pm_pulling.specs.declared.stop.Stop.TheVariants.{Archive}
use Rattle.pm_pulling.specs.Pulling.{Pulled, pull_side}
use Rattle.pm_pulling.proofs.Whole.{Finishes, ended, nothing_said, unrecovered}
use Rattle.pm_pulling.proofs.pulling.pull_samples.Goals as goal

pub returns-in-Err : goal.returns-in-Err
returns-in-Err g c =
    let p = pull_side (source_side g.I.Source c.args.reply.now c.args.reply.now) (sink_side g.L.Sink c.args.request.now c.args.request.now) g.D.Disk c.args.disk.now c.begin.new.disk in
    let e = c.in-Err.ensures in
    let k = e.kinds in
    let ran = λ (tells : p.disk.tells). subst (λ (x : RunFault). Ran p.disk c.args.asked.now.volume [] p.disk_was p.disk_is (Close.unrecovered x)) k.1 (e.unrecovered tells) in
    let whole = unrecovered p c.args.asked.now k.0 (nothing_said g.I.Source g.L.Sink g.D.Disk c.args.reply.now c.args.request.now c.args.disk.now, refl) ran (λ none tells. e.unread tells none) (λ is. e.cause (k.1 ∙ is)) in
    subst (λ (f : RunFault). Pulled p c.args.asked.now (Err (Archive f))) (sym k.1) whole

pub returns-in-Ok-finish : goal.returns-in-Ok-finish
returns-in-Ok-finish g c =
    let i = source_side g.I.Source c.args.reply.now c.log_samples-logged.new.reply in
    let o = sink_side g.L.Sink c.args.request.now c.log_samples-logged.new.request in
    let asked = c.args.asked.now in
    let start = c.args.disk.now in
    let mid = c.log_samples-logged.new in
    let runs = c.in-Ok.ensures.begun.0 in
    let unread : IsUnread g.D.Disk start → Leaves g.D.Disk start c.finish.new.disk CrashImage = λ none tells. let was = (runs.rests.told tells).recovered.was in absurd (none (was.reading, was.was)) in
    let e = c.in-Ok-finish.ensures in
    let f : Finishes (pull_side i o g.D.Disk start c.finish.new.disk) asked.volume mid.run mid.disk c.finish.new.self (Ok c.in-Ok-finish.field-0) =
    record { done = λ tells handed rests. e.done tells asked.volume handed start rests; failed = λ handed rests. e.failed asked.volume handed start rests; kinds = e.kinds; closed = e.closed; quiet = e.quiet } in
    ended i o g.D.Disk start mid.disk c.finish.new.disk asked mid.run c.finish.new.self (Ok c.in-Ok-finish.field-0) unread f c.log_samples-logged.result (c.log_samples-logged.ensures.logs start runs)

pub returns : goal.returns
returns g c =
    let i = source_side g.I.Source c.args.reply.now c.log_samples-logged.new.reply in
    let o = sink_side g.L.Sink c.args.request.now c.log_samples-logged.new.request in
    let asked = c.args.asked.now in
    let start = c.args.disk.now in
    let mid = c.log_samples-logged.new in
    let runs = c.in-Ok.ensures.begun.0 in
    let unread : IsUnread g.D.Disk start → Leaves g.D.Disk start c.finish.new.disk CrashImage = λ none tells. let was = (runs.rests.told tells).recovered.was in absurd (none (was.reading, was.was)) in
    let e = c.in-Err-finish.ensures in
    let f : Finishes (pull_side i o g.D.Disk start c.finish.new.disk) asked.volume mid.run mid.disk c.finish.new.self (Err c.in-Err-finish.fault) =
    record { done = λ tells handed rests. e.done tells asked.volume handed start rests; failed = λ handed rests. e.failed asked.volume handed start rests; kinds = e.kinds; closed = e.closed; quiet = e.quiet } in
    ended i o g.D.Disk start mid.disk c.finish.new.disk asked mid.run c.finish.new.self (Err c.in-Err-finish.fault) unread f c.log_samples-logged.result (c.log_samples-logged.ensures.logs start runs)
