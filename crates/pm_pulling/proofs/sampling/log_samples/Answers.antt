-- One sample after another is logged, until one isn't.
use Rattle.std.proofs.Common.{rules}
use Rattle.pm_pulling.proofs.Samples.{one_more, stopped_at}
use Rattle.pm_pulling.proofs.sampling.log_samples.Goals as goal

pub returns-in_err-log_sample : goal.returns-in_err-log_sample
returns-in_err-log_sample g c = record {
  logs = λ start runs.
      let before = c.loop-number in
      let after = c.log_sample.new in
      let why =
      stopped_at g.I.Source g.L.Sink g.D.Disk c.args.asked.now c.args.reply.now after.reply c.args.request.now after.request c.args.disk.now c.args.run.now before.number before.reply before.request before.disk after.disk before.dialogue after.dialogue before.run after.run
      c.in_err-log_sample.field-0.0 before.invariant.far c.loop-number-test.true c.in_err-log_sample.ensures.logs start runs in
      search (rules, why);
}

pub loop-number-preserved : goal.loop-number-preserved
loop-number-preserved g c =
    let before = c.loop-number in
    let after = c.log_sample.new in record {
      working = c.in_ok-log_sample.ensures.working;
      far = one_more g.I.Source g.L.Sink g.D.Disk c.args.asked.now c.args.reply.now after.reply c.args.request.now after.request c.args.disk.now c.args.run.now before.number before.reply before.request before.disk after.disk before.dialogue after.dialogue before.run after.run
          before.invariant.far c.in_ok-log_sample.ensures.logs;
    }
