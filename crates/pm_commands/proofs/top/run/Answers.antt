-- The body met its command's meaning, or the call was refused before.
use Rattle.std.proofs.Common.{rules, inl, inr, map, string_bytes, Global, List, [], ℕ, Err, refl, sym, subst, ◌∙◌}
use Rattle.archive_loading.proofs.Looking.{looks_none}
use Rattle.pcp_outside.specs.Sides.{SinkSide, SourceSide, sink_side, source_side}
use Rattle.pm_words.specs.declared.words.Command.{Command}
use Rattle.pm_words.specs.Serving.{Meets}
use Rattle.pm_words.proofs.Sending.{unsent}
use Rattle.pm_commands.specs.Meanings.{meaning}
use Rattle.pm_commands.specs.Running.{Runs}
use Rattle.pm_commands.proofs.top.run.Goals as goal

pub returns-in_err-command-clause-runs : goal.returns-in_err-command-clause-runs
returns-in_err-command-clause-runs g c =
    let words = map (string_bytes {Z = Global}) c.args.words.now in
    let s : SourceSide = source_side g.I.Source c.args.input.now c.ask.new.input in
    let k : SinkSide = sink_side g.O.Sink c.args.out.now c.args.out.now in
    let ran : Runs words s g.D.Disk c.args.disk.now c.args.disk.now c.args.opened.now k c.args.failed.now (Err c.in_err-command.field-0.0) = record {
      front = [];
      sent = unsent g.O.Sink c.args.out.now c.args.failed.now c.requires.fresh;
      came = inr (record {
        refusal = c.in_err-command.field-0.0;
        is = refl;
        before = c.in_err-command.ensures.refused;
        nothing = refl;
        same = refl;
        moments = (looks_none g.D.Disk g.met.D.Disk.only_now c.args.disk.now).moments;
        none = c.requires.closed;
      });
    } in
    search (rules, ran)

pub returns-clause-runs : goal.returns-clause-runs
returns-clause-runs g c =
    let a = c.in_ok-command.ensures.asks in
    let m = c.serve.ensures.meets in
    let asked : Meets (meaning a.asks.command) c.as_slice.result.now g.D.Disk c.args.disk.now c.serve.new.disk c.serve.new.opened m.0 c.serve.result =
    subst (λ (x : Command). Meets (meaning x) c.as_slice.result.now g.D.Disk c.args.disk.now c.serve.new.disk c.serve.new.opened m.0 c.serve.result) (sym a.command_is) m.2 in record {
      front = m.0;
      sent = m.1;
      came = inl (record {
        asks = a.asks;
        meets = subst (λ (input : List ℕ). Meets (meaning a.asks.command) input g.D.Disk c.args.disk.now c.serve.new.disk c.serve.new.opened m.0 c.serve.result) (c.as_slice.ensures ∙ sym a.input_is) asked;
      });
    }
