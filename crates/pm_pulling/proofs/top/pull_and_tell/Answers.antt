-- How a call ends.
use Rattle.std.proofs.Common.{[], false, inl, inr, refl, subst, List, ℕ, Ok, Err}
use Rattle.pcp_outside.specs.Sides.{sink_side}
use Rattle.pm_words.proofs.Sending.{unsent}
use Rattle.pm_words.proofs.Telling.{tells_all}
use Rattle.pm_words.specs.Telling.{TellsAll}
use Rattle.pm_pulling.proofs.Whole.{nothing_done}
use Rattle.pm_pulling.proofs.top.pull_and_tell.Goals as goal

pub returns-in-Err : goal.returns-in-Err
returns-in-Err g c =
    let out = c.args.out.now in inl (record {
      refusal = c.in-Err.refusal;
      refused = record {
        cause = c.in-Err.ensures.refused;
        unrun = nothing_done g.I.Source g.L.Sink g.D.Disk c.args.reply.now c.args.request.now c.args.disk.now;
      };
      told = tells_all g.O.Sink out out c.tell_end.new.out [] false (Err c.in-Err.refusal) c.tell_end.result (unsent g.O.Sink out false refl) c.tell_end.ensures;
    })

pub returns-in-Ok-pull_samples : goal.returns-in-Ok-pull_samples
returns-in-Ok-pull_samples g c =
    let out = c.args.out.now in
    let end = c.tell_end-in-Ok-pull_samples in
    let told = tells_all g.O.Sink out out end.new.out [] false (Ok c.in-Ok.prepared.1) end.result (unsent g.O.Sink out false refl) end.ensures in inr (record {
      result = Ok tt;
      ran = record { asked = c.in-Ok.prepared.0; orders = c.in-Ok.ensures.orders; pulled = c.in-Ok-pull_samples.ensures };
      told = subst (λ (line : List ℕ). TellsAll (sink_side g.O.Sink out end.new.out) [] (Ok line) end.result) c.in-Ok.ensures.line told;
    })
