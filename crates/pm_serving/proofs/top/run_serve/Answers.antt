-- How the call ends, and what that says of the status.
use Rattle.std.proofs.Common.{[], false, refl}
use Rattle.pm_words.proofs.Sending.{unsent}
use Rattle.pm_words.proofs.Telling.{tells_all}
use Rattle.pm_serving.proofs.Facts.{facts_of}
use Rattle.pm_serving.proofs.top.run_serve.Goals as goal

pub returns : goal.returns
returns g c = record {
  facts =
      let out = c.args.out.now in
      facts_of _ c.tell_end.result (c.run-ran.result, c.run-ran.ensures, tells_all g.O.Sink out out c.tell_end.new.out [] false c.run-ran.result c.tell_end.result (unsent g.O.Sink out false refl) c.tell_end.ensures);
}
