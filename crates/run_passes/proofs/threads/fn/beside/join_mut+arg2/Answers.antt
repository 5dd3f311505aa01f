use Rattle.run_passes.specs.Hands.{HasWritten}
use Rattle.run_passes.proofs.Together.{where_ok}
use Rattle.run_passes.proofs.threads.fn.beside.join_mut+arg2.Goals as goal

pub returns : goal.returns
returns g c = record {
  hand = c.write.ensures.hand;
  same = c.write.ensures.same;
  written = where_ok (HasWritten c.captures.script.now c.captures.server.now c.captures.hand.now c.write.new.self) c.write.result c.is_ok.result c.is_ok.ensures.value c.write.ensures.written;
}
