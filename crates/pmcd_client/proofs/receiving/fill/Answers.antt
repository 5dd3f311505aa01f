use Rattle.std.proofs.Common.{take, arith}
use Rattle.std.proofs.lemmas.Grind.{common_steps}
use Rattle.pmcd_client.proofs.Filling.{filled_memory}
use Rattle.pmcd_client.proofs.receiving.fill.Goals as goal

pub returns-in-Err : goal.returns-in-Err
returns-in-Err g c =
    filled_memory g.I.Source c.args.input.now c.loop-piece.input c.take.new.self c.args.goal c.args.bytes.now.items c.loop-piece.bytes.items (take c.in-Ok.count c.take.new.buffer) c.loop-piece.bytes.items c.loop-piece.invariant (λ tells. (c.in-Ok.ensures.bytes tells).next) c.in-Ok.ensures.quiet (grind (arith, common_steps))
