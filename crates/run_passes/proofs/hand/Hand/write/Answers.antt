use Rattle.std.proofs.Common.{subst}
use Rattle.std.specs.Prelude.{OnOk}
use Rattle.run_passes.specs.Hands.{HasWritten, KnownHand, hand_of}
use Rattle.run_passes.proofs.hand.Hand.write.Goals as goal

pub returns-clause-written : goal.returns-clause-written
returns-clause-written g c =
    subst (λ (h : KnownHand). OnOk c.write_lines.result (HasWritten c.args.script.now c.args.server.now h (hand_of c.self.inside.number c.write_lines.new.passes.items))) c.self.view_is c.write_lines.ensures.written
