-- The walk decides what the bytes are.
use Rattle.std.proofs.Common.{arith}
use Rattle.std.proofs.lemmas.Grind.{common_steps}
use Rattle.pcp_base.proofs.Spelling.{walks_one}
use Rattle.pcp_base.proofs.names.is_component.Goals as goal

pub returns-then-not-starts : goal.returns-then-not-starts
returns-then-not-starts c = walks_one c.args.bytes.now _ (grind (arith, common_steps))

pub returns-then-not-continues : goal.returns-then-not-continues
returns-then-not-continues c = walks_one c.args.bytes.now _ (grind (arith, common_steps))

pub returns : goal.returns
returns c = walks_one c.args.bytes.now _ (grind (arith, common_steps))
