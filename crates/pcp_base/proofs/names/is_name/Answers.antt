-- The walk decides what the bytes are.
use Rattle.std.proofs.Common.{arith}
use Rattle.std.proofs.lemmas.Grind.{common_steps}
use Rattle.pcp_base.proofs.Spelling.{walks}
use Rattle.pcp_base.proofs.names.is_name.Goals as goal

pub returns-then-not-starts-clause-name : goal.returns-then-not-starts-clause-name
returns-then-not-starts-clause-name c = walks c.args.bytes.now _ (grind (arith, common_steps))

pub returns-then-not-continues-clause-name : goal.returns-then-not-continues-clause-name
returns-then-not-continues-clause-name c = walks c.args.bytes.now _ (grind (arith, common_steps))

pub returns-clause-name : goal.returns-clause-name
returns-clause-name c = walks c.args.bytes.now _ (grind (arith, common_steps))
