use Rattle.std.proofs.Common.{arith}
use Rattle.archive_meta.proofs.RecordsRead.{stamped_is}
use Rattle.archive_meta.proofs.record.domain_stamp.Goals as goal

pub returns : goal.returns
returns c = stamped_is c.args.payload.now c.stamped_in.result (λ i. omega (arith, c.type_inv.payload i)) c.stamped_in.ensures
