use Rattle.std.proofs.Common.{◌≤◌, length, arith}
use Rattle.archive_meta.proofs.RecordsRead.{all_found, all_only}
use Rattle.archive_meta.proofs.record.read_record.Goals as goal

pub returns-clause-found : goal.returns-clause-found
returns-clause-found c = all_found c.args.payload.now c.record_in.result (λ i. omega (arith, c.type_inv.payload i)) c.record_in.ensures

pub returns-clause-only : goal.returns-clause-only
returns-clause-only c = λ r is. let h : length c.args.payload.now ≤ 16777208 = c.requires.most in all_only c.args.payload.now c.record_in.result r (omega arith) is c.record_in.ensures
