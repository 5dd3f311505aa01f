use Rattle.std.proofs.Common.{Some, None, subst}
use Rattle.memchr.specs.Find.{IsLastByte, is_byte}
use Rattle.pcp_model.proofs.Listed.{names_end}
use Rattle.pcp_model.proofs.instances.names_end.Goals as goal

pub returns-in-Some : goal.returns-in-Some
returns-in-Some c = names_end c.args.table.now (Some c.in-Some.last) (subst (IsLastByte (is_byte 0) c.args.table.now) c.in-Some.is c.memrchr.ensures)

pub returns-in-None : goal.returns-in-None
returns-in-None c = names_end c.args.table.now None (subst (IsLastByte (is_byte 0) c.args.table.now) c.in-None.is c.memrchr.ensures)
