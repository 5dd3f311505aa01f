use Rattle.std.proofs.Common.{Some, None, sym, subst, arith}
use Rattle.std.proofs.lemmas.List.{take_rest}
use Rattle.memchr.specs.Find.{IsFirstByte, is_byte}
use Rattle.pcp_model.proofs.Listed.{name_found, name_past}
use Rattle.pcp_model.proofs.ZeroBytes.{zero_front}
use Rattle.pcp_model.proofs.instances.name_at.Goals as goal

pub returns-then-table-from-clause-name : goal.returns-then-table-from-clause-name
returns-then-table-from-clause-name c = sym (name_past c.args.table.now c.args.offset (omega arith))

pub returns-in-Some-clause-name : goal.returns-in-Some-clause-name
returns-in-Some-clause-name c =
    simp take_rest (name_found c.args.table.now c.args.offset (Some c.in-Some.end) (simp take_rest at (subst (IsFirstByte (is_byte 0) _) c.in-Some.is c.memchr.ensures)))

pub returns-in-Some-clause-text : goal.returns-in-Some-clause-text
returns-in-Some-clause-text c = zero_front _ (Some c.in-Some.end) (subst (IsFirstByte (is_byte 0) _) c.in-Some.is c.memchr.ensures)

pub returns-in-None-clause-name : goal.returns-in-None-clause-name
returns-in-None-clause-name c = name_found c.args.table.now c.args.offset None (simp take_rest at (subst (IsFirstByte (is_byte 0) _) c.in-None.is c.memchr.ensures))
