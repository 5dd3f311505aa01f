-- As many of the instances that are left have names as of all.
use Rattle.std.proofs.Common.{◌≡◌, ◌*◌, drop}
use Rattle.std.specs.Prelude.{is_some}
use Rattle.pcp_model.specs.Instances.{pairs_from}
use Rattle.pcp_model.proofs.Listed.{names_from}
use Rattle.pcp_model.proofs.instances.have_names.Given as goal

abbrev pub invariant-loop-i : goal.invariant-loop-i
invariant-loop-i l = names_from l.count l.bytes l.i ≡ is_some (pairs_from (drop (8 * l.count) l.bytes) l.count l.bytes (drop (4 * l.count) l.bytes))
