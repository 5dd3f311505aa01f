use Rattle.std.proofs.Common.{ℕ, ◌-◌, ◌<◌, length, sym, ap, ◌∙◌, arith}
use Rattle.std.specs.Prelude.{slice_index_or}
use Rattle.std.proofs.lemmas.Bool.{eqb-false}
use Rattle.log_export.proofs.Plans.{last_is, last_with}
use Rattle.log_export.proofs.planning.last_of.Goals as goal

pub returns : goal.returns
returns c =
    let v : ℕ × ℕ = slice_index_or c.args.volumes.now (length c.args.volumes.now - 1) (0, 0) in
    let some : 0 < length c.args.volumes.now = omega (arith, eqb-false (length c.args.volumes.now) 0 (sym c.is_empty.ensures ∙ c.if-is_empty.false)) in
    ap (last_with v) c.end_within.ensures ∙ last_is c.args.end c.args.volumes.now some
