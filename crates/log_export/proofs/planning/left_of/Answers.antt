use Rattle.std.proofs.Common.{◌<◌, length, sym, ◌∙◌, arith}
use Rattle.std.proofs.lemmas.Bool.{eqb-false}
use Rattle.log_export.proofs.Plans.{long_left, short_left}
use Rattle.log_export.proofs.planning.left_of.Goals as goal

pub returns-then-volumes-last-lt132 : goal.returns-then-volumes-last-lt132
returns-then-volumes-last-lt132 c =
    let some : 0 < length c.args.volumes.now = omega (arith, eqb-false (length c.args.volumes.now) 0 (sym c.is_empty.ensures ∙ c.if-is_empty.false)) in
    short_left c.args.volumes.now some c.if-volumes-last-lt132.true

pub returns : goal.returns
returns c =
    let some : 0 < length c.args.volumes.now = omega (arith, eqb-false (length c.args.volumes.now) 0 (sym c.is_empty.ensures ∙ c.if-is_empty.false)) in
    long_left c.args.volumes.now some (omega (arith, c.if-volumes-last-lt132.false))
