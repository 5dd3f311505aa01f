-- The distance from the first entry decides.
use Rattle.std.proofs.Common.{arith}
use Rattle.mmv_layout.proofs.Standing.{leads_below, leads_not}
use Rattle.mmv_layout.proofs.entries.leads.Goals as goal

pub returns-then-offset-first : goal.returns-then-offset-first
returns-then-offset-first c =
    leads_not c.args.first c.args.count c.args.size c.args.offset c.requires (λ h whole below. omega arith)

pub returns-then-distance-size-ne0 : goal.returns-then-distance-size-ne0
returns-then-distance-size-ne0 c =
    leads_not c.args.first c.args.count c.args.size c.args.offset c.requires (λ h whole below. c.if-distance-size-ne0.true whole)

pub returns : goal.returns
returns c =
    leads_below c.args.first c.args.count c.args.size c.args.offset c.requires (omega arith) (grind arith)
