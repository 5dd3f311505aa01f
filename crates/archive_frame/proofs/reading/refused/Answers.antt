use Rattle.std.proofs.Common.{sym, ◌∙◌}
use Rattle.archive_frame.proofs.Beginnings.{early_found, late_fault}
use Rattle.archive_frame.proofs.reading.refused.Goals as goal

pub returns-then-ends_early-clause-found : goal.returns-then-ends_early-clause-found
returns-then-ends_early-clause-found c = early_found c.args.bytes.now c.args.fault c.requires (sym c.ends_early.ensures ∙ c.if-ends_early.true)

pub returns-clause-fault : goal.returns-clause-fault
returns-clause-fault c = late_fault c.args.bytes.now c.args.fault c.requires (sym c.ends_early.ensures ∙ c.if-ends_early.false)
