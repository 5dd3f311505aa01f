use Rattle.std.proofs.Common.{arith}
use Rattle.pcp_model.proofs.Spelled.{is_domain}
use Rattle.archive_meta.proofs.record_writing.put_domain.Goals as goal

pub returns-clause-range : goal.returns-clause-range
returns-clause-range c = is_domain c.args.stamp c.args.indom c.args.pairs.now c.sec.ensures.range (omega (arith, c.word.ensures)) c.requires.few c.in_ok-put_numbers.ensures.range c.in_ok-put_table.ensures.range
