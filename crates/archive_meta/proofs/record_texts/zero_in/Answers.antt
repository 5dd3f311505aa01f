use Rattle.pcp_model.proofs.ZeroBytes.{zero_offset, zero_within, zero_front, zero_nowhere}
use Rattle.archive_meta.proofs.record_texts.zero_in.Goals as goal

pub returns-clause-value : goal.returns-clause-value
returns-clause-value c = zero_offset c.args.bytes.now c.memchr.result c.memchr.ensures

pub returns-clause-within : goal.returns-clause-within
returns-clause-within c = zero_within c.args.bytes.now c.memchr.result c.memchr.ensures

pub returns-clause-front : goal.returns-clause-front
returns-clause-front c = zero_front c.args.bytes.now c.memchr.result c.memchr.ensures

pub returns-clause-all : goal.returns-clause-all
returns-clause-all c = zero_nowhere c.args.bytes.now c.memchr.result c.memchr.ensures
