use Rattle.std.proofs.Common.{rules}
use Rattle.pcp_model.specs.Words.{word}
use Rattle.pcp_model.specs.Records.{entry}
use Rattle.temporal_index.proofs.writing.entry_bytes.Goals as goal

pub returns-clause-bytes : goal.returns-clause-bytes
unfolding word entry
returns-clause-bytes c = search rules

pub returns-clause-range : goal.returns-clause-range
returns-clause-range c = λ volume meta offset. record { moment = c.sec.ensures.range; volume = volume; meta = meta; offset = offset }
