use Rattle.archive_loading.proofs.PartsRead.{few_first}
use Rattle.archive_loading.proofs.parts.first_bytes.Goals as goal

pub returns-then-bytes-lt132-clause-bytes : goal.returns-then-bytes-lt132-clause-bytes
returns-then-bytes-lt132-clause-bytes c = few_first c.args.bytes.now c.if-bytes-lt132.true
