use Rattle.std.proofs.Common.{rules}
use Rattle.pcp_model.specs.Words.{word}
use Rattle.archive_frame.proofs.writing.put_word.Goals as goal

pub returns : goal.returns
unfolding word
returns c = search rules
