-- Each call looks at one byte less.
use Rattle.std.proofs.Common.{length}
use Rattle.pdu_codec.proofs.fields.+common.Given as goal

abbrev pub decreases-common : goal.decreases-common
decreases-common l = length l.wanted.now
