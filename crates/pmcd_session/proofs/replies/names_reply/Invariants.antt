-- The identifiers so far all have a name.
use Rattle.std.proofs.Common.{◌≡◌, take, Some}
use Rattle.pmns_core.specs.Pairs.{least_name}
use Rattle.pmcd_session.specs.Replies.{all_of}
use Rattle.pmcd_session.proofs.replies.names_reply.Given as goal

abbrev pub invariant-loop-pmid : goal.invariant-loop-pmid
invariant-loop-pmid l = all_of (least_name l.names) (take l.pmid-index l.asked) ≡ Some l.found
