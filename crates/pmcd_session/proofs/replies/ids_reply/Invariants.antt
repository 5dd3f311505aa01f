-- The names so far are all there.
use Rattle.std.proofs.Common.{◌≡◌, take, Some}
use Rattle.pmns_core.specs.Pairs.{pmid_of}
use Rattle.pmcd_session.specs.Replies.{all_of}
use Rattle.pmcd_session.proofs.replies.ids_reply.Given as goal

abbrev pub invariant-loop-name : goal.invariant-loop-name
invariant-loop-name l = all_of (pmid_of l.names) (take l.name-index l.asked) ≡ Some l.pmids
