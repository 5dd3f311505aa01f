use Rattle.std.proofs.Common.{sym, ap, arith}
use Rattle.pmns_core.specs.Pairs.{pmid_of}
use Rattle.pmcd_session.specs.Replies.{ids_reply}
use Rattle.pmcd_session.proofs.Many.{all_more, none_has}
use Rattle.pmcd_session.proofs.replies.ids_reply.Goals as goal

pub returns-in_default : goal.returns-in_default
returns-in_default c =
    sym (ap ids_reply (none_has (pmid_of c.args.names.now) c.args.asked.now c.loop-name.name-index c.name-item.result c.name-item.result (omega arith) c.name-item.is
    (grind (arith, c.find.ensures, c.in_default.is))))

pub loop-name-preserved : goal.loop-name-preserved
loop-name-preserved c =
    all_more (pmid_of c.args.names.now) c.args.asked.now c.loop-name.name-index c.name-item.result c.name-item.result c.loop-name.pmids c.push.new.self c.in-Some.pmid
    (omega arith) c.name-item.is c.loop-name.invariant (sym c.in-Some.ensures) c.in_ok-push.ensures.ok
