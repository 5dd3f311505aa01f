use Rattle.std.proofs.Common.{sym, ap, ◌∙◌, Some, arith}
use Rattle.pmns_core.specs.Pairs.{least_name}
use Rattle.pmcd_session.specs.Replies.{names_reply, no_metric}
use Rattle.pmcd_session.proofs.Many.{all_more, none_has}
use Rattle.pmcd_session.proofs.replies.names_reply.Goals as goal

pub returns-in_default : goal.returns-in_default
returns-in_default c =
    sym (ap (names_reply no_metric) (none_has (least_name c.args.names.now) c.args.asked.now c.loop-pmid.pmid-index c.pmid-item.result c.pmid-item.result (omega arith) c.pmid-item.is
    (grind (arith, c.name_of.ensures.name, c.in_default.is))))

pub loop-pmid-preserved : goal.loop-pmid-preserved
loop-pmid-preserved c =
    all_more (least_name c.args.names.now) c.args.asked.now c.loop-pmid.pmid-index c.pmid-item.result c.pmid-item.result c.loop-pmid.found c.push.new.self c.in_ok-copy.field-0
    (omega arith) c.pmid-item.is c.loop-pmid.invariant (sym c.in-Some.ensures.name ∙ ap (λ n. Some n) (sym c.in_ok-copy.ensures)) c.in_ok-push.ensures.ok
