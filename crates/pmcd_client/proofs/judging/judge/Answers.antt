use Rattle.std.proofs.Common.{ℕ, List, Option, Some, ap, ◌∙◌, sym, subst}
use Rattle.pdu_codec.specs.declared.pdu.Pdu.{Pdu}
use Rattle.pdu_codec.specs.declared.pdu.Pdu.TheVariants as pdus
use Rattle.pmcd_client.specs.Pieces.{IsJudged}
use Rattle.pmcd_client.proofs.judging.judge.Goals as goal

pub returns-in-PmnsNames : goal.returns-in-PmnsNames
returns-in-PmnsNames c =
    subst (λ (t : Option Pdu). IsJudged t c.args.reply.now c.judge_metrics.result) (sym (c.in-Some.is ∙ ap (λ (p : Pdu). Some p) c.in-PmnsNames.is))
    (subst (λ (ns : List (List ℕ)). IsJudged (Some (pdus.PmnsNames c.in-PmnsNames.status ns)) c.args.reply.now c.judge_metrics.result) c.as_slice.ensures (c.judge_metrics.ensures c.in-PmnsNames.status))

pub returns-in-InstanceReq : goal.returns-in-InstanceReq
returns-in-InstanceReq c =
    subst (λ (t : Option Pdu). IsJudged t c.args.reply.now c.judge_instances.result) (sym (c.in-Some.is ∙ ap (λ (p : Pdu). Some p) c.in-InstanceReq.is)) (c.judge_instances.ensures c.in-InstanceReq.instance)

pub returns-in-Fetch : goal.returns-in-Fetch
returns-in-Fetch c =
    subst (λ (t : Option Pdu). IsJudged t c.args.reply.now c.judge_values.result) (sym (c.in-Some.is ∙ ap (λ (p : Pdu). Some p) c.in-Fetch.is))
    (subst (λ (ps : List ℕ). IsJudged (Some (pdus.Fetch c.in-Fetch.context c.in-Fetch.sec c.in-Fetch.usec ps)) c.args.reply.now c.judge_values.result) c.as_slice-in-Fetch.ensures (c.judge_values.ensures c.in-Fetch.context c.in-Fetch.sec c.in-Fetch.usec))
