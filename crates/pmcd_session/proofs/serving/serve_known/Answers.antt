use Rattle.std.proofs.Common.{rules, refl, ◌≡◌, to_z, of_z, w32}
use Rattle.pdu_codec.specs.declared.pdu.Pdu.TheVariants as pdus
use Rattle.std.specs.Prelude.{FitsSigned}
use Rattle.std.proofs.lemmas.Int.{to_z-of_z}
use Rattle.pmcd_session.proofs.Moments.{ids_told, instance_told, names_told, told_without}
use Rattle.pmcd_session.proofs.serving.serve_known.Goals as goal

pub returns-in-DescReq-clause-done : goal.returns-in-DescReq-clause-done
returns-in-DescReq-clause-done g c =
    told_without (g.A.Agent.reads c.args.regions.now) c.args.s.now c.tell_description.new.s c.args.request (pdus.DescReq c.in-DescReq.pmid) c.args.moment c.in_ok-reply-in-DescReq.reply c.in-DescReq.is c.requires.moment (λ d h. h) refl c.in_ok-reply-in-DescReq.ensures.told

pub returns-in-InstanceReq-clause-done : goal.returns-in-InstanceReq-clause-done
returns-in-InstanceReq-clause-done g c =
    let fits : FitsSigned w32 c.in-InstanceReq.instance = search rules in
    let same : to_z w32 (of_z w32 c.in-InstanceReq.instance) ≡ c.in-InstanceReq.instance = to_z-of_z w32 c.in-InstanceReq.instance fits in
    told_without (g.A.Agent.reads c.args.regions.now) c.args.s.now c.tell_instances.new.s c.args.request (pdus.InstanceReq c.in-InstanceReq.indom c.in-InstanceReq.instance) c.args.moment c.in_ok-reply-in-InstanceReq.reply c.in-InstanceReq.is c.requires.moment (λ d h. h) refl
    (instance_told (g.A.Agent.reads c.args.regions.now) c.args.s.now c.in-InstanceReq.indom (to_z w32 (of_z w32 c.in-InstanceReq.instance)) c.in-InstanceReq.instance c.tell_instances.new.s c.in_ok-reply-in-InstanceReq.reply same c.in_ok-reply-in-InstanceReq.ensures.told)

pub returns-in-PmnsNames-clause-done : goal.returns-in-PmnsNames-clause-done
returns-in-PmnsNames-clause-done g c =
    told_without (g.A.Agent.reads c.args.regions.now) c.args.s.now c.tell_ids.new.s c.args.request (pdus.PmnsNames c.in-PmnsNames.status c.in-PmnsNames.names) c.args.moment c.in_ok-reply-in-PmnsNames.reply c.in-PmnsNames.is c.requires.moment (λ d h. h) refl
    (ids_told (g.A.Agent.reads c.args.regions.now) c.args.s.now c.in-PmnsNames.status c.as_slice-in-PmnsNames.result.now c.in-PmnsNames.names c.tell_ids.new.s c.in_ok-reply-in-PmnsNames.reply c.as_slice-in-PmnsNames.ensures (c.in_ok-reply-in-PmnsNames.ensures.told c.in-PmnsNames.status))

pub returns-in-PmnsIds-clause-done : goal.returns-in-PmnsIds-clause-done
returns-in-PmnsIds-clause-done g c =
    told_without (g.A.Agent.reads c.args.regions.now) c.args.s.now c.tell_names.new.s c.args.request (pdus.PmnsIds c.in-PmnsIds.status c.in-PmnsIds.pmids) c.args.moment c.in_ok-reply-in-PmnsIds.reply c.in-PmnsIds.is c.requires.moment (λ d h. h) refl
    (names_told (g.A.Agent.reads c.args.regions.now) c.args.s.now c.in-PmnsIds.status c.as_slice-in-PmnsIds.result.now c.in-PmnsIds.pmids c.tell_names.new.s c.in_ok-reply-in-PmnsIds.reply c.as_slice-in-PmnsIds.ensures (c.in_ok-reply-in-PmnsIds.ensures.told c.in-PmnsIds.status))

pub returns-in-PmnsChild-clause-done : goal.returns-in-PmnsChild-clause-done
returns-in-PmnsChild-clause-done g c =
    told_without (g.A.Agent.reads c.args.regions.now) c.args.s.now c.tell_children.new.s c.args.request (pdus.PmnsChild c.in-PmnsChild.name) c.args.moment c.in_ok-reply-in-PmnsChild.reply c.in-PmnsChild.is c.requires.moment (λ d h. h) refl c.in_ok-reply-in-PmnsChild.ensures.told

pub returns-in-PmnsTraverse-clause-done : goal.returns-in-PmnsTraverse-clause-done
returns-in-PmnsTraverse-clause-done g c =
    told_without (g.A.Agent.reads c.args.regions.now) c.args.s.now c.tell_below.new.s c.args.request (pdus.PmnsTraverse c.in-PmnsTraverse.name) c.args.moment c.in_ok-reply-in-PmnsTraverse.reply c.in-PmnsTraverse.is c.requires.moment (λ d h. h) refl c.in_ok-reply-in-PmnsTraverse.ensures.told
