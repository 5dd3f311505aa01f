use Rattle.std.proofs.Common.{◌∙◌, Option, Some, is_some, sym, ap, subst, refl}
use Rattle.std.specs.Prelude.{option_to_list}
use Rattle.pcp_base.specs.Time.{Moment}
use Rattle.pdu_codec.specs.declared.pdu.Pdu.TheVariants as pdus
use Rattle.pmcd_session.specs.Serving.{FetchesIf, may_fetch}
use Rattle.pmcd_session.proofs.Moments.{fetched}
use Rattle.pmcd_session.proofs.serving.fetch.Goals as goal

pub returns-clause-done : goal.returns-clause-done
returns-clause-done g c =
    let reads = g.A.Agent.reads c.args.regions.now in
    let after = record c.args.s.now { agent = c.fetch.new.self } in
    let done = fetched reads c.args.s.now after c.args.context c.args.pmids.now c.in-Some.stamp c.in-Some-profile.profile.now c.in_ok-answer.answer
    (ap is_some (sym c.in-Some.is) ∙ c.requires.moment) c.in-Some-profile.ensures.value (record { met = refl; contexts = refl }) c.in_ok-answer.ensures.answer in
    subst (λ (m : Option Moment). FetchesIf reads (may_fetch c.args.context c.args.pmids.now) c.args.s.now c.args.context c.args.pmids.now
    (record { moments = option_to_list m; reply = Some (pdus.Result c.in_ok-answer.answer); after = after })) (sym c.in-Some.is) done
