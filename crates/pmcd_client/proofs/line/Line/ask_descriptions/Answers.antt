use Rattle.std.proofs.Common.{◌++◌, ◌∷◌, [], ℕ, List, map, sym, ap, ◌∙◌, subst, arith, rules}
use Rattle.std.specs.Vec.Iter.{into_iter_items}
use Rattle.pcp_base.specs.declared.desc.Desc.{Desc}
use Rattle.pcp_outside.specs.Sides.{source_side, sink_side}
use Rattle.pdu_codec.specs.declared.pdu.Pdu.TheVariants as pdus
use Rattle.pmcd_client.specs.Turns.{desc_turn}
use Rattle.pmcd_client.proofs.Looping.{IsTelling, telling_none, telling_more, stops_next, stops_between}
use Rattle.pmcd_client.proofs.line.Line.ask_descriptions.Goals as goal

pub loop-pmid-init : goal.loop-pmid-init
loop-pmid-init g c =
    telling_none g.I.Source g.L.Sink c.args.reply.now c.args.request.now c.args.self.now.replies c.args.metrics.items (into_iter_items c.into_iter-pmid-iterator.result) c.empty-told.result c.empty-told.ensures
    (omega (arith, c.args.self.now.few)) (search rules)

pub returns-in-Err : goal.returns-in-Err
returns-in-Err g c =
    let t = c.loop-pmid.invariant in
    let metric : ℕ × List ℕ = (c.in-Some.pmid, c.in-Some.name) in (
      map pdus.Desc t.descs ++ [],
      stops_next desc_turn pdus.Desc g.I.Source g.L.Sink c.args.reply.now c.loop-pmid.reply c.ask_description.new.reply c.args.request.now c.loop-pmid.request c.ask_description.new.request c.loop-pmid.yielded t.descs metric t.passes
          c.args.metrics.items (into_iter_items c.next.new.self) c.args.self.now.replies c.loop-pmid.self.replies c.in-Err.fault (t.all ∙ ap (λ (l : List (ℕ × List ℕ)). c.loop-pmid.yielded ++ l) c.in-Some.ensures.steps.0) t.count c.in-Err.ensures.done,
    )

pub loop-pmid-preserved : goal.loop-pmid-preserved
loop-pmid-preserved g c =
    let i = g.I.Source in
    let o = g.L.Sink in
    let metric : ℕ × List ℕ = (c.in-Some.pmid, c.in-Some.name) in
    let rest = into_iter_items c.next.new.self in
    let n = c.args.self.now.replies in
    let before =
    subst (λ (l : List (ℕ × List ℕ)). IsTelling (source_side i c.args.reply.now c.loop-pmid.reply) (sink_side o c.args.request.now c.loop-pmid.request) n c.loop-pmid.self.replies c.args.metrics.items c.loop-pmid.yielded l c.loop-pmid.told) c.in-Some.ensures.steps.0 c.loop-pmid.invariant in
    subst (λ (l : List (Desc × List ℕ)). IsTelling (source_side i c.args.reply.now c.ask_description.new.reply) (sink_side o c.args.request.now c.ask_description.new.request) n c.ask_description.new.self.replies c.args.metrics.items (c.loop-pmid.yielded ++ metric ∷ []) rest l) (sym c.in-Ok-push.ensures.ok)
    (telling_more i o c.args.reply.now c.loop-pmid.reply c.ask_description.new.reply c.args.request.now c.loop-pmid.request c.ask_description.new.request n c.loop-pmid.self.replies c.ask_description.new.self.replies c.args.metrics.items c.loop-pmid.yielded rest metric c.loop-pmid.told c.in-Ok.desc before c.in-Ok.ensures.done c.in-Ok.ensures.counted)

pub returns-in-Err-push : goal.returns-in-Err-push
returns-in-Err-push g c =
    let i = g.I.Source in
    let o = g.L.Sink in
    let metric : ℕ × List ℕ = (c.in-Some.pmid, c.in-Some.name) in
    let rest = into_iter_items c.next.new.self in
    let n = c.args.self.now.replies in
    let before =
    subst (λ (l : List (ℕ × List ℕ)). IsTelling (source_side i c.args.reply.now c.loop-pmid.reply) (sink_side o c.args.request.now c.loop-pmid.request) n c.loop-pmid.self.replies c.args.metrics.items c.loop-pmid.yielded l c.loop-pmid.told) c.in-Some.ensures.steps.0 c.loop-pmid.invariant in
    let t =
    telling_more i o c.args.reply.now c.loop-pmid.reply c.ask_description.new.reply c.args.request.now c.loop-pmid.request c.ask_description.new.request n c.loop-pmid.self.replies c.ask_description.new.self.replies c.args.metrics.items c.loop-pmid.yielded rest metric c.loop-pmid.told c.in-Ok.desc before c.in-Ok.ensures.done c.in-Ok.ensures.counted in
    (map pdus.Desc t.descs, stops_between desc_turn pdus.Desc i o c.args.reply.now c.ask_description.new.reply c.args.request.now c.ask_description.new.request (c.loop-pmid.yielded ++ metric ∷ []) t.descs c.args.metrics.items rest n t.passes t.all)
