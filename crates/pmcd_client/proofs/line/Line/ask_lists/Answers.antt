use Rattle.std.proofs.Common.{◌+◌, ◌++◌, ◌∷◌, [], ℕ, List, map, take, drop, sym, subst}
use Rattle.pcp_outside.specs.Sides.{source_side, sink_side}
use Rattle.pmcd_client.specs.Pieces.{list_reply}
use Rattle.pmcd_client.specs.Replies.{Listed}
use Rattle.pmcd_client.specs.Turns.{list_turn}
use Rattle.pmcd_client.proofs.Looping.{IsListing, listing_at, listing_more, taken_more, stops_next, stops_between}
use Rattle.pmcd_client.proofs.line.Line.ask_lists.Goals as goal

pub returns-in-Err-clause-done : goal.returns-in-Err-clause-done
returns-in-Err-clause-done g c =
    let i = g.I.Source in
    let o = g.L.Sink in
    let indoms = c.args.indoms.now in
    let at = c.loop-indom.indom-index in
    let indom = c.indom-item.result in
    let t = listing_at (source_side i c.args.reply.now c.loop-indom.reply) (sink_side o c.args.request.now c.loop-indom.request) c.args.self.now.replies c.loop-indom.self.replies indoms at indom c.loop-indom.lists c.loop-indom-test.true c.indom-item.is c.loop-indom.invariant in (
      map list_reply c.loop-indom.lists ++ [],
      stops_next list_turn list_reply i o c.args.reply.now c.loop-indom.reply c.ask_instances.new.reply c.args.request.now c.loop-indom.request c.ask_instances.new.request (take at indoms) c.loop-indom.lists indom t.passes indoms (drop (at + 1) indoms)
          c.args.self.now.replies c.loop-indom.self.replies c.in-Err.fault t.all t.count c.in-Err.ensures.done,
    )

pub loop-indom-preserved : goal.loop-indom-preserved
loop-indom-preserved g c =
    let i = g.I.Source in
    let o = g.L.Sink in
    let indoms = c.args.indoms.now in
    let at = c.loop-indom.indom-index in
    let indom = c.indom-item.result in
    let n = c.args.self.now.replies in
    let k = c.ask_instances.new.self.replies in
    let source = source_side i c.args.reply.now c.ask_instances.new.reply in
    let sink = sink_side o c.args.request.now c.ask_instances.new.request in
    let t = listing_at (source_side i c.args.reply.now c.loop-indom.reply) (sink_side o c.args.request.now c.loop-indom.request) n c.loop-indom.self.replies indoms at indom c.loop-indom.lists c.loop-indom-test.true c.indom-item.is c.loop-indom.invariant in
    subst (λ (l : List Listed). IsListing source sink n k indoms (take (at + 1) indoms) (drop (at + 1) indoms) l) (sym c.in-Ok-push.ensures.ok)
    (subst (λ (l : List ℕ). IsListing source sink n k indoms l (drop (at + 1) indoms) (c.loop-indom.lists ++ (indom, c.in-Ok.pairs) ∷ [])) (taken_more indoms at indom c.loop-indom-test.true c.indom-item.is)
    (listing_more i o c.args.reply.now c.loop-indom.reply c.ask_instances.new.reply c.args.request.now c.loop-indom.request c.ask_instances.new.request n c.loop-indom.self.replies k indoms (take at indoms) (drop (at + 1) indoms) indom c.loop-indom.lists (indom, c.in-Ok.pairs) t c.in-Ok.ensures.done c.in-Ok.ensures.counted))

pub returns-in-Err-push-clause-done : goal.returns-in-Err-push-clause-done
returns-in-Err-push-clause-done g c =
    let i = g.I.Source in
    let o = g.L.Sink in
    let indoms = c.args.indoms.now in
    let at = c.loop-indom.indom-index in
    let indom = c.indom-item.result in
    let n = c.args.self.now.replies in
    let lists = c.loop-indom.lists ++ (indom, c.in-Ok.pairs) ∷ [] in
    let t = listing_at (source_side i c.args.reply.now c.loop-indom.reply) (sink_side o c.args.request.now c.loop-indom.request) n c.loop-indom.self.replies indoms at indom c.loop-indom.lists c.loop-indom-test.true c.indom-item.is c.loop-indom.invariant in
    let more = listing_more i o c.args.reply.now c.loop-indom.reply c.ask_instances.new.reply c.args.request.now c.loop-indom.request c.ask_instances.new.request n c.loop-indom.self.replies c.ask_instances.new.self.replies indoms (take at indoms) (drop (at + 1) indoms) indom c.loop-indom.lists (indom, c.in-Ok.pairs) t c.in-Ok.ensures.done c.in-Ok.ensures.counted in
    (map list_reply lists, stops_between list_turn list_reply i o c.args.reply.now c.ask_instances.new.reply c.args.request.now c.ask_instances.new.request (take at indoms ++ indom ∷ []) lists indoms (drop (at + 1) indoms) n more.passes more.all)
