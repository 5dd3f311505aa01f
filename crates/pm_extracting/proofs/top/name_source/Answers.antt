-- Where there is no line nothing is sent.
use Rattle.std.proofs.Common.{false, refl, sym, subst, List, ℕ}
use Rattle.pcp_outside.specs.Sides.{sink_side}
use Rattle.pm_words.proofs.Sending.{unsent}
use Rattle.pm_words.specs.Streams.{IsSent}
use Rattle.pm_extracting.proofs.top.name_source.Goals as goal

pub returns-in-Some : goal.returns-in-Some
returns-in-Some g c =
    let k = sink_side g.O.Sink c.args.out.now c.send.new.out in
    subst (λ (line : List ℕ). IsSent k line c.send.result) c.in-Some.ensures.line c.send.ensures

pub returns-in-None : goal.returns-in-None
returns-in-None g c =
    let out = c.args.out.now in
    subst (λ (line : List ℕ). IsSent (sink_side g.O.Sink out out) line false) (sym c.in-None.ensures.none) (unsent g.O.Sink out false refl)
