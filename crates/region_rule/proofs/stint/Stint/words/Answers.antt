use Rattle.std.proofs.Common.{◌≡◌, ℕ, List, length, sym, ap, ◌∙◌, subst}
use Rattle.region_rule.specs.Seats.{MadeRegion, Token}
use Rattle.region_rule.specs.Reads.{numbered_from, ReadsInside}
use Rattle.region_rule.proofs.Showing.{reads_inside, reads_there, reads_had}
use Rattle.region_rule.proofs.stint.Stint.words.Goals as goal

pub invariant_of-self : goal.invariant_of-self
invariant_of-self g c =
    let S = g.S.Shape.shaping in
    let v = c.self.inside.seat.me.0 in
    let w = c.load_all.new.seat.me.0 in
    let e = c.load_all.ensures in (
      e.seat.1 ∙ c.self.invariant.0,
      e.seat.0.named,
      e.seat.3 ∙ c.self.invariant.2,
      c.self.invariant.3 ∙ sym e.seat.2,
      reads_there S v w (numbered_from 0 c.load_all.new.words.items) e.reads c.self.invariant.4,
      reads_had S v w (numbered_from 0 c.load_all.new.words.items) e.reads c.self.invariant.5,
    )

pub returns-clause-reads : goal.returns-clause-reads
returns-clause-reads g c =
    let S = g.S.Shape.shaping in
    let v = c.self.inside.seat.me.0 in
    let w = c.load_all.new.seat.me.0 in
    let words : List ℕ = c.load_all.new.words.items in
    let e = c.load_all.ensures in
    let start : v.start ≡ c.args.region.now.words = ap (λ (t : Token). t.region.words) c.self.view_is ∙ ap (λ (p : MadeRegion). p.words) c.requires.here in
    let whole : length words ≡ length v.start = e.wide ∙ c.requires.wide ∙ sym (ap (λ (ws : List ℕ). length ws) start) in
    subst (λ (t : Token). ReadsInside S t.view words w) c.self.view_is
    (reads_inside S g.S.Shape.laws v w words e.reads c.self.invariant.2 c.self.invariant.4 e.some whole)
