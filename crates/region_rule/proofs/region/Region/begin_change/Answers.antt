use Rattle.std.proofs.Common.{◌≡◌, ◌<◌, ◌≤◌, ℕ, List, All, length, sym, ap, ◌∙◌, subst, arith}
use Rattle.region_core.specs.Shape.{IsWord}
use Rattle.region_rule.specs.declared.view.View.{View}
use Rattle.region_rule.specs.Seats.{MadeRegion, Token}
use Rattle.region_rule.proofs.Relaying.{loaded_stable, begun_under}
use Rattle.region_rule.proofs.region.Region.begin_change.Goals as goal

pub free-requires-clause-stable : goal.free-requires-clause-stable
free-requires-clause-stable g c =
    let l = loaded_stable g.S.Shape.shaping g.S.Shape.laws c.pass.inside.seat.me.0 c.take-gate.new.seat.me.0 c.load_first-generation.new.seat.me.0 c.take-gate.result c.load_first-generation.result
    c.if-gate-ne0.false c.take-gate.ensures.tells.0 c.pass.invariant.2 c.load_first-generation.ensures.tells.0 in l.1

pub begin-requires-clause-stable : goal.begin-requires-clause-stable
begin-requires-clause-stable g c =
    let l = loaded_stable g.S.Shape.shaping g.S.Shape.laws c.pass.inside.seat.me.0 c.take-gate.new.seat.me.0 c.load_first-generation.new.seat.me.0 c.take-gate.result c.load_first-generation.result
    c.if-gate-ne0.false c.take-gate.ensures.tells.0 c.pass.invariant.2 c.load_first-generation.ensures.tells.0 in l.1

pub begin-requires-clause-above : goal.begin-requires-clause-above
begin-requires-clause-above g c =
    let l = loaded_stable g.S.Shape.shaping g.S.Shape.laws c.pass.inside.seat.me.0 c.take-gate.new.seat.me.0 c.load_first-generation.new.seat.me.0 c.take-gate.result c.load_first-generation.result
    c.if-gate-ne0.false c.take-gate.ensures.tells.0 c.pass.invariant.2 c.load_first-generation.ensures.tells.0 in
    subst (λ (n : ℕ). n < c.next_generation-generation.result) (sym l.2) c.next_generation-generation.ensures.above

pub invariant_of-result-2 : goal.invariant_of-result-2
invariant_of-result-2 g c =
    let v = c.pass.inside.seat.me.0 in
    let u = c.take-gate.new.seat.me.0 in
    let x = c.load_first-generation.new.seat.me.0 in
    let w = c.begin.new.seat.me.0 in
    let take = c.take-gate.ensures.tells in
    let load = c.load_first-generation.ensures.tells in
    let begin = c.begin.ensures.tells in
    let l = loaded_stable g.S.Shape.shaping g.S.Shape.laws v u x c.take-gate.result c.load_first-generation.result c.if-gate-ne0.false take.0 c.pass.invariant.2 load.0 in
    let key : List ℕ = c.self.inside.table.shared.key.words in
    let start : x.start ≡ key = ap (λ (z : View). z.start) load.0.is ∙ ap (λ (z : View). z.start) take.0.is ∙ ap (λ (t : Token). t.region.words) c.pass.view_is ∙ ap (λ (p : MadeRegion). p.words) c.requires.here
    ∙ sym (ap (λ (p : MadeRegion). p.words) c.self.view_is) in
    let count = c.self.invariant.1 in
    let room : length c.args.image.items ≤ length key = omega (arith, c.len.ensures, c.if-len-self.false) in (
      begin.1 ∙ load.1 ∙ take.1 ∙ c.pass.invariant.0,
      ap (λ (z : View). z.role) begin.0.is ∙ ap (λ (z : View). z.role) load.0.is ∙ ap (λ (z : View). z.role) take.0.is ∙ c.pass.invariant.1,
      c.pass.invariant.3 ∙ sym (ap (λ (z : View). z.number) begin.0.is ∙ ap (λ (z : View). z.number) load.0.is ∙ ap (λ (z : View). z.number) take.0.is),
      begun_under g.S.Shape.shaping g.S.Shape.laws x w c.args.image.items c.load_first-generation.result c.next_generation-generation.result begin.0 l.0 load.0.mode l.1 l.2
          c.next_generation-generation.ensures.above c.next_generation-generation.type_inv c.requires.image
          (subst (λ (ws : List ℕ). length c.args.image.items ≤ length ws) (sym start) room) (subst (λ (ws : List ℕ). All IsWord ws) (sym start) c.self.invariant.4),
    )
