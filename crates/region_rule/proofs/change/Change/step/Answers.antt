use Rattle.std.proofs.Common.{◌≢◌, ◌<◌, ℕ, length, slice_index, sym, ap, ◌∙◌, subst, arith}
use Rattle.region_core.specs.declared.act.Act.TheVariants.{Put}
use Rattle.region_rule.specs.declared.view.View.{View}
use Rattle.region_rule.specs.Steps.{Extends}
use Rattle.region_rule.specs.Changes.{UnderWay, left_from, left_of}
use Rattle.region_rule.proofs.Places.{some_left}
use Rattle.region_rule.proofs.Relaying.{put_under}
use Rattle.region_rule.proofs.change.Change.step.Goals as goal

pub invariant_of-self : goal.invariant_of-self
invariant_of-self g c =
    let S = g.S.Shape.shaping in
    let laws = g.S.Shape.laws in
    let r = c.self.inside in
    let v = r.seat.me.0 in
    let w = c.put.new.seat.me.0 in
    let tells = c.put.ensures.tells in
    let u = c.self.invariant.3 in
    let wide = (laws.generations r.image.items u.is_image).0 in
    let some : left_from r.next r.image.items ≢ 0 = λ e. c.if-left-eq0.false (c.left.ensures ∙ sym (ap left_of c.self.view_is) ∙ e) in
    let below : r.next < length r.image.items = some_left r.next r.image.items wide (omega arith) in
    let e : Extends S v (Put r.next (slice_index r.image.items r.next)) c.word_at-value.result w = subst (λ (x : ℕ). Extends S v (Put r.next x) c.word_at-value.result w) c.word_at-value.ensures tells.0 in (
      tells.1 ∙ c.self.invariant.0,
      ap (λ (x : View). x.role) tells.0.is ∙ c.self.invariant.1,
      c.self.invariant.2 ∙ sym (ap (λ (x : View). x.number) tells.0.is),
      subst (λ (k : ℕ). UnderWay S w r.image.items k r.generation) (sym c.index_after-self-inside.ensures) (put_under S laws v w r.image.items r.next r.generation c.word_at-value.result u e below),
    )
