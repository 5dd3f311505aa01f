use Rattle.std.proofs.Common.{◌≡◌, ℕ, List, [], ◌∷◌, ◌++◌, sym, refl, ap, ◌∙◌, subst}
use Rattle.region_core.specs.declared.act.Act.{Act}
use Rattle.region_core.specs.declared.act.Act.TheVariants.{End, Free}
use Rattle.region_rule.specs.Changes.{UnderWay, Relaying, left_of, left_from, puts_left, Acts, last_acts}
use Rattle.region_rule.proofs.Places.{puts_none, all_stored}
use Rattle.region_rule.proofs.Relaying.{end_image, ended}
use Rattle.region_rule.proofs.change.Change.close.Goals as goal

pub end-requires-clause-image : goal.end-requires-clause-image
end-requires-clause-image g c =
    let S = g.S.Shape.shaping in
    let r = c.self.inside in
    let done : left_from r.next r.image.items ≡ 0 = ap left_of c.self.view_is ∙ c.requires.done in
    let u = c.self.invariant.3 in
    let wide = (g.S.Shape.laws.generations r.image.items u.is_image).0 in
    end_image S g.S.Shape.laws r.seat.me.0 r.image.items r.generation (subst (λ (k : ℕ). UnderWay S r.seat.me.0 r.image.items k r.generation) (all_stored r.next r.image.items wide u.most done) u)

pub free-requires-clause-stable : goal.free-requires-clause-stable
free-requires-clause-stable g c =
    let r = c.self.inside in
    let e = ended g.S.Shape.shaping g.S.Shape.laws r.seat.me.0 c.end.new.seat.me.0 r.image.items r.next r.generation r.generation c.self.invariant.3 c.end.ensures.tells.0 in e.1

pub returns-clause-finishes : goal.returns-clause-finishes
returns-clause-finishes g c =
    let S = g.S.Shape.shaping in
    let r = c.self.inside in
    let w = c.free.new.seat.me.0 in
    let done : left_from r.next r.image.items ≡ 0 = ap left_of c.self.view_is ∙ c.requires.done in
    let u = c.self.invariant.3 in
    let wide = (g.S.Shape.laws.generations r.image.items u.is_image).0 in
    let none : puts_left r.next r.image.items ≡ [] = puts_none r.next r.image.items wide (all_stored r.next r.image.items wide u.most done) in
    subst (λ (change : Relaying). Acts S change.token.view (last_acts change) w) c.self.view_is
    (subst (λ (acts : List Act). Acts S r.seat.me.0 (acts ++ (End r.generation ∷ Free ∷ [])) w) (sym none)
    (r.generation, c.end.new.seat.me.0, c.end.ensures.tells.0, (c.free.result, w, c.free.ensures.tells.0, refl)))
