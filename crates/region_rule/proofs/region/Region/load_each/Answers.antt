use Rattle.std.proofs.Common.{◌≡◌, ◌+◌, ◌<◌, ℕ, List, [], ◌∷◌, ◌++◌, length, get_or, set, take, length-set, add-one, sym, ap, ◌∙◌, subst, arith}
use Rattle.std.specs.List.{zip}
use Rattle.region_rule.specs.declared.view.View.{View}
use Rattle.region_rule.specs.Seats.{region_of}
use Rattle.region_rule.specs.Reads.{Reads}
use Rattle.region_rule.proofs.Showing.{reads_more}
use Rattle.region_rule.proofs.Choosing.{zip_more}
use Rattle.region_rule.proofs.region.Region.load_each.Goals as goal

pub loop-at-preserved : goal.loop-at-preserved
loop-at-preserved g c =
    let S = g.S.Shape.shaping in
    let first = c.args.seat.now in
    let old = c.loop-at.seat in
    let new = c.load-found.new.seat in
    let indexes : List ℕ = c.args.indexes.now in
    let out : List ℕ = c.loop-at.out in
    let i : ℕ = c.loop-at.at in
    let x : ℕ = c.load-found.result in
    let inv = c.loop-at.invariant in
    let e = c.load-found.ensures.tells in
    let below : i < length indexes = c.loop-at-test.true in
    let wide = length-set out i x in
    let pairs : zip (take (i + 1) indexes) (take (i + 1) (set out i x)) ≡ zip (take i indexes) (take i out) ++ (get_or indexes i 0, x) ∷ [] =
    rw add-one (zip_more indexes out i x 0 below (omega arith)) in
    let region : region_of new ≡ region_of old = (λ k. record { table = c.load-found.ensures.table k; words = (e.0.is k).start; passes = (e.0.is k).passes }) in (
      omega arith,
      wide ∙ inv.1,
      subst (λ (found : List (ℕ × ℕ)). Reads S first.me.0 found new.me.0) (sym pairs) (reads_more S first.me.0 old.me.0 new.me.0 (zip (take i indexes) (take i out)) (get_or indexes i 0) x inv.2 e.0),
      record { is = region ∙ inv.3.is; named = ap (λ (v : View). v.role) e.0.is ∙ inv.3.named },
      e.1 ∙ inv.4,
      ap (λ (v : View). v.number) e.0.is ∙ inv.5,
      ap (λ (v : View). v.mode) e.0.is ∙ inv.6,
    )
