use Rattle.std.proofs.Common.{◌≡◌, ◌+◌, ◌<◌, ℕ, List, [], ◌∷◌, ◌++◌, length, set, take, length-set, length-take, sym, ap, ◌∙◌, subst, arith}
use Rattle.std.proofs.lemmas.List.{take_more_set}
use Rattle.region_rule.specs.declared.view.View.{View}
use Rattle.region_rule.specs.Seats.{MadeRegion, region_of}
use Rattle.region_rule.specs.Reads.{Reads, numbered_from}
use Rattle.region_rule.proofs.Showing.{reads_more, numbered_more}
use Rattle.region_rule.proofs.region.Region.load_all.Goals as goal

pub loop-index-preserved : goal.loop-index-preserved
loop-index-preserved g c =
    let S = g.S.Shape.shaping in
    let first = c.args.seat.now in
    let old = c.loop-index.seat in
    let new = c.load-found.new.seat in
    let words : List ℕ = c.loop-index.words.items in
    let i : ℕ = c.loop-index.index in
    let x : ℕ = c.load-found.result in
    let inv = c.loop-index.invariant in
    let e = c.load-found.ensures.tells in
    let capacity = c.self.invariant.1 in
    let long : length words ≡ length c.self.inside.table.shared.key.words = inv.1 ∙ c.requires.wide ∙ sym (ap (λ (p : MadeRegion). length p.words) c.self.view_is) in
    let below : i < length words = omega (arith, c.loop-index-test.true) in
    let wide = length-set words i x in
    let front : length (take i words) ≡ i = length-take i words ∙ omega arith in
    let numbers : numbered_from 0 (take (i + 1) (set words i x)) ≡ numbered_from 0 (take i words) ++ (i, x) ∷ [] =
    ap (λ (xs : List ℕ). numbered_from 0 xs) (take_more_set words i x below) ∙ numbered_more 0 (take i words) x ∙ ap (λ (k : ℕ). numbered_from 0 (take i words) ++ (k, x) ∷ []) (omega arith) in
    let region : region_of new ≡ region_of old = (λ k. record { table = c.load-found.ensures.table k; words = (e.0.is k).start; passes = (e.0.is k).passes }) in (
      omega arith,
      wide ∙ inv.1,
      subst (λ (found : List (ℕ × ℕ)). Reads S first.me.0 found new.me.0) (sym numbers) (reads_more S first.me.0 old.me.0 new.me.0 (numbered_from 0 (take i words)) i x inv.2 e.0),
      record { is = region ∙ inv.3.is; named = ap (λ (v : View). v.role) e.0.is ∙ inv.3.named },
      e.1 ∙ inv.4,
      ap (λ (v : View). v.number) e.0.is ∙ inv.5,
      ap (λ (v : View). v.mode) e.0.is ∙ inv.6,
    )

pub returns-clause-some : goal.returns-clause-some
returns-clause-some g c =
    let capacity = c.self.invariant.1 in
    let least = c.self.invariant.2 in
    let long : length c.loop-index.words.items ≡ length c.self.inside.table.shared.key.words = c.loop-index.invariant.1 ∙ c.requires.wide ∙ sym (ap (λ (p : MadeRegion). length p.words) c.self.view_is) in
    omega arith
