use Rattle.std.proofs.Common.{◌≡◌, ◌+◌, ◌-◌, ◌<◌, ◌≤◌, ℕ, suc, [], ◌∷◌, ◌++◌, sym, ap, ◌∙◌, arith}
use Rattle.region_rule.specs.Views.{fresh_view, numbers_from}
use Rattle.region_rule.specs.Seats.{MadeRegion, token_of}
use Rattle.region_rule.specs.Calls.{fresh_from}
use Rattle.region_rule.proofs.Rows.{fresh_more, fresh_token}
use Rattle.region_rule.proofs.region.Region.hand_out.Goals as goal

pub loop-number-preserved : goal.loop-number-preserved
loop-number-preserved g c =
    let n = c.loop-number.number in
    let region : MadeRegion = c.args.self.now in
    let i = c.loop-number.invariant in
    let given = c.hand_on-next.ensures.given in
    let next = c.hand_on-next.ensures.next in
    let count : region.passes ≡ c.args.passes = sym c.requires.passes.1 in
    let token : token_of c.hand_on-next.new.seat ≡ record { region = region; view = fresh_view region.words region.passes n [] } = fresh_token c.hand_on-next.new.seat region n (given.0 ∙ i.2) given.1 in
    let pushed : c.push.new.self.items ≡ c.loop-number.given.items ++ token_of c.hand_on-next.new.seat ∷ [] = let e = c.in_ok-push.ensures in e.items in
    let further : suc n ≡ n + 1 = omega arith in
    let two : n + 2 ≡ n + 1 + 1 = omega arith in (
      c.loop-number-test.true,
      pushed ∙ (λ k. i.1 k ++ token k ∷ []) ∙ fresh_more region 0 n n (omega arith) ∙ ap (λ (m : ℕ). fresh_from region 0 m) further,
      next.0 ∙ i.2,
      next.1 ∙ (λ k. (fresh_view region.words (count k) (n + 1) (numbers_from (two k) (count k - two k)), [])),
    )

pub returns : goal.returns
returns g c =
    let n = c.loop-number.number in
    let region : MadeRegion = c.args.self.now in
    let i = c.loop-number.invariant in
    let count : c.args.passes ≡ region.passes = c.requires.passes.1 in
    let below : n < c.args.passes = i.0 in
    let most : c.args.passes ≤ n + 1 = c.loop-number-test.false in
    let none : c.args.passes - (n + 1) ≡ 0 = omega arith in
    let me : c.loop-number.seat.me ≡ (fresh_view region.words region.passes n [], []) = i.3 ∙ (λ k. (fresh_view region.words (count k) n (numbers_from (n + 1) (none k)), [])) in
    let token : token_of c.loop-number.seat ≡ record { region = region; view = fresh_view region.words region.passes n [] } = fresh_token c.loop-number.seat region n i.2 me in
    let pushed : c.push-2.new.self.items ≡ c.loop-number.given.items ++ token_of c.loop-number.seat ∷ [] = let e = c.in_ok-push-2.ensures in e.items in
    let end : suc n ≡ c.args.passes = omega arith in
    let grown : c.loop-number.given.items ++ token_of c.loop-number.seat ∷ [] ≡ fresh_from region 0 n ++ record { region = region; view = fresh_view region.words region.passes n [] } ∷ [] = (λ k. i.1 k ++ token k ∷ []) in
    let all : fresh_from region 0 (suc n) ≡ fresh_from region 0 c.args.passes = ap (λ (m : ℕ). fresh_from region 0 m) end in
    pushed ∙ (grown ∙ (fresh_more region 0 n n (omega arith) ∙ all))
