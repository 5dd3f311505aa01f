use Rattle.std.proofs.Common.{◌≡◌, ◌+◌, ◌-◌, ◌<◌, ℕ, List, length, take, sym, ap, ◌∙◌, arith}
use Rattle.archive_reader.specs.Asked.{last_filled}
use Rattle.archive_reader.proofs.Backs.{filled_here, filled_before}
use Rattle.archive_reader.proofs.lasts.last_filled.Goals as goal

pub returns-then-volume-gt132 : goal.returns-then-volume-gt132
returns-then-volume-gt132 c =
    let vs : List (ℕ × ℕ) = c.args.volumes.now in
    let left : ℕ = c.loop-left.left in
    let here : left - 1 + 1 ≡ left = omega (arith, c.loop-left-test.true) in
    let within : left - 1 < length vs = omega (arith, c.loop-left-test.true, c.loop-left.invariant.within, c.loop-left.invariant.few) in
    sym (filled_here vs (left - 1) within c.if-volume-gt132.true) ∙ ap (λ n. last_filled (take n vs)) here ∙ c.loop-left.invariant.same

pub loop-left-preserved : goal.loop-left-preserved
loop-left-preserved c =
    let vs : List (ℕ × ℕ) = c.args.volumes.now in
    let left : ℕ = c.loop-left.left in
    let here : left - 1 + 1 ≡ left = omega (arith, c.loop-left-test.true) in
    let within : left - 1 < length vs = omega (arith, c.loop-left-test.true, c.loop-left.invariant.within, c.loop-left.invariant.few) in
    record {
      within = omega (arith, c.loop-left.invariant.within);
      few = c.loop-left.invariant.few;
      same = sym (filled_before vs (left - 1) within c.if-volume-gt132.false) ∙ ap (λ n. last_filled (take n vs)) here ∙ c.loop-left.invariant.same;
    }
