-- One number more is above the one before it, or not.
use Rattle.std.proofs.Common.{rules, ◌≡◌, suc, ◌+◌, w32, to_z, of_z, ℤ, true, false, cond, drop, sym, ap, ◌∙◌, arith}
use Rattle.std.specs.Prelude.{int_lt, int_le}
use Rattle.std.proofs.lemmas.Int.{to_z-of_z, ints}
use Rattle.pm_print.specs.Rising.{rises_above}
use Rattle.pm_print.proofs.Searching.{one_more}
use Rattle.pm_print.proofs.instances.rises.Goals as goal

not_above : (a b : ℤ) → int_le a b ≡ true → int_lt b a ≡ false
not_above a b h = grind (arith, ints)

above : (a b : ℤ) → int_le a b ≡ false → int_lt b a ≡ true
above a b h = grind (arith, ints)

pub returns-then-number-before : goal.returns-then-number-before
returns-then-number-before c =
    let number : to_z w32 (of_z w32 c.in-Some-number.number) ≡ c.in-Some-number.number = to_z-of_z w32 c.in-Some-number.number (search rules) in
    let before : ℤ = to_z w32 c.loop-at.before-bits in
    let test : int_lt before c.in-Some-number.number ≡ false = not_above c.in-Some-number.number before (sym (ap (λ m. int_le m before) number) ∙ c.if-number-before.true) in
    sym
    (c.loop-at.invariant ∙ one_more c.args.listed.now c.loop-at.at before c.in-Some-number.number c.in-Some-number.ensures
    ∙ ap (λ t. cond t (rises_above c.in-Some-number.number (drop (suc c.loop-at.at) c.args.listed.now)) false) test)

pub loop-at-preserved : goal.loop-at-preserved
loop-at-preserved c =
    let number : to_z w32 (of_z w32 c.in-Some-number.number) ≡ c.in-Some-number.number = to_z-of_z w32 c.in-Some-number.number (search rules) in
    let before : ℤ = to_z w32 c.loop-at.before-bits in
    let test : int_lt before c.in-Some-number.number ≡ true = above c.in-Some-number.number before (sym (ap (λ m. int_le m before) number) ∙ c.if-number-before.false) in
    let next : suc c.loop-at.at ≡ c.loop-at.at + 1 = omega arith in
    c.loop-at.invariant ∙ one_more c.args.listed.now c.loop-at.at before c.in-Some-number.number c.in-Some-number.ensures
    ∙ ap (λ t. cond t (rises_above c.in-Some-number.number (drop (suc c.loop-at.at) c.args.listed.now)) false) test
    ∙ ap (λ k. rises_above c.in-Some-number.number (drop k c.args.listed.now)) next
    ∙ ap (λ m. rises_above m (drop (c.loop-at.at + 1) c.args.listed.now)) (sym number)
