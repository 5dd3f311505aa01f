-- A number of fewer than 16 digits has room for one more.
use Rattle.std.proofs.Common.{◌≤◌, ◌^◌, arith, lit<}
use Rattle.std.proofs.Math.Nat.{pow-le-pow_right}
use Rattle.text_lines.proofs.numbers.hex_number.Goals as goal

pub overflow_mul-number : goal.overflow_mul-number
overflow_mul-number c =
    let p : 16 ^ c.loop-digit.digit-index ≤ 16 ^ 15 = pow-le-pow_right {n = 16} (lit< tt) {i = c.loop-digit.digit-index} {j = 15} (omega arith) in omega (arith, p)

pub overflow_add-number : goal.overflow_add-number
overflow_add-number c =
    let p : 16 ^ c.loop-digit.digit-index ≤ 16 ^ 15 = pow-le-pow_right {n = 16} (lit< tt) {i = c.loop-digit.digit-index} {j = 15} (omega arith) in omega (arith, p)
