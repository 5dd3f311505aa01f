use Rattle.std.proofs.Common.{◌++◌, ◌+◌, ◌%◌, ◌-◌, ◌/◌, [], ◌∷◌, ap, ◌∙◌, append_assoc}
use Rattle.pm_print.specs.Stamps.{digits}
use Rattle.pm_print.proofs.Digits.{last_digit}
use Rattle.pm_print.proofs.stamps.+put_digits.Goals as goal

pub returns : goal.returns
returns _ c =
    let digit = 48 + c.args.number % 10 in
    c.in_ok-push.ensures.items ∙ ap (λ xs. xs ++ digit ∷ []) c.in_ok-put_digits.ensures
    ∙ append_assoc c.args.out.now.items (digits (c.args.count - 1) (c.args.number / 10)) (digit ∷ [])
    ∙ ap (λ t. c.args.out.now.items ++ t) (last_digit c.args.count c.args.number c.if-count-eq0.false)
