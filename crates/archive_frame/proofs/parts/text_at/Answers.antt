use Rattle.std.proofs.Common.{◌≡◌, ◌+◌, ◌-◌, length, take, drop, arith, sym, subst}
use Rattle.std.proofs.lemmas.List.{length-take, length-drop, take-take}
use Rattle.pcp_base.specs.Texts.{IsText, IsFirstZero}
use Rattle.pcp_model.specs.Labels.{HasText}
use Rattle.archive_frame.specs.Labels.{IsTextField, IsFieldFault}
use Rattle.archive_frame.proofs.Fields.{text_short, text_endless, text_found}
use Rattle.archive_frame.proofs.parts.text_at.Goals as goal

pub returns-then-bytes-at-clause-fault : goal.returns-then-bytes-at-clause-fault
returns-then-bytes-at-clause-fault c =
    let field = take c.args.width (drop c.args.at c.args.bytes.now) in
    let long : length field ≡ length c.args.bytes.now - c.args.at = omega (arith, length-take c.args.width (drop c.args.at c.args.bytes.now), length-drop c.args.at c.args.bytes.now) in
    subst (IsFieldFault (IsTextField c.args.width) c.args.width c.args.bytes.now c.args.at) (sym c.misfit.ensures) (length field, omega (arith, long), text_short c.args.width field (omega (arith, long)))

pub returns-in-None-clause-fault : goal.returns-in-None-clause-fault
returns-in-None-clause-fault c =
    let field = take c.args.width (drop c.args.at c.args.bytes.now) in
    let long : length field ≡ c.args.width = omega (arith, length-take c.args.width (drop c.args.at c.args.bytes.now), length-drop c.args.at c.args.bytes.now) in
    let same : c.args.at + c.args.width - c.args.at ≡ c.args.width = omega arith in
    subst (IsFieldFault (IsTextField c.args.width) c.args.width c.args.bytes.now c.args.at) (sym c.misfit-in-None.ensures)
    (c.args.width - 1, omega arith, text_endless c.args.width field c.requires.wide long (subst (λ n. IsText (take n (drop c.args.at c.args.bytes.now))) same c.in-None.ensures))

pub returns-in-Some-clause-text : goal.returns-in-Some-clause-text
returns-in-Some-clause-text c =
    let field = take c.args.width (drop c.args.at c.args.bytes.now) in
    let long : length field ≡ c.args.width = omega (arith, length-take c.args.width (drop c.args.at c.args.bytes.now), length-drop c.args.at c.args.bytes.now) in
    let same : c.args.at + c.args.width - c.args.at ≡ c.args.width = omega arith in
    let zero : IsFirstZero field c.in-Some.size = subst (λ n. IsFirstZero (take n (drop c.args.at c.args.bytes.now)) c.in-Some.size) same c.in-Some.ensures in (
      omega arith,
      omega (arith, long, zero.within),
      subst (HasText c.args.width field) (take-take c.in-Some.size c.args.width (drop c.args.at c.args.bytes.now) (omega (arith, long, zero.within))) (text_found c.args.width field c.in-Some.size long zero),
    )
