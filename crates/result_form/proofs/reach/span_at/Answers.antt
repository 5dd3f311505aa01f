use Rattle.std.proofs.Common.{◌≡◌, ◌+◌, sym, ◌∙◌, arith}
use Rattle.pcp_base.specs.Fields.{number_at}
use Rattle.result_form.specs.Faults.{HasValues, HasMode, pairs_end}
use Rattle.result_form.proofs.FaultRules.{ends_in_metric, ends_in_number, ends_in_mode, is_bad_mode, ends_in_pairs}
use Rattle.result_form.proofs.Reaches.{span_status, span_place, span_blocks, span_handed, status_of, values_of}
use Rattle.result_form.proofs.reach.span_at.Goals as goal

pub returns-in_err-word_at-clause-span : goal.returns-in_err-word_at-clause-span
returns-in_err-word_at-clause-span c =
    let cut = c.in_err-word_at.ensures.cases in
    span_handed c.args.payload.now c.args.at c.from_residual.result c.in_err-word_at.field-0.0 _ c.from_residual.ensures.1 cut.1 (ends_in_metric c.args.payload.now c.args.at cut.0)

pub returns-in_err-number-clause-span : goal.returns-in_err-number-clause-span
returns-in_err-number-clause-span c =
    let one = c.in_ok-word_at.ensures.cases in
    let cut = c.in_err-number.ensures.cases in
    span_handed c.args.payload.now c.args.at c.from_residual-in_err-number.result c.in_err-number.field-0.0 _ c.from_residual-in_err-number.ensures.1 cut.1
    (ends_in_number c.args.payload.now c.args.at one.0 (omega (arith, cut.0)))

pub returns-then-is_status-clause-span : goal.returns-then-is_status-clause-span
returns-then-is_status-clause-span c =
    let two = c.in_ok-number.ensures.cases in
    span_status c.args.payload.now c.args.at (omega (arith, two.0)) (status_of c.args.payload.now c.args.at c.in_ok-number.number two.1 (sym c.is_status.ensures ∙ c.if-is_status.true))

pub returns-in_err-mode-clause-span : goal.returns-in_err-mode-clause-span
returns-in_err-mode-clause-span c =
    let two = c.in_ok-number.ensures.cases in
    let cut = c.in_err-mode.ensures.cases in
    let v : HasValues c.args.payload.now c.args.at = values_of c.args.payload.now c.args.at c.in_ok-number.number two.0 two.1 (sym c.is_status.ensures ∙ c.if-is_status.false) in
    span_handed c.args.payload.now c.args.at c.from_residual-in_err-mode.result c.in_err-mode.field-0.0 _ c.from_residual-in_err-mode.ensures.1 cut.1
    (ends_in_mode c.args.payload.now c.args.at v (omega (arith, cut.0)))

pub returns-then-mode-gt1-clause-span : goal.returns-then-mode-gt1-clause-span
returns-then-mode-gt1-clause-span c =
    let two = c.in_ok-number.ensures.cases in
    let three = c.in_ok-mode.ensures.cases in
    let v : HasValues c.args.payload.now c.args.at = values_of c.args.payload.now c.args.at c.in_ok-number.number two.0 two.1 (sym c.is_status.ensures ∙ c.if-is_status.false) in
    is_bad_mode c.args.payload.now c.args.at v (omega (arith, three.0)) (omega (arith, three.1, c.if-mode-gt1.true))

pub returns-in_err-next-clause-span : goal.returns-in_err-next-clause-span
returns-in_err-next-clause-span c =
    let two = c.in_ok-number.ensures.cases in
    let three = c.in_ok-mode.ensures.cases in
    let bytes = c.args.payload.now in
    let at = c.args.at in
    let v : HasValues bytes at = values_of bytes at c.in_ok-number.number two.0 two.1 (sym c.is_status.ensures ∙ c.if-is_status.false) in
    let m : HasMode bytes at = (v, omega (arith, three.0), omega (arith, three.1, c.if-mode-gt1.false)) in
    span_handed bytes at c.from_residual-in_err-next.result c.in_err-next.field-0.0 _ c.from_residual-in_err-next.ensures.1 c.in_err-next.ensures.1
    (ends_in_pairs bytes at m (omega (arith, c.in_err-next.ensures.0, two.1)))

pub returns-then-mode-eq0-clause-span : goal.returns-then-mode-eq0-clause-span
returns-then-mode-eq0-clause-span c =
    let two = c.in_ok-number.ensures.cases in
    let three = c.in_ok-mode.ensures.cases in
    let bytes = c.args.payload.now in
    let at = c.args.at in
    let v : HasValues bytes at = values_of bytes at c.in_ok-number.number two.0 two.1 (sym c.is_status.ensures ∙ c.if-is_status.false) in
    let m : HasMode bytes at = (v, omega (arith, three.0), omega (arith, three.1, c.if-mode-gt1.false)) in
    let next : c.in_ok-next.next ≡ pairs_end bytes at = omega (arith, c.in_ok-next.ensures.0, two.1) in
    span_place bytes at c.in_ok-next.next next m (omega (arith, next, c.in_ok-next.ensures.1)) (omega (arith, three.1, c.if-mode-eq0.true))

pub returns-clause-span : goal.returns-clause-span
returns-clause-span c =
    let two = c.in_ok-number.ensures.cases in
    let three = c.in_ok-mode.ensures.cases in
    let bytes = c.args.payload.now in
    let at = c.args.at in
    let v : HasValues bytes at = values_of bytes at c.in_ok-number.number two.0 two.1 (sym c.is_status.ensures ∙ c.if-is_status.false) in
    let m : HasMode bytes at = (v, omega (arith, three.0), omega (arith, three.1, c.if-mode-gt1.false)) in
    let next : c.in_ok-next.next ≡ pairs_end bytes at = omega (arith, c.in_ok-next.ensures.0, two.1) in
    let mode : number_at bytes (at + 8) ≡ 1 = omega (arith, three.1, c.if-mode-gt1.false, c.if-mode-eq0.false) in
    span_blocks bytes at c.in_ok-next.next c.in_ok-number.number two.1 next m (omega (arith, next, c.in_ok-next.ensures.1)) mode
