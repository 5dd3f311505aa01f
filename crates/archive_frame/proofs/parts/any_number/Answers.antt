use Rattle.std.proofs.Common.{◌≡◌, inl, inr, ◌≤◌, length, get_or, take, drop, refl, sym, subst, arith}
use Rattle.pcp_model.specs.Words.{word}
use Rattle.archive_frame.specs.Labels.{IsFileNumber, IsNumberField, IsNumberOf, IsUpTo, IsFieldFault}
use Rattle.archive_frame.proofs.Chains.{if_ok, if_err}
use Rattle.archive_frame.proofs.Exits.{handed_on}
use Rattle.archive_frame.proofs.Numbers.{low_fault, low_there, high_fault, last_fault, high_there}
use Rattle.archive_frame.proofs.parts.any_number.Goals as goal
use Rattle.archive_frame.proofs.parts.any_number.Goals.{then-bytes-eq20-via-then-bytes-eq20, then-bytes-eq20-via-else-bytes-eq20+then-bytes-lt128, then-bytes-eq23-via-then-bytes-eq23, then-bytes-eq23-via-else-bytes-eq23+then-bytes-lt254}

pub returns-then-bytes-eq20-clause-number : goal.returns-then-bytes-eq20-clause-number
returns-then-bytes-eq20-clause-number c =
    if_ok c.word_up_to.result (λ n. (24 ≤ length c.args.bytes.now) × (n ≤ 2147483647) × (take 4 (drop 20 c.args.bytes.now) ≡ word n)) (IsNumberOf IsFileNumber c.args.bytes.now) c.word_up_to.ensures.word
    (λ n h. low_there c.args.bytes.now n h.0 h.1 h.2)

pub returns-then-bytes-eq20-clause-fault : goal.returns-then-bytes-eq20-clause-fault
returns-then-bytes-eq20-clause-fault c =
    if_err c.word_up_to.result (IsFieldFault (IsUpTo 2147483647) 4 c.args.bytes.now 20) (IsFieldFault (IsNumberField IsFileNumber) 4 c.args.bytes.now 20) c.word_up_to.ensures.fault
    (low_fault c.args.bytes.now
    (elim c.then-bytes-eq20.branch [
      | then-bytes-eq20-via-then-bytes-eq20 w ↦ inl (omega (arith, w.if-bytes-eq20.true))
      | then-bytes-eq20-via-else-bytes-eq20+then-bytes-lt128 w ↦ inr (omega (arith, w.if-bytes-lt128.true))
    ]))

pub returns-in_err-wanted_at-clause-fault : goal.returns-in_err-wanted_at-clause-fault
returns-in_err-wanted_at-clause-fault c =
    handed_on c.from_residual.result c.in_err-wanted_at.field-0.0 c.in_err-wanted_at.field-0.0 (IsFieldFault (IsNumberField IsFileNumber) 4 c.args.bytes.now 20) c.from_residual.ensures.1 refl
    (high_fault c.args.bytes.now (omega (arith, c.requires, c.if-bytes-eq20.false)) (omega (arith, c.if-bytes-lt128.false)) c.in_err-wanted_at.field-0.0 c.in_err-wanted_at.ensures.fault)

pub returns-then-bytes-eq23-clause-fault : goal.returns-then-bytes-eq23-clause-fault
returns-then-bytes-eq23-clause-fault c =
    subst (IsFieldFault (IsNumberField IsFileNumber) 4 c.args.bytes.now 20) (sym c.misfit.ensures)
    (last_fault c.args.bytes.now c.in_ok-wanted_at.ensures.there.0 c.in_ok-wanted_at.ensures.there.1
    (elim c.then-bytes-eq23.branch [
      | then-bytes-eq23-via-then-bytes-eq23 w ↦ inl (omega (arith, w.if-bytes-eq23.true))
      | then-bytes-eq23-via-else-bytes-eq23+then-bytes-lt254 w ↦ inr (omega (arith, w.if-bytes-lt254.true))
    ]))

pub returns-clause-number : goal.returns-clause-number
returns-clause-number c =
    let there : 23 ≤ length c.args.bytes.now = c.in_ok-wanted_at.ensures.there.0 in
    let last : get_or c.args.bytes.now 23 0 ≡ c.from.result = omega (arith, c.from.ensures) in
    high_there c.args.bytes.now c.from.result (omega (arith, there, c.if-bytes-eq23.false)) c.in_ok-wanted_at.ensures.there.1 last
    (omega (arith, last, c.if-bytes-lt254.false)) (omega (arith, last, c.type_inv.bytes 23))
