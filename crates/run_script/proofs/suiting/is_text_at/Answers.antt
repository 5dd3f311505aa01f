-- Byte by byte.
use Rattle.std.proofs.Common.{sym, ◌∙◌}
use Rattle.run_script.proofs.TextBytes.{agrees_zero, agrees_end, agrees_short, agrees_other, agrees_more}
use Rattle.run_script.proofs.suiting.is_text_at.Goals as goal

pub returns-then-byte-eq0 : goal.returns-then-byte-eq0
returns-then-byte-eq0 c =
    c.is_empty.ensures
    ∙ sym (agrees_zero c.args.words.now c.args.place c.args.text.now c.loop-k.k c.loop-k.rest.now c.loop-k.invariant (sym c.byte_at-byte.ensures ∙ c.if-byte-eq0.true))

pub returns-in_default : goal.returns-in_default
returns-in_default c =
    sym (agrees_short c.args.words.now c.args.place c.args.text.now c.loop-k.k c.loop-k.rest.now c.loop-k.invariant c.in_default.ensures.cases c.loop-k-test.true
    (λ z. c.if-byte-eq0.false (c.byte_at-byte.ensures ∙ z)))

pub returns-then-first-byte : goal.returns-then-first-byte
returns-then-first-byte c =
    sym (agrees_other c.args.words.now c.args.place c.args.text.now c.loop-k.k c.loop-k.rest.now c.in-Some.first.now c.in-Some.behind.now c.loop-k.invariant c.in-Some.ensures.cases.0 c.loop-k-test.true
    (λ z. c.if-byte-eq0.false (c.byte_at-byte.ensures ∙ z)) (λ z. c.if-first-byte.true (z ∙ sym c.byte_at-byte.ensures)))

pub loop-k-preserved : goal.loop-k-preserved
loop-k-preserved c =
    agrees_more c.args.words.now c.args.place c.args.text.now c.loop-k.k c.loop-k.rest.now c.in-Some.first.now c.in-Some.behind.now c.loop-k.invariant c.in-Some.ensures.cases.0 c.loop-k-test.true
    (λ z. c.if-byte-eq0.false (c.byte_at-byte.ensures ∙ z)) (c.if-first-byte.false ∙ c.byte_at-byte.ensures)

pub returns : goal.returns
returns c = c.is_empty-2.ensures ∙ sym (agrees_end c.args.words.now c.args.place c.args.text.now c.loop-k.k c.loop-k.rest.now c.loop-k.invariant c.loop-k-test.false)
