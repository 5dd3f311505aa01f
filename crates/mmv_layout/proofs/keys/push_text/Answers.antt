-- The list grows byte by byte until the text ends.
use Rattle.std.proofs.Common.{◌+◌, ◌-◌, ◌++◌, ap, ◌∙◌, arith}
use Rattle.mmv_layout.specs.Fields.{text_at}
use Rattle.mmv_layout.proofs.Texts.{text_ends, text_grows}
use Rattle.mmv_layout.proofs.keys.push_text.Goals as goal

pub returns-then-byte-eq0 : goal.returns-then-byte-eq0
returns-then-byte-eq0 c =
    text_ends c.args.words.now c.loop-k.keys.items _ (c.args.at + c.loop-k.k) (c.args.n - c.loop-k.k) (λ some. grind arith) c.loop-k.invariant

pub loop-k-preserved : goal.loop-k-preserved
loop-k-preserved c =
    ap (λ items. items ++ text_at c.args.words.now (c.args.at + (c.loop-k.k + 1)) (c.args.n - (c.loop-k.k + 1))) c.in_ok-push.ensures.items
    ∙ text_grows c.args.words.now c.loop-k.keys.items _ (c.args.at + c.loop-k.k) _ (c.args.n - c.loop-k.k) _ _ (omega arith) (omega arith) c.byte_at-byte.ensures (grind arith) c.loop-k.invariant

pub returns : goal.returns
returns c =
    text_ends c.args.words.now c.loop-k.keys.items _ (c.args.at + c.loop-k.k) (c.args.n - c.loop-k.k) (λ some. absurd (omega arith)) c.loop-k.invariant
