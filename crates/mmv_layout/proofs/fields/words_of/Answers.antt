-- One word after the other.
use Rattle.std.proofs.Common.{◌≡◌, ℕ, List, ◌+◌, ◌-◌, ◌*◌, ◌/◌, ◌++◌, length, drop, ap, sym, ◌∙◌, arith}
use Rattle.std.proofs.lemmas.List.{drop-drop}
use Rattle.mmv_layout.specs.Fields.{first_words, words_of}
use Rattle.mmv_layout.proofs.Texts.{words_end, words_grow}
use Rattle.mmv_layout.proofs.fields.words_of.Goals as goal

drop_more : (i : ℕ) (bytes : List ℕ) → drop (8 * (i + 1)) bytes ≡ drop 8 (drop (8 * i) bytes)
drop_more i bytes =
    let next : 8 * (i + 1) ≡ 8 * i + 8 = omega arith in
    ap (λ n. drop n bytes) next ∙ sym (drop-drop 8 (8 * i) bytes)

pub loop-i-preserved : goal.loop-i-preserved
loop-i-preserved c =
    ap (λ items. items ++ first_words (length c.args.bytes.now / 8 - (c.loop-i.i + 1)) (drop (8 * (c.loop-i.i + 1)) c.args.bytes.now)) c.in_ok-push.ensures.items
    ∙ words_grow c.loop-i.words.items _ (drop (8 * c.loop-i.i) c.args.bytes.now) _ (length c.args.bytes.now / 8 - c.loop-i.i) _ _ (omega arith) c.word_of.ensures (drop_more c.loop-i.i c.args.bytes.now) c.loop-i.invariant

pub returns : goal.returns
unfolding words_of
returns c = words_end c.loop-i.words.items _ _ _ (omega arith) c.loop-i.invariant
