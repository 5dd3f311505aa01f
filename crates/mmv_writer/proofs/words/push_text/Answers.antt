-- One word after the other.
use Rattle.std.proofs.Common.{◌≡◌, ℕ, List, ◌+◌, ◌-◌, ◌*◌, ◌++◌, drop, ap, sym, ◌∙◌, arith}
use Rattle.std.proofs.lemmas.List.{drop-drop}
use Rattle.mmv_layout.specs.Fields.{first_words}
use Rattle.mmv_layout.proofs.Texts.{words_end, words_grow}
use Rattle.mmv_writer.proofs.words.push_text.Goals as goal

drop_more : (i : ℕ) (bytes : List ℕ) → drop (8 * (i + 1)) bytes ≡ drop 8 (drop (8 * i) bytes)
drop_more i bytes =
    let next : 8 * (i + 1) ≡ 8 * i + 8 = omega arith in
    ap (λ n. drop n bytes) next ∙ sym (drop-drop 8 (8 * i) bytes)

pub loop-k-preserved : goal.loop-k-preserved
loop-k-preserved c =
    ap (λ items. items ++ first_words (c.args.count - (c.loop-k.k + 1)) (drop (8 * (c.loop-k.k + 1)) c.as_slice-bytes.result.now)) c.in_ok-push.ensures.items
    ∙ words_grow c.loop-k.out.items _ (drop (8 * c.loop-k.k) c.as_slice-bytes.result.now) _ (c.args.count - c.loop-k.k) _ _ (omega arith) c.word_at.ensures (drop_more c.loop-k.k c.as_slice-bytes.result.now) c.loop-k.invariant

pub returns : goal.returns
returns c =
    words_end c.loop-k.out.items _ _ _ (omega arith) c.loop-k.invariant ∙ ap (λ b. c.args.out.now.items ++ first_words c.args.count b) c.as_slice-bytes.ensures.value
