-- The string that was found has the text.
use Rattle.std.proofs.Common.{◌≡◌, ◌<◌, ℕ, List, bytes_eq, true, ap, sym, subst, ◌∙◌}
use Rattle.mmv_layout.specs.Entries.{string_at, string_count}
use Rattle.mmv_layout.specs.Rows.{string_text}
use Rattle.mmv_layout.specs.Form.{texts_of}
use Rattle.run_script.proofs.TextBytes.{any_found}
use Rattle.run_script.proofs.suiting.has_text.Goals as goal

pub returns-then-is_text_at : goal.returns-then-is_text_at
unfolding texts_of
returns-then-is_text_at c =
    let words = c.args.words.now in
    let below : c.loop-i.i < string_count words = subst (λ n. c.loop-i.i < n) c.string_count-i-end.ensures c.loop-i-test.true in
    let here : bytes_eq (string_text words (string_at words c.loop-i.i)) c.args.text.now ≡ true =
    ap (λ place. bytes_eq (string_text words place) c.args.text.now) (sym c.string_at.ensures.offset) ∙ (sym c.is_text_at.ensures ∙ c.if-is_text_at.true) in
    sym (any_found (λ (found : ℕ × List ℕ). bytes_eq found.1 c.args.text.now) (string_count words) c.loop-i.i (λ i. (string_at words i, string_text words (string_at words i))) below here)
