-- A text of an image is no longer than its string.
use Rattle.std.proofs.Common.{◌≡◌, ◌≤◌, ℕ, List, length, sym, subst}
use Rattle.mmv_layout.specs.Fields.{text_at}
use Rattle.fetch_answers.proofs.Bounds.{text_length}
use Rattle.fetch_answers.proofs.values.content_at.Goals as goal

pub returns-clause-fits : goal.returns-clause-fits
returns-clause-fits c =
    let is : c.in_ok-text.text ≡ text_at c.args.words.now c.extra_in_value-extra.result 256 = c.in_ok-text.ensures in
    subst (λ (text : List ℕ). length text ≤ 256) (sym is) (text_length c.args.words.now c.extra_in_value-extra.result 256)
