use Rattle.std.proofs.Common.{◌++◌, ◌%◌, ◌-◌, ◌/◌, [], ◌∷◌, ap, ◌∙◌, append_assoc}
use Rattle.text_lines.specs.Spelling.{hex_glyph, hex_text}
use Rattle.text_lines.proofs.Hex.{hex_last}
use Rattle.text_lines.proofs.writing.+put_hex.Goals as goal

pub returns : goal.returns
returns _ c =
    let digit = hex_glyph (c.args.number % 16) in
    c.in_ok-push.ensures.items ∙ ap (λ g. c.put_hex.new.out.items ++ g ∷ []) c.hex_glyph.ensures ∙ ap (λ xs. xs ++ digit ∷ []) c.in_ok-put_hex.ensures
    ∙ append_assoc c.args.out.now.items (hex_text (c.args.count - 1) (c.args.number / 16)) (digit ∷ [])
    ∙ ap (λ t. c.args.out.now.items ++ t) (hex_last c.args.count c.args.number c.if-count-eq0.false)
