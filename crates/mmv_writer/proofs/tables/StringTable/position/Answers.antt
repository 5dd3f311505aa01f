-- What is kept of the text, or what a look at each string finds.
use Rattle.std.proofs.Common.{◌∙◌, ap, bytes_eq}
use Rattle.std.specs.List.{position}
use Rattle.mmv_writer.specs.Tables.{texts_behind, first_of}
use Rattle.mmv_writer.proofs.Firsts.{told_at}
use Rattle.mmv_writer.proofs.ReadTexts.{position_read}
use Rattle.mmv_writer.proofs.tables.StringTable.position.Goals as goal

pub returns-in-Some : goal.returns-in-Some
returns-in-Some c =
    told_at (first_of c.self.inside.firsts c.args.text.now) (position (λ other. bytes_eq other c.args.text.now) (texts_behind c.self.inside.strings)) c.in-Some.at.now
    (c.self.invariant c.args.text.now) (c.in-Some.ensures.value ∙ ap (first_of c.self.inside.firsts) c.as_slice.ensures.value)
    ∙ ap (position (λ other. bytes_eq other c.args.text.now)) c.self.view_is

pub returns-in-None : goal.returns-in-None
returns-in-None c =
    c.position_in.ensures ∙ position_read c.args.text.now c.as_slice-in-None.result.now
    ∙ ap (λ strings. position (λ other. bytes_eq other c.args.text.now) (texts_behind strings)) c.as_slice-in-None.ensures
    ∙ ap (position (λ other. bytes_eq other c.args.text.now)) c.self.view_is
