-- The first line is refused or begins the builder, which the other lines go through.
use Rattle.std.proofs.Common.{Err, subst, sym}
use Rattle.mmv_writer.specs.Reading.{text_image, Answers}
use Rattle.mmv_writer.proofs.TextRows.{unended_text, text_fault_told}
use Rattle.mmv_writer.proofs.reading.read_text.Goals as goal

pub returns-in_default : goal.returns-in_default
returns-in_default c =
    subst (λ e. Answers (text_image c.args.bytes.now) (Err e)) (sym c.on.ensures) (text_fault_told c.args.bytes.now _ (unended_text c.args.bytes.now c.in_default.ensures))
