-- The lines end, stop or go on.
use Rattle.std.proofs.Common.{Err, subst, sym, ap, ◌∙◌, length, arith}
use Rattle.std.proofs.lemmas.Bool.{eqb-true}
use Rattle.text_lines.specs.Lines.{lines_of}
use Rattle.mmv_writer.specs.Reading.{Adds}
use Rattle.mmv_writer.proofs.TextRows.{no_lines, some_bytes, lines_end, unended_fault, line_goes_on, refused}
use Rattle.mmv_writer.proofs.reading.take_lines.Goals as goal

pub returns-in_default : goal.returns-in_default
returns-in_default c =
    subst (λ e. Adds (lines_of c.args.bytes.now) 2 c.args.builder.now c.loop-rest.builder (Err e)) (sym c.on.ensures)
    (c.loop-rest.invariant.draft ∙ unended_fault c.loop-rest.rest.now c.loop-rest.number c.loop-rest.builder c.in_default.ensures (some_bytes c.loop-rest.rest.now (sym c.is_empty.ensures ∙ c.loop-rest-test.true)))

pub returns-in-Err : goal.returns-in-Err
returns-in-Err c =
    subst (λ e. Adds (lines_of c.args.bytes.now) 2 c.args.builder.now c.take_line.new.builder (Err e)) (sym c.on-in-Err.ensures)
    (refused (lines_of c.args.bytes.now) c.args.builder.now c.loop-rest.builder c.take_line.new.builder c.loop-rest.rest.now c.in-Some.line.now c.in-Some.behind.now c.loop-rest.number c.in-Err.error c.loop-rest.invariant.draft c.in-Some.ensures c.in-Err.ensures)

pub loop-rest-preserved : goal.loop-rest-preserved
loop-rest-preserved c = record {
  draft = c.loop-rest.invariant.draft ∙ line_goes_on c.loop-rest.rest.now c.loop-rest.number c.loop-rest.builder c.in-Some.line.now c.in-Some.behind.now c.in-Some.ensures c.take_line.new.builder c.in_default-take_line.ensures;
  count = omega (arith, ap length c.in-Some.ensures.lines);
  fits = omega (arith, c.in-Some.ensures.long);
}

pub returns : goal.returns
returns c = (
  c.loop-rest.invariant.draft ∙ lines_end c.loop-rest.rest.now c.loop-rest.number c.loop-rest.builder (eqb-true (length c.loop-rest.rest.now) 0 (sym c.is_empty.ensures ∙ c.loop-rest-test.false)),
  omega (arith, ap length (no_lines c.loop-rest.rest.now (eqb-true (length c.loop-rest.rest.now) 0 (sym c.is_empty.ensures ∙ c.loop-rest-test.false)))),
)
