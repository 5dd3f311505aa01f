-- The lines end, stop or go on.
use Rattle.std.proofs.Common.{Err, subst, sym, ap, ◌∙◌, length, arith}
use Rattle.std.proofs.lemmas.Bool.{eqb-true}
use Rattle.text_lines.specs.Lines.{lines_of}
use Rattle.run_script.specs.Faults.{on_line}
use Rattle.run_script.specs.Reading.{Leads}
use Rattle.run_script.proofs.ScriptLines.{no_lines, some_bytes, lines_end, unended_fault, line_goes_on, refused}
use Rattle.run_script.proofs.reading.take_lines.Goals as goal

pub returns-in_default : goal.returns-in_default
returns-in_default c =
    subst (λ e. Leads (lines_of c.args.bytes.now) c.loop-rest.said (Err e)) (sym (c.on.ensures ∙ ap (λ s. on_line s c.loop-rest.number) c.grammar.ensures))
    (c.loop-rest.invariant.leads
    ∙ unended_fault c.loop-rest.rest.now c.loop-rest.number (c.loop-rest.stage, c.loop-rest.said) c.in_default.ensures (some_bytes c.loop-rest.rest.now (sym c.is_empty.ensures ∙ c.loop-rest-test.true)))

pub returns-in-Err : goal.returns-in-Err
returns-in-Err c =
    subst (λ e. Leads (lines_of c.args.bytes.now) c.take_script_line.new.said (Err e)) (sym c.on-in-Err.ensures)
    (refused (lines_of c.args.bytes.now) (c.loop-rest.stage, c.loop-rest.said) c.take_script_line.new.said c.loop-rest.rest.now c.in-Some.line.now c.in-Some.behind.now c.loop-rest.number c.in-Err.stop
    c.loop-rest.invariant.leads c.in-Some.ensures c.in-Err.ensures.step)

pub loop-rest-preserved : goal.loop-rest-preserved
loop-rest-preserved c = record {
  leads = c.loop-rest.invariant.leads
      ∙ line_goes_on c.loop-rest.rest.now c.loop-rest.number (c.loop-rest.stage, c.loop-rest.said) c.in-Some.line.now c.in-Some.behind.now c.in-Some.ensures (c.in-Ok.later, c.take_script_line.new.said) c.in-Ok.ensures.step;
  count = omega (arith, ap length c.in-Some.ensures.lines, c.loop-rest.invariant.count);
  fits = omega (arith, c.in-Some.ensures.long, c.loop-rest.invariant.fits);
  kept = c.in-Ok.ensures.kept c.loop-rest.number c.loop-rest.invariant.kept;
}

pub returns : goal.returns
returns c = (
  c.loop-rest.invariant.leads
      ∙ lines_end c.loop-rest.rest.now c.loop-rest.number (c.loop-rest.stage, c.loop-rest.said) (eqb-true (length c.loop-rest.rest.now) 0 (sym c.is_empty.ensures ∙ c.loop-rest-test.false)),
  omega (arith, c.loop-rest.invariant.count, ap length (no_lines c.loop-rest.rest.now (eqb-true (length c.loop-rest.rest.now) 0 (sym c.is_empty.ensures ∙ c.loop-rest-test.false)))),
)
