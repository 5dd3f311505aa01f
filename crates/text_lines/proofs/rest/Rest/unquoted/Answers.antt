-- The text ends, stops or goes on.
use Rattle.std.proofs.Common.{sym, ◌∙◌, arith}
use Rattle.text_lines.proofs.Quoting.{ends_text, stops_text, goes_on, runs_out, text_more}
use Rattle.text_lines.proofs.rest.Rest.unquoted.Goals as goal

pub returns-then-starts_quoted-clause-text : goal.returns-then-starts_quoted-clause-text
returns-then-starts_quoted-clause-text c = ends_text _ c.loop.text c.args.limit c.loop.counter c.loop.rest.now c.loop.invariant.text _ (omega arith) (sym c.starts_quoted.ensures ∙ c.if-starts_quoted.true) c.behind_first-self-inside.ensures

pub returns-in_default-clause-text : goal.returns-in_default-clause-text
returns-in_default-clause-text c = stops_text _ c.loop.text c.args.limit c.loop.counter c.loop.rest.now c.loop.invariant.text (omega arith) (sym c.starts_quoted.ensures ∙ c.if-starts_quoted.false) c.in_default.ensures.value

pub loop-preserved : goal.loop-preserved
loop-preserved c = record {
  text = goes_on _ c.loop.text c.args.limit c.loop.counter c.loop.rest.now c.loop.invariant.text c.in-Some.byte c.in-Some.behind.now _ (omega arith) (sym c.starts_quoted.ensures ∙ c.if-starts_quoted.false) c.in-Some.ensures.value c.in_ok-push.ensures.ok;
  zero = text_more c.loop.text _ c.in-Some.byte c.loop.invariant.zero c.in-Some.ensures.range c.in_ok-push.ensures.ok;
}

pub returns-clause-text : goal.returns-clause-text
returns-clause-text c = runs_out _ c.loop.text c.args.limit c.loop.counter c.loop.rest.now c.loop.invariant.text (omega arith)
