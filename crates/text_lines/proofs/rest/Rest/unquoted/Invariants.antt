-- The text so far, and behind it what is left.
use Rattle.std.proofs.Common.{◌≡◌, ◌-◌}
use Rattle.pcp_base.specs.Texts.{IsText}
use Rattle.text_lines.specs.Words.{text_within}
use Rattle.text_lines.proofs.Quoting.{behind}
use Rattle.text_lines.proofs.rest.Rest.unquoted.Given as goal

abbrev pub invariant-loop : goal.invariant-loop
invariant-loop l = record {
  text : text_within l.limit l.fn.self ≡ behind l.text (text_within (l.limit - l.counter) l.rest);
  zero : IsText l.text;
}
