-- What is left of the lines leads where all lines lead.
use Rattle.std.proofs.Common.{◌≡◌, ◌+◌, length}
use Rattle.text_lines.specs.Lines.{lines_of}
use Rattle.rule_watch.specs.Reading.{rules_of, with_lines}
use Rattle.rule_watch.specs.Rules.{AreRules}
use Rattle.rule_watch.proofs.reading.take_lines.Given as goal

abbrev pub invariant-loop-rest : goal.invariant-loop-rest
invariant-loop-rest l = record {
  leads : rules_of l.fn.text ≡ with_lines (lines_of l.rest) (length l.rules + 1) l.rules;
  rules : AreRules l.rules;
}

-- Each line makes what is left shorter.
abbrev pub decreases-loop-rest : goal.decreases-loop-rest
decreases-loop-rest l = length l.rest
