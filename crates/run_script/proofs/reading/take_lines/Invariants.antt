-- What is left of the lines leads where all lines lead.
use Rattle.std.proofs.Common.{◌≡◌, ◌+◌, ◌≤◌, length}
use Rattle.text_lines.specs.Lines.{lines_of}
use Rattle.run_script.specs.declared.said.Stage.TheVariants as stages
use Rattle.run_script.specs.Said.{nothing}
use Rattle.run_script.specs.Names.{IsKept}
use Rattle.run_script.specs.Reading.{with_script_lines}
use Rattle.run_script.proofs.reading.take_lines.Given as goal

abbrev pub invariant-loop-rest : goal.invariant-loop-rest
invariant-loop-rest l = record {
  leads : with_script_lines (lines_of l.fn.bytes) 1 (stages.Head, nothing) ≡ with_script_lines (lines_of l.rest) l.number (l.stage, l.said);
  count : l.number + length (lines_of l.rest) ≡ 1 + length (lines_of l.fn.bytes);
  fits : l.number + length l.rest ≤ 1 + length l.fn.bytes;
  kept : IsKept l.names l.said l.number;
}

-- Each line makes what is left shorter.
abbrev pub decreases-loop-rest : goal.decreases-loop-rest
decreases-loop-rest l = length l.rest
