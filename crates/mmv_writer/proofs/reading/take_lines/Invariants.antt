-- What is left of the lines makes of the draft so far what all lines make of the first one.
use Rattle.std.proofs.Common.{◌≡◌, ◌+◌, ◌≤◌, length}
use Rattle.text_lines.specs.Lines.{lines_of}
use Rattle.mmv_writer.specs.Reading.{with_lines}
use Rattle.mmv_writer.proofs.reading.take_lines.Given as goal

abbrev pub invariant-loop-rest : goal.invariant-loop-rest
invariant-loop-rest l = record {
  draft : with_lines (lines_of l.fn.bytes) 2 l.initial.builder ≡ with_lines (lines_of l.rest) l.number l.builder;
  count : l.number + length (lines_of l.rest) ≡ 2 + length (lines_of l.fn.bytes);
  fits : l.number + length l.rest ≤ 2 + length l.fn.bytes;
}

-- Each line makes what is left shorter.
abbrev pub decreases-loop-rest : goal.decreases-loop-rest
decreases-loop-rest l = length l.rest
