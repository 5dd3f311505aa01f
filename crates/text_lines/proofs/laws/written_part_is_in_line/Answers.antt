-- Each byte is a space or a byte above it.
use Rattle.text_lines.proofs.LineBytes.{number_in_line, int_in_line, whole_in_line, hex_in_line, optional_number_in_line, optional_int_in_line, text_in_line, help_in_line}
use Rattle.text_lines.proofs.laws.written_part_is_in_line.Goals as goal

pub returns-clause-decimal : goal.returns-clause-decimal
returns-clause-decimal c = number_in_line

pub returns-clause-int : goal.returns-clause-int
returns-clause-int c = int_in_line

pub returns-clause-whole : goal.returns-clause-whole
returns-clause-whole c = whole_in_line

pub returns-clause-hex : goal.returns-clause-hex
returns-clause-hex c = hex_in_line

pub returns-clause-optional : goal.returns-clause-optional
returns-clause-optional c = optional_number_in_line

pub returns-clause-optional_int : goal.returns-clause-optional_int
returns-clause-optional_int c = optional_int_in_line

pub returns-clause-text : goal.returns-clause-text
returns-clause-text c = text_in_line

pub returns-clause-help : goal.returns-clause-help
returns-clause-help c = help_in_line
