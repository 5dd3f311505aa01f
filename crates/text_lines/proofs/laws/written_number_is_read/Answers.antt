-- Each word is taken, and reads the number that wrote it.
use Rattle.text_lines.proofs.NumberParts.{number_is_read, wide_number_is_read, int_is_read, whole_is_read, hex_is_read, optional_number_is_read, optional_int_is_read}
use Rattle.text_lines.proofs.laws.written_number_is_read.Goals as goal

pub returns-clause-decimal : goal.returns-clause-decimal
returns-clause-decimal c = number_is_read

pub returns-clause-wide : goal.returns-clause-wide
returns-clause-wide c = wide_number_is_read

pub returns-clause-int : goal.returns-clause-int
returns-clause-int c = int_is_read

pub returns-clause-whole : goal.returns-clause-whole
returns-clause-whole c = whole_is_read

pub returns-clause-hex : goal.returns-clause-hex
returns-clause-hex c = hex_is_read

pub returns-clause-optional : goal.returns-clause-optional
returns-clause-optional c = optional_number_is_read

pub returns-clause-optional_int : goal.returns-clause-optional_int
returns-clause-optional_int c = optional_int_is_read
