-- Each number is tested against its bound.
use Rattle.text_lines.proofs.NumberRanges.{takes_numbers, takes_wide_numbers, takes_ints, takes_whole, takes_hex, takes_optional_numbers, takes_optional_ints}
use Rattle.text_lines.proofs.laws.read_number_is_in_range.Goals as goal

pub returns-clause-decimal : goal.returns-clause-decimal
returns-clause-decimal c = takes_numbers

pub returns-clause-wide : goal.returns-clause-wide
returns-clause-wide c = takes_wide_numbers

pub returns-clause-int : goal.returns-clause-int
returns-clause-int c = takes_ints

pub returns-clause-whole : goal.returns-clause-whole
returns-clause-whole c = takes_whole

pub returns-clause-hex : goal.returns-clause-hex
returns-clause-hex c = takes_hex

pub returns-clause-optional : goal.returns-clause-optional
returns-clause-optional c = takes_optional_numbers

pub returns-clause-optional_int : goal.returns-clause-optional_int
returns-clause-optional_int c = takes_optional_ints
