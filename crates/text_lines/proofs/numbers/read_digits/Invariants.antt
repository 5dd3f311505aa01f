-- The bytes so far are digits, and with the number so far the others have the same value.
use Rattle.std.proofs.Common.{◌≡◌, ◌≤◌, ◌+◌, ◌^◌, drop}
use Rattle.std.specs.List.{list_all}
use Rattle.text_lines.specs.Numbers.{is_digit, digits_value}
use Rattle.text_lines.proofs.numbers.read_digits.Given as goal

abbrev pub invariant-loop-digit : goal.invariant-loop-digit
invariant-loop-digit l = record {
  small : l.number + 1 ≤ 10 ^ l.digit-index;
  digits : list_all is_digit l.digits ≡ list_all is_digit (drop l.digit-index l.digits);
  same : digits_value 0 l.digits ≡ digits_value l.number (drop l.digit-index l.digits);
}
