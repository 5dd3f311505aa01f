-- The bytes so far are hexadecimal digits, and with the number so far the others have the same value.
use Rattle.std.proofs.Common.{◌≡◌, ◌≤◌, ◌+◌, ◌^◌, drop}
use Rattle.std.specs.List.{list_all}
use Rattle.text_lines.specs.Numbers.{is_hex, hex_value}
use Rattle.text_lines.proofs.numbers.hex_number.Given as goal

abbrev pub invariant-loop-digit : goal.invariant-loop-digit
invariant-loop-digit l = record {
  small : l.number + 1 ≤ 16 ^ l.digit-index;
  digits : list_all is_hex l.word ≡ list_all is_hex (drop l.digit-index l.word);
  same : hex_value 0 l.word ≡ hex_value l.number (drop l.digit-index l.word);
}
