-- What was read of the words and of the source.
use Rattle.std.proofs.Common.{refl}
use Rattle.pm_words.proofs.asking.ask.Goals as goal

pub returns-clause-asks : goal.returns-clause-asks
returns-clause-asks g c = record {
  asks = record { command = c.in_ok-command.command; words_are = c.in_ok-command.ensures.command; input = c.in_ok-bytes.bytes; got = c.in_ok-bytes.ensures.got };
  command_is = refl;
  input_is = refl;
}
