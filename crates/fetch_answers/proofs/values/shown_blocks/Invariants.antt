-- The blocks so far and those of the rows that are left are all.
use Rattle.std.proofs.Common.{◌≡◌, ◌++◌}
use Rattle.std.specs.List.{flat_map}
use Rattle.fetch_answers.specs.Numbers.{contents_at}
use Rattle.fetch_answers.specs.Values.{shown_block}
use Rattle.fetch_answers.proofs.values.shown_blocks.Given as goal

abbrev pub invariant-loop-instance : goal.invariant-loop-instance
invariant-loop-instance l = l.pairs ++ flat_map (shown_block l.choice.settings l.choice.indom l.code) (contents_at l.words l.instance-iterator) ≡ flat_map (shown_block l.choice.settings l.choice.indom l.code) (contents_at l.words l.numbers.entries)
