-- The pairs so far and those that are left are all of them, and the blocks of these lie behind the sets.
use Rattle.std.proofs.Common.{◌≡◌, ◌-◌, ◌++◌}
use Rattle.result_form.specs.Shown.{shown_blocks}
use Rattle.result_form.specs.Lying.{PairsLie}
use Rattle.result_form.proofs.owned.blocks_of.Given as goal

abbrev pub invariant-loop : goal.invariant-loop
invariant-loop l = record {
  all : l.pairs ++ shown_blocks l.payload (l.count - l.counter) l.left ≡ shown_blocks l.payload l.count l.words;
  lie : PairsLie l.payload l.end (l.count - l.counter) l.left;
}
