-- What is left of the pairs reaches as far as all of them do.
use Rattle.std.proofs.Common.{◌≡◌, ◌-◌}
use Rattle.result_form.specs.Decoding.{blocks_from}
use Rattle.result_form.specs.Reaching.{reach_of}
use Rattle.result_form.proofs.reach.pairs_reach.Given as goal

abbrev pub invariant-loop : goal.invariant-loop
invariant-loop l = reach_of (blocks_from l.payload l.sets_end l.reach (l.count - l.counter) l.at) ≡ reach_of (blocks_from l.payload l.sets_end l.reached l.count l.from)
