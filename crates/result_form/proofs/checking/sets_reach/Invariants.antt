-- What is left of the sets ends where all of them do, and reaches as far.
use Rattle.std.proofs.Common.{◌≡◌, ◌-◌, Ok}
use Rattle.result_form.specs.Decoding.{sets_end, sets_from}
use Rattle.result_form.specs.Reaching.{reach_of}
use Rattle.result_form.proofs.checking.sets_reach.Given as goal

abbrev pub invariant-loop : goal.invariant-loop
invariant-loop l = record {
  same : reach_of (sets_from l.payload l.end l.reach (l.count - l.counter) l.at) ≡ reach_of (sets_from l.payload l.end l.end l.count l.from);
  ends : sets_end l.payload (l.count - l.counter) l.at ≡ Ok l.end;
}
