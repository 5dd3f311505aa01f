-- What is left of the sets ends where all of them do.
use Rattle.std.proofs.Common.{◌≡◌, ◌-◌, ◌≤◌, length}
use Rattle.result_form.specs.Decoding.{sets_end}
use Rattle.result_form.proofs.checking.sets_end.Given as goal

abbrev pub invariant-loop : goal.invariant-loop
invariant-loop l = record {
  same : sets_end l.payload (l.count - l.counter) l.at ≡ sets_end l.payload l.count l.from;
  within : l.at ≤ length l.payload;
}
