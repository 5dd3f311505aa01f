-- What is written and what is left make the whole.
use Rattle.std.proofs.Common.{◌≡◌, ◌++◌, ◌+◌, ◌-◌, length}
use Rattle.pcp_model.specs.Words.{zeros}
use Rattle.result_form.proofs.spelling.put_zeros.Given as goal

abbrev pub invariant-loop : goal.invariant-loop
invariant-loop l = record {
  whole : l.out.items ++ zeros (l.count - l.counter) ≡ l.initial.out.items ++ zeros l.count;
  long : length l.out.items ≡ length l.initial.out.items + l.counter;
}
