use Rattle.std.proofs.Common.{◌≤◌, ◌+◌, ◌-◌, ◌≡◌, drop, subst, arith}
use Rattle.std.specs.List.{AllByRecursion}
use Rattle.pcp_base.specs.Time.{microseconds}
use Rattle.temporal_index.proofs.Loops.{last_is, passed}
use Rattle.temporal_index.proofs.index.last_before.Goals as goal

pub returns-then-microseconds-time : goal.returns-then-microseconds-time
returns-then-microseconds-time c =
    let here : c.loop-left.left ≡ c.loop-left.left - 1 + 1 = omega arith in
    last_is _ (λ e. c.args.time ≤ microseconds e.stamp) c.args.entries.now (c.loop-left.left - 1) c.index-entries-left.result (omega arith) c.index-entries-left.is
    (omega arith) (subst (λ n. AllByRecursion (λ e. c.args.time ≤ microseconds e.stamp) (drop n c.args.entries.now)) here c.loop-left.invariant.passed)

pub loop-left-preserved : goal.loop-left-preserved
loop-left-preserved c =
    let here : c.loop-left.left ≡ c.loop-left.left - 1 + 1 = omega arith in
    record {
      within = omega arith;
      passed = passed (λ e. c.args.time ≤ microseconds e.stamp) c.args.entries.now (c.loop-left.left - 1) c.index-entries-left.result (omega arith) c.index-entries-left.is
          (omega arith) (subst (λ n. AllByRecursion (λ e. c.args.time ≤ microseconds e.stamp) (drop n c.args.entries.now)) here c.loop-left.invariant.passed);
    }
