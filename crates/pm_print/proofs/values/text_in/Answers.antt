-- Where the first zero byte stands, or that there is none.
use Rattle.pm_print.proofs.Zeros.{ends_at, stops_at, never_ends}
use Rattle.pm_print.proofs.values.text_in.Goals as goal

pub returns-then-at-bytes : goal.returns-then-at-bytes
returns-then-at-bytes c = ends_at c.args.bytes.now c.in-Some.at c.in-Some.ensures.0.high c.in-Some.ensures.1 c.in-Some.ensures.0.before c.if-at-bytes.true

pub returns-else-at-bytes : goal.returns-else-at-bytes
returns-else-at-bytes c = stops_at c.args.bytes.now c.in-Some.at c.in-Some.ensures.0.high c.in-Some.ensures.1 c.in-Some.ensures.0.before c.if-at-bytes.false

pub returns-in-None : goal.returns-in-None
returns-in-None c = never_ends c.args.bytes.now c.in-None.ensures
