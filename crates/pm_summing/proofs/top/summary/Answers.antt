-- How the call ended is told, and all facts follow.
use Rattle.std.proofs.Common.{map, string_bytes, Global}
use Rattle.pcp_outside.specs.Sides.{sink_side}
use Rattle.pm_summing.specs.Ends.{call_side}
use Rattle.pm_summing.proofs.All.{facts}
use Rattle.pm_summing.proofs.top.summary.Goals as goal

pub returns : goal.returns
returns g c =
    let t = c.sum_and_tell.new in
    let side = call_side (map (string_bytes {Z = Global}) c.args.words.now) g.D.Disk c.args.disk.now t.disk in
    record { facts = facts side (sink_side g.O.Sink c.args.out.now t.out) c.sum_and_tell.result c.sum_and_tell.ensures.ends c.sum_and_tell.ensures.looks }
