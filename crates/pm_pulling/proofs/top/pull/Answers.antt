-- How the call ended is told, and all facts follow.
use Rattle.std.proofs.Common.{map, string_bytes, Global}
use Rattle.pcp_outside.specs.Sides.{sink_side, source_side}
use Rattle.pm_pulling.specs.Ends.{call_side}
use Rattle.pm_pulling.specs.Pulling.{pull_side}
use Rattle.pm_pulling.proofs.All.{facts}
use Rattle.pm_pulling.proofs.Below.{items_are, loses, once, refuses_none, taken}
use Rattle.pm_pulling.proofs.top.pull.Goals as goal

pub returns : goal.returns
returns g c =
    let t = c.pull_and_tell.new in
    let p = pull_side (source_side g.I.Source c.args.reply.now t.reply) (sink_side g.L.Sink c.args.request.now t.request) g.D.Disk c.args.disk.now t.disk in
    let side = call_side (map (string_bytes {Z = Global}) c.args.words.now) p in
    let k = sink_side g.O.Sink c.args.out.now t.out in
    record { facts = facts side k items_are loses refuses_none taken once g.met.D.Disk.only_now c.pull_and_tell.result c.pull_and_tell.ensures }
