-- How the call ended is told, and all facts follow.
use Rattle.std.proofs.Common.{map, string_bytes, Global}
use Rattle.pcp_outside.specs.Sides.{sink_side}
use Rattle.log_extract.specs.Extracting.{extract_side}
use Rattle.pm_extracting.specs.Ends.{call_side}
use Rattle.pm_extracting.proofs.All.{facts}
use Rattle.pm_extracting.proofs.Below.{items_are, merged, once, refuses_none, whole}
use Rattle.pm_extracting.proofs.top.extract.Goals as goal

pub returns : goal.returns
returns g c =
    let t = c.extract_and_tell.new in
    let p = extract_side g.A.Disk c.args.first.now t.first g.B.Disk c.args.second.now t.second g.D.Disk c.args.disk.now t.disk in
    let side = call_side (map (string_bytes {Z = Global}) c.args.words.now) p in
    let k = sink_side g.O.Sink c.args.out.now t.out in
    record { facts = facts side k items_are merged whole refuses_none once g.met.A.Disk.only_now g.met.B.Disk.only_now g.met.D.Disk.only_now c.extract_and_tell.result c.extract_and_tell.ensures }
