-- How the call ended is told, and all facts follow.
use Rattle.std.proofs.Common.{map, string_bytes, Global}
use Rattle.pcp_outside.specs.Sides.{sink_side}
use Rattle.log_export.specs.Exporting.{export_side}
use Rattle.pm_exporting.specs.Ends.{call_side}
use Rattle.pm_exporting.proofs.All.{facts}
use Rattle.pm_exporting.proofs.top.export.Goals as goal

pub returns : goal.returns
returns g c =
    let t = c.export_and_tell.new in
    let p = export_side g.A.Disk c.args.source.now t.source g.D.Disk c.args.disk.now t.disk in
    let side = call_side (map (string_bytes {Z = Global}) c.args.words.now) p in
    record { facts = facts side (sink_side g.O.Sink c.args.out.now t.out) c.export_and_tell.result c.export_and_tell.ensures.ends c.export_and_tell.ensures.any_moment c.export_and_tell.ensures.looks }
