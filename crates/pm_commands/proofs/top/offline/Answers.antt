-- What ran, and how its end was told.
use Rattle.std.proofs.Common.{map, string_bytes, Global}
use Rattle.pm_commands.specs.Facts.{sides}
use Rattle.pm_commands.proofs.Whole.{facts}
use Rattle.pm_commands.proofs.top.offline.Goals as goal

pub returns : goal.returns
returns g c = record {
  facts =
      facts (sides (map (string_bytes {Z = Global}) c.args.words.now) g.I.Source c.args.input.now c.run-ran.new.input g.O.Sink c.args.out.now c.tell_end.new.out g.D.Disk c.args.disk.now c.run-ran.new.disk c.run-ran.new.opened)
      c.run-ran.new.out c.run-ran.new.failed c.run-ran.result c.tell_end.result c.run-ran.ensures.runs c.run-ran.ensures.unasked c.tell_end.ensures;
}
