-- The results from here on are those from the place at the start.
use Rattle.std.proofs.Common.{◌≡◌, List}
use Rattle.pcp_base.specs.declared.result.Item.{Item}
use Rattle.pcp_model.specs.Disk.{contents_of}
use Rattle.archive_loading.specs.Looks.{Looks}
use Rattle.log_extract.specs.Cursors.{StandFrom}
use Rattle.log_extract.proofs.Reading.{Passed}
use Rattle.log_extract.proofs.cursor.next_sample.Given as goal

abbrev pub invariant-loop : goal.invariant-loop
invariant-loop g l = record {
  far : g.D.Disk.tells → (items : List Item) → StandFrom (contents_of (g.D.Disk.held l.fn.disk)) l.fn.reader.volumes l.fn.place items → Passed (contents_of (g.D.Disk.held l.fn.disk)) l.fn.reader.volumes l.at items;
  looks : Looks g.D.Disk l.fn.disk l.disk;
  quiet : g.D.Disk.faults l.disk ≡ g.D.Disk.faults l.fn.disk;
}
