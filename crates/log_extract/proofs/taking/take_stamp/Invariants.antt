-- The sets taken so far and those of what is left are all.
use Rattle.std.proofs.Common.{◌≡◌, List}
use Rattle.pcp_base.specs.declared.result.PmResult.{PmResult}
use Rattle.pcp_base.specs.declared.result.ValueSet.{ValueSet}
use Rattle.pcp_model.specs.Disk.{contents_of}
use Rattle.archive_loading.specs.Looks.{Looks}
use Rattle.archive_merge.specs.Merging.{with_sets}
use Rattle.archive_merge.specs.Order.{NoneBefore, Rises}
use Rattle.log_extract.specs.Cursors.{IsReady, Leaves}
use Rattle.log_extract.proofs.Stamps.{TakenSoFar}
use Rattle.log_extract.proofs.taking.take_stamp.Given as goal

abbrev pub invariant-loop : goal.invariant-loop
invariant-loop g l = record {
  same : l.cursor.reader ≡ l.fn.cursor.reader;
  grown : (more : List ValueSet) × (l.all ≡ with_sets l.fn.sets more);
  ready : IsReady g.D.Disk l.disk l.cursor;
  far : g.D.Disk.tells → (results : List PmResult) → Leaves (contents_of (g.D.Disk.held l.fn.disk)) l.fn.cursor results → NoneBefore l.t results → Rises results
      → TakenSoFar (contents_of (g.D.Disk.held l.fn.disk)) l.t results l.fn.sets l.all l.cursor;
  looks : Looks g.D.Disk l.fn.disk l.disk;
  quiet : g.D.Disk.faults l.disk ≡ g.D.Disk.faults l.fn.disk;
}
