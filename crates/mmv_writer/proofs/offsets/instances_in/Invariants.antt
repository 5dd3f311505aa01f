-- The count so far is of the rows that the loop has passed.
use Rattle.std.proofs.Common.{◌≡◌, min, length, take, sum_by}
use Rattle.mmv_writer.proofs.offsets.instances_in.Given as goal

abbrev pub invariant-loop-row : goal.invariant-loop-row
invariant-loop-row l = l.count ≡ min (sum_by (λ row. length row.instances) (take l.row-index l.rows)) 18446744073709551615
