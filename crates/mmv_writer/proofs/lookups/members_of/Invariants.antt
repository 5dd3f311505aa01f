-- The map has the first of the instances that the loop has passed.
use Rattle.std.proofs.Common.{◌≡◌, take}
use Rattle.mmv_writer.specs.Tables.{IsMemberIndex}
use Rattle.mmv_writer.proofs.lookups.members_of.Given as goal

abbrev pub invariant-loop-instance : goal.invariant-loop-instance
invariant-loop-instance l = record {
  count : l.at ≡ l.instance-index;
  index : IsMemberIndex l.members (take l.instance-index l.instances);
}
