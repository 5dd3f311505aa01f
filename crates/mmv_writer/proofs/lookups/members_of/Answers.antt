-- The first of one instance more.
use Rattle.std.proofs.Common.{◌≡◌, ap, arith, refl, Some}
use Rattle.std.specs.Ordering.{int_eq}
use Rattle.mmv_writer.proofs.Keeping.{first_more}
use Rattle.mmv_writer.proofs.lookups.members_of.Goals as goal

pub loop-instance-preserved : goal.loop-instance-preserved
loop-instance-preserved c = record {
  count = omega arith;
  index = λ id. first_more (λ o p. o ≡ p) (λ other. int_eq other.0 id) c.args.instances.now c.loop-instance.instance-index c.instance-item.result c.loop-instance.at _ _ (omega arith) c.instance-item.is (λ n e. cc) (λ z e. cc) refl (ap Some c.loop-instance.invariant.count)
      (c.loop-instance.invariant.index id) (c.in_ok-keep_number.ensures id);
}
