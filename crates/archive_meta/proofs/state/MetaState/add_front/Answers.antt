use Rattle.archive_meta.specs.Records.{IsFrontFault}
use Rattle.archive_meta.proofs.OneRecord.{between}
use Rattle.archive_meta.proofs.Frames.{adds_one, handed_on}
use Rattle.archive_meta.proofs.Torn.{front_frame_fault, front_add_fault, end_torn}
use Rattle.archive_meta.proofs.state.MetaState.add_front.Goals as goal

pub returns-in_err-record-clause-fault : goal.returns-in_err-record-clause-fault
returns-in_err-record-clause-fault c = handed_on c.from_residual.result c.in_err-record.field-0.0 (IsFrontFault c.args.self.now c.args.bytes.now) c.from_residual.ensures.1
    (front_frame_fault c.args.self.now c.loop-at.self c.args.bytes.now c.loop-at.at c.in_err-record.field-0.0 c.is_torn_at.result c.if-is_torn_at.false c.is_torn_at.ensures c.loop-at.invariant.added c.loop-at-test.true c.in_err-record.ensures.fault)

pub returns-in_err-add-clause-fault : goal.returns-in_err-add-clause-fault
returns-in_err-add-clause-fault c = handed_on c.from_residual-in_err-add.result c.in_err-add.field-0.0 (IsFrontFault c.args.self.now c.args.bytes.now) c.from_residual-in_err-add.ensures.1
    (front_add_fault c.args.self.now c.loop-at.self c.args.bytes.now c.loop-at.at c.in_ok-record.next c.in_ok-record.record c.in_err-add.field-0.0 c.is_torn_at.result c.if-is_torn_at.false c.is_torn_at.ensures c.loop-at.invariant.added c.loop-at-test.true c.in_ok-record.ensures.found c.in_err-add.ensures.fault)

pub loop-at-preserved : goal.loop-at-preserved
loop-at-preserved c = record {
  added = adds_one c.args.self.now c.loop-at.self c.add.new.self c.args.bytes.now c.loop-at.at c.in_ok-record.next c.in_ok-record.record c.loop-at.invariant.added c.in_ok-record.ensures.found c.in_ok-add.ensures.ok c.in_ok-add.ensures.consistent;
  within = (between c.args.bytes.now c.loop-at.at c.in_ok-record.next c.in_ok-record.record c.in_ok-record.ensures.found).within;
}

pub returns-clause-ok : goal.returns-clause-ok
returns-clause-ok c = (c.loop-at.invariant.within, c.loop-at.invariant.added, end_torn c.args.bytes.now c.loop-at.at c.loop-at-test.false)

pub returns-then-is_torn_at-clause-ok : goal.returns-then-is_torn_at-clause-ok
returns-then-is_torn_at-clause-ok c = (c.loop-at.invariant.within, c.loop-at.invariant.added, c.is_torn_at.ensures.0 c.if-is_torn_at.true)
