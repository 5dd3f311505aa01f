use Rattle.archive_meta.specs.Records.{IsMetaFault}
use Rattle.archive_meta.proofs.OneRecord.{between}
use Rattle.archive_meta.proofs.Frames.{adds_one, frame_fault, add_fault, handed_on}
use Rattle.archive_meta.proofs.state.MetaState.add_all.Goals as goal

pub returns-in_err-record-clause-fault : goal.returns-in_err-record-clause-fault
returns-in_err-record-clause-fault c = handed_on c.from_residual.result c.in_err-record.field-0.0 (IsMetaFault c.args.self.now c.args.bytes.now) c.from_residual.ensures.1
    (frame_fault c.args.self.now c.loop-at.self c.args.bytes.now c.loop-at.at c.in_err-record.field-0.0 c.loop-at.invariant.added c.loop-at-test.true c.in_err-record.ensures.fault)

pub returns-in_err-add-clause-fault : goal.returns-in_err-add-clause-fault
returns-in_err-add-clause-fault c = handed_on c.from_residual-in_err-add.result c.in_err-add.field-0.0 (IsMetaFault c.args.self.now c.args.bytes.now) c.from_residual-in_err-add.ensures.1
    (add_fault c.args.self.now c.loop-at.self c.args.bytes.now c.loop-at.at c.in_ok-record.next c.in_ok-record.record c.in_err-add.field-0.0 c.loop-at.invariant.added c.loop-at-test.true c.in_ok-record.ensures.found c.in_err-add.ensures.fault)

pub loop-at-preserved : goal.loop-at-preserved
loop-at-preserved c = record {
  added = adds_one c.args.self.now c.loop-at.self c.add.new.self c.args.bytes.now c.loop-at.at c.in_ok-record.next c.in_ok-record.record c.loop-at.invariant.added c.in_ok-record.ensures.found c.in_ok-add.ensures.ok c.in_ok-add.ensures.consistent;
  within = (between c.args.bytes.now c.loop-at.at c.in_ok-record.next c.in_ok-record.record c.in_ok-record.ensures.found).within;
}
