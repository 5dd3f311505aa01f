use Rattle.std.proofs.Common.{get_or, map, ap, ◌∙◌, arith}
use Rattle.std.proofs.lemmas.List.{drop_more}
use Rattle.archive_meta.specs.Missing.{described_by, at_positions, IsLargeOf}
use Rattle.archive_meta.proofs.FramedRecords.{put_some, put_none, read_some, read_none, read_all, put_large, err_handed}
use Rattle.archive_meta.proofs.needed.put_facts.Goals as goal
use Rattle.archive_meta.proofs.needed.put_facts.Goals.{in-Some+in_ok-put_fact, in_default}

pub returns-in_err-put_fact-clause-fault : goal.returns-in_err-put_fact-clause-fault
returns-in_err-put_fact-clause-fault c =
    let all = map described_by (at_positions c.args.metrics.now c.args.positions.now) in
    err_handed c.from_residual.result c.in_err-put_fact.field-0.0 (IsLargeOf all) c.from_residual.ensures.1
    (put_large described_by c.args.metrics.now c.args.positions.now c.loop-position.position-index (get_or c.args.positions.now c.loop-position.position-index 0) (drop_more c.args.positions.now c.loop-position.position-index 0 c.loop-position-test.true) c.in-Some.field-0.now all c.in_err-put_fact.field-0.0 c.in-Some.ensures c.loop-position.invariant.large
    c.in_err-put_fact.ensures.fault)

pub loop-position-preserved : goal.loop-position-preserved
loop-position-preserved c =
    let all = map described_by (at_positions c.args.metrics.now c.args.positions.now) in
    elim c.match-get.branch [
      | in-Some+in_ok-put_fact w ↦
          let p = put_some described_by c.args.metrics.now c.args.positions.now c.loop-position.position-index (get_or c.args.positions.now c.loop-position.position-index 0) (drop_more c.args.positions.now c.loop-position.position-index 0 c.loop-position-test.true) w.in-Some.field-0.now c.loop-position.out.items c.match-get.out.items _ all
          w.in-Some.ensures (ap (λ o. o.items) w.out-is ∙ w.in_ok-put_fact.ensures.bytes) w.in_ok-put_fact.ensures.fits c.loop-position.invariant.whole c.loop-position.invariant.large in
          record { whole = p.whole; large = p.large; read = read_some described_by c.args.metrics.now c.args.positions.now c.loop-position.position-index (get_or c.args.positions.now c.loop-position.position-index 0) (drop_more c.args.positions.now c.loop-position.position-index 0 c.loop-position-test.true) w.in-Some.field-0.now all w.in-Some.ensures w.in_ok-put_fact.ensures.read c.loop-position.invariant.read }
      | in_default w ↦
          let p = put_none described_by c.args.metrics.now c.args.positions.now c.loop-position.position-index (get_or c.args.positions.now c.loop-position.position-index 0) (drop_more c.args.positions.now c.loop-position.position-index 0 c.loop-position-test.true) c.loop-position.out.items c.match-get.out.items _ all
          w.in_default.ensures (ap (λ o. o.items) w.out-is) c.loop-position.invariant.whole c.loop-position.invariant.large in
          record { whole = p.whole; large = p.large; read = read_none described_by c.args.metrics.now c.args.positions.now c.loop-position.position-index (get_or c.args.positions.now c.loop-position.position-index 0) (drop_more c.args.positions.now c.loop-position.position-index 0 c.loop-position-test.true) all w.in_default.ensures c.loop-position.invariant.read }
    ]

pub returns-clause-read : goal.returns-clause-read
returns-clause-read c =
    read_all described_by c.args.metrics.now c.args.positions.now c.loop-position.position-index (map described_by (at_positions c.args.metrics.now c.args.positions.now)) (omega (arith, c.loop-position-test.false)) c.loop-position.invariant.read
