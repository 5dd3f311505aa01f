use Rattle.std.proofs.Common.{◌≤◌, ◌++◌, length, get_or, map, ap, subst, ◌∙◌, arith}
use Rattle.std.proofs.lemmas.List.{drop_more}
use Rattle.pcp_model.specs.Frame.{frame}
use Rattle.pcp_model.specs.Records.{domain}
use Rattle.archive_meta.specs.Missing.{listed_from, at_positions, IsSpelled, IsLarge, IsLargeOf}
use Rattle.archive_meta.proofs.FramedRecords.{put_some, put_none, read_some, read_none, read_all, put_large, err_handed}
use Rattle.archive_meta.proofs.needed.put_domains.Goals as goal
use Rattle.archive_meta.proofs.needed.put_domains.Goals.{in-Some+in_ok-put_listed, in_default}

pub returns-in_err-put_listed-clause-fault : goal.returns-in_err-put_listed-clause-fault
returns-in_err-put_listed-clause-fault c =
    let all = map (listed_from c.args.t) (at_positions c.args.domains.now c.args.positions.now) in
    err_handed c.from_residual.result c.in_err-put_listed.field-0.0 (IsLargeOf all) c.from_residual.ensures.1
    (put_large (listed_from c.args.t) c.args.domains.now c.args.positions.now c.loop-position.position-index (get_or c.args.positions.now c.loop-position.position-index 0) (drop_more c.args.positions.now c.loop-position.position-index 0 c.loop-position-test.true) c.in-Some.field-0.now all c.in_err-put_listed.field-0.0 c.in-Some.ensures c.loop-position.invariant.large
    (subst (λ ps. IsLarge (length (frame (domain c.args.t c.in-Some.field-0.now.0 ps))) c.in_err-put_listed.field-0.0) c.as_slice.ensures c.in_err-put_listed.ensures.fault))

pub loop-position-preserved : goal.loop-position-preserved
loop-position-preserved c =
    let all = map (listed_from c.args.t) (at_positions c.args.domains.now c.args.positions.now) in
    elim c.match-get.branch [
      | in-Some+in_ok-put_listed w ↦
          let p = put_some (listed_from c.args.t) c.args.domains.now c.args.positions.now c.loop-position.position-index (get_or c.args.positions.now c.loop-position.position-index 0) (drop_more c.args.positions.now c.loop-position.position-index 0 c.loop-position-test.true) w.in-Some.field-0.now c.loop-position.out.items c.match-get.out.items _ all
          w.in-Some.ensures (ap (λ o. o.items) w.out-is ∙ w.in_ok-put_listed.ensures.bytes ∙ ap (λ ps. c.loop-position.out.items ++ frame (domain c.args.t w.in-Some.field-0.now.0 ps)) w.as_slice.ensures)
          (subst (λ ps. length (frame (domain c.args.t w.in-Some.field-0.now.0 ps)) ≤ 16777216) w.as_slice.ensures w.in_ok-put_listed.ensures.fits) c.loop-position.invariant.whole c.loop-position.invariant.large in
          record { whole = p.whole; large = p.large; read = read_some (listed_from c.args.t) c.args.domains.now c.args.positions.now c.loop-position.position-index (get_or c.args.positions.now c.loop-position.position-index 0) (drop_more c.args.positions.now c.loop-position.position-index 0 c.loop-position-test.true) w.in-Some.field-0.now all w.in-Some.ensures (subst (λ ps. IsSpelled (listed_from c.args.t (w.in-Some.field-0.now.0, ps))) w.as_slice.ensures w.in_ok-put_listed.ensures.read) c.loop-position.invariant.read }
      | in_default w ↦
          let p = put_none (listed_from c.args.t) c.args.domains.now c.args.positions.now c.loop-position.position-index (get_or c.args.positions.now c.loop-position.position-index 0) (drop_more c.args.positions.now c.loop-position.position-index 0 c.loop-position-test.true) c.loop-position.out.items c.match-get.out.items _ all
          w.in_default.ensures (ap (λ o. o.items) w.out-is) c.loop-position.invariant.whole c.loop-position.invariant.large in
          record { whole = p.whole; large = p.large; read = read_none (listed_from c.args.t) c.args.domains.now c.args.positions.now c.loop-position.position-index (get_or c.args.positions.now c.loop-position.position-index 0) (drop_more c.args.positions.now c.loop-position.position-index 0 c.loop-position-test.true) all w.in_default.ensures c.loop-position.invariant.read }
    ]

pub returns-clause-read : goal.returns-clause-read
returns-clause-read c =
    read_all (listed_from c.args.t) c.args.domains.now c.args.positions.now c.loop-position.position-index (map (listed_from c.args.t) (at_positions c.args.domains.now c.args.positions.now)) (omega (arith, c.loop-position-test.false)) c.loop-position.invariant.read
