use Rattle.std.proofs.Common.{◌<◌, ◌≤◌, [], ◌∷◌, refl, arith}
use Rattle.pmcd_server.specs.Works.{Nowhere}
use Rattle.pmcd_server.proofs.Chains.{worked_none, one_drawn, beyond_drawn, stops_by_error}
use Rattle.pmcd_server.proofs.worker.visit.Goals as goal

pub returns-then-draw-from-clause-works : goal.returns-then-draw-from-clause-works
returns-then-draw-from-clause-works g c =
    let n = c.draw.result in
    let far : c.args.count ≤ n = omega (arith, c.if-draw-from.true, c.from.ensures) in (
      [],
      n ∷ [],
      [],
      Nowhere,
      worked_none c.args.server.now g.P.Door c.args.count c.args.seat.now c.args.door.now,
      beyond_drawn c.args.count n c.args.drawer.now c.draw.new.drawer c.draw.ensures c.requires.left far,
      (refl, omega arith),
    )

pub returns-in_err-serve_one-clause-works : goal.returns-in_err-serve_one-clause-works
returns-in_err-serve_one-clause-works g c =
    let n = c.draw.result in
    let near : n < c.args.count = omega (arith, c.if-draw-from.false, c.from.ensures) in
    let s = c.in_err-serve_one.ensures.serves in (
      n ∷ [],
      [],
      s.0,
      s.1,
      ((near, tt), s.2),
      one_drawn c.args.count n c.args.drawer.now c.draw.new.drawer c.draw.ensures c.requires.left,
      stops_by_error (n ∷ []) [] s.1 c.from_residual.result c.from_residual.ensures.0 s.3,
    )

pub returns-clause-works : goal.returns-clause-works
returns-clause-works g c =
    let n = c.draw.result in
    let near : n < c.args.count = omega (arith, c.if-draw-from.false, c.from.ensures) in
    let s = c.in_ok-serve_one.ensures.serves in (
      n ∷ [],
      [],
      s.0,
      s.1,
      ((near, tt), s.2),
      one_drawn c.args.count n c.args.drawer.now c.draw.new.drawer c.draw.ensures c.requires.left,
      (s.3, refl, refl),
    )
