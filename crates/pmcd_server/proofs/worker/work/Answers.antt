use Rattle.std.proofs.Common.{◌≡◌, ◌+◌, ◌++◌, ℕ, List, [], length, inl, refl, subst, arith}
use Rattle.std.proofs.lemmas.List.{length-append}
use Rattle.pmcd_server.specs.Works.{Drew, Failure, WorksOn}
use Rattle.pmcd_server.proofs.Chains.{worked_none, worked_on, none_drawn, drew_on, answers_error, found_none, found_one}
use Rattle.pmcd_server.proofs.worker.work.Goals as goal

pub loop-init : goal.loop-init
loop-init g c = record {
  seated = c.requires.seated;
  given = [];
  turns = [];
  worked = worked_none c.args.server.now g.P.Door c.args.count c.args.seat.now c.args.door.now;
  drew = none_drawn c.args.count c.args.drawer.now;
  many = refl;
}

pub returns-in_err-visit-clause-works : goal.returns-in_err-visit-clause-works
returns-in_err-visit-clause-works g c =
    let rows = c.args.server.now in
    let i = c.loop.invariant in
    let v = c.in_err-visit.ensures.works in (
      i.given ++ v.0,
      v.1,
      i.turns ++ v.2,
      v.3,
      worked_on rows g.P.Door c.args.count c.args.seat.now c.loop.seat c.visit.new.seat c.args.door.now c.loop.door c.visit.new.door i.given v.0 i.turns v.2 v.3 i.worked v.4,
      drew_on c.args.count i.given v.0 v.1 c.args.drawer.now c.loop.drawer c.visit.new.drawer i.drew v.5,
      (λ is. absurd (v.6 is)),
      answers_error v.3 c.from_residual.result c.from_residual.ensures.0 v.6,
    )

pub returns-then-not-branch-clause-works : goal.returns-then-not-branch-clause-works
returns-then-not-branch-clause-works g c =
    let rows = c.args.server.now in
    let i = c.loop.invariant in
    let v = c.in_ok-visit.ensures.works in
    let none = found_none v.0 v.1 v.3 c.in_ok-visit.field-0 c.if-not-branch.true v.6 in (
      i.given ++ v.0,
      v.1,
      i.turns ++ v.2,
      v.3,
      worked_on rows g.P.Door c.args.count c.args.seat.now c.loop.seat c.visit.new.seat c.args.door.now c.loop.door c.visit.new.door i.given v.0 i.turns v.2 v.3 i.worked v.4,
      drew_on c.args.count i.given v.0 v.1 c.args.drawer.now c.loop.drawer c.visit.new.drawer i.drew v.5,
      (λ is. inl none.1),
      none.0,
    )

pub loop-preserved : goal.loop-preserved
loop-preserved g c =
    let rows = c.args.server.now in
    let i = c.loop.invariant in
    let v = c.in_ok-visit.ensures.works in
    let one = found_one v.0 v.1 v.3 c.in_ok-visit.field-0 c.if-not-branch.false v.6 in
    let worked = worked_on rows g.P.Door c.args.count c.args.seat.now c.loop.seat c.visit.new.seat c.args.door.now c.loop.door c.visit.new.door i.given v.0 i.turns v.2 v.3 i.worked v.4 in
    let drew = drew_on c.args.count i.given v.0 v.1 c.args.drawer.now c.loop.drawer c.visit.new.drawer i.drew v.5 in
    let many = i.many in
    let single : length v.0 ≡ 1 = one.1 in
    let both : length (i.given ++ v.0) ≡ length i.given + length v.0 = length-append i.given v.0 in
    record {
      seated = c.in_ok-visit.ensures.seated;
      given = i.given ++ v.0;
      turns = i.turns ++ v.2;
      worked = subst (λ (f : Failure). WorksOn rows g.P.Door c.args.count c.args.seat.now c.args.door.now (i.given ++ v.0) (i.turns ++ v.2) f c.visit.new.seat c.visit.new.door) one.0 worked;
      drew = subst (λ (b : List ℕ). Drew c.args.count (i.given ++ v.0) b c.args.drawer.now c.visit.new.drawer) one.2 drew;
      many = omega arith;
    }
