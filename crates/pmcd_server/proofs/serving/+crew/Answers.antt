use Rattle.std.proofs.Common.{◌≡◌, ◌*◌, ◌+◌, ◌≤◌, List, [], ◌∷◌, ◌++◌, length, sym, subst, arith}
use Rattle.pmcd_server.specs.Draws.{share}
use Rattle.fetch_engine.specs.Servers.{Seated}
use Rattle.pmcd_server.specs.Works.{Work}
use Rattle.pmcd_server.specs.Crews.{AreWorks}
use Rattle.pmcd_server.proofs.Together.{no_items, no_works, are_works, drew_none, drew_together, failed_together}
use Rattle.pmcd_server.proofs.serving.+crew.Goals as goal

pub run-returns-in_default-clause-works : goal.run-returns-in_default-clause-works
run-returns-in_default-clause-works g t c =
    let rows = c.args.server.now in
    let count = c.args.count in
    let same = c.requires.same in
    let none : length c.args.seats.now ≡ 0 = c.in_default.ensures.cases in
    let seats : c.args.seats.now ≡ [] = no_items c.args.seats.now none in
    let doors : c.args.doors.now ≡ [] = no_items c.args.doors.now (omega arith) in (
      [],
      [],
      subst (λ (s : List Seated). AreWorks rows g.P.Door count s c.args.doors.now [] s c.args.doors.now) (sym seats)
          (subst (λ (l : List g.row.P.Denot). AreWorks rows g.P.Door count [] l [] [] l) (sym doors) (no_works rows g.P.Door count)),
      drew_none count c.args.drawer.now,
      tt,
    )

pub run-returns-clause-works : goal.run-returns-clause-works
run-returns-clause-works g t c =
    let rows = c.args.server.now in
    let count = c.args.count in
    let one = c.beside-answers.ensures.one_works in
    let others = c.beside-answers.ensures.works in
    let w : Work g.row.P.Denot = record {
      seat = c.in-Some.seat.now;
      door = c.in-Some-split_first_mut.door.now;
      places = one.0;
      turns = one.2;
      failure = one.3;
      seat_after = c.beside-answers.new.seat;
      door_after = c.beside-answers.new.door;
    } in
    let seats : c.args.seats.now ≡ c.in-Some.seat.now ∷ c.in-Some.seats.now = c.in-Some.ensures.cases.0 in
    let doors : c.args.doors.now ≡ c.in-Some-split_first_mut.door.now ∷ c.in-Some-split_first_mut.doors.now = c.in-Some-split_first_mut.ensures.cases.0 in
    let long : length c.in-Some.seats.now + 1 ≡ length c.args.seats.now = c.in-Some.ensures.cases.1 in
    let room : length c.args.seats.now * share ≤ c.args.drawer.now.left = c.requires.left in
    let enough : share ≤ c.args.drawer.now.left = omega arith in (
      w ∷ others.0,
      one.1 ++ others.1,
      subst (λ (s : List Seated). AreWorks rows g.P.Door count s c.args.doors.now (w ∷ others.0) (c.beside-answers.new.seat ∷ c.beside-answers.new.seats) (c.beside-answers.new.door ∷ c.beside-answers.new.doors)) (sym seats)
          (subst (λ (l : List g.row.P.Denot). AreWorks rows g.P.Door count (c.in-Some.seat.now ∷ c.in-Some.seats.now) l (w ∷ others.0) (c.beside-answers.new.seat ∷ c.beside-answers.new.seats) (c.beside-answers.new.door ∷ c.beside-answers.new.doors)) (sym doors)
          (are_works rows g.P.Door count w others.0 c.in-Some.seats.now c.beside-answers.new.seats c.in-Some-split_first_mut.doors.now c.beside-answers.new.doors one.4 others.2)),
      drew_together count w others.0 one.1 others.1 c.args.drawer.now c.hand_out-own.new.drawer c.hand_out-own.result c.beside-answers.new.own c.beside-answers.new.drawer c.take_back.new.drawer enough c.hand_out-own.ensures.kept c.hand_out-own.ensures.given one.5 one.6 others.3 c.take_back.ensures,
      failed_together w others.0 c.beside-answers.result.0 c.beside-answers.result.1 one.7 others.4,
    )
