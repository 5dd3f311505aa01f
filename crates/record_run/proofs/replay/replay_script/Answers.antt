-- A script is run on the regions that were opened for it.
use Rattle.std.proofs.Common.{◌≡◌, List, ◌∷◌, [], length, refl, sym, subst, arith}
use Rattle.std.specs.Global.{Vec}
use Rattle.fetch_engine.specs.Servers.{IsSeated, Seated}
use Rattle.region_rule.specs.Seats.{Token}
use Rattle.run_passes.specs.Openings.{AreMade}
use Rattle.run_passes.proofs.Turning.{was_there}
use Rattle.record_run.specs.Replays.{IsReplay}
use Rattle.record_run.proofs.OneSeat.{one_seat, seat_after}
use Rattle.record_run.proofs.replay.replay_script.Goals as goal

pub replay_with-requires-clause-made : goal.replay_with-requires-clause-made
replay_with-requires-clause-made g c =
    let seats : List Seated = c.args.opened.now.seats.items in
    let seat : Seated = c.index_mut-seat.result.now in
    let one : length seats ≡ 1 = c.requires.fresh.seats_are in
    let all : seats ≡ seat ∷ [] = one_seat seats seat one (was_there seats 0 seat seat (omega (arith, one)) c.index_mut-seat.ensures.value refl) in
    subst (λ (xs : List Seated). AreMade c.args.script c.args.opened.now.server c.replace-passes.result.items xs) all
    (subst (λ (v : Vec (Vec Token)). AreMade c.args.script c.args.opened.now.server v.items seats) (sym c.replace-passes.ensures.value) c.requires.fresh.made)

pub returns-clause-runs : goal.returns-clause-runs
returns-clause-runs g c = λ seat is.
    subst (λ (s : Seated). IsReplay g.D.Disk c.args.script c.args.volume c.args.opened.now.server s.tokens c.args.disk.now c.replay_with.new.disk c.replay_with.result)
    (seat_after c.args.opened.now.seats.items c.replay_with.new.seat seat c.requires.fresh.seats_are is) c.replay_with.ensures.runs

pub returns-clause-seated : goal.returns-clause-seated
returns-clause-seated g c = λ seat is.
    subst (λ (s : Seated). IsSeated c.args.opened.now.server s.tokens) (seat_after c.args.opened.now.seats.items c.replay_with.new.seat seat c.requires.fresh.seats_are is) c.replay_with.ensures.seated
