-- A script is recorded on the regions that were opened for it.
use Rattle.std.proofs.Common.{◌≡◌, List, ◌∷◌, [], length, Some, refl, sym, ◌∙◌, subst, arith}
use Rattle.std.specs.Prelude.{slice_get}
use Rattle.std.proofs.lemmas.Option.{same_Some}
use Rattle.fetch_engine.specs.Servers.{IsSeated, Seated}
use Rattle.run_passes.specs.Openings.{AreMade}
use Rattle.run_passes.proofs.Turning.{was_there}
use Rattle.record_run.proofs.OneSeat.{one_seat, seat_after}
use Rattle.record_run.specs.Beside.{TellWriters}
use Rattle.record_run.specs.Recordings.{IsRecording}
use Rattle.record_run.proofs.recording.record_script.Goals as goal

pub record_with-requires-clause-made : goal.record_with-requires-clause-made
record_with-requires-clause-made g c κs within =
    let seats : List Seated = c.args.opened.now.seats.items in
    let seat : Seated = c.index_mut-seat.result.now in
    let one : length seats ≡ 1 = c.requires.fresh.seats_are in
    let all : seats ≡ seat ∷ [] = one_seat seats seat one (was_there seats 0 seat seat (omega (arith, one)) c.index_mut-seat.ensures.value refl) in
    subst (λ (xs : List Seated). AreMade c.args.script c.args.opened.now.server c.args.opened.now.passes.items xs) all c.requires.fresh.made

pub returns-clause-records : goal.returns-clause-records
returns-clause-records g c = λ first last is_first is_last.
    let seats : List Seated = c.args.opened.now.seats.items in
    let seat : Seated = c.index_mut-seat.result.now in
    let one : length seats ≡ 1 = c.requires.fresh.seats_are in
    let there : slice_get seats 0 ≡ Some seat = was_there seats 0 seat seat (omega (arith, one)) c.index_mut-seat.ensures.value refl in
    subst
    (λ (s : Seated). IsRecording g.C.Clock g.D.Disk c.args.clock.now c.record_with.new.clock c.args.disk.now c.record_with.new.disk c.args.script c.args.volume c.args.samples c.args.opened.now.server s.tokens last.tokens c.record_with.result)
    (same_Some seat first (sym there ∙ is_first))
    (subst
    (λ (s : Seated). IsRecording g.C.Clock g.D.Disk c.args.clock.now c.record_with.new.clock c.args.disk.now c.record_with.new.disk c.args.script c.args.volume c.args.samples c.args.opened.now.server seat.tokens s.tokens c.record_with.result)
    (seat_after seats c.record_with.new.seat last one is_last) c.record_with.ensures.records)

pub returns-clause-seated : goal.returns-clause-seated
returns-clause-seated g c = λ last is_last.
    let seats : List Seated = c.args.opened.now.seats.items in
    let one : length seats ≡ 1 = c.requires.fresh.seats_are in
    subst (λ (s : Seated). IsSeated c.args.opened.now.server s.tokens) (seat_after seats c.record_with.new.seat last one is_last) c.record_with.ensures.seated

pub returns-clause-writers : goal.returns-clause-writers
returns-clause-writers g c = λ last is_last.
    let seats : List Seated = c.args.opened.now.seats.items in
    let one : length seats ≡ 1 = c.requires.fresh.seats_are in
    subst (λ (s : Seated). TellWriters c.args.script c.args.opened.now.server s.tokens c.record_with.new.passes.items c.record_with.result.ending) (seat_after seats c.record_with.new.seat last one is_last) c.record_with.ensures.writers
