use Rattle.std.proofs.Common.{◌≡◌, ℕ, List, [], ◌∷◌, length, Some, refl, sym, subst, arith}
use Rattle.std.specs.Prelude.{slice_get}
use Rattle.fetch_engine.specs.declared.server.Mounted.{Mounted}
use Rattle.run_passes.specs.Crews.{ServesScript}
use Rattle.pm_runs.proofs.running.run_script.Goals as goal

first : {X : Type 0} → (xs : List X) → length xs ≡ 1 → (x : X) × (slice_get xs 0 ≡ Some x)
first [] one = absurd (omega (arith, one))
first (x ∷ xs) one = (x, refl)

pub returns-clause-run : goal.returns-clause-run
returns-clause-run g c =
    let e = c.replay_script-replayed.ensures in
    let made = c.in_ok-regions.ensures in
    let seat = first c.replay_script-replayed.new.opened.seats.items e.seats in record {
      there = c.replay_script-replayed.new.opened;
      there_is = refl;
      serves = subst (λ (server : List Mounted). ServesScript c.args.script 1 server) (sym e.server) (subst (λ (n : ℕ). ServesScript c.args.script n c.in_ok-regions.regions.server) made.seats_are made.made.serves);
      passes = e.passes;
      seats = e.seats;
      seat = seat.0;
      seat_is = seat.1;
      seated = e.seated seat.0 seat.1;
      is = e.runs seat.0 seat.1;
      unread = λ none tells. e.unread tells none;
      cause = e.cause;
      later = e.later;
    }
