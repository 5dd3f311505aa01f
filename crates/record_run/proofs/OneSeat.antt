-- A run has one seat.
use Rattle.std.proofs.Common.{◌≡◌, List, [], ◌∷◌, length, Some, ap, arith}
use Rattle.std.specs.Prelude.{slice_get, slice_set}
use Rattle.std.proofs.lemmas.Option.{none-some, same_Some}
use Rattle.fetch_engine.specs.Servers.{Seated}

pub one_seat : (seats : List Seated) (seat : Seated) → length seats ≡ 1 → slice_get seats 0 ≡ Some seat → seats ≡ seat ∷ []
one_seat [] seat one there = absurd (none-some seat there)
one_seat (s ∷ []) seat one there = ap (λ (x : Seated). x ∷ []) (same_Some s seat there)
one_seat (s ∷ t ∷ seats) seat one there = absurd (omega (arith, one))

-- and after a call it is this one
pub seat_after : (seats : List Seated) (new seat : Seated) → length seats ≡ 1 → slice_get (slice_set seats 0 new) 0 ≡ Some seat → new ≡ seat
seat_after [] new seat one there = absurd (omega (arith, one))
seat_after (s ∷ seats) new seat one there = same_Some new seat there
