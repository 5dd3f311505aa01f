-- What the workers do: each draws places, and serves a session for each.
use Rattle.std.specs.Prelude.{◌≡◌, ◌≢◌, ◌⊎◌, ℕ, ◌+◌, ◌<◌, ◌≤◌, Bool, true, false, List, [], ◌∷◌, ◌++◌, length, map, Result, Ok, Err}
use Rattle.std.specs.List.{AllByRecursion}
use Rattle.fetch_engine.specs.declared.server.Mounted.{Mounted}
use Rattle.pcp_outside.specs.Causes.{Rose}
use Rattle.pcp_outside.specs.declared.failed.Failed.{Failed}
use Rattle.pcp_outside.specs.Doors.{Report}
use Rattle.pcp_outside.specs.declared.doors.Door.{Ghosts}
use Rattle.pmcd_server.specs.Places.{Drawer}
use Rattle.fetch_engine.specs.Servers.{Seated}
use Rattle.pmcd_server.specs.Turns.{Turn, Follow}

-- where a door failed, by which its worker stopped: when it was asked for a connection, or when it took one back
pub data Failure : Type 0 where
  Nowhere : Failure
  AtNext : Failure
  AtEnded : Failure

-- a session for each place, but for the last one where the door gave no connection
abbrev pub HasStopped : Failure → ℕ → ℕ → ℕ → ℕ → Type 0
HasStopped Nowhere places sessions before after = (places ≡ sessions) × (after ≡ before)
HasStopped AtNext places sessions before after = (places ≡ sessions + 1) × Rose before after
HasStopped AtEnded places sessions before after = (places ≡ sessions) × Rose before after

-- a report of each session, but of the last one where the door didn't take it back
abbrev pub AreReported : Failure → List Report → List Report → List Report → Type 0
AreReported AtEnded before after reports = (kept : List Report) × (lost : Report) × (reports ≡ kept ++ lost ∷ []) × (after ≡ before ++ kept)
AreReported failure before after reports = after ≡ before ++ reports

-- For so many places these sessions were served, on one seat, over the connections of one door.
pub record Serves {P In Out Time : Type 0} (rows : List Mounted) (d : Ghosts P In Out Time) (places : ℕ) (seat : Seated) (door : P) (turns : List Turn) (failure : Failure) (seat_after : Seated) (door_after : P) : Type 0 where
  pub follow : Follow rows d.tells seat turns seat_after
  pub stopped : HasStopped failure places (length turns) (d.faults door) (d.faults door_after)
  pub left : d.tells → d.left door ≡ map (λ t. t.connection) turns ++ d.left door_after
  pub given : d.tells → d.given door_after ≡ d.given door ++ map (λ t. t.connection) turns
  pub reports : d.tells → AreReported failure (d.reports door) (d.reports door_after) (map (λ t. t.report) turns)

-- a call answers Ok where the door didn't fail
abbrev pub Answers : {T E : Type 0} → Failure → Result T E → Type 0
Answers failure (Ok x) = failure ≡ Nowhere
Answers failure (Err e) = failure ≢ Nowhere

-- a worker: its seat and its door before and after, the places that it drew, and the sessions that it served
pub record Work (P : Type 0) : Type 0 where
  pub seat : Seated
  pub door : P
  pub places : List ℕ
  pub turns : List Turn
  pub failure : Failure
  pub seat_after : Seated
  pub door_after : P

abbrev pub WorksOn : {P In Out Time : Type 0} → List Mounted → Ghosts P In Out Time → ℕ → Seated → P → List ℕ → List Turn → Failure → Seated → P → Type 0
WorksOn rows d count seat door places turns failure seat_after door_after =
    AllByRecursion (λ p. p < count) places × Serves rows d (length places) seat door turns failure seat_after door_after

abbrev pub IsWork : {P In Out Time : Type 0} → List Mounted → Ghosts P In Out Time → ℕ → Work P → Type 0
IsWork rows d count w = WorksOn rows d count w.seat w.door w.places w.turns w.failure w.seat_after w.door_after

-- The places were drawn, and then numbers beyond them all.
pub record Drew (count : ℕ) (places beyond : List ℕ) (before after : Drawer) : Type 0 where
  pub word : after.word ≡ before.word
  pub room : after.left + length after.drawn ≡ before.left + length before.drawn
  pub drawn : after.drawn ≡ before.drawn ++ (places ++ beyond)
  pub far : AllByRecursion (λ n. count ≤ n) beyond

-- one place was drawn, and a session served for it, or none was left
abbrev pub GoesOn : List ℕ → List ℕ → Failure → Result Bool Failed → Type 0
GoesOn places beyond failure (Ok true) = (failure ≡ Nowhere) × (length places ≡ 1) × (beyond ≡ [])
GoesOn places beyond failure (Ok false) = (failure ≡ Nowhere) × (0 < length beyond)
GoesOn places beyond failure (Err e) = failure ≢ Nowhere

-- where the door didn't fail, no place is left: a number beyond was drawn, or this worker drew them all
abbrev pub HasDrawnAll : ℕ → List ℕ → List ℕ → Failure → Type 0
HasDrawnAll count places beyond failure = failure ≡ Nowhere → (0 < length beyond) ⊎ (count ≤ length places)
