-- All workers together: one for each seat and the door at its position.
use Rattle.std.specs.Prelude.{◌≡◌, ◌≢◌, ◌⊎◌, ℕ, ◌+◌, ◌≤◌, Bool, List, [], ◌∷◌, length, map, sum_by, Result, Ok, Err, MatchBool}
use Rattle.std.specs.List.{AllByRecursion, flat_map}
use Rattle.fetch_engine.specs.declared.server.Mounted.{Mounted}
use Rattle.pcp_outside.specs.Causes.{Rose}
use Rattle.pcp_outside.specs.declared.doors.Door.{Ghosts}
use Rattle.pmcd_server.specs.declared.fault.ServeFault.{ServeFault}
use Rattle.pmcd_server.specs.declared.fault.ServeFault.TheVariants.{Accept, NoMemory}
use Rattle.pmcd_server.specs.Draws.{AreBelow}
use Rattle.pmcd_server.specs.Places.{Drawer}
use Rattle.fetch_engine.specs.Servers.{Seated}
use Rattle.pmcd_server.specs.Turns.{Turn}
use Rattle.pmcd_server.specs.Works.{Drew, Failure, HasDrawnAll, IsWork, Nowhere, Work, WorksOn}

-- what each did with its seat and its door
pub record AreWorks {P In Out Time : Type 0} (rows : List Mounted) (d : Ghosts P In Out Time) (count : ℕ) (seats : List Seated) (doors : List P) (works : List (Work P)) (seats_after : List Seated) (doors_after : List P) : Type 0 where
  pub begin : seats ≡ map (λ w. w.seat) works
  pub at : doors ≡ map (λ w. w.door) works
  pub end : seats_after ≡ map (λ w. w.seat_after) works
  pub leave : doors_after ≡ map (λ w. w.door_after) works
  pub each : AllByRecursion (IsWork rows d count) works

-- the places that they drew
abbrev pub places_of : {P : Type 0} → List (Work P) → List ℕ
places_of works = flat_map (λ w. w.places) works

-- These places were drawn, and numbers beyond them all.
pub record DrewAll {P : Type 0} (count : ℕ) (works : List (Work P)) (beyond : List ℕ) (before after : Drawer) : Type 0 where
  pub word : after.word ≡ before.word
  pub room : after.left + length after.drawn ≡ before.left + length before.drawn
  pub drawn : (weigh : ℕ → ℕ) → sum_by weigh after.drawn ≡ sum_by weigh before.drawn + (sum_by weigh (places_of works) + sum_by weigh beyond)
  pub far : AllByRecursion (λ n. count ≤ n) beyond
  pub ends : AllByRecursion (λ w. HasDrawnAll count w.places beyond w.failure) works

-- no door failed
abbrev pub NoneFailed : {P : Type 0} → List (Work P) → Type 0
NoneFailed works = AllByRecursion (λ w. w.failure ≡ Nowhere) works

-- some door failed
abbrev pub SomeFailed : {P : Type 0} → List (Work P) → Type 0
SomeFailed [] = ⊥
SomeFailed (w ∷ ws) = (w.failure ≢ Nowhere) ⊎ SomeFailed ws

-- every door failed
abbrev pub AllFailed : {P : Type 0} → List (Work P) → Type 0
AllFailed works = AllByRecursion (λ w. w.failure ≢ Nowhere) works

-- Each worker served on until no place was left or its own door failed: so all places were drawn, or every door failed.
abbrev pub HaveServedOn : {P : Type 0} → ℕ → ℕ → List (Work P) → Type 0
HaveServedOn count drawn works = (drawn ≡ count) ⊎ AllFailed works

-- One worker drew places and served sessions for them, until no place was left, or its door failed; it tells which.
abbrev pub HasWorked : {P In Out Time : Type 0} → List Mounted → Ghosts P In Out Time → ℕ → Seated → P → Drawer → Seated → P → Drawer → Bool → Type 0
HasWorked rows d count seat door own seat_after door_after own_after is_well =
    (given : List ℕ) × (beyond : List ℕ) × (turns : List Turn) × (failure : Failure)
    × WorksOn rows d count seat door given turns failure seat_after door_after
    × Drew count given beyond own own_after
    × HasDrawnAll count given beyond failure
    × MatchBool is_well (failure ≡ Nowhere) (failure ≢ Nowhere)

-- So did all of these, and it is told whether no door failed.
abbrev pub HaveWorked : {P In Out Time : Type 0} → List Mounted → Ghosts P In Out Time → ℕ → List Seated → List P → Drawer → List Seated → List P → Drawer → Bool → Type 0
HaveWorked {P} rows d count seats doors drawer seats_after doors_after drawer_after is_well =
    (works : List (Work P)) × (beyond : List ℕ)
    × AreWorks rows d count seats doors works seats_after doors_after
    × DrewAll count works beyond drawer drawer_after
    × MatchBool is_well (NoneFailed works) (SomeFailed works)

-- some door's count of faults rose
abbrev pub SomeRose : {P In Out Time : Type 0} → Ghosts P In Out Time → List P → List P → Type 0
SomeRose d [] after = ⊥
SomeRose d (p ∷ ps) [] = ⊥
SomeRose d (p ∷ ps) (q ∷ qs) = Rose (d.faults p) (d.faults q) ⊎ SomeRose d ps qs

-- no door's count of faults rose
abbrev pub AllSame : {P In Out Time : Type 0} → Ghosts P In Out Time → List P → List P → Type 0
AllSame d [] after = after ≡ []
AllSame d (p ∷ ps) [] = ⊥
AllSame d (p ∷ ps) (q ∷ qs) = (d.faults q ≡ d.faults p) × AllSame d ps qs

-- All places were drawn, and for each of them a session was served; or a door failed, and the other workers served on; or nothing
-- was begun for want of memory.
-- The places drawn are the numbers from 0 upwards, each once.
abbrev pub HasServed : {P In Out Time : Type 0} → List Mounted → Ghosts P In Out Time → ℕ → List Seated → List P → List Seated → List P → Result ℕ ServeFault → Type 0
HasServed {P} rows d count seats doors seats_after doors_after (Ok n) =
    (n ≡ count) × (works : List (Work P)) × AreWorks rows d count seats doors works seats_after doors_after × NoneFailed works × AreBelow (places_of works) count
HasServed {P} rows d count seats doors seats_after doors_after (Err Accept) =
    (works : List (Work P)) × AreWorks rows d count seats doors works seats_after doors_after × SomeFailed works × (n : ℕ) × (n ≤ count) × AreBelow (places_of works) n × HaveServedOn count n works
HasServed rows d count seats doors seats_after doors_after (Err NoMemory) = (seats_after ≡ seats) × (doors_after ≡ doors)
