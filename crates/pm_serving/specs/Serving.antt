-- What is left of a script's regions on which sessions were served.
use Rattle.std.specs.Prelude.{◌≡◌, ◌⊎◌, ℕ, ◌+◌, List, length, sum_by, Option, Some, None, Result, Err, IsErrOf, OnOk}
use Rattle.pcp_outside.specs.declared.doors.Door.{Ghosts}
use Rattle.pmcd_server.specs.Crews.{AllSame, HasServed, SomeRose}
use Rattle.pmcd_server.specs.declared.fault.ServeFault.{ServeFault}
use Rattle.pmcd_server.specs.declared.fault.ServeFault.TheVariants.{Accept, NoMemory}
use Rattle.run_script.specs.declared.script.Script.{Script}
use Rattle.run_passes.specs.Openings.{IsOpened}
use Rattle.run_passes.specs.declared.opening.Opened.{Opened}
use Rattle.run_passes.specs.Written.{HaveWritten}
use Rattle.fetch_engine.specs.Servers.{Seated}
use Rattle.pm_serving.specs.declared.served.Served.{Served}

-- the doors of a call, before and after
pub record DoorsSide (P In Out Time : Type 0) : Type 1 where
  pub door : Ghosts P In Out Time
  pub before : List P
  pub after : List P

abbrev pub doors_side : {P In Out Time : Type 0} → Ghosts P In Out Time → List P → List P → DoorsSide P In Out Time
doors_side door old new = record { door = door; before = old; after = new }

-- what opening a script gave, with contexts on the seats
abbrev pub opened_as : Served → Opened
opened_as served = record { server = served.server; passes = served.passes; seats = served.seats }

-- The script was opened with four seats, and sessions were served on them; beside them its writers ran: each pass of the script has
-- made the entries of its own lines.
pub record Serving {P In Out Time : Type 0} (d : DoorsSide P In Out Time) (count : ℕ) (script : Script) (result : Result ℕ ServeFault) (served : Served) : Type 0 where
  pub opened : Served
  pub made : IsOpened script 4 (opened_as opened)
  pub server : served.server ≡ opened.server
  pub written : HaveWritten script served.server opened.passes.items served.passes.items
  pub serves : HasServed served.server d.door count opened.seats.items d.before served.seats.items d.after result
  -- of doors that tell, as many connections were taken in all, and as many reports told
  pub connections : d.door.tells → OnOk result (sum_by (λ p. length (d.door.left p)) d.before ≡ sum_by (λ p. length (d.door.left p)) d.after + count)
  pub reports : d.door.tells → OnOk result (sum_by (λ p. length (d.door.reports p)) d.after ≡ sum_by (λ p. length (d.door.reports p)) d.before + count)
  pub rose : IsErrOf result Accept → SomeRose d.door d.before d.after
  -- where all sessions were served no call of a door failed
  pub quiet : OnOk result (AllSame d.door d.before d.after)

-- `served` has what is left
pub record Leaves {P In Out Time : Type 0} (d : DoorsSide P In Out Time) (count : ℕ) (script : Script) (result : Result ℕ ServeFault) (served : Option Served) : Type 0 where
  pub regions : Served
  pub kept : served ≡ Some regions
  pub serving : Serving d count script result regions

-- A writer was refused memory: its passes are gone, and the sessions were served on regions that are gone too.
pub record WereCut {P In Out Time : Type 0} (d : DoorsSide P In Out Time) (served : Option Served) (count : ℕ) (script : Script) : Type 0 where
  pub none : served ≡ None
  pub opened : Served
  pub made : IsOpened script 4 (opened_as opened)
  pub seats : List Seated
  pub result : Result ℕ ServeFault
  pub serves : HasServed opened.server d.door count opened.seats.items d.before seats d.after result

-- nothing was served
pub record IsUnserved {P In Out Time : Type 0} (d : DoorsSide P In Out Time) (served : Option Served) : Type 0 where
  pub none : served ≡ None
  pub doors : d.after ≡ d.before

-- What the serving of a script answered, and what is left of it.
abbrev pub HasAnswered : {P In Out Time : Type 0} → DoorsSide P In Out Time → ℕ → Script → Option Served → Result ℕ ServeFault → Type 0
HasAnswered d count script served (Err NoMemory) = IsUnserved d served ⊎ WereCut d served count script
HasAnswered d count script served answer = Leaves d count script answer served
