-- What the definitions of this crate say in the words of the configuration's grammar, and of the rules of scripts.
use Rattle.std.specs.Prelude.{◌≡◌, ℕ, pos, ◌+◌, ◌-◌, ◌*◌, ◌%◌, ◌<◌, ◌≤◌, ◌==◌, ◌↔◌, if◌then◌else◌, List, [], ◌∷◌, ◌++◌, map, Option, Some, None, Ok}
use Rattle.std.specs.List.{flat_map, filter_map}
use Rattle.pcp_base.specs.Time.{Moment}
use Rattle.log_schedule.specs.declared.config.Group.{Group}
use Rattle.log_schedule.specs.Configuration.{IsConfiguration}
use Rattle.run_script.specs.declared.script.Script.{Script}
use Rattle.run_script.specs.declared.script.Line.{Line}
use Rattle.run_script.specs.declared.script.Line.TheVariants as lines
use Rattle.run_script.specs.Generated.{numbers, number_behind, draw, add_of, generated_script}
use Rattle.run_script.specs.GeneratedText.{generated_text}
use Rattle.run_script.specs.Heads.{statement_of}
use Rattle.run_script.specs.Reading.{script_of}
use Rattle.run_script.specs.Rules.{KeepsRules}

-- a line is told as a group's exactly where it is a configuration of that group alone
abbrev pub StatementsAreTold : Type 0
StatementsAreTold = (line : List ℕ) (group : Group) → (statement_of line ≡ Some group) ↔ IsConfiguration line (group ∷ [])

-- each script that is read keeps the rules
abbrev pub ScriptsAreRuled : Type 0
ScriptsAreRuled = (bytes : List ℕ) (script : Script) → script_of bytes ≡ Ok script → KeepsRules script

-- the text of a generated script is read as that script
abbrev pub GeneratedIsRead : Type 0
GeneratedIsRead = (number ticks : ℕ) → ticks ≤ 100000 → script_of (generated_text number ticks) ≡ Ok (generated_script number ticks)

-- so it keeps the rules
abbrev pub GeneratedIsRuled : Type 0
GeneratedIsRuled = (number ticks : ℕ) → ticks ≤ 100000 → KeepsRules (generated_script number ticks)

-- its steps without their numbers
abbrev pub steps_of : Script → List Line
steps_of script = map (λ step. step.1) script.steps

-- a whole second
abbrev pub second : ℕ → Moment
second k = record { sec = k; usec = 0 }

-- the stamp of a tick
abbrev pub tick_of : Line → Option Moment
tick_of (lines.Tick stamp) = Some stamp
tick_of line = None

-- there are so many ticks, one at each second from the first on
abbrev pub GeneratedTicks : Type 0
GeneratedTicks = (number ticks : ℕ) → filter_map tick_of (steps_of (generated_script number ticks)) ≡ map second (numbers 1 ticks)

abbrev pub if_add : Line → Option Line
if_add (lines.Add region pass item instance number) = Some (lines.Add region pass item instance number)
if_add line = None

-- the adds are those of the draws, one behind another, three for each tick
abbrev pub GeneratedAdds : Type 0
GeneratedAdds = (number ticks : ℕ) → filter_map if_add (steps_of (generated_script number ticks)) ≡ map (λ k. add_of (draw (number_behind number k))) (numbers 1 (3 * ticks))

-- each adds 1 to 100 to a counter that its region has, by a pass that it has
abbrev pub IsAdd : Line → Type 0
IsAdd (lines.Add region pass item None (pos n)) = (region < 3) × (pass < 4) × (1 ≤ item) × (item ≤ 12) × (1 ≤ n) × (n ≤ 100)
IsAdd line = ⊥

abbrev pub DrawsAreAdds : Type 0
DrawsAreAdds = (d : ℕ) → IsAdd (add_of d)

-- the ticks, flushes and changes, each with how many adds stand before it
abbrev pub behind_adds : ℕ → List Line → List (ℕ × Line)
behind_adds adds [] = []
behind_adds adds (lines.Add region pass item instance number ∷ steps) = behind_adds (adds + 1) steps
behind_adds adds (lines.Begin region pass image moment ∷ steps) = (adds, lines.Begin region pass image moment) ∷ behind_adds adds steps
behind_adds adds (lines.Tick stamp ∷ steps) = (adds, lines.Tick stamp) ∷ behind_adds adds steps
behind_adds adds (lines.Flush ∷ steps) = (adds, lines.Flush) ∷ behind_adds adds steps
behind_adds adds (step ∷ steps) = behind_adds adds steps

-- the first region's change: at an odd multiple of 256 to the last image, at an even one to the first
abbrev pub change_before : ℕ → List (ℕ × Line)
change_before k =
    if k % 512 == 256 then (3 * k - 3, lines.Begin 0 0 3 0) ∷ [] else
    if k % 512 == 0 then (3 * k - 3, lines.Begin 0 0 0 0) ∷ [] else []

abbrev pub flush_behind : ℕ → List (ℕ × Line)
flush_behind k = if k % 10 == 0 then (3 * k, lines.Flush) ∷ [] else []

-- the tick of a second stands behind its three adds, a change before them, and a flush behind each tenth tick
abbrev pub GeneratedOrder : Type 0
GeneratedOrder = (number ticks : ℕ) → behind_adds 0 (steps_of (generated_script number ticks)) ≡ flat_map (λ k. change_before k ++ ((3 * k, lines.Tick (second k)) ∷ flush_behind k)) (numbers 1 ticks)
