-- Which scripts are served: those that are in the grammar, whose regions have room for a pass of each seat, and whose passes can act
-- beside each other.
use Rattle.std.specs.Prelude.{◌≡◌, ℕ, nat_lt, min, List, find, Option, Some, None, option_map, Result, Ok, Err}
use Rattle.mmv_writer.specs.declared.line_fault.LineFault.TheVariants.{Condition}
use Rattle.run_script.specs.declared.fault.ScriptFault.{ScriptFault}
use Rattle.run_script.specs.declared.fault.ScriptLineFault.TheVariants.{Line}
use Rattle.run_script.specs.declared.script.RegionRow.{RegionRow}
use Rattle.run_script.specs.declared.script.Script.{Script}
use Rattle.run_script.specs.Reading.{script_of}
use Rattle.run_script.specs.Recording.{refused_line}
use Rattle.pm_words.specs.declared.refusal.Refusal.{Refusal}
use Rattle.pm_words.specs.declared.refusal.Refusal.TheVariants.{Script as Scripted, NoMemory}

-- the first region that has too many passes of its own: of 256 each seat has one
abbrev pub first_crowded : List RegionRow → Option RegionRow
first_crowded rows = find (λ row. nat_lt 252 row.passes) rows

abbrev pub crowded_line : Script → Option ℕ
crowded_line script = option_map (λ (row : RegionRow). row.line) (first_crowded script.regions)

-- the earlier of two lines
abbrev pub earlier : Option ℕ → Option ℕ → Option ℕ
earlier None other = other
earlier (Some line) None = Some line
earlier (Some line) (Some other) = Some (min line other)

-- the first line that can't be served: of a region without room, or one that passes beside each other can't run
abbrev pub unserved_line : Script → Option ℕ
unserved_line script = earlier (crowded_line script) (refused_line script)

-- such a line breaks a rule
abbrev pub broken_at : ℕ → ScriptFault
broken_at line = record { line = line; fault = Line Condition }

abbrev pub unless : Option ℕ → Script → Result Script ScriptFault
unless None script = Ok script
unless (Some line) script = Err (broken_at line)

abbrev pub with_room : Result Script ScriptFault → Result Script ScriptFault
with_room (Ok script) = unless (unserved_line script) script
with_room (Err fault) = Err fault

-- the script of an input, or why it isn't served: the first fault in the grammar and its rules, and behind it the first line that
-- can't be served
abbrev pub script_served : List ℕ → Result Script ScriptFault
script_served input = with_room (script_of input)

-- what was answered is what the input says, unless memory ran out
abbrev pub Answers : Result Script ScriptFault → Result Script Refusal → Type 0
Answers found (Ok script) = found ≡ Ok script
Answers found (Err (Scripted fault)) = found ≡ Err fault
Answers found (Err NoMemory) = Unit {0}
Answers found (Err e) = ⊥
