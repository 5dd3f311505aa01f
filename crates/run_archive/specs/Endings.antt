-- How a run ends whose result isn't logged, and what its flushes write.
use Rattle.std.specs.Prelude.{◌≡◌, ◌⊎◌, ℕ, ◌-◌, zero, suc, List, ◌++◌, codes, length, slice_get, take, Option, Some, None}
use Rattle.pcp_outside.specs.Causes.{Rose}
use Rattle.logger_core.specs.declared.fault.LogFault.{LogFault}
use Rattle.logger_core.specs.declared.fault.LogFault.TheVariants as faults
use Rattle.script_runs.specs.declared.ending.Ending.{Ending}
use Rattle.script_runs.specs.declared.ending.Ending.TheVariants as ends
use Rattle.script_runs.specs.declared.ending.LimitKind.TheVariants as kinds
use Rattle.script_runs.specs.Archives.{ending_of}
use Rattle.text_lines.specs.Spelling.{one_number}

-- a fault that is no refusal of the archive ends the run by itself
abbrev pub or_fault : LogFault → Option Ending → Ending
or_fault fault (Some ending) = ending
or_fault faults.NoMemory None = ends.NoMemory
or_fault fault None = ends.DiskFault

abbrev pub ending_after : LogFault → Ending
ending_after fault = or_fault fault (ending_of fault)

-- the endings of a run whose result isn't logged
abbrev pub EndsUnlogged : Ending → Type 0
EndsUnlogged (ends.Limit kinds.Sets number) = ⊥
EndsUnlogged (ends.Limit what number) = Unit {0}
EndsUnlogged (ends.NotLater last) = Unit {0}
EndsUnlogged (ends.Changed pmid) = Unit {0}
EndsUnlogged ends.NoMemory = Unit {0}
EndsUnlogged ends.DiskFault = Unit {0}
EndsUnlogged ending = ⊥

-- a flush tells how many results the run has logged; before the first nothing is written
abbrev pub flushed_line : List ℕ → ℕ → List ℕ
flushed_line output zero = output
flushed_line output (suc n) = output ++ one_number (codes "flushed") (suc n)

-- where a run came to its end it tells how many results it logged
abbrev pub told_behind : Ending → List ℕ → ℕ → List ℕ
told_behind ends.Done output logged = output ++ one_number (codes "logged") logged
told_behind ending output logged = output

-- What is written where the last results that were logged are lost, so many: the lines before the tick of the first of them. The marks are
-- where the lines of the last ticks begin that logged a result.
abbrev pub up_to_mark : Option ℕ → List ℕ → List ℕ
up_to_mark None output = output
up_to_mark (Some mark) output = take mark output

abbrev pub before_lost : List ℕ → ℕ → List ℕ → List ℕ
before_lost marks lost output = up_to_mark (slice_get marks (length marks - lost)) output

-- at its end the disk may fail yet, and memory for what is told may be refused
abbrev pub EndsAs : Ending → Ending → Type 0
EndsAs ending last = (last ≡ ending) ⊎ ((last ≡ ends.DiskFault) ⊎ ((ending ≡ ends.Done) × (last ≡ ends.NoMemory)))

-- which ending any disk may have: only a disk whose count of faults rose makes the run end by its fault
abbrev pub MayEnd : ℕ → ℕ → Ending → Type 0
MayEnd before after ends.DiskFault = Rose before after
MayEnd before after (ends.ClockEnd samples) = ⊥
MayEnd before after (ends.ClockFault samples) = ⊥
MayEnd before after _ = Unit {0}

-- Of a run that ends so no call of the disk has failed: of any that comes to its lines, unless the disk's fault or want of memory ends it.
abbrev pub LeavesCount : ℕ → ℕ → Ending → Type 0
LeavesCount before after ends.DiskFault = Unit {0}
LeavesCount before after ends.NoMemory = Unit {0}
LeavesCount before after (ends.NotArchive file at) = Unit {0}
LeavesCount before after (ends.Compressed file) = Unit {0}
LeavesCount before after _ = after ≡ before
